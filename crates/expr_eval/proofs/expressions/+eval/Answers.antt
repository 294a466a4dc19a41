use Rattle.std.proofs.Common.{◌≡◌, rules, Ok, sym, FitsSigned, w64}
use Rattle.std.proofs.lemmas.Int.{to_z-of_z}
use Rattle.fd_prog.specs.Expressions.{expression_of, expressions_of, More}
use Rattle.fd_prog.specs.Values.{value_of}
use Rattle.expr_eval.proofs.Pairs.{pair_of-values}
use Rattle.expr_eval.proofs.expressions.+eval.Goals as goal

pub pair-returns-in_ok-second-in-More-deref : goal.pair-returns-in_ok-second-in-More-deref
pair-returns-in_ok-second-in-More-deref g t c =
    let d = expression_of c.in-More.first.value in
    let e = expression_of c.in-More-deref.second.value in
    let es = expressions_of c.in-More-deref.field-1.value in
    let r = g.C.Cells.readings c.args.c.now in
    let x = c.in_ok-first-in-More.first in
    let y = c.in_ok-second-in-More-deref.second in
    let list : expressions_of c.args.list.now ≡ More d (More e es) = search rules in
    let fits_x : FitsSigned w64 x = search rules in
    let fits_y : FitsSigned w64 y = search rules in
    let first : value_of r d ≡ Ok x = search rules in
    let second : value_of r e ≡ Ok y = search rules in
    rw list (simp to_z-of_z (sym (pair_of-values r d e es x y (rw list at c.requires.two) first second)))
