use Rattle.std.proofs.Common.{rules, ◌≡◌, FitsSigned, w64, arith}
use Rattle.std.proofs.lemmas.Int.{to_z-of_z}
use Rattle.fd_prog.specs.Forms.{linear_atom_of, linear_terms_of, Term}
use Rattle.fd_prog.specs.FormOf.{sum_of_terms}
use Rattle.fd_prog.proofs.Weights.{weight-sum}
use Rattle.fd_prog.proofs.sums.+add_terms.Goals as goal

pub insert-requires : goal.insert-requires
insert-requires t c =
    let coef = c.into_inner-coef.result.coef in
    let rest = linear_terms_of c.into_inner.result in
    let whole : linear_terms_of c.args.more ≡ Term coef (linear_atom_of c.into_inner-coef.result.atom) rest = search rules in
    let made : linear_terms_of c.in_ok-sum-in-More.sum ≡ sum_of_terms rest (linear_terms_of c.args.terms) = search rules in
    let fit : FitsSigned w64 coef = search rules in
    let small = rw whole at c.requires in
    rw made (simp to_z-of_z (omega (arith, small, weight-sum rest (linear_terms_of c.args.terms))))
