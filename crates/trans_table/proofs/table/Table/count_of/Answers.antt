use Rattle.std.proofs.Common.{◌≡◌, ◌<◌, [], get_or, length, sym, ap, ◌∙◌, arith}
use Rattle.fd_base.specs.Places.{count_in}
use Rattle.trans_table.proofs.Elements.{count-le, count_at, past_none, read_any}
use Rattle.trans_table.proofs.table.Table.count_of.Goals as goal

pub returns-then-from-len : goal.returns-then-from-len
returns-then-from-len c =
    let s = c.self.inside in
    sym (past_none s.owners.items (length s.elements.items) c.args.rank.0 c.self.invariant.ranks (omega (arith, c.if-from-len.true, c.from.ensures, c.len.ensures, s.elements.ok))) ∙ ap (λ v. count_in v c.args.rank.0) c.self.view_is

pub returns : goal.returns
returns c =
    let s = c.self.inside in
    let l : c.from-2.result < length s.elements.items = omega (arith, c.if-from-len.false, c.from.ensures, c.from-2.ensures, c.len.ensures, s.elements.ok) in
    let r : c.args.rank.0 < length s.elements.items = omega (arith, l, c.from-2.ensures) in
    let row : c.index.result.now ≡ get_or s.elements.items c.args.rank.0 [] = read_any s.elements.items c.from-2.result c.index.result.now [] l c.index.ensures ∙ ap (λ i. get_or s.elements.items i []) c.from-2.ensures in
    c.len-2.ensures ∙ (ap length row ∙ (count_at s.owners.items s.locals.items s.elements.items c.args.rank.0 c.self.invariant r ∙ ap (λ v. count_in v c.args.rank.0) c.self.view_is))

pub overflow_cast-result : goal.overflow_cast-result
overflow_cast-result c =
    omega (arith, returns c, count-le c.args.self.now c.args.rank.0, ap length c.self.view_is, c.self.invariant.small)
