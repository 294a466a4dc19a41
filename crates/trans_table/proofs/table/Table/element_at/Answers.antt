use Rattle.std.proofs.Common.{◌≡◌, ◌<◌, [], get_or, length, sym, ap, ◌∙◌, arith}
use Rattle.fd_base.specs.Places.{count_in}
use Rattle.fd_base.proofs.Places.{same_from_local}
use Rattle.trans_table.proofs.Elements.{count_at, element_is, rank_inside, read_any}
use Rattle.trans_table.proofs.table.Table.element_at.Goals as goal

pub index-requires : goal.index-requires
index-requires c =
    let s = c.self.inside in
    let l : c.args.local < count_in s.owners.items c.args.rank.0 = rw (sym c.self.view_is) at c.requires in
    let r = rank_inside s.owners.items s.locals.items s.elements.items c.args.rank.0 c.args.local c.self.invariant l in
    omega (arith, c.from.ensures, r, s.elements.ok)

pub bounds-as_slice-local : goal.bounds-as_slice-local
bounds-as_slice-local c =
    let s = c.self.inside in
    let l : c.args.local < count_in s.owners.items c.args.rank.0 = rw (sym c.self.view_is) at c.requires in
    let r = rank_inside s.owners.items s.locals.items s.elements.items c.args.rank.0 c.args.local c.self.invariant l in
    let row : c.as_slice.result.now ≡ get_or s.elements.items c.args.rank.0 [] = c.as_slice.ensures ∙ (read_any s.elements.items c.from.result c.index.result.now [] (omega (arith, r, c.from.ensures)) c.index.ensures ∙ ap (λ i. get_or s.elements.items i []) c.from.ensures) in
    omega (arith, l, ap length row, count_at s.owners.items s.locals.items s.elements.items c.args.rank.0 c.self.invariant r)

pub returns-clause-inside : goal.returns-clause-inside
returns-clause-inside c =
    let s = c.self.inside in
    let l : c.args.local < count_in s.owners.items c.args.rank.0 = rw (sym c.self.view_is) at c.requires in
    let r = rank_inside s.owners.items s.locals.items s.elements.items c.args.rank.0 c.args.local c.self.invariant l in
    let row : c.as_slice.result.now ≡ get_or s.elements.items c.args.rank.0 [] = c.as_slice.ensures ∙ (read_any s.elements.items c.from.result c.index.result.now [] (omega (arith, r, c.from.ensures)) c.index.ensures ∙ ap (λ i. get_or s.elements.items i []) c.from.ensures) in
    let at = element_is s.owners.items s.locals.items s.elements.items c.args.rank.0 c.args.local c.self.invariant l in
    rw (row, sym c.self.view_is) at.inside

pub returns-clause-owner : goal.returns-clause-owner
returns-clause-owner c =
    let s = c.self.inside in
    let l : c.args.local < count_in s.owners.items c.args.rank.0 = rw (sym c.self.view_is) at c.requires in
    let r = rank_inside s.owners.items s.locals.items s.elements.items c.args.rank.0 c.args.local c.self.invariant l in
    let row : c.as_slice.result.now ≡ get_or s.elements.items c.args.rank.0 [] = c.as_slice.ensures ∙ (read_any s.elements.items c.from.result c.index.result.now [] (omega (arith, r, c.from.ensures)) c.index.ensures ∙ ap (λ i. get_or s.elements.items i []) c.from.ensures) in
    let at = element_is s.owners.items s.locals.items s.elements.items c.args.rank.0 c.args.local c.self.invariant l in
    rw (row, sym c.self.view_is) at.owner

pub returns-clause-local : goal.returns-clause-local
returns-clause-local c =
    let s = c.self.inside in
    let l : c.args.local < count_in s.owners.items c.args.rank.0 = rw (sym c.self.view_is) at c.requires in
    let r = rank_inside s.owners.items s.locals.items s.elements.items c.args.rank.0 c.args.local c.self.invariant l in
    let row : c.as_slice.result.now ≡ get_or s.elements.items c.args.rank.0 [] = c.as_slice.ensures ∙ (read_any s.elements.items c.from.result c.index.result.now [] (omega (arith, r, c.from.ensures)) c.index.ensures ∙ ap (λ i. get_or s.elements.items i []) c.from.ensures) in
    let at = element_is s.owners.items s.locals.items s.elements.items c.args.rank.0 c.args.local c.self.invariant l in
    rw (row, sym c.self.view_is) at.local_is

pub returns-clause-only : goal.returns-clause-only
returns-clause-only c = λ other h o n.
    same_from_local c.args.self.now other (get_or c.as_slice.result.now c.args.local 0) h (returns-clause-inside c) (o ∙ sym (returns-clause-owner c)) (n ∙ sym (returns-clause-local c))
