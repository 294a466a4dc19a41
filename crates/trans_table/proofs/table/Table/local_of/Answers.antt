use Rattle.std.proofs.Common.{◌<◌, length, sym, ap, ◌∙◌, arith}
use Rattle.fd_base.specs.Places.{local_in}
use Rattle.fd_base.proofs.Places.{local-lt-count}
use Rattle.trans_table.proofs.Elements.{local_at, locals_length, read_any}
use Rattle.trans_table.proofs.table.Table.local_of.Goals as goal

pub index-requires : goal.index-requires
index-requires c =
    let s = c.self.inside in
    omega (arith, c.requires, ap length c.self.view_is, locals_length s.owners.items s.locals.items s.elements.items c.self.invariant, s.locals.ok)

pub returns-clause-value : goal.returns-clause-value
returns-clause-value c =
    let s = c.self.inside in
    let l : c.args.element < length s.owners.items = rw (sym c.self.view_is) at c.requires in
    let m : c.args.element < length s.locals.items = omega (arith, l, locals_length s.owners.items s.locals.items s.elements.items c.self.invariant) in
    read_any s.locals.items c.args.element c.index.result.now 0 m c.index.ensures ∙ (local_at s.owners.items s.locals.items s.elements.items c.args.element c.self.invariant l ∙ ap (λ v. local_in v c.args.element) c.self.view_is)

pub returns-clause-below : goal.returns-clause-below
returns-clause-below c = rw (returns-clause-value c) (local-lt-count c.args.self.now c.args.element c.requires)
