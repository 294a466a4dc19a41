use Rattle.std.proofs.Common.{Bool, not, ◌&&◌, ◌||◌, ap, ◌∙◌}
use Rattle.std.specs.Ordering.{nat_cmp}
use Rattle.std.specs.FinSet as sets
use Rattle.gnt_solver.specs.Columns.{held}
use Rattle.gnt_solver.proofs.Marks.{held-union, held-intersection, held-difference, absorbed}
use Rattle.place_check.proofs.differing.add_rest.Goals as goal

pub returns-clause-held : goal.returns-clause-held
returns-clause-held c x =
    let some = held c.args.some.now x in
    let other = held c.args.other.now x in
    let old = held c.args.differing.now x in
    ap (λ (m : sets.FinSet nat_cmp). sets.contains m x) c.unite-2.ensures.members ∙ (held-union _ _ x
    ∙ ap (λ (b : Bool). old || b) (ap (λ (m : sets.FinSet nat_cmp). sets.contains m x) c.drop_all.ensures.members ∙ (held-difference _ _ x
    ∙ ap (λ (b : Bool). b && not other) (ap (λ (m : sets.FinSet nat_cmp). sets.contains m x) c.unite.ensures.members ∙ (held-union _ _ x
    ∙ (ap (λ (m : sets.FinSet nat_cmp). sets.contains m x || some) c.meet.ensures.members ∙ (ap (λ (b : Bool). b || some) (held-intersection _ _ x) ∙ absorbed _ _)))))))
