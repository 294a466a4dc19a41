use Rattle.std.proofs.Common.{◌≡◌, IsFalse, refl, sym, ap, subst}
use Rattle.fd_prog.specs.Flow.{is_around}
use Rattle.fd_base.specs.declared.numbering.NodeNo.{NodeNo}
use Rattle.interval_graph.specs.declared.node.Way.{Way}
use Rattle.interval_graph.specs.declared.node.Way.TheVariants.{Next, Fork, Jump, Around, Back, Nowhere}
use Rattle.interval_graph.specs.Rows.{way_in}
use Rattle.interval_graph.proofs.Levels.{none_told}
use Rattle.interval_graph.proofs.telling.with_children.Goals as goal

pub with_body-requires-clause-leads : goal.with_body-requires-clause-leads
with_body-requires-clause-leads c = sym (ap way_in c.in-Around.ensures)

-- a way that isn't around a body begins no loop
no_loop : (w : Way) → ((l : NodeNo) → w ≡ Around l → ⊥) → IsFalse (is_around (way_in w))
no_loop Next h = refl
no_loop (Fork n) h = refl
no_loop (Jump n) h = refl
no_loop (Around n) h = absurd (h n refl)
no_loop (Back n) h = refl
no_loop Nowhere h = refl

pub returns-in_default : goal.returns-in_default
returns-in_default c = record {
  nodes = refl;
  told = λ m. none_told c.args.rows.now.items c.args.l m _ (subst (λ (w : Way). IsFalse (is_around (way_in w))) c.way_at.ensures (no_loop c.way_at.result c.in_default.not-Around));
}
