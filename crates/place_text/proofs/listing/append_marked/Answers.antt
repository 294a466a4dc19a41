use Rattle.std.proofs.Common.{◌≡◌, ℕ, ◌++◌, List, Option, Some, None, refl, sym, ◌∙◌, ap, arith, append_assoc}
use Rattle.std.specs.Prelude.{IfNone}
use Rattle.std.proofs.lemmas.Grind.{common_steps}
use Rattle.fd_base.specs.declared.numbering.ItemNo.{ItemNo}
use Rattle.gnt_solver.specs.Columns.{held}
use Rattle.place_text.specs.Listings as texts
use Rattle.place_text.proofs.Lines.{marked_next, marked_past}
use Rattle.place_text.proofs.listing.append_marked.Goals as goal

none_by : (o : Option ItemNo) (P : Type 0) → IfNone o P → ((i : ItemNo) → o ≡ Some i → ⊥) → P
none_by None P h ne = h
none_by (Some i) P h ne = absurd (ne i refl)

pub loop-done-preserved : goal.loop-done-preserved
loop-done-preserved c =
    let front = texts.front_text c.args.word.now c.args.n.0 c.args.line c.args.told.now in
    let h = c.in-Some.ensures.some in
    let more = marked_next front c.loop-done.done c.in-Some.item.0 (held c.args.set.now) h.0.0 h.0.1 h.0.2 in
    record { low = h.1; lines = rw more (grind (arith, common_steps, append_assoc)) }

pub loop-done-smaller : goal.loop-done-smaller
loop-done-smaller c = let h = c.in-Some.ensures.some in omega (arith, h.0.0, h.1)

pub returns-in_default : goal.returns-in_default
returns-in_default c =
    let front = texts.front_text c.args.word.now c.args.n.0 c.args.line c.args.told.now in
    let none = none_by c.next_item.result _ c.next_item.ensures.none c.in_default.not-Some in
    c.loop-done.invariant.lines ∙ ap (λ (ls : List (List ℕ)). c.args.lines.now.items ++ ls) (sym (marked_past front c.loop-done.done c.args.items (held c.args.set.now) c.loop-done.invariant.low none))
