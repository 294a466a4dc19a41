use Rattle.std.proofs.Common.{◌++◌, ◌∷◌, [], sym, ap, ◌∙◌}
use Rattle.std.proofs.lemmas.Bool.{ne_eqb}
use Rattle.fd_base.specs.Places.{owner_in}
use Rattle.trans_table.proofs.Elements.{below_none, below_yes, below_no}
use Rattle.trans_table.proofs.deal.elements_with.Goals.{then-owner-rank+in_ok-push, else-owner-rank}
use Rattle.trans_table.proofs.deal.elements_with.Goals as goal

pub loop-element-init : goal.loop-element-init
loop-element-init c = c.new-elements.ensures ∙ sym (below_none c.args.owners.now c.args.rank)

pub loop-element-preserved : goal.loop-element-preserved
loop-element-preserved c =
    let s = c.loop-element in
    elim c.if-owner-rank.branch [
      | then-owner-rank+in_ok-push w ↦ w.elements-is ∙ (w.in_ok-push.ensures.ok ∙ (ap (λ xs. xs ++ s.element ∷ []) s.invariant ∙ sym (below_yes c.args.owners.now c.args.rank s.element w.if-owner-rank.true)))
      | else-owner-rank w ↦ w.elements-is ∙ (s.invariant ∙ sym (below_no c.args.owners.now c.args.rank s.element (ne_eqb (owner_in c.args.owners.now s.element) c.args.rank w.if-owner-rank.false)))
    ]
