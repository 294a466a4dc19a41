use Rattle.std.proofs.Common.{◌++◌, ◌∷◌, [], ℕ, ℤ, List, pos, slice_index_or, ◌∙◌, ap, sym, arith}
use Rattle.std.proofs.lemmas.Int.{ints}
use Rattle.std.proofs.lemmas.List.FromFn.{map-range_with_len_more}
use Rattle.fd_base.specs.Places.{position_of}
use Rattle.owner_part.proofs.installing.values_of_elements.Goals as goal

pub loop-element-preserved : goal.loop-element-preserved
loop-element-preserved c =
    let f : ℕ → ℤ = λ element. slice_index_or c.args.values.now (position_of c.args.shape.now c.args.along element) (pos 0) in
    c.in_ok-push.ensures.items
    ∙ (ap (λ (x : ℤ). c.loop-element.found.items ++ x ∷ []) (omega (arith, ints))
    ∙ (ap (λ (xs : List ℤ). xs ++ f c.loop-element.element ∷ []) c.loop-element.invariant
    ∙ sym (map-range_with_len_more f 0 c.loop-element.element c.loop-element.element (omega arith))))
