use Rattle.std.proofs.Common.{rules}
use Rattle.std.proofs.lemmas.List.Sorted.{answers_always}
use Rattle.place_text.proofs.Orders.{sorted_is, is_before, before_is_order}
use Rattle.place_text.proofs.sum.sort_terms.Goals as goal

pub returns : goal.returns
returns c =
    let compares = answers_always _ _ _ (λ f a r g h. search rules) in
    sorted_is _ _ (c.in_ok-sort_by.ensures.sorted is_before before_is_order compares) (c.in_ok-sort_by.ensures.stable is_before before_is_order compares)
