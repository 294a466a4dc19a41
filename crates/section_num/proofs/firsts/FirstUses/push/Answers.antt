use Rattle.std.proofs.Common.{◌≡◌, ℕ, List, length, subst, ap, ◌∙◌, arith}
use Rattle.std.specs.Prelude.{map}
use Rattle.std.specs.List.{insert}
use Rattle.fd_prog.specs.Items.{item_order, linear_item_of}
use Rattle.section_num.specs.Ordered.{AreBeside, item_in}
use Rattle.section_num.specs.declared.firsts.Use.{Use}
use Rattle.section_num.proofs.Founds.{is_pushed}
use Rattle.section_num.proofs.firsts.FirstUses.push.Goals as goal

pub invariant_of-self-2 : goal.invariant_of-self-2
invariant_of-self-2 c =
    let s = c.self.inside in
    let at = c.place_for-at.result in
    let x = linear_item_of c.args.u.item in
    let places : c.deref.result.now ≡ s.order.items = c.deref.ensures.value in
    let uses : c.as_slice.result.now ≡ s.uses = c.as_slice.ensures in
    let put = rw c.unwrap.ensures at c.insert.ensures.items in
    is_pushed s.uses s.order.items c.self.invariant c.args.u at c.len-place.result c.push.new.self c.insert.new.self.items (omega (arith, ap length places, c.place_for-at.ensures.within))
    (subst (λ (o : List ℕ). AreBeside item_order o (map item_in s.uses) x at) places (subst (λ (us : List Use). AreBeside item_order c.deref.result.now (map item_in us) x at) uses c.place_for-at.ensures.beside))
    c.len-place.ensures c.in_ok-push.ensures.ok (put ∙ ap (λ (xs : List ℕ). insert xs at c.len-place.result) c.reserve.ensures.items)
