use Rattle.std.proofs.Common.{◌≡◌, length, map, ap, ◌∙◌, arith}
use Rattle.std.specs.List.{range_with_len}
use Rattle.std.proofs.lemmas.List.{length-map}
use Rattle.std.proofs.lemmas.List.FromFn.{length-map-range_with_len}
use Rattle.fd_base.specs.Places.{owner_by_value}
use Rattle.trans_table.specs.Tables.{elements_of, locals_of}
use Rattle.trans_table.proofs.table.Table.build.Goals as goal

pub invariant_of-result : goal.invariant_of-result
invariant_of-result c =
    let owners = c.in_ok-owners.owners.items in
    let elements : c.in_ok-elements.elements.items ≡ map (elements_of owners) (range_with_len 0 c.args.ranks) = c.in_ok-elements.ensures ∙ ap (λ os. map (elements_of os) (range_with_len 0 c.args.ranks)) c.deref-2.ensures.value in
    let len : length c.in_ok-elements.elements.items ≡ c.args.ranks = ap length elements ∙ length-map-range_with_len (elements_of owners) 0 c.args.ranks in
    record {
      small = omega (arith, c.requires.size, ap length c.in_ok-owners.ensures.owners, length-map c.args.values.now (owner_by_value c.args.ranks));
      ranks = rw len c.in_ok-owners.ensures.below;
      locals_are = c.in_ok-locals.ensures ∙ ap locals_of c.deref.ensures.value;
      elements_are = rw len elements;
    }
