use Rattle.std.proofs.Common.{◌<◌, arith, length}
use Rattle.place_text.proofs.Parts.{part_more, place_le}
use Rattle.place_text.proofs.cutting.parts.Goals as goal

pub part-preserved : goal.part-preserved
part-preserved c =
    let short : c.place_of-end.result < length c.part.rest.now = omega (arith, place_le c.args.separator c.part.rest.now, c.place_of-end.ensures, c.if-end-rest.false) in
    let more = part_more c.args.separator c.part.parts.items c.part.rest.now c.args.text.now c.place_of-end.result c.place_of-end.ensures short c.part.invariant in
    rw (c.in_ok-push.ensures.items, c.behind-rest.ensures, c.in_ok-from_slice.ensures) more
