use Rattle.section_num.specs.Views.{stand_of}
use Rattle.section_num.proofs.Notings.{part_more}
use Rattle.section_num.proofs.walking.note_parts.Goals as goal

pub loop-part-preserved : goal.loop-part-preserved
loop-part-preserved c = record {
  noted = part_more (stand_of c.args.stand.now) c.args.parts.now c.loop-part.part-index c.part-item.result _ _ _ c.loop-part-test.true c.part-item.is c.loop-part.invariant.noted c.in_ok-note_part.ensures.noted;
  count = c.in_ok-note_part.ensures.count;
}
