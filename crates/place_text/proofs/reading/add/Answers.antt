use Rattle.place_text.proofs.Marks.{marks_more, table_kept, room}
use Rattle.place_text.proofs.reading.add.Goals as goal

pub insert-requires : goal.insert-requires
insert-requires c = room c.args.table.now c.args.n c.args.item _ c.requires.inside c.set_mut.ensures.value c.requires.sized

pub returns-clause-marks : goal.returns-clause-marks
returns-clause-marks c = marks_more c.args.table.now c.args.n c.args.item _ _ c.requires.inside c.set_mut.ensures.value c.insert.ensures.members

pub returns-clause-table : goal.returns-clause-table
returns-clause-table c size is = table_kept size c.args.table.now c.args.n _ _ c.requires.inside c.set_mut.ensures.value c.insert.ensures.size is
