use Rattle.place_text.proofs.Marks.{none_new, table_new}
use Rattle.place_text.proofs.read.blank.Goals as goal

pub returns-clause-none : goal.returns-clause-none
returns-clause-none c = none_new c.in_ok-made.made c.args.nodes c.args.items c.in_ok-made.ensures

pub returns-clause-table : goal.returns-clause-table
returns-clause-table c = table_new c.in_ok-made.made c.args.nodes c.args.items c.in_ok-made.ensures
