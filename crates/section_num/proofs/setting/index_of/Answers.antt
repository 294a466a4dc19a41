use Rattle.section_num.proofs.NameOrders.{index_more}
use Rattle.section_num.proofs.setting.index_of.Goals as goal

pub loop-name-preserved : goal.loop-name-preserved
loop-name-preserved c =
    index_more c.loop-name.index.keys c.insert.new.self.keys c.args.names.now c.loop-name.name-index _ c.loop-name-test.true c.in_ok-insert.ensures.keys c.loop-name.invariant
