use Rattle.std.proofs.Common.{take}
use Rattle.section_num.specs.KeptNames.{IsIndex}
use Rattle.section_num.proofs.setting.index_of.Given as goal

-- the index has the names so far
abbrev pub invariant-loop-name : goal.invariant-loop-name
invariant-loop-name l = IsIndex l.index.keys (take l.name-index l.names)
