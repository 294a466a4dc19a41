use Rattle.std.proofs.Common.{◌≡◌, map, take}
use Rattle.fd_prog.specs.Items.{linear_loop_of}
use Rattle.section_num.proofs.copies.copy_all.Given as goal

abbrev pub invariant-loop-one : goal.invariant-loop-one
invariant-loop-one l = map linear_loop_of l.copies ≡ map linear_loop_of (take l.one-index l.all)
