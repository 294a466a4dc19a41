use Rattle.std.proofs.Common.{◌≡◌, ◌++◌, map, take}
use Rattle.std.specs.Prelude.{flat_map}
use Rattle.fd_prog.specs.Items.{linear_loop_of, loop_names}
use Rattle.section_num.specs.Views.{names_of}
use Rattle.section_num.proofs.referring.add_loops.Given as goal

abbrev pub invariant-loop-one : goal.invariant-loop-one
invariant-loop-one l = names_of l.names ≡ names_of l.initial.names ++ flat_map loop_names (map linear_loop_of (take l.one-index l.loops))
