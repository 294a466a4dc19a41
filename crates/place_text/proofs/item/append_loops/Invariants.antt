use Rattle.std.proofs.Common.{◌≡◌, ◌++◌, flat_map, map, take}
use Rattle.fd_prog.specs.Programs.{program_of}
use Rattle.fd_prog.specs.Items.{linear_loop_of}
use Rattle.place_text.specs.ItemTexts as texts
use Rattle.place_text.proofs.item.append_loops.Given as goal

-- the loops before the index are printed
abbrev pub invariant-loop-widened : goal.invariant-loop-widened
invariant-loop-widened l = l.out ≡ l.initial.out ++ flat_map (texts.loop_text (program_of l.program)) (map linear_loop_of (take l.widened-index l.loops))
