use Rattle.std.proofs.Common.{◌≡◌, map, take}
use Rattle.fd_prog.specs.Items.{CountedLoop}
use Rattle.section_num.specs.Views.{loops_of}
use Rattle.section_num.proofs.referring.variables_of.Given as goal

abbrev pub invariant-loop-one : goal.invariant-loop-one
invariant-loop-one l = l.variables.items ≡ map (λ (x : CountedLoop). x.var) (loops_of (take l.one-index l.loops))
