use Rattle.std.proofs.Common.{◌≡◌, ◌++◌, map, drop, Ok}
use Rattle.fd_prog.specs.Outcomes.{and_then}
use Rattle.fd_prog.specs.Items.{all_loop_forms, linear_loop_of}
use Rattle.section_num.specs.Views.{loops_of}
use Rattle.section_num.proofs.referring.all_loop_forms.Given as goal

-- the forms so far, and those of the loops that are left
abbrev pub invariant-loop-one : goal.invariant-loop-one
invariant-loop-one l =
    all_loop_forms l.bound (loops_of l.loops) ≡ and_then (all_loop_forms l.bound (loops_of (drop l.one-index l.loops))) (λ ms. Ok (map linear_loop_of l.forms ++ ms))
