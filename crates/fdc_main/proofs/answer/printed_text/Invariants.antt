use Rattle.std.proofs.Common.{◌≡◌}
use Rattle.fd_prog.specs.Run.{lines_text}
use Rattle.fdc_main.proofs.answer.printed_text.Given as goal

abbrev pub invariant-loop-line : goal.invariant-loop-line
invariant-loop-line l = l.text ≡ lines_text l.yielded
