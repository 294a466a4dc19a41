use Rattle.fdc_main.proofs.Printed.{lines_text-next}
use Rattle.fdc_main.proofs.answer.printed_text.Goals as goal

pub loop-line-preserved : goal.loop-line-preserved
loop-line-preserved c =
    rw (c.in_ok-push.ensures.ok, c.in_ok-append.ensures.ok, c.as_slice.ensures)
    (lines_text-next c.loop-line.yielded _ c.loop-line.text c.loop-line.invariant)
