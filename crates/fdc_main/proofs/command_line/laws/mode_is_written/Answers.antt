use Rattle.fdc_main.proofs.WordsWritten.{mode_written, written_mode}
use Rattle.fdc_main.proofs.command_line.laws.mode_is_written.Goals as goal

pub returns : goal.returns
returns c = λ words mode. (mode_written words mode, written_mode words mode)
