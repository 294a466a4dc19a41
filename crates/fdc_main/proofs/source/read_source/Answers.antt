use Rattle.fd_prog.specs.Programs.{program_of}
use Rattle.fdc_main.proofs.Refused.{items_past}
use Rattle.fdc_main.proofs.source.read_source.Goals as goal

pub returns-in-Err-TooMany-clause-refused : goal.returns-in-Err-TooMany-clause-refused
returns-in-Err-TooMany-clause-refused c =
    items_past c.args.bytes.now (program_of c.in_ok-program.program) c.in-Err-TooMany.field-0 _ _ c.in_ok-program.ensures.program c.in-Err-TooMany.ensures.refused (cc)
