use Rattle.fd_prog.specs.Programs.{program_of}
use Rattle.fdc_main.proofs.Refused.{accepted_fits, refusal_fits, limit_fits}
use Rattle.fdc_main.proofs.answer.answer_deck.Goals as goal

pub returns-in-Ok : goal.returns-in-Ok
returns-in-Ok c =
    accepted_fits c.answer_program.result c.args.mode c.args.bytes.now (program_of c.in-Ok.accepted.program) c.rest_of-rest.result.now c.requires.short c.in-Ok.ensures.program c.rest_of-rest.ensures.rest c.answer_program.ensures

pub returns-in_ok-told-in-Err-At : goal.returns-in_ok-told-in-Err-At
returns-in_ok-told-in-Err-At c =
    refusal_fits c.args.mode c.args.bytes.now c.in-Err-At.field-0 c.in-Err-At.line c.in-Err-At.number c.in_ok-told-in-Err-At.told c.requires.short c.in-Err-At.ensures.refused c.in-Err-At.field-0-is (rw c.in-Err-At.field-0-is at c.in_ok-told-in-Err-At.ensures)

pub returns-in_ok-told-in-Err-TooMany : goal.returns-in_ok-told-in-Err-TooMany
returns-in_ok-told-in-Err-TooMany c =
    limit_fits c.args.mode c.args.bytes.now c.in-Err-TooMany.field-0 c.in-Err-TooMany.line c.in-Err-TooMany.limit c.in_ok-told-in-Err-TooMany.told c.requires.short c.in-Err-TooMany.ensures.refused c.in-Err-TooMany.field-0-is (rw c.in-Err-TooMany.field-0-is at c.in_ok-told-in-Err-TooMany.ensures)
