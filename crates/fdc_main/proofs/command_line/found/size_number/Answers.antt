use Rattle.std.specs.Str.Parse.{ExplainsUnsignedError, HasUnsignedDigitsIfOk, ParsesUnsigned}
use Rattle.clap.specs.Matches.{found_of}
use Rattle.fdc_main.proofs.WordsValues.{number_is}
use Rattle.fdc_main.proofs.command_line.found.size_number.Goals as goal

pub returns : goal.returns
returns c = λ o parts named small good rows.
    number_is 32 (found_of c.args.matches.now) c.args.name.now o parts c.get_one.result (λ bs r. ParsesUnsigned 32 10 bs r × ExplainsUnsignedError 10 bs r × HasUnsignedDigitsIfOk bs r) (λ t x g. g.0)
    c.get_one.ensures.none c.get_one.ensures.value named small good rows
