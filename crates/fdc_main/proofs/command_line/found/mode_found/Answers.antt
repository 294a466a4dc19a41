use Rattle.std.proofs.Common.{◌≡◌, ◌∙◌, refl, ap, option_map, Some, None, arith}
use Rattle.clap.specs.Matches.{found_of}
use Rattle.fdc_main.specs.Words.{mode_name, value_at, ranks, seed, size, steps}
use Rattle.fdc_main.proofs.WordsLines.{given_is, mode_text}
use Rattle.fdc_main.proofs.command_line.found.mode_found.Goals as goal

pub returns-in_err-name : goal.returns-in_err-name
returns-in_err-name c = λ parts good rows.
    let none : value_at mode_name parts ≡ None = mode_text (found_of c.args.matches.now) parts c.get_str.result c.get_str.ensures rows ∙ ap (option_map (λ s. s.now)) c.in_err-name.was in
    c.from_residual.ensures ∙ rw none refl

pub returns : goal.returns
returns c = λ parts good rows.
    let some : value_at mode_name parts ≡ Some c.in_ok-name.name.now = mode_text (found_of c.args.matches.now) parts c.get_str.result c.get_str.ensures rows ∙ ap (option_map (λ s. s.now)) c.in_ok-name.was in
    let r = c.small_number-ranks.ensures ranks parts refl (omega arith) good rows in
    let s = c.number-steps.ensures steps parts refl good rows in
    let d = c.number-seed.ensures seed parts refl good rows in
    let z = c.size_number-size.ensures size parts refl (omega arith) good rows in
    c.mode_from.ensures ∙ rw (r, s, d, z) (given_is c.in_ok-name.name.now parts good some)
