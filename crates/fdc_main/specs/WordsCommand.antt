-- What a parse reads of the command.
use Rattle.std.specs.Prelude.{ℕ, Bool, true, false, Some, codes}
use Rattle.clap.specs.Walk.{Rule}
use Rattle.clap.specs.Simple.{App, new_app, new_rule, with_rule, on_top}
use Rattle.clap.specs.declared.builder.action.ArgAction.TheVariants.{Set}
use Rattle.clap.specs.declared.builder.value_parser.ValueParser.TheVariants as vp
use Rattle.clap.specs.declared.error.kind.ErrorKind.{ErrorKind}
use Rattle.clap.specs.declared.error.kind.ErrorKind.TheVariants.{OutOfMemory}
use Rattle.fdc_main.specs.Words.{Text, OptionRule, ranks, seed, size, steps, mode_name}

-- an option with a number in a range
abbrev pub number_rule : Text → ℕ → ℕ → Rule
number_rule name low high = record (new_rule name) {
  long = Some name;
  action = Some Set;
  parser = Some (vp.Unsigned low high);
}

abbrev pub option_rule : OptionRule → Rule
option_rule o = number_rule o.name o.low o.high

abbrev pub mode_rule : Rule
mode_rule = record (new_rule mode_name) { required = true; action = Some Set }

abbrev pub bare_app : App
bare_app = on_top (λ s. record s { no_binary_name = true; disable_help_flag = true; disable_version_flag = true }) (new_app (codes "fdc"))

abbrev pub command_app : App
command_app =
    with_rule (with_rule (with_rule (with_rule (with_rule bare_app mode_rule) (option_rule ranks)) (option_rule steps)) (option_rule seed)) (option_rule size)

abbrev pub is_out_of_memory : ErrorKind → Bool
is_out_of_memory OutOfMemory = true
is_out_of_memory _ = false
