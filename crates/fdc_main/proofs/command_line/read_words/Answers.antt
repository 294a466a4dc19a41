use Rattle.std.proofs.Common.{◌∙◌, sym, map, string_bytes}
use Rattle.clap.specs.Simple.{app_of}
use Rattle.fdc_main.specs.WordsClean.{is_clean}
use Rattle.fdc_main.proofs.WordsLines.{clean_map, err_words, ok_words, refused_words}
use Rattle.fdc_main.proofs.WordsRanges.{in_range}
use Rattle.fdc_main.proofs.command_line.read_words.Goals as goal

pub returns-then-not-are_clean_words-clause-mode : goal.returns-then-not-are_clean_words-clause-mode
returns-then-not-are_clean_words-clause-mode c =
    refused_words (map string_bytes c.args.words.now) (clean_map is_clean c.args.words.now ∙ sym c.are_clean_words.ensures ∙ c.if-not-are_clean_words.true)

pub returns-in-Ok-clause-mode : goal.returns-in-Ok-clause-mode
returns-in-Ok-clause-mode c =
    ok_words (app_of c.in_ok-command.command) (map string_bytes c.args.words.now) c.in-Ok.matches c.mode_found.result c.in_ok-command.ensures
    (clean_map is_clean c.args.words.now ∙ sym c.are_clean_words.ensures ∙ c.if-not-are_clean_words.false)
    c.in-Ok.ensures.matches c.in-Ok.ensures.kinds c.mode_found.ensures

pub returns-in-Ok-clause-ranges : goal.returns-in-Ok-clause-ranges
returns-in-Ok-clause-ranges c = in_range (map string_bytes c.args.words.now) c.mode_found.result (returns-in-Ok-clause-mode c)

pub returns-clause-mode : goal.returns-clause-mode
returns-clause-mode c =
    err_words (app_of c.in_ok-command.command) (map string_bytes c.args.words.now) c.in-Err.error c.in_ok-command.ensures
    (clean_map is_clean c.args.words.now ∙ sym c.are_clean_words.ensures ∙ c.if-not-are_clean_words.false)
    (sym c.is_out_of_memory.ensures ∙ c.if-is_out_of_memory.false) c.in-Err.ensures.kinds
