-- The test of the words that comes before clap.
use Rattle.std.specs.Prelude.{◌==◌, ◌&&◌, Bool, true, false, not}
use Rattle.std.specs.List.{list_any}
use Rattle.fdc_main.specs.Words.{Text, Look, wrong, look}

abbrev pub is_not_wrong : Look → Bool
is_not_wrong wrong = false
is_not_wrong _ = true

-- no `--`, `-h` or `-3`, and no plus sign
abbrev pub is_clean : Text → Bool
is_clean word = is_not_wrong (look word) && not (list_any (λ x. x == 43) word)
