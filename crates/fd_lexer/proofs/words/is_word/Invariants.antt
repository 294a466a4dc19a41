use Rattle.std.proofs.Common.{◌≡◌, ◌<◌, ℕ, length, get_or}
use Rattle.fd_lexer.specs.View.{upper_of}
use Rattle.fd_lexer.proofs.words.is_word.Given as goal

abbrev pub invariant-loop-b : goal.invariant-loop-b
invariant-loop-b l = (k : ℕ) → k < length l.yielded → upper_of (get_or l.bytes k 0) ≡ get_or l.word k 0
