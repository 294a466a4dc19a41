use Rattle.std.proofs.Common.{◌≡◌, ◌≤◌, ◌<◌, ℕ, true, take, count_by, eqb, get_or}
use Rattle.fd_lexer.specs.Physical.{allowed_in, in_text}
use Rattle.fd_lexer.proofs.physical.has_bad_byte.Given as goal

abbrev pub invariant-loop-i : goal.invariant-loop-i
invariant-loop-i l = record {
  quotes : l.quotes ≡ count_by (λ b. eqb b 39) (take l.i l.line);
  few : l.quotes ≤ l.i;
  good : (k : ℕ) → k < l.i → allowed_in (in_text l.line k) (get_or l.line k 0) ≡ true;
}
