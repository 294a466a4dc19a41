use Rattle.std.proofs.Common.{◌≡◌, ◌≤◌, ◌<◌, ℕ, false, take, count_by, eqb}
use Rattle.fd_lexer.specs.Physical.{is_comment_at}
use Rattle.fd_lexer.proofs.physical.code_len.Given as goal

abbrev pub invariant-loop-i : goal.invariant-loop-i
invariant-loop-i l = record {
  quotes : l.quotes ≡ count_by (λ b. eqb b 39) (take l.i l.line);
  few : l.quotes ≤ l.i;
  first : (k : ℕ) → k < l.i → is_comment_at l.line k ≡ false;
}
