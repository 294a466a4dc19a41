use Rattle.std.proofs.Common.{◌≡◌, ℕ, ◌<◌, ◌≤◌, length, get_or}
use Rattle.std.specs.Prelude.{bit_or}
use Rattle.fd_sets.proofs.words.unite.Given as goal

abbrev pub invariant-loop-i : goal.invariant-loop-i
invariant-loop-i l =
    record {
      count : length l.words ≡ length l.fn.words;
      done : (k : ℕ) → k < l.i → get_or l.words k 0 ≡ bit_or (get_or l.fn.words k 0) (get_or l.others k 0);
      left : (k : ℕ) → l.i ≤ k → get_or l.words k 0 ≡ get_or l.fn.words k 0;
    }
