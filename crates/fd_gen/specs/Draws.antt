-- Numbers that are drawn one after another, and a permutation that is drawn.
use Rattle.std.specs.Prelude.{ℕ, zero, suc, ◌+◌, ◌-◌, ◌*◌, ◌/◌, ◌%◌, ◌^◌, List, map}
use Rattle.std.specs.List.{range_with_len, swap}

-- the state after a draw, of 64 bits
unfoldable pub next_state : ℕ → ℕ
next_state state = (state * 6364136223846793005 + 1442695040888963407) % 2 ^ 64

-- the number that a draw gives: its state without the lowest 33 bits
unfoldable pub drawn : ℕ → ℕ
drawn state = state / 2 ^ 33

-- the state after so many draws
unfoldable pub state_after : ℕ → ℕ → ℕ
state_after start zero = start
state_after start (suc n) = next_state (state_after start n)

-- the number that draw n gives, counted from 0
unfoldable pub draw_at : ℕ → ℕ → ℕ
draw_at start n = drawn (state_after start (n + 1))

-- the first so many draws, each modulo a number
abbrev pub draws_modulo : ℕ → ℕ → ℕ → List ℕ
draws_modulo m start count = map (λ n. draw_at start n % m) (range_with_len 0 count)

-- The numbers 1 to `size` after n exchanges, each by a draw. Exchange n takes the last of the first `size - n` numbers,
-- and of these the one at the drawn number modulo their count, from 0 on.
unfoldable pub after_exchanges : ℕ → ℕ → ℕ → List ℕ
after_exchanges start size zero = range_with_len 1 size
after_exchanges start size (suc n) = swap (after_exchanges start size n) (size - n - 1) (draw_at start n % (size - n))

-- the numbers 1 to `size` in a drawn order: after an exchange for each count from `size` down to 2
unfoldable pub permutation : ℕ → ℕ → List ℕ
permutation start size = after_exchanges start size (size - 1)
