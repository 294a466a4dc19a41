-- What is kept of each state: of each rank, of the stop word, and of each box.
use Rattle.std.specs.Prelude.{◌≡◌, ℕ, ◌<◌, ◌≤◌, IsFalse, Some, ◌⊎◌}
use Rattle.message_laws.specs.Behaviour.{Behaviour, Failure, Fail, End, is_last, steps, no_stop}
use Rattle.message_laws.specs.Boxes.{Fits}
use Rattle.message_laws.specs.System.{Status, Running, Ended, Faulted, Cut, Standing, State, IsTaking}

-- the trace notes a fault before so many steps were completed
pub record IsFaultBefore (b : Behaviour) (done : ℕ) : Type 0 where
  pub at : ℕ
  pub fault : Failure
  pub noted : b.noted at ≡ Some fault
  pub before : b.completed at < done

-- where a status may stand
abbrev pub StatusOk : Behaviour → ℕ → ℕ → Status → Type 0
StatusOk b r p Running = Unit {0}
StatusOk b r p Ended = b.action r p ≡ End
StatusOk b r p Faulted = (f : Failure) × (b.action r p ≡ Fail f)
StatusOk b r p Cut = IsTaking b r p × IsFaultBefore b (steps b r p)

-- of one rank
pub record RankOk (b : Behaviour) (r : ℕ) (s : Standing) : Type 0 where
  -- no fault that it executes, and no end, comes before its place
  pub clear : (k : ℕ) → k < s.place → IsFalse (is_last (b.action r k))
  pub status : StatusOk b r s.place s.status

-- of the stop word
abbrev pub StopOk : Behaviour → ℕ → Type 0
StopOk b w = (w ≡ no_stop) ⊎ ((c : ℕ) × (f : Failure) × (b.noted c ≡ Some f) × (b.completed c ≡ w))

-- of one rank and the stop word, or a number that it isn't above
abbrev pub HeardOk : Behaviour → ℕ → Standing → ℕ → Type 0
HeardOk b r s w = s.status ≡ Faulted → w ≤ steps b r s.place

-- of a state
pub record Facts (b : Behaviour) (s : State) : Type 0 where
  pub ranks : (r : ℕ) → r < b.ranks → RankOk b r (s.at r)
  pub heard : (r : ℕ) → r < b.ranks → HeardOk b r (s.at r) s.stop
  pub stop : StopOk b s.stop
  pub boxes : (q r : ℕ) → q < b.ranks → r < b.ranks → Fits b q r (s.at q).place (s.at r).place
