-- States of all ranks and the stop word, and how they step. The boxes are those that the places tell.
use Rattle.std.specs.Prelude.{◌≡◌, ℕ, zero, suc, ◌+◌, ◌-◌, ◌<◌, ◌≤◌, ◌==◌, ◌≢◌, nat_lt, min, Bool, true, false, List, [], ◌∷◌, if◌then◌else◌}
use Rattle.message_laws.specs.Behaviour.{Behaviour, Action, Act, Post, Take, Fail, End, steps, posts, takes, no_stop}

pub data Status : Type 0 where
  Running Ended Faulted Cut : Status

-- where a rank stands
pub record Standing : Type 0 where
  pub place : ℕ
  pub status : Status

pub record State : Type 0 where
  pub at : ℕ → Standing
  pub stop : ℕ

abbrev pub first_state : State
first_state = record { at = λ r. record { place = 0; status = Running }; stop = no_stop }

-- ---- the step of one rank

-- a Running rank does an action: a take finds its message or not, and the stop word is below its completed steps or not
abbrev pub done_at : ℕ → Action → Bool → Bool → Standing
done_at p (Act lines) found below = record { place = suc p; status = Running }
done_at p (Post to m) found below = record { place = suc p; status = Running }
done_at p (Take from tag) true below = record { place = suc p; status = Running }
done_at p (Take from tag) false true = record { place = p; status = Cut }
done_at p (Take from tag) false false = record { place = p; status = Running }
done_at p (Fail f) found below = record { place = p; status = Faulted }
done_at p End found below = record { place = p; status = Ended }

abbrev pub step_at : ℕ → Status → Action → Bool → Bool → Standing
step_at p Running a found below = done_at p a found below
step_at p Ended a found below = record { place = p; status = Ended }
step_at p Faulted a found below = record { place = p; status = Faulted }
step_at p Cut a found below = record { place = p; status = Cut }

-- where a rank stands after its step
abbrev pub stepped : Behaviour → ℕ → Standing → Bool → ℕ → Standing
stepped b r s found stop = step_at s.place s.status (b.action r s.place) found (nat_lt stop (steps b r s.place))

abbrev pub stop_at : Status → Action → ℕ → ℕ → ℕ
stop_at Running (Fail f) done stop = min stop done
stop_at Running (Act lines) done stop = stop
stop_at Running (Post to m) done stop = stop
stop_at Running (Take from tag) done stop = stop
stop_at Running End done stop = stop
stop_at Ended a done stop = stop
stop_at Faulted a done stop = stop
stop_at Cut a done stop = stop

-- the stop word after it
abbrev pub stop_after : Behaviour → ℕ → Standing → ℕ → ℕ
stop_after b r s stop = stop_at s.status (b.action r s.place) (steps b r s.place) stop

-- the message of a take is in its box, where the other ranks stand at these places
abbrev pub finds : Behaviour → ℕ → ℕ → Action → (ℕ → ℕ) → Bool
finds b r p (Take from tag) places = nat_lt (takes b from r tag p) (posts b from r tag (places from))
finds b r p (Act lines) places = false
finds b r p (Post to m) places = false
finds b r p (Fail f) places = false
finds b r p End places = false

abbrev pub places_of : State → ℕ → ℕ
places_of s q = (s.at q).place

abbrev pub found : Behaviour → State → ℕ → Bool
found b s r = finds b r (places_of s r) (b.action r (places_of s r)) (places_of s)

-- a rank is about to take
pub record IsTaking (b : Behaviour) (r p : ℕ) : Type 0 where
  pub from : ℕ
  pub tag : ℕ
  pub is : b.action r p ≡ Take from tag

-- a running rank is about to take, its message isn't there, and the stop word isn't below its completed steps
pub record Waits (b : Behaviour) (s : State) (r : ℕ) : Type 0 where
  pub runs : (s.at r).status ≡ Running
  pub takes : IsTaking b r (places_of s r)
  pub missing : found b s r ≡ false
  pub above : steps b r (places_of s r) ≤ s.stop

-- ---- the step of a state

-- `next` is the state after the step of rank r
pub record Leads (b : Behaviour) (s : State) (r : ℕ) (next : State) : Type 0 where
  pub own : next.at r ≡ stepped b r (s.at r) (found b s r) s.stop
  pub others : (q : ℕ) → q ≢ r → next.at q ≡ s.at q
  pub stop : next.stop ≡ stop_after b r (s.at r) s.stop

-- rank r, which is about to take, was cut since the stop word is below its completed steps
pub record Cuts (b : Behaviour) (s : State) (r : ℕ) (next : State) : Type 0 where
  pub from : ℕ
  pub tag : ℕ
  pub takes : b.action r (s.at r).place ≡ Take from tag
  pub runs : (s.at r).status ≡ Running
  pub below : s.stop < steps b r (s.at r).place
  pub own : next.at r ≡ record { place = (s.at r).place; status = Cut }
  pub others : (q : ℕ) → q ≢ r → next.at q ≡ s.at q
  pub stop : next.stop ≡ s.stop

pub data Can (b : Behaviour) (s : State) (r : ℕ) (next : State) : Type 0 where
  event : Leads b s r next → Can b s r next
  cut : Cuts b s r next → Can b s r next

-- ---- interleavings

-- one step of an interleaving: which rank, and the state behind it
pub record Pick : Type 0 where
  pub rank : ℕ
  pub next : State

abbrev pub IsInterleaving : Behaviour → State → List Pick → Type 0
IsInterleaving b s [] = Unit {0}
IsInterleaving b s (p ∷ ps) = (p.rank < b.ranks) × Can b s p.rank p.next × IsInterleaving b p.next ps

-- the state at the end
abbrev pub reached : State → List Pick → State
reached s [] = s
reached s (p ∷ ps) = reached p.next ps

-- no rank runs
abbrev pub IsComplete : Behaviour → State → Type 0
IsComplete b s = (r : ℕ) → r < b.ranks → (s.at r).status ≢ Running

-- ---- schedules

abbrev pub put : (ℕ → Standing) → ℕ → Standing → ℕ → Standing
put at r own q = if q == r then own else at q

-- the state after the step of a rank
abbrev pub event_of : Behaviour → State → ℕ → State
event_of b s r = record { at = put s.at r (stepped b r (s.at r) (found b s r) s.stop); stop = stop_after b r (s.at r) s.stop }

-- after the steps of these ranks, in order
abbrev pub events : Behaviour → State → List ℕ → State
events b s [] = s
events b s (r ∷ rs) = events b (event_of b s r) rs

-- after the steps of the ranks below n, in ascending order
abbrev pub swept : Behaviour → State → ℕ → State
swept b s zero = s
swept b s (suc n) = event_of b (swept b s n) n

-- after n whole ascending sweeps
abbrev pub sweeps : Behaviour → State → ℕ → State
sweeps b s zero = s
sweeps b s (suc n) = sweeps b (swept b s b.ranks) n

-- what a step of a rank answers
pub data Answer : Type 0 where
  Rested Waited Moved : Answer

abbrev pub answer_at : Status → Action → Bool → Bool → Answer
answer_at Running (Act lines) found below = Moved
answer_at Running (Post to m) found below = Moved
answer_at Running (Take from tag) true below = Moved
answer_at Running (Take from tag) false true = Moved
answer_at Running (Take from tag) false false = Waited
answer_at Running (Fail f) found below = Moved
answer_at Running End found below = Moved
answer_at Ended a found below = Rested
answer_at Faulted a found below = Rested
answer_at Cut a found below = Rested

abbrev pub answer_of : Behaviour → State → ℕ → Answer
answer_of b s r = answer_at (s.at r).status (b.action r (s.at r).place) (found b s r) (nat_lt s.stop (steps b r (s.at r).place))

abbrev pub is_answer : Answer → Answer → Bool
is_answer Rested Rested = true
is_answer Rested Waited = false
is_answer Rested Moved = false
is_answer Waited Rested = false
is_answer Waited Waited = true
is_answer Waited Moved = false
is_answer Moved Rested = false
is_answer Moved Waited = false
is_answer Moved Moved = true

-- at how many picks of rank x, `event` gives this answer
abbrev pub tally : Behaviour → State → List ℕ → ℕ → Answer → ℕ
tally b s [] x a = 0
tally b s (r ∷ rs) x a = (if r == x then (if is_answer a (answer_of b s r) then 1 else 0) else 0) + tally b (event_of b s r) rs x a

-- ---- the number that each changing step raises

abbrev pub worth_of : ℕ → Status → ℕ
worth_of p Running = p
worth_of p Ended = suc p
worth_of p Faulted = suc p
worth_of p Cut = suc p

abbrev pub worth : Standing → ℕ
worth s = worth_of s.place s.status

abbrev pub total : (ℕ → ℕ) → ℕ → ℕ
total f zero = 0
total f (suc n) = total f n + f n

abbrev pub weight : Behaviour → State → ℕ
weight b s = total (λ r. worth (s.at r)) b.ranks

abbrev pub most_weight : Behaviour → ℕ
most_weight b = total (λ r. suc (b.last r)) b.ranks

-- how often the state changes along an interleaving
abbrev pub changes : Behaviour → State → List Pick → ℕ
changes b s [] = 0
changes b s (p ∷ ps) = (weight b p.next - weight b s) + changes b p.next ps

-- the step of some rank changes the state
pub record Moves (b : Behaviour) (s : State) : Type 0 where
  pub rank : ℕ
  pub inside : rank < b.ranks
  pub runs : (s.at rank).status ≡ Running
  pub moves : (next : State) → Leads b s rank next → weight b next ≡ suc (weight b s)
