-- A trace that is sound: two ranks, a fault of rank 1 alone, a Send and a Recv of one item, and the end.
use Rattle.std.proofs.Common.{◌≡◌, ℕ, zero, suc, ◌<◌, ◌≤◌, List, [], ◌∷◌, length, ◌⊎◌, inl, inr, refl, sym, ap, subst, arith}
use Rattle.std.specs.Prelude.{Option, Some, None, ◌≢◌}
use Rattle.fd_base.specs.declared.numbers.FaultKind.TheVariants.{Bounds}
use Rattle.mailbox_book.specs.declared.message.Message.{Message}
use Rattle.fd_prog.specs.declared.run.Printed.{Printed}
use Rattle.message_laws.specs.Behaviour.{Failure, Action, Act, Post, Take, Fail, End, HaveStep, no_stop}
use Rattle.message_laws.proofs.Basics.{number_of, fault_of}
use Rattle.message_laws.specs.Traces.{Trace, nth, IsSound}
use Rattle.message_laws.specs.Protocol.{Event, Local, Send, Recv, Exchange, each, request_to, reply_to, receive_from, message_steps, sends, recvs, IsMatched, HasExchange}
use Rattle.message_laws.proofs.Ways.{some_not_none}
use Rattle.message_laws.proofs.Peers.{of_peer, split}
use Rattle.message_laws.proofs.Matched.{same_action, event_number, law}

abbrev the_fault : Failure
the_fault = record { line = record { 0 = 1 }; kind = Bounds }

abbrev event : ℕ → Event
event zero = Local
event (suc zero) = Send 1
event (suc (suc zero)) = Recv 1
event (suc (suc (suc c))) = Local

abbrev exchange : Exchange
exchange = record { event = event; requested = λ c q r. []; replied = λ c q r. [] }

abbrev acts : ℕ → ℕ → List Action
acts zero zero = Act [] ∷ []
acts zero (suc zero) = Fail the_fault ∷ []
acts zero (suc (suc r)) = []
acts (suc zero) r = message_steps exchange 2 1 (Send 1) r
acts (suc (suc zero)) r = message_steps exchange 2 2 (Recv 1) r
acts (suc (suc (suc c))) r = End ∷ []

abbrev done : ℕ → ℕ
done zero = 0
done (suc c) = 1

abbrev noted : ℕ → Option Failure
noted zero = Some the_fault
noted (suc c) = None

abbrev pub trace : Trace
trace = record { ranks = 2; count = 4; actions = acts; completed = done; noted = noted }

-- two actions of two kinds differ
wrong : {X : Type 0} (a b : Action) → Some a ≡ Some b → number_of a ≢ number_of b → X
wrong a b e ne = absurd (ne (ap number_of (same_action a b e)))

past : {X : Type 0} {a : Action} → None ≡ Some a → X
past e = absurd (some_not_none (sym e))

-- a message step is a post or a take
request_kind : (x : Exchange) (c i q p j : ℕ) (a : Action) → nth (request_to x c i q p) j ≡ Some a → number_of a ≡ 1 ⊎ number_of a ≡ 2
request_kind x c i q p zero a e = inl (ap number_of (sym (same_action _ a e)))
request_kind x c i q p (suc j) a e = past e

reply_kind : (x : Exchange) (c i q p j : ℕ) (a : Action) → nth (reply_to x c i q p) j ≡ Some a → number_of a ≡ 1 ⊎ number_of a ≡ 2
reply_kind x c i q p zero a e = inr (ap number_of (sym (same_action _ a e)))
reply_kind x c i q p (suc zero) a e = inl (ap number_of (sym (same_action _ a e)))
reply_kind x c i q p (suc (suc j)) a e = past e

receive_kind : (i p j : ℕ) (a : Action) → nth (receive_from i p) j ≡ Some a → number_of a ≡ 1 ⊎ number_of a ≡ 2
receive_kind i p zero a e = inr (ap number_of (sym (same_action _ a e)))
receive_kind i p (suc j) a e = past e

pub message_kind : (x : Exchange) (n c q k : ℕ) (e : Event) (a : Action) → nth (message_steps x n c e q) k ≡ Some a → number_of a ≡ 1 ⊎ number_of a ≡ 2
message_kind x n c q k Local a h = past h
message_kind x n c q k (Send i) a h = elim (split (each q n (request_to x c i q)) (each q n (reply_to x c i q)) k a h).either [
  | inl z ↦ (let p = of_peer q n k (request_to x c i q) a z.1 in request_kind x c i q p.peer p.index a p.is)
  | inr z ↦ (let p = of_peer q n z.0 (reply_to x c i q) a z.1 in reply_kind x c i q p.peer p.index a p.is)
]
message_kind x n c q k (Recv i) a h = let p = of_peer q n k (receive_from i) a h in receive_kind i p.peer p.index a p.is

no_message : {X : Type 0} (x : Exchange) (n c q k : ℕ) (e : Event) (a : Action) → nth (message_steps x n c e q) k ≡ Some a → number_of a ≢ 1 → number_of a ≢ 2 → X
no_message x n c q k e a h one two = elim (message_kind x n c q k e a h) [ inl z ↦ absurd (one z) | inr z ↦ absurd (two z) ]

apart : (m n : ℕ) → m < n ⊎ n < m → m ≢ n
apart m n (inl lt) e = omega (arith, lt, e)
apart m n (inr lt) e = omega (arith, lt, e)

far : {X : Type 0} (c : ℕ) → suc (suc (suc (suc c))) < 4 → X
far c lt = absurd (omega (arith, lt))

-- ---- the exchange

local : (c q k to : ℕ) (m : Message) → c < 4 → event c ≡ Local → nth (acts c q) k ≡ Some (Post to m) → ⊥
local zero zero zero to m lt l e = wrong _ _ e (apart 0 1 (inl (omega arith)))
local zero zero (suc k) to m lt l e = past e
local zero (suc zero) zero to m lt l e = wrong _ _ e (apart 3 1 (inr (omega arith)))
local zero (suc zero) (suc k) to m lt l e = past e
local zero (suc (suc q)) k to m lt l e = past e
local (suc zero) q k to m lt l e = apart 1 0 (inr (omega arith)) (ap event_number l)
local (suc (suc zero)) q k to m lt l e = apart 2 0 (inr (omega arith)) (ap event_number l)
local (suc (suc (suc c))) q zero to m lt l e = wrong _ _ e (apart 4 1 (inr (omega arith)))
local (suc (suc (suc c))) q (suc k) to m lt l e = past e

quiet : (c q k from tag : ℕ) → c < 4 → event c ≡ Local → nth (acts c q) k ≡ Some (Take from tag) → ⊥
quiet zero zero zero from tag lt l e = wrong _ _ e (apart 0 2 (inl (omega arith)))
quiet zero zero (suc k) from tag lt l e = past e
quiet zero (suc zero) zero from tag lt l e = wrong _ _ e (apart 3 2 (inr (omega arith)))
quiet zero (suc zero) (suc k) from tag lt l e = past e
quiet zero (suc (suc q)) k from tag lt l e = past e
quiet (suc zero) q k from tag lt l e = apart 1 0 (inr (omega arith)) (ap event_number l)
quiet (suc (suc zero)) q k from tag lt l e = apart 2 0 (inr (omega arith)) (ap event_number l)
quiet (suc (suc (suc c))) q zero from tag lt l e = wrong _ _ e (apart 4 2 (inr (omega arith)))
quiet (suc (suc (suc c))) q (suc k) from tag lt l e = past e

steps : (c q : ℕ) → c < 4 → (event c ≡ Local → ⊥) → acts c q ≡ message_steps exchange 2 c (event c) q
steps zero q lt h = absurd (h refl)
steps (suc zero) q lt h = refl
steps (suc (suc zero)) q lt h = refl
steps (suc (suc (suc c))) q lt h = absurd (h refl)

follows : HasExchange trace exchange
follows = record { messages = λ c q lt lq h. steps c q lt h; local = λ c q k to m lt lq l e. local c q k to m lt l e; quiet = λ c q k from tag lt lq l e. quiet c q k from tag lt l e }

abbrev item_of : Event → ℕ
item_of Local = 0
item_of (Send i) = i
item_of (Recv i) = i

open_before : (c item : ℕ) → c < 4 → event c ≡ Recv item → recvs exchange item c < sends exchange item c
open_before zero item lt e = absurd (apart 0 2 (inl (omega arith)) (ap event_number e))
open_before (suc zero) item lt e = absurd (apart 1 2 (inl (omega arith)) (ap event_number e))
open_before (suc (suc zero)) item lt e = subst (λ (i : ℕ). recvs exchange i 2 < sends exchange i 2) (ap item_of e) (omega arith)
open_before (suc (suc (suc c))) item lt e = absurd (apart 0 2 (inl (omega arith)) (ap event_number e))

balanced : IsMatched trace exchange
balanced = record { open_before = open_before; closed = λ none item. absurd (some_not_none (none 0)) }

-- ---- the trace

rise : (c : ℕ) → done c ≤ done (suc c)
rise zero = omega arith
rise (suc c) = omega arith

few : (c : ℕ) → done c < no_stop
few zero = omega arith
few (suc c) = omega arith

noted_in : (c : ℕ) (f : Failure) → noted c ≡ Some f → c < 4
noted_in zero f e = omega arith
noted_in (suc c) f e = absurd (some_not_none (sym e))

counts : (c : ℕ) (f : Failure) → noted c ≡ Some f → done c < done (suc c)
counts zero f e = omega arith
counts (suc c) f e = absurd (some_not_none (sym e))

fails : (c r k : ℕ) (f : Failure) → c < 4 → nth (acts c r) k ≡ Some (Fail f) → (noted c ≡ Some f) × (suc k ≡ length (acts c r))
fails zero zero zero f lt e = wrong _ _ e (apart 0 3 (inl (omega arith)))
fails zero zero (suc k) f lt e = past e
fails zero (suc zero) zero f lt e = (ap fault_of (same_action _ _ e), omega arith)
fails zero (suc zero) (suc k) f lt e = past e
fails zero (suc (suc r)) k f lt e = past e
fails (suc zero) r k f lt e = no_message exchange 2 1 r k (Send 1) (Fail f) e (apart 3 1 (inr (omega arith))) (apart 3 2 (inr (omega arith)))
fails (suc (suc zero)) r k f lt e = no_message exchange 2 2 r k (Recv 1) (Fail f) e (apart 3 1 (inr (omega arith))) (apart 3 2 (inr (omega arith)))
fails (suc (suc (suc c))) r zero f lt e = wrong _ _ e (apart 4 3 (inr (omega arith)))
fails (suc (suc (suc c))) r (suc k) f lt e = past e

executed : (c : ℕ) (f : Failure) → noted c ≡ Some f → (r : ℕ) × (k : ℕ) × (r < 2) × (nth (acts c r) k ≡ Some (Fail f))
executed zero f e = (1, 0, omega arith, ap fail_of e)
  where
    fail_of : Option Failure → Option Action
    fail_of None = None
    fail_of (Some f) = Some (Fail f)
executed (suc c) f e = absurd (some_not_none (sym e))

ends : (c r k : ℕ) → c < 4 → nth (acts c r) k ≡ Some End → (suc c ≡ 4) × (suc k ≡ length (acts c r)) × (noted c ≡ None)
ends zero zero zero lt e = wrong _ _ e (apart 0 4 (inl (omega arith)))
ends zero zero (suc k) lt e = past e
ends zero (suc zero) zero lt e = wrong _ _ e (apart 3 4 (inl (omega arith)))
ends zero (suc zero) (suc k) lt e = past e
ends zero (suc (suc r)) k lt e = past e
ends (suc zero) r k lt e = no_message exchange 2 1 r k (Send 1) End e (apart 4 1 (inr (omega arith))) (apart 4 2 (inr (omega arith)))
ends (suc (suc zero)) r k lt e = no_message exchange 2 2 r k (Recv 1) End e (apart 4 1 (inr (omega arith))) (apart 4 2 (inr (omega arith)))
ends (suc (suc (suc c))) r zero lt e = (omega (arith, lt), omega arith, refl)
ends (suc (suc (suc c))) r (suc k) lt e = past e

abbrev lines_of : Action → List Printed
lines_of (Act lines) = lines
lines_of (Post to m) = []
lines_of (Take from tag) = []
lines_of (Fail f) = []
lines_of End = []

lines : (c r k : ℕ) (ls : List Printed) → c < 4 → nth (acts c r) k ≡ Some (Act ls) → HaveStep (suc (done c)) ls
lines zero zero zero ls lt e = subst (HaveStep 1) (ap lines_of (same_action _ _ e)) tt
lines zero zero (suc k) ls lt e = past e
lines zero (suc zero) zero ls lt e = wrong _ _ e (apart 3 0 (inr (omega arith)))
lines zero (suc zero) (suc k) ls lt e = past e
lines zero (suc (suc r)) k ls lt e = past e
lines (suc zero) r k ls lt e = no_message exchange 2 1 r k (Send 1) (Act ls) e (apart 0 1 (inl (omega arith))) (apart 0 2 (inl (omega arith)))
lines (suc (suc zero)) r k ls lt e = no_message exchange 2 2 r k (Recv 1) (Act ls) e (apart 0 1 (inl (omega arith))) (apart 0 2 (inl (omega arith)))
lines (suc (suc (suc c))) r zero ls lt e = wrong _ _ e (apart 4 0 (inr (omega arith)))
lines (suc (suc (suc c))) r (suc k) ls lt e = past e

pub sound : IsSound trace
sound = record {
  steps_rise = rise;
  steps_few = few;
  noted_inside = noted_in;
  fault_counts = counts;
  fails = fails;
  executed = executed;
  ends = ends;
  last = λ r lt. (3, 0, End, refl, refl, refl, refl);
  line_steps = lines;
  peers = λ c r k q tag lt lr e. (law trace exchange follows balanced c r k q tag lt lr e).0;
  messages = λ c r k q tag lt lr e. (law trace exchange follows balanced c r k q tag lt lr e).1;
  all_taken = λ none. absurd (some_not_none (none 0));
}
