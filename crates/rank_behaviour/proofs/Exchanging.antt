-- At Send and Recv each rank does its message steps, and elsewhere none.
use Rattle.std.proofs.Common.{◌≡◌, ◌≢◌, ℕ, zero, suc, Bool, true, false, [], ◌⊎◌, inl, inr, refl, sym, ◌∙◌, ap, arith, if◌then◌else◌}
use Rattle.std.specs.Prelude.{Option, Some, None}
use Rattle.exec_code.specs.Instructions.{FlatJob}
use Rattle.exec_code.specs.Machine.{Configuration, Effect, Goes, Notes, Faults, Ends, Strays, effect, line_at}
use Rattle.message_laws.specs.Behaviour.{Action, Act, Post, Take, Fail}
use Rattle.message_laws.specs.Outcomes.{failure}
use Rattle.message_laws.specs.Protocol.{Event, Local, Send, Recv, message_steps, HasExchange}
use Rattle.message_laws.specs.Traces.{nth}
use Rattle.message_laws.proofs.Basics.{number_of}
use Rattle.message_laws.proofs.Matched.{same_action}
use Rattle.message_laws.proofs.Sample.{message_kind}
use Rattle.message_laws.proofs.Ways.{some_not_none}
use Rattle.rank_behaviour.specs.Exchanged.{event_at}
use Rattle.rank_behaviour.specs.Jobs.{configurations, exchange_of, trace_of, of_some, actions_at, steps_by, step_by, executes_at}

by_event : (j : FlatJob) (n : ℕ) (c : Configuration) (rank : ℕ) (e : Event) → (e ≡ Local → ⊥) → steps_by j (exchange_of j) n c rank e ≡ message_steps (exchange_of j) j.ranks n e rank
by_event j n c rank Local h = absurd (h refl)
by_event j n c rank (Send item) h = refl
by_event j n c rank (Recv item) h = refl

where_event : (j : FlatJob) (n rank : ℕ) (o : Option Configuration) → (of_some Local (event_at j) o ≡ Local → ⊥) → of_some [] (actions_at j n rank) o ≡ message_steps (exchange_of j) j.ranks n (of_some Local (event_at j) o) rank
where_event j n rank None h = absurd (h refl)
where_event j n rank (Some c) h = by_event j n c rank (event_at j c) h

-- an action of one step is no message
pub past : {X : Type 0} {a : Action} → None ≡ Some a → X
past e = absurd (some_not_none (sym e))

noted_number : (b : Bool) (a : Action) → number_of a ≡ 3 → number_of (if b then a else Act []) ≡ 0 ⊎ number_of (if b then a else Act []) ≡ 3
noted_number true a e = inr e
noted_number false a e = inl refl

pub plain_kind : (j : FlatJob) (c : Configuration) (rank k : ℕ) (e : Effect) (a : Action) → nth (step_by j c rank e) k ≡ Some a → number_of a ≢ 1 × number_of a ≢ 2
plain_kind j c rank zero (Goes d) a h = let n : number_of a ≡ 0 = sym (ap number_of (same_action _ a h)) in (λ z. omega (arith, n, z), λ z. omega (arith, n, z))
plain_kind j c rank zero (Notes kind d) a h =
    let same : number_of (if executes_at j c rank then Fail (failure (line_at j c.at) kind) else Act []) ≡ number_of a = ap number_of (same_action _ a h) in
    elim (noted_number (executes_at j c rank) (Fail (failure (line_at j c.at) kind)) refl) [
      | inl x ↦ (λ z. omega (arith, x, same, z), λ z. omega (arith, x, same, z))
      | inr x ↦ (λ z. omega (arith, x, same, z), λ z. omega (arith, x, same, z))
    ]
plain_kind j c rank zero (Faults kind) a h = let n : number_of a ≡ 3 = sym (ap number_of (same_action _ a h)) in (λ z. omega (arith, n, z), λ z. omega (arith, n, z))
plain_kind j c rank zero Ends a h = let n : number_of a ≡ 4 = sym (ap number_of (same_action _ a h)) in (λ z. omega (arith, n, z), λ z. omega (arith, n, z))
plain_kind j c rank zero Strays a h = past h
plain_kind j c rank (suc k) (Goes d) a h = past h
plain_kind j c rank (suc k) (Notes kind d) a h = past h
plain_kind j c rank (suc k) (Faults kind) a h = past h
plain_kind j c rank (suc k) Ends a h = past h
plain_kind j c rank (suc k) Strays a h = past h

-- an action is of one step, or a message's
pub data Kind (j : FlatJob) (c : Configuration) (rank k : ℕ) (a : Action) : Type 0 where
  plain : event_at j c ≡ Local → nth (step_by j c rank (effect j c)) k ≡ Some a → Kind j c rank k a
  message : number_of a ≡ 1 ⊎ number_of a ≡ 2 → Kind j c rank k a

kind_by : (j : FlatJob) (n : ℕ) (c : Configuration) (rank k : ℕ) (a : Action) (e : Event) → event_at j c ≡ e → nth (steps_by j (exchange_of j) n c rank e) k ≡ Some a → Kind j c rank k a
kind_by j n c rank k a Local e h = plain e h
kind_by j n c rank k a (Send item) e h = message (message_kind (exchange_of j) j.ranks n rank k (Send item) a h)
kind_by j n c rank k a (Recv item) e h = message (message_kind (exchange_of j) j.ranks n rank k (Recv item) a h)

pub kind_at : (j : FlatJob) (n : ℕ) (c : Configuration) (rank k : ℕ) (a : Action) → nth (actions_at j n rank c) k ≡ Some a → Kind j c rank k a
kind_at j n c rank k a h = kind_by j n c rank k a (event_at j c) refl h

no_message : (j : FlatJob) (n rank k : ℕ) (a : Action) (o : Option Configuration) → of_some Local (event_at j) o ≡ Local → nth (of_some [] (actions_at j n rank) o) k ≡ Some a → number_of a ≢ 1 × number_of a ≢ 2
no_message j n rank k a None e h = past h
no_message j n rank k a (Some c) e h = plain_kind j c rank k (effect j c) a (ap (λ (z : Event). nth (steps_by j (exchange_of j) n c rank z) k) (sym e) ∙ h)

pub exchanged : (j : FlatJob) → HasExchange (trace_of j) (exchange_of j)
exchanged j = record {
  messages = λ n q lt lq h. where_event j n q (nth (configurations j) n) h;
  local = λ n q k to m lt lq e h. (no_message j n q k (Post to m) (nth (configurations j) n) e h).0 refl;
  quiet = λ n q k from tag lt lq e h. (no_message j n q k (Take from tag) (nth (configurations j) n) e h).1 refl;
}
