-- The steps of a job's ranks change the state only so often.
use Rattle.std.proofs.Common.{ℕ, ◌+◌, ◌*◌, ◌≤◌, List, [], length, sym, subst, arith}
use Rattle.std.proofs.Math.Nat.{mul-le-mul_left}
use Rattle.std.specs.Prelude.{Option, Some, None}
use Rattle.exec_code.specs.Instructions.{FlatJob}
use Rattle.exec_code.specs.Machine.{Configuration, Effect, Goes, Notes, Faults, Ends, Strays, effect, first_configuration}
use Rattle.exec_code.specs.Sound.{IsSoundJob}
use Rattle.exec_code.proofs.Returning.{all_few}
use Rattle.message_laws.specs.System.{Pick, IsInterleaving, changes, first_state}
use Rattle.message_laws.specs.Protocol.{Event, Local, Send, Recv}
use Rattle.message_laws.specs.Traces.{nth}
use Rattle.message_laws.proofs.Bounds.{few_steps, weight_bound}
use Rattle.message_laws.proofs.Whole.{few_changes, first_facts}
use Rattle.rank_behaviour.specs.Exchanged.{event_at}
use Rattle.rank_behaviour.specs.Jobs.{configurations, exchange_of, trace_of, of_some, actions_at, steps_by, step_by, HaveExecutors, behaviour_of_job}
use Rattle.rank_behaviour.proofs.Balance.{trace_is}
use Rattle.rank_behaviour.proofs.Lawful.{sound, lawful_job}

one_at_most : (j : FlatJob) (c : Configuration) (rank : ℕ) (e : Effect) → length (step_by j c rank e) ≤ 1
one_at_most j c rank (Goes d) = omega arith
one_at_most j c rank (Notes kind d) = omega arith
one_at_most j c rank (Faults kind) = omega arith
one_at_most j c rank Ends = omega arith
one_at_most j c rank Strays = omega arith

few_by : (j : FlatJob) (n rank : ℕ) (c : Configuration) (e : Event) → 1 ≤ j.ranks → length (steps_by j (exchange_of j) n c rank e) ≤ 3 * j.ranks
few_by j n rank c Local le = let x = one_at_most j c rank (effect j c) in omega (arith, x, le)
few_by j n rank c (Send item) le = few_steps (exchange_of j) j.ranks n rank (Send item)
few_by j n rank c (Recv item) le = few_steps (exchange_of j) j.ranks n rank (Recv item)

few_where : (j : FlatJob) (n rank : ℕ) (o : Option Configuration) → 1 ≤ j.ranks → length (of_some [] (actions_at j n rank) o) ≤ 3 * j.ranks
few_where j n rank None le = omega arith
few_where j n rank (Some c) le = few_by j n rank c (event_at j c) le

pub changes_few : (j : FlatJob) → IsSoundJob j → HaveExecutors j → (picks : List Pick) → IsInterleaving (behaviour_of_job j) first_state picks
    → changes (behaviour_of_job j) first_state picks ≤ 3 * j.ranks * j.ranks * (j.limit + 2) * (length j.code.instructions + 1)
changes_few j s executors picks i =
    let some = s.some_ranks in
    let t = s.follows.trace in
    let changed = few_changes (behaviour_of_job j) (lawful_job j s executors) first_state (first_facts (behaviour_of_job j)) picks i in
    let weight = weight_bound (trace_of j) (sound j s executors) (3 * j.ranks) (λ n r lt lr. few_where j n r (nth (configurations j) n) (omega (arith, some))) in
    let count : length (configurations j) ≤ (j.limit + 2) * (length j.code.instructions + 1) =
    subst (λ (cs : List Configuration). length cs ≤ (j.limit + 2) * (length j.code.instructions + 1)) (sym (trace_is j s))
    (all_few j (first_configuration j) s.follows.last s.follows.before t.walks t.over (omega arith)) in
    let more : 3 * j.ranks * j.ranks * length (configurations j) ≤ 3 * j.ranks * j.ranks * ((j.limit + 2) * (length j.code.instructions + 1)) = mul-le-mul_left (3 * j.ranks * j.ranks) count in
    omega (arith, changed, weight, more)
