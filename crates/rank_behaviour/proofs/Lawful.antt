-- The trace of a sound job is sound for its ranks.
use Rattle.std.proofs.Common.{◌≡◌, ◌≢◌, ℕ, zero, suc, ◌<◌, Bool, true, false, nat_lt, IsTrue, List, [], ◌∷◌, length, ◌⊎◌, inl, inr, refl, sym, ◌∙◌, ap, subst, arith, if◌then◌else◌}
use Rattle.std.specs.Prelude.{Option, Some, None, option_map}
use Rattle.fd_prog.specs.declared.run.Printed.{Printed}
use Rattle.program_laws.specs.Plans.{plan_of}
use Rattle.exec_code.specs.Instructions as code
use Rattle.exec_code.specs.Instructions.{Instruction, FlatJob}
use Rattle.exec_code.specs.Machine.{Configuration, Effect, Goes, Notes, Faults, Ends, Strays, effect, act_where, instruction_at, line_at}
use Rattle.exec_code.specs.Sound.{IsSoundJob, Finishes, stops, fails}
use Rattle.exec_code.specs.Traces.{noted_at, noted_by, next, next_in}
use Rattle.message_laws.specs.Behaviour.{Failure, Action, Act, Post, Take, Fail, End, HaveStep, is_last, IsLawful}
use Rattle.message_laws.specs.Outcomes.{failure}
use Rattle.message_laws.specs.Protocol.{Local}
use Rattle.message_laws.specs.Traces.{nth, IsSound}
use Rattle.message_laws.proofs.Basics.{number_of, fault_of}
use Rattle.message_laws.proofs.Matched.{same_action, law}
use Rattle.message_laws.proofs.Taken.{all_taken}
use Rattle.message_laws.proofs.Sound.{lawful}
use Rattle.message_laws.proofs.Ways.{some_not_none, nth_some, nth_inside}
use Rattle.rank_behaviour.specs.Exchanged.{event_at, event_where, event_among}
use Rattle.rank_behaviour.specs.Jobs.{configurations, exchange_of, trace_of, of_some, failure_in, actions_at, steps_by, step_by, executes_at, printed_between, HasExecutor, HaveExecutors, behaviour_of_job}
use Rattle.rank_behaviour.proofs.Balance.{matched, trace_is, nth_last}
use Rattle.rank_behaviour.proofs.Exchanging.{exchanged, past, Kind, plain, message, kind_at}
use Rattle.rank_behaviour.proofs.Counting.{steps_rise, steps_few, fault_counts, last_is, lines_have_step, steps_at}

-- ---- where nothing is sent

-- the machine goes on
abbrev GoesOn : Effect → Type 0
GoesOn (Goes d) = Unit {0}
GoesOn (Notes kind d) = ⊥
GoesOn (Faults kind) = ⊥
GoesOn Ends = ⊥
GoesOn Strays = ⊥

local_by : (j : FlatJob) (c : Configuration) (i : Option Instruction) → (GoesOn (act_where j i c) → ⊥) → event_where i ≡ Local
local_by j c None h = refl
local_by j c (Some (code.Assign target e)) h = refl
local_by j c (Some (code.Read target)) h = refl
local_by j c (Some (code.Print items)) h = refl
local_by j c (Some code.Skip) h = refl
local_by j c (Some (code.Install decomp number)) h = refl
local_by j c (Some (code.Test condition no_side)) h = refl
local_by j c (Some (code.Start var first last by)) h = refl
local_by j c (Some (code.Turn var exit)) h = refl
local_by j c (Some (code.Jump to)) h = refl
local_by j c (Some (code.Send x)) h = absurd (h tt)
local_by j c (Some (code.Recv x)) h = absurd (h tt)
local_by j c (Some code.Stop) h = refl

pub among_local : (b : Bool) → event_among b Local ≡ Local
among_local true = refl
among_local false = refl

local_where : (j : FlatJob) (c : Configuration) (e : Effect) → effect j c ≡ e → (GoesOn e → ⊥) → event_at j c ≡ Local
local_where j c e is h =
    ap (event_among (nat_lt 1 j.ranks)) (local_by j c (instruction_at j c.at) (λ g. h (subst GoesOn is g))) ∙ among_local (nat_lt 1 j.ranks)

-- what a rank does there is one step
one_step : (j : FlatJob) (n rank : ℕ) (c : Configuration) (e : Effect) → effect j c ≡ e → (GoesOn e → ⊥) → actions_at j n rank c ≡ step_by j c rank e
one_step j n rank c e is h = ap (steps_by j (exchange_of j) n c rank) (local_where j c e is h) ∙ ap (step_by j c rank) is

-- ---- faults

record Fails (j : FlatJob) (c : Configuration) (rank k : ℕ) (f : Failure) (e : Effect) : Type 0 where
  pub noted : option_map failure_in (noted_by c.now.steps (line_at j c.at) e) ≡ Some f
  pub last : suc k ≡ length (step_by j c rank e)

no_act : {X : Type 0} {lines : List Printed} {f : Failure} → Act lines ≡ Fail f → X
no_act e = let z = ap number_of e in absurd (omega (arith, z))

if_fails : (b : Bool) (g f : Failure) → (if b then Fail g else Act []) ≡ Fail f → Some g ≡ Some f
if_fails true g f e = ap fault_of e
if_fails false g f e = no_act e

fails_by : (j : FlatJob) (c : Configuration) (rank k : ℕ) (f : Failure) (e : Effect) → nth (step_by j c rank e) k ≡ Some (Fail f) → Fails j c rank k f e
fails_by j c rank zero f (Goes d) h = no_act (same_action _ _ h)
fails_by j c rank zero f (Notes kind d) h = record { noted = if_fails (executes_at j c rank) (failure (line_at j c.at) kind) f (same_action _ _ h); last = refl }
fails_by j c rank zero f (Faults kind) h = record { noted = ap fault_of (same_action _ _ h); last = refl }
fails_by j c rank zero f Ends h = (let z = ap number_of (same_action _ _ h) in absurd (omega (arith, z)))
fails_by j c rank zero f Strays h = past h
fails_by j c rank (suc k) f (Goes d) h = past h
fails_by j c rank (suc k) f (Notes kind d) h = past h
fails_by j c rank (suc k) f (Faults kind) h = past h
fails_by j c rank (suc k) f Ends h = past h
fails_by j c rank (suc k) f Strays h = past h

no_kind : {X : Type 0} (a : Action) → number_of a ≡ 1 ⊎ number_of a ≡ 2 → number_of a ≢ 1 → number_of a ≢ 2 → X
no_kind a (inl e) one two = absurd (one e)
no_kind a (inr e) one two = absurd (two e)

fails_at : (j : FlatJob) (n rank k : ℕ) (c : Configuration) (f : Failure) → nth (actions_at j n rank c) k ≡ Some (Fail f) → Kind j c rank k (Fail f) → (option_map failure_in (noted_at j c) ≡ Some f) × (suc k ≡ length (actions_at j n rank c))
fails_at j n rank k c f h (plain e p) =
    let x = fails_by j c rank k f (effect j c) p in
    (x.noted, x.last ∙ ap length (sym (ap (steps_by j (exchange_of j) n c rank) e)))
fails_at j n rank k c f h (message m) = no_kind (Fail f) m (λ z. omega (arith, z)) (λ z. omega (arith, z))

-- who executes a noted fault
executed_by : (j : FlatJob) (n : ℕ) (c : Configuration) (f : Failure) → 0 < j.ranks → HasExecutor j c → (e : Effect) → effect j c ≡ e → option_map failure_in (noted_by c.now.steps (line_at j c.at) e) ≡ Some f
    → (r : ℕ) × (k : ℕ) × (r < j.ranks) × (nth (actions_at j n r c) k ≡ Some (Fail f))
executed_by j n c f some h (Goes d) is e = absurd (some_not_none (sym e))
executed_by j n c f some h (Notes kind d) is e =
    let x = h kind d is in
    let one : actions_at j n x.0 c ≡ (if executes_at j c x.0 then Fail (failure (line_at j c.at) kind) else Act []) ∷ [] = one_step j n x.0 c (Notes kind d) is (λ g. g) in
    let whole : actions_at j n x.0 c ≡ Fail (failure (line_at j c.at) kind) ∷ [] = one ∙ ap (λ (b : Bool). (if b then Fail (failure (line_at j c.at) kind) else Act []) ∷ []) x.2 in
    (x.0, 0, x.1, ap (λ (xs : List Action). nth xs 0) whole ∙ ap (option_map (λ (g : Failure). Fail g)) e)
executed_by j n c f some h (Faults kind) is e =
    let whole : actions_at j n 0 c ≡ Fail (failure (line_at j c.at) kind) ∷ [] = one_step j n 0 c (Faults kind) is (λ g. g) in
    (0, 0, some, ap (λ (xs : List Action). nth xs 0) whole ∙ ap (option_map (λ (g : Failure). Fail g)) e)
executed_by j n c f some h Ends is e = absurd (some_not_none (sym e))
executed_by j n c f some h Strays is e = absurd (some_not_none (sym e))

-- ---- ends

record EndsHere (j : FlatJob) (c : Configuration) (rank k : ℕ) (e : Effect) : Type 0 where
  pub over : next_in e ≡ None
  pub noted : option_map failure_in (noted_by c.now.steps (line_at j c.at) e) ≡ None
  pub last : suc k ≡ length (step_by j c rank e)

if_ends : {X : Type 0} (b : Bool) (g : Failure) → (if b then Fail g else Act []) ≡ End → X
if_ends true g e = let z = ap number_of e in absurd (omega (arith, z))
if_ends false g e = let z = ap number_of e in absurd (omega (arith, z))

ends_by : (j : FlatJob) (c : Configuration) (rank k : ℕ) (e : Effect) → nth (step_by j c rank e) k ≡ Some End → EndsHere j c rank k e
ends_by j c rank zero (Goes d) h = (let z = ap number_of (same_action _ _ h) in absurd (omega (arith, z)))
ends_by j c rank zero (Notes kind d) h = if_ends (executes_at j c rank) (failure (line_at j c.at) kind) (same_action _ _ h)
ends_by j c rank zero (Faults kind) h = (let z = ap number_of (same_action _ _ h) in absurd (omega (arith, z)))
ends_by j c rank zero Ends h = record { over = refl; noted = refl; last = refl }
ends_by j c rank zero Strays h = past h
ends_by j c rank (suc k) (Goes d) h = past h
ends_by j c rank (suc k) (Notes kind d) h = past h
ends_by j c rank (suc k) (Faults kind) h = past h
ends_by j c rank (suc k) Ends h = past h
ends_by j c rank (suc k) Strays h = past h

ends_at : (j : FlatJob) (n rank k : ℕ) (c : Configuration) → nth (configurations j) n ≡ Some c → Kind j c rank k End → (suc n ≡ length (configurations j)) × (suc k ≡ length (actions_at j n rank c)) × (option_map failure_in (noted_at j c) ≡ None)
ends_at j n rank k c here (plain e p) =
    let x = ends_by j c rank k (effect j c) p in
    (last_is j n c here x.over, x.last ∙ ap length (sym (ap (steps_by j (exchange_of j) n c rank) e)), x.noted)
ends_at j n rank k c here (message m) = no_kind End m (λ z. omega (arith, z)) (λ z. omega (arith, z))

-- ---- lines

if_lines : (b : Bool) (g : Failure) (lines : List Printed) (n : ℕ) → (if b then Fail g else Act []) ≡ Act lines → HaveStep n lines
if_lines true g lines n e = let z = ap number_of e in absurd (omega (arith, z))
if_lines false g lines n e = subst (λ (ls : List Printed). HaveStep n ls) (lines_same [] lines e) tt
  where
    lines_in : Action → List Printed
    lines_in (Act ls) = ls
    lines_in (Post to m) = []
    lines_in (Take from tag) = []
    lines_in (Fail f) = []
    lines_in End = []

    lines_same : (ls ms : List Printed) → Act ls ≡ Act ms → ls ≡ ms
    lines_same ls ms e = ap lines_in e

lines_by : (j : FlatJob) (c : Configuration) (rank k : ℕ) (lines : List Printed) (e : Effect) → effect j c ≡ e → nth (step_by j c rank e) k ≡ Some (Act lines) → HaveStep (suc c.now.steps) lines
lines_by j c rank zero lines (Goes d) is h = subst (λ (ls : List Printed). HaveStep (suc c.now.steps) ls) (ap lines_in (same_action (Act (printed_between rank c d)) (Act lines) h)) (lines_have_step j rank c d is)
  where
    lines_in : Action → List Printed
    lines_in (Act ls) = ls
    lines_in (Post to m) = []
    lines_in (Take from tag) = []
    lines_in (Fail f) = []
    lines_in End = []
lines_by j c rank zero lines (Notes kind d) is h = if_lines (executes_at j c rank) (failure (line_at j c.at) kind) lines (suc c.now.steps) (same_action _ _ h)
lines_by j c rank zero lines (Faults kind) is h = (let z = ap number_of (same_action _ _ h) in absurd (omega (arith, z)))
lines_by j c rank zero lines Ends is h = (let z = ap number_of (same_action _ _ h) in absurd (omega (arith, z)))
lines_by j c rank zero lines Strays is h = past h
lines_by j c rank (suc k) lines (Goes d) is h = past h
lines_by j c rank (suc k) lines (Notes kind d) is h = past h
lines_by j c rank (suc k) lines (Faults kind) is h = past h
lines_by j c rank (suc k) lines Ends is h = past h
lines_by j c rank (suc k) lines Strays is h = past h

lines_at : (j : FlatJob) (rank k : ℕ) (c : Configuration) (lines : List Printed) → Kind j c rank k (Act lines) → HaveStep (suc c.now.steps) lines
lines_at j rank k c lines (plain e p) = lines_by j c rank k lines (effect j c) refl p
lines_at j rank k c lines (message m) = no_kind (Act lines) m (λ z. omega (arith, z)) (λ z. omega (arith, z))

-- ---- the last configuration

abbrev LastAction : FlatJob → ℕ → Type 0
LastAction j r = (c : ℕ) × (k : ℕ) × (a : Action) × (suc c ≡ length (configurations j)) × (nth ((trace_of j).actions c r) k ≡ Some a) × (suc k ≡ length ((trace_of j).actions c r)) × IsTrue (is_last a)

last_action : (j : FlatJob) (n r : ℕ) (c : Configuration) (e : Effect) (a : Action) → nth (configurations j) n ≡ Some c → next j c ≡ None → effect j c ≡ e → (GoesOn e → ⊥) → step_by j c r e ≡ a ∷ [] → IsTrue (is_last a) → LastAction j r
last_action j n r c e a here over is h one t =
    let whole : (trace_of j).actions n r ≡ a ∷ [] = ap (of_some [] (actions_at j n r)) here ∙ one_step j n r c e is h ∙ one in
    (n, 0, a, last_is j n c here over, ap (λ (xs : List Action). nth xs 0) whole, sym (ap length whole), t)

last_finish : (j : FlatJob) (s : IsSoundJob j) (r : ℕ) → nth (configurations j) (length s.follows.before) ≡ Some s.follows.last → Finishes j (plan_of j.program s.places) s.follows.before s.follows.last → LastAction j r
last_finish j s r here (stops e a) = last_action j (length s.follows.before) r s.follows.last Ends End here s.follows.trace.over e (λ g. g) refl refl
last_finish j s r here (fails kind e a) =
    last_action j (length s.follows.before) r s.follows.last (Faults kind) (Fail (failure (line_at j s.follows.last.at) kind)) here s.follows.trace.over e (λ g. g) refl refl

last_of : (j : FlatJob) (s : IsSoundJob j) (r : ℕ) → LastAction j r
last_of j s r = last_finish j s r (ap (λ (cs : List Configuration). nth cs (length s.follows.before)) (trace_is j s) ∙ nth_last s.follows.before s.follows.last) s.follows.finish

-- ---- all of it

of_noted : (j : FlatJob) (o : Option Configuration) (f : Failure) → option_map failure_in (of_some None (noted_at j) o) ≡ Some f → (c : Configuration) × (o ≡ Some c)
of_noted j None f e = absurd (some_not_none (sym e))
of_noted j (Some c) f e = (c, refl)

pub sound : (j : FlatJob) → IsSoundJob j → HaveExecutors j → IsSound (trace_of j)
sound j s executors =
    let actions_are = λ (n r : ℕ) (c : Configuration) (here : nth (configurations j) n ≡ Some c). ap (of_some [] (actions_at j n r)) here in
    let noted_is = λ (n : ℕ) (c : Configuration) (here : nth (configurations j) n ≡ Some c). ap (λ (o : Option Configuration). option_map failure_in (of_some None (noted_at j) o)) here in
    record {
      steps_rise = λ n. steps_rise j n;
      steps_few = λ n. steps_few j s n;
      noted_inside = λ n f e. (let x = of_noted j (nth (configurations j) n) f e in nth_inside (configurations j) n x.0 x.1);
      fault_counts = λ n f e. fault_counts j n f e;
      fails = λ n r k f lt h. (
          let el = nth_some (configurations j) n lt in
          let c = el.element in
          let h2 : nth (actions_at j n r c) k ≡ Some (Fail f) = ap (λ (xs : List Action). nth xs k) (sym (actions_are n r c el.is)) ∙ h in
          let x = fails_at j n r k c f h2 (kind_at j n c r k (Fail f) h2) in
          (noted_is n c el.is ∙ x.0, x.1 ∙ ap length (sym (actions_are n r c el.is))));
      executed = λ n f e. (
          let x = of_noted j (nth (configurations j) n) f e in
          let some = s.some_ranks in
          let y = executed_by j n x.0 f (omega (arith, some)) (executors n x.0 x.1) (effect j x.0) refl (sym (noted_is n x.0 x.1) ∙ e) in
          (y.0, y.1, y.2, ap (λ (xs : List Action). nth xs y.1) (actions_are n y.0 x.0 x.1) ∙ y.3));
      ends = λ n r k lt h. (
          let el = nth_some (configurations j) n lt in
          let c = el.element in
          let h2 : nth (actions_at j n r c) k ≡ Some End = ap (λ (xs : List Action). nth xs k) (sym (actions_are n r c el.is)) ∙ h in
          let x = ends_at j n r k c el.is (kind_at j n c r k End h2) in
          (x.0, x.1 ∙ ap length (sym (actions_are n r c el.is)), noted_is n c el.is ∙ x.2));
      last = λ r lt. last_of j s r;
      line_steps = λ n r k lines lt h. (
          let el = nth_some (configurations j) n lt in
          let c = el.element in
          let h2 : nth (actions_at j n r c) k ≡ Some (Act lines) = ap (λ (xs : List Action). nth xs k) (sym (actions_are n r c el.is)) ∙ h in
          subst (λ (z : ℕ). HaveStep (suc z) lines) (sym (steps_at j (configurations j) 0 n c el.is)) (lines_at j r k c lines (kind_at j n c r k (Act lines) h2)));
      peers = λ n r k q tag lt lr h. (law (trace_of j) (exchange_of j) (exchanged j) (matched j s) n r k q tag lt lr h).0;
      messages = λ n r k q tag lt lr h. (law (trace_of j) (exchange_of j) (exchanged j) (matched j s) n r k q tag lt lr h).1;
      all_taken = λ none q r tag lq lr. all_taken (trace_of j) (exchange_of j) (exchanged j) (matched j s) none q r tag lq lr;
    }

pub lawful_job : (j : FlatJob) → IsSoundJob j → HaveExecutors j → IsLawful (behaviour_of_job j)
lawful_job j s executors = lawful (trace_of j) (sound j s executors)
