-- What rank 0 prints along a job's trace, and the first fault there: those of the run in sequence.
use Rattle.std.proofs.Common.{◌≡◌, ℕ, zero, suc, ◌+◌, ◌*◌, ◌-◌, ◌<◌, ◌==◌, Bool, true, false, nat_lt, IsTrue, List, [], ◌∷◌, ◌++◌, length, refl, sym, ◌∙◌, ap, ap₂, subst, arith, append_assoc, append-nil, if◌then◌else◌}
use Rattle.std.proofs.Math.Seq.{drop-append_seam}
use Rattle.std.specs.Prelude.{Option, Some, None, drop, filter, option_map}
use Rattle.fd_base.specs.declared.numbering.Line.{Line}
use Rattle.fd_prog.specs.declared.run.Printed.{Printed}
use Rattle.fd_prog.specs.Run.{Run}
use Rattle.fd_prog.specs.Sequence.{sequential_run}
use Rattle.exec_code.specs.Instructions as code
use Rattle.exec_code.specs.Instructions.{Instruction, FlatJob}
use Rattle.exec_code.specs.Machine.{Configuration, Effect, Goes, Notes, Faults, Ends, Strays, effect, act_where, instruction_at, line_at, first_configuration}
use Rattle.exec_code.specs.Sound.{IsSoundJob}
use Rattle.exec_code.specs.Traces.{Noted, noted_at, noted_by, next, next_in, walked, where_some, first_noted, or_else, run_until}
use Rattle.exec_code.proofs.Growing.{goes_grows, notes_counts}
use Rattle.message_laws.specs.Behaviour.{Behaviour, Failure, Action, Act, Post, Take, Fail, End, is_last, printed, printed_by}
use Rattle.message_laws.specs.Outcomes.{failure, lines_before, lines_of, all_lines, IsFirstFault, IsRight}
use Rattle.message_laws.specs.Protocol.{Event, Local, Send, Recv, Exchange, each, request_to, reply_to, receive_from, message_steps}
use Rattle.message_laws.specs.System.{Pick, IsInterleaving, first_state, reached, IsComplete}
use Rattle.message_laws.specs.Traces.{Entry, numbered, way, nth, action_in, front}
use Rattle.message_laws.proofs.Ways.{some_not_none}
use Rattle.message_laws.proofs.Whole.{first_facts, reached_facts, is_right}
use Rattle.rank_behaviour.specs.Exchanged.{event_at, event_where, event_among}
use Rattle.rank_behaviour.specs.Jobs.{configurations, exchange_of, trace_of, of_some, failure_in, actions_at, steps_by, step_by, executes_at, HaveExecutors, behaviour_of_job}
use Rattle.rank_behaviour.proofs.Balance.{trace_is, front_all, nth_last}
use Rattle.rank_behaviour.proofs.Counting.{steps_at}
use Rattle.rank_behaviour.proofs.Lawful.{among_local, lawful_job}

-- ---- the lines of some actions

abbrev printed_in : List Action → List Printed
printed_in [] = []
printed_in (a ∷ xs) = printed_by a ++ printed_in xs

printed_append : (xs ys : List Action) → printed_in (xs ++ ys) ≡ printed_in xs ++ printed_in ys
printed_append [] ys = refl
printed_append (a ∷ xs) ys = ap (λ ls. printed_by a ++ ls) (printed_append xs ys) ∙ sym (append_assoc (printed_by a) (printed_in xs) (printed_in ys))

both_quiet : (xs ys : List Action) → printed_in xs ≡ [] → printed_in ys ≡ [] → printed_in (xs ++ ys) ≡ []
both_quiet xs ys x y = printed_append xs ys ∙ ap₂ (λ (ls ms : List Printed). ls ++ ms) x y

each_quiet : (q n : ℕ) (f : ℕ → List Action) → ((r : ℕ) → printed_in (f r) ≡ []) → printed_in (each q n f) ≡ []
each_quiet q zero f h = refl
each_quiet q (suc n) f h = both_quiet (each q n f) (if n == q then [] else f n) (each_quiet q n f h) (by (n == q))
  where
    by : (b : Bool) → printed_in (if b then [] else f n) ≡ []
    by true = refl
    by false = h n

-- messages print nothing
messages_quiet : (x : Exchange) (ranks n : ℕ) (e : Event) (q : ℕ) → printed_in (message_steps x ranks n e q) ≡ []
messages_quiet x ranks n Local q = refl
messages_quiet x ranks n (Send item) q =
    both_quiet (each q ranks (request_to x n item q)) (each q ranks (reply_to x n item q)) (each_quiet q ranks (request_to x n item q) (λ r. refl)) (each_quiet q ranks (reply_to x n item q) (λ r. refl))
messages_quiet x ranks n (Recv item) q = each_quiet q ranks (receive_from item) (λ r. refl)

-- ---- the lines of a configuration

if_quiet : (b : Bool) (f : Failure) → printed_in ((if b then Fail f else Act []) ∷ []) ≡ []
if_quiet true f = refl
if_quiet false f = refl

-- at a step the lines gain what rank 0 prints
step_gains : (j : FlatJob) (c d : Configuration) (e : Effect) → effect j c ≡ e → next_in e ≡ Some d → d.now.lines ≡ c.now.lines ++ printed_in (step_by j c 0 e)
step_gains j c d (Goes x) is n =
    let same : x ≡ d = cc in
    let g = goes_grows j c x is in
    let drops : drop (length c.now.lines) x.now.lines ≡ g.more = ap (drop (length c.now.lines)) g.lines ∙ drop-append_seam c.now.lines g.more in
    let gain : x.now.lines ≡ c.now.lines ++ (drop (length c.now.lines) x.now.lines ++ []) =
    g.lines ∙ ap (λ ls. c.now.lines ++ ls) (sym (append-nil (drop (length c.now.lines) x.now.lines) ∙ drops)) in
    subst (λ (y : Configuration). y.now.lines ≡ c.now.lines ++ printed_in (step_by j c 0 (Goes x))) same gain
step_gains j c d (Notes kind x) is n =
    let same : x ≡ d = cc in
    let counts = notes_counts j c x kind is in
    let gain : x.now.lines ≡ c.now.lines ++ printed_in (step_by j c 0 (Notes kind x)) =
    counts.lines ∙ sym (ap (λ ls. c.now.lines ++ ls) (if_quiet (executes_at j c 0) (failure (line_at j c.at) kind)) ∙ append-nil c.now.lines) in
    subst (λ (y : Configuration). y.now.lines ≡ c.now.lines ++ printed_in (step_by j c 0 (Notes kind x))) same gain
step_gains j c d (Faults kind) is n = absurd (some_not_none (sym n))
step_gains j c d Ends is n = absurd (some_not_none (sym n))
step_gains j c d Strays is n = absurd (some_not_none (sym n))

step_over : (j : FlatJob) (c : Configuration) (e : Effect) → next_in e ≡ None → printed_in (step_by j c 0 e) ≡ []
step_over j c (Goes x) n = absurd (some_not_none n)
step_over j c (Notes kind x) n = absurd (some_not_none n)
step_over j c (Faults kind) n = refl
step_over j c Ends n = refl
step_over j c Strays n = refl

-- at a Send or a Recv the machine goes on with what it has
passed_by : (j : FlatJob) (c : Configuration) (i : Option Instruction) → (event_where i ≡ Local → ⊥) → act_where j i c ≡ Goes (record c { at = suc c.at })
passed_by j c None h = absurd (h refl)
passed_by j c (Some (code.Assign target e)) h = absurd (h refl)
passed_by j c (Some (code.Read target)) h = absurd (h refl)
passed_by j c (Some (code.Print items)) h = absurd (h refl)
passed_by j c (Some code.Skip) h = absurd (h refl)
passed_by j c (Some (code.Install decomp number)) h = absurd (h refl)
passed_by j c (Some (code.Test condition no_side)) h = absurd (h refl)
passed_by j c (Some (code.Start var first last by)) h = absurd (h refl)
passed_by j c (Some (code.Turn var exit)) h = absurd (h refl)
passed_by j c (Some (code.Jump to)) h = absurd (h refl)
passed_by j c (Some (code.Send x)) h = refl
passed_by j c (Some (code.Recv x)) h = refl
passed_by j c (Some code.Stop) h = absurd (h refl)

message_gains : (j : FlatJob) (n : ℕ) (c d : Configuration) (e : Event) → (e ≡ Local → ⊥) → event_at j c ≡ e → next j c ≡ Some d → d.now.lines ≡ c.now.lines ++ printed_in (message_steps (exchange_of j) j.ranks n e 0)
message_gains j n c d e other is h =
    let not_local : event_where (instruction_at j c.at) ≡ Local → ⊥ = λ l. other (sym is ∙ ap (event_among (nat_lt 1 j.ranks)) l ∙ among_local (nat_lt 1 j.ranks)) in
    let goes : effect j c ≡ Goes (record c { at = suc c.at }) = passed_by j c (instruction_at j c.at) not_local in
    let to : Some (record c { at = suc c.at }) ≡ Some d = sym (ap next_in goes) ∙ h in
    let same : record c { at = suc c.at } ≡ d = cc in
    let lines : d.now.lines ≡ c.now.lines = sym (ap (λ (x : Configuration). x.now.lines) same) in
    lines ∙ sym (ap (λ ls. c.now.lines ++ ls) (messages_quiet (exchange_of j) j.ranks n e 0) ∙ append-nil c.now.lines)

gains_by : (j : FlatJob) (n : ℕ) (c d : Configuration) (e : Event) → event_at j c ≡ e → next j c ≡ Some d → d.now.lines ≡ c.now.lines ++ printed_in (steps_by j (exchange_of j) n c 0 e)
gains_by j n c d Local is h = step_gains j c d (effect j c) refl h
gains_by j n c d (Send item) is h = message_gains j n c d (Send item) (λ e. absurd (cc)) is h
gains_by j n c d (Recv item) is h = message_gains j n c d (Recv item) (λ e. absurd (cc)) is h

over_by : (j : FlatJob) (n : ℕ) (c : Configuration) (e : Event) → next j c ≡ None → printed_in (steps_by j (exchange_of j) n c 0 e) ≡ []
over_by j n c Local h = step_over j c (effect j c) h
over_by j n c (Send item) h = messages_quiet (exchange_of j) j.ranks n (Send item) 0
over_by j n c (Recv item) h = messages_quiet (exchange_of j) j.ranks n (Recv item) 0

-- ---- along the trace

-- what stands behind a configuration of the trace comes next to it
record Before (j : FlatJob) (cs : List Configuration) (n : ℕ) (d : Configuration) : Type 0 where
  pub element : Configuration
  pub is : nth cs n ≡ Some element
  pub leads : next j element ≡ Some d

behind_some : (j : FlatJob) (fuel : ℕ) (o : Option Configuration) (d : Configuration) → nth (where_some (walked j fuel) o) 0 ≡ Some d → o ≡ Some d
behind_some j fuel None d e = absurd (some_not_none (sym e))
behind_some j zero (Some x) d e = absurd (some_not_none (sym e))
behind_some j (suc fuel) (Some x) d e = e

before_where : (j : FlatJob) (fuel n : ℕ) (d : Configuration) (o : Option Configuration) → ((x : Configuration) → nth (walked j fuel x) (suc n) ≡ Some d → Before j (walked j fuel x) n d)
    → nth (where_some (walked j fuel) o) (suc n) ≡ Some d → Before j (where_some (walked j fuel) o) n d
before_where j fuel n d None go h = absurd (some_not_none (sym h))
before_where j fuel n d (Some x) go h = go x h

before_by : (j : FlatJob) (fuel : ℕ) (c : Configuration) (n : ℕ) (d : Configuration) → nth (walked j fuel c) (suc n) ≡ Some d → Before j (walked j fuel c) n d
before_by j zero c n d e = absurd (some_not_none (sym e))
before_by j (suc fuel) c zero d e = record { element = c; is = refl; leads = behind_some j fuel (next j c) d e }
before_by j (suc fuel) c (suc n) d e = let r = before_where j fuel n d (next j c) (λ x h. before_by j fuel x n d h) e in record { element = r.element; is = r.is; leads = r.leads }

head_is : (j : FlatJob) (fuel : ℕ) (c d : Configuration) → nth (walked j fuel c) 0 ≡ Some d → c ≡ d
head_is j zero c d e = absurd (some_not_none (sym e))
head_is j (suc fuel) c d e = cc

-- what rank 0 prints at the first n configurations
abbrev printed_to : FlatJob → ℕ → List Printed
printed_to j zero = []
printed_to j (suc n) = printed_to j n ++ printed_in ((trace_of j).actions n 0)

lines_at : (j : FlatJob) (n : ℕ) (c : Configuration) → nth (configurations j) n ≡ Some c → c.now.lines ≡ printed_to j n
lines_at j zero c e = ap (λ (x : Configuration). x.now.lines) (sym (head_is j ((j.limit + 2) * (length j.code.instructions + 1)) (first_configuration j) c e))
lines_at j (suc n) d e =
    let r = before_by j ((j.limit + 2) * (length j.code.instructions + 1)) (first_configuration j) n d e in
    let c = r.element in
    let acts : (trace_of j).actions n 0 ≡ actions_at j n 0 c = ap (of_some [] (actions_at j n 0)) r.is in
    gains_by j n c d (event_at j c) refl r.leads ∙ ap₂ (λ (ls ms : List Printed). ls ++ ms) (lines_at j n c r.is) (ap printed_in (sym acts))

-- ---- along rank 0's way

abbrev actions_in : List Entry → List Action
actions_in [] = []
actions_in (e ∷ es) = e.action ∷ actions_in es

actions_append : (es fs : List Entry) → actions_in (es ++ fs) ≡ actions_in es ++ actions_in fs
actions_append [] fs = refl
actions_append (e ∷ es) fs = ap (λ xs. e.action ∷ xs) (actions_append es fs)

numbered_are : (n : ℕ) (xs : List Action) → actions_in (numbered n xs) ≡ xs
numbered_are n [] = refl
numbered_are n (a ∷ xs) = ap (λ ys. a ∷ ys) (numbered_are n xs)

way_prints : (j : FlatJob) (n : ℕ) → printed_in (actions_in (way (trace_of j) 0 n)) ≡ printed_to j n
way_prints j zero = refl
way_prints j (suc n) =
    let before = way (trace_of j) 0 n in
    let here = (trace_of j).actions n 0 in
    ap printed_in (actions_append before (numbered n here)) ∙ printed_append (actions_in before) (actions_in (numbered n here))
    ∙ ap₂ (λ (ls ms : List Printed). ls ++ ms) (way_prints j n) (ap printed_in (numbered_are n here))

front_prints : (es : List Entry) (p : ℕ) → printed_in (actions_in (front (suc p) es)) ≡ printed_in (actions_in (front p es)) ++ printed_by (action_in (nth es p))
front_prints [] zero = refl
front_prints [] (suc p) = refl
front_prints (e ∷ es) zero = append-nil (printed_by e.action)
front_prints (e ∷ es) (suc p) =
    ap (λ ls. printed_by e.action ++ ls) (front_prints es p) ∙ sym (append_assoc (printed_by e.action) (printed_in (actions_in (front p es))) (printed_by (action_in (nth es p))))

place_prints : (j : FlatJob) (p : ℕ) → printed (behaviour_of_job j) 0 p ≡ printed_in (actions_in (front p (way (trace_of j) 0 (trace_of j).count)))
place_prints j zero = refl
place_prints j (suc p) = ap (λ ls. ls ++ printed_by ((behaviour_of_job j).action 0 p)) (place_prints j p) ∙ sym (front_prints (way (trace_of j) 0 (trace_of j).count) p)

front_last : (es : List Entry) → front (suc (length es - 1)) es ≡ es
front_last [] = refl
front_last (e ∷ es) = let one : suc (length es) - 1 ≡ length es = omega arith in ap (λ (n : ℕ). e ∷ front n es) one ∙ ap (λ fs. e ∷ fs) (front_all es)

last_quiet : (a : Action) → IsTrue (is_last a) → printed_by a ≡ []
last_quiet (Act lines) h = absurd (cc)
last_quiet (Post to m) h = refl
last_quiet (Take from tag) h = refl
last_quiet (Fail f) h = refl
last_quiet End h = refl

-- rank 0 prints the lines of the last configuration
lines_are : (j : FlatJob) (s : IsSoundJob j) → HaveExecutors j → all_lines (behaviour_of_job j) ≡ s.follows.last.now.lines
lines_are j s executors =
    let b = behaviour_of_job j in
    let some = s.some_ranks in
    let es = way (trace_of j) 0 (trace_of j).count in
    let quiet : printed_by (b.action 0 (b.last 0)) ≡ [] = last_quiet (b.action 0 (b.last 0)) ((lawful_job j s executors).is_last 0 (omega (arith, some))) in
    let one_more : printed b 0 (suc (b.last 0)) ≡ all_lines b = ap (λ ls. all_lines b ++ ls) quiet ∙ append-nil (all_lines b) in
    let whole : printed b 0 (suc (b.last 0)) ≡ printed_to j (trace_of j).count =
    place_prints j (suc (b.last 0)) ∙ ap (λ fs. printed_in (actions_in fs)) (front_last es) ∙ way_prints j (trace_of j).count in
    let m = length s.follows.before in
    let here : nth (configurations j) m ≡ Some s.follows.last = ap (λ (cs : List Configuration). nth cs m) (trace_is j s) ∙ nth_last s.follows.before s.follows.last in
    let count : (trace_of j).count ≡ suc m = ap length (trace_is j s) ∙ counted s.follows.before s.follows.last in
    let acts : (trace_of j).actions m 0 ≡ actions_at j m 0 s.follows.last = ap (of_some [] (actions_at j m 0)) here in
    let over : printed_in ((trace_of j).actions m 0) ≡ [] = ap printed_in acts ∙ over_by j m s.follows.last (event_at j s.follows.last) s.follows.trace.over in
    sym one_more ∙ whole ∙ ap (printed_to j) count ∙ ap (λ ls. printed_to j m ++ ls) over ∙ append-nil (printed_to j m) ∙ sym (lines_at j m s.follows.last here)
  where
    counted : (cs : List Configuration) (c : Configuration) → length (cs ++ (c ∷ [])) ≡ suc (length cs)
    counted [] c = refl
    counted (x ∷ cs) c = ap suc (counted cs c)

-- ---- the first fault

none_noted : (j : FlatJob) (cs : List Configuration) → first_noted j cs ≡ None → (n : ℕ) → of_some None (noted_at j) (nth cs n) ≡ None
none_noted j [] e n = refl
none_noted j (c ∷ cs) e n = by (noted_at j c) refl (λ h m. none_noted j cs h m) e n
  where
    by : (o : Option Noted) → noted_at j c ≡ o → (first_noted j cs ≡ None → (m : ℕ) → of_some None (noted_at j) (nth cs m) ≡ None) → or_else o (first_noted j cs) ≡ None → (n : ℕ) → of_some None (noted_at j) (nth (c ∷ cs) n) ≡ None
    by None is go h zero = is
    by None is go h (suc n) = go h n
    by (Some f) is go h n = absurd (some_not_none h)

record First (j : FlatJob) (cs : List Configuration) (f : Noted) : Type 0 where
  pub at : ℕ
  pub element : Configuration
  pub is : nth cs at ≡ Some element
  pub noted : noted_at j element ≡ Some f
  pub none_before : (d : ℕ) → d < at → of_some None (noted_at j) (nth cs d) ≡ None

none_earlier : (j : FlatJob) (c : Configuration) (cs : List Configuration) (n : ℕ) → noted_at j c ≡ None → ((d : ℕ) → d < n → of_some None (noted_at j) (nth cs d) ≡ None) → (d : ℕ) → d < suc n
    → of_some None (noted_at j) (nth (c ∷ cs) d) ≡ None
none_earlier j c cs n is h zero lt = is
none_earlier j c cs n is h (suc d) lt = h d (omega (arith, lt))

some_noted : (j : FlatJob) (cs : List Configuration) (f : Noted) → first_noted j cs ≡ Some f → First j cs f
some_noted j [] f e = absurd (some_not_none (sym e))
some_noted j (c ∷ cs) f e = by (noted_at j c) refl (λ h. some_noted j cs f h) e
  where
    by : (o : Option Noted) → noted_at j c ≡ o → (first_noted j cs ≡ Some f → First j cs f) → or_else o (first_noted j cs) ≡ Some f → First j (c ∷ cs) f
    by None is go h = let r = go h in record { at = suc r.at; element = r.element; is = r.is; noted = r.noted; none_before = none_earlier j c cs r.at is r.none_before }
    by (Some g) is go h = record { at = 0; element = c; is = refl; noted = is ∙ h; none_before = λ d lt. absurd (omega (arith, lt)) }

noted_step : (steps : ℕ) (line : Line) (e : Effect) (f : Noted) → noted_by steps line e ≡ Some f → f.step ≡ suc steps
noted_step steps line (Goes d) f h = absurd (some_not_none (sym h))
noted_step steps line (Notes kind d) f h = let same : record { step = steps + 1; line = line; kind = kind } ≡ f = cc in sym (ap (λ (x : Noted). x.step) same) ∙ omega arith
noted_step steps line (Faults kind) f h = let same : record { step = steps + 1; line = line; kind = kind } ≡ f = cc in sym (ap (λ (x : Noted). x.step) same) ∙ omega arith
noted_step steps line Ends f h = absurd (some_not_none (sym h))
noted_step steps line Strays f h = absurd (some_not_none (sym h))

-- the outcome of a run and its lines are those of a behaviour
record EndsSo (b : Behaviour) (run : Run) : Type 0 where
  pub first : IsFirstFault b run.outcome
  pub lines : lines_before run.outcome (all_lines b) ≡ run.lines

ends_by : (j : FlatJob) (o : Option Noted) (lines : List Printed) → first_noted j (configurations j) ≡ o → all_lines (behaviour_of_job j) ≡ lines → EndsSo (behaviour_of_job j) (run_until o lines)
ends_by j None lines e is = record { first = λ n. ap (option_map failure_in) (none_noted j (configurations j) e n); lines = is }
ends_by j (Some f) lines e is =
    let r = some_noted j (configurations j) f e in
    let steps : (behaviour_of_job j).completed r.at ≡ r.element.now.steps = steps_at j (configurations j) 0 r.at r.element r.is in
    let step : f.step ≡ suc ((behaviour_of_job j).completed r.at) = noted_step r.element.now.steps (line_at j r.element.at) (effect j r.element) f r.noted ∙ ap suc (sym steps) in
    let noted : (behaviour_of_job j).noted r.at ≡ Some (failure f.line f.kind) = ap (λ (o : Option Configuration). option_map failure_in (of_some None (noted_at j) o)) r.is ∙ ap (option_map failure_in) r.noted in
    record {
      first = (r.at, step, noted, λ d lt. ap (option_map failure_in) (r.none_before d lt));
      lines = ap (filter (λ (l : Printed). nat_lt l.step f.step)) is;
    }

ends_so : (j : FlatJob) (s : IsSoundJob j) → HaveExecutors j → EndsSo (behaviour_of_job j) (sequential_run j.program j.input j.limit)
ends_so j s executors =
    subst (EndsSo (behaviour_of_job j)) s.follows.run
    (ends_by j (first_noted j (s.follows.before ++ (s.follows.last ∷ []))) s.follows.last.now.lines (ap (first_noted j) (trace_is j s)) (lines_are j s executors))

-- every order of steps of a job's ranks is right by the run in sequence, and prints its lines
pub prints_run : (j : FlatJob) → IsSoundJob j → HaveExecutors j → (picks : List Pick) → IsInterleaving (behaviour_of_job j) first_state picks
    → IsRight (behaviour_of_job j) (reached first_state picks) (sequential_run j.program j.input j.limit).outcome
    × (IsComplete (behaviour_of_job j) (reached first_state picks)
    → lines_before (sequential_run j.program j.input j.limit).outcome (lines_of (behaviour_of_job j) (reached first_state picks)) ≡ (sequential_run j.program j.input j.limit).lines)
prints_run j s executors picks i =
    let b = behaviour_of_job j in
    let h = lawful_job j s executors in
    let some = s.some_ranks in
    let end = ends_so j s executors in
    let right = is_right b h (omega (arith, some)) (reached first_state picks) (reached_facts b h first_state (first_facts b) picks i) (sequential_run j.program j.input j.limit).outcome end.first in
    (right, λ complete. right.lines complete ∙ end.lines)
