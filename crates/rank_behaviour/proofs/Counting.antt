-- The steps along a job's trace.
use Rattle.std.proofs.Common.{◌≡◌, ℕ, zero, suc, ◌+◌, ◌*◌, ◌<◌, ◌≤◌, ◌==◌, ℤ, Bool, true, false, nat_lt, List, [], ◌∷◌, length, refl, sym, ◌∙◌, ap, subst, arith, if◌then◌else◌}
use Rattle.std.proofs.Math.Seq.{drop-append_seam}
use Rattle.std.specs.Prelude.{Option, Some, None, Result, Ok, Err, drop, option_map}
use Rattle.std.specs.List.{AllByRecursion}
use Rattle.fd_base.specs.declared.numbers.FaultKind.{FaultKind}
use Rattle.fd_prog.specs.declared.run.Printed.{Printed}
use Rattle.fd_prog.specs.Homes.{Distribution}
use Rattle.fd_prog.specs.Sequence.{with_line, bounds_of, line_text}
use Rattle.fd_prog.specs.Stores.{Store, put, cell_of, read_into, readings_of}
use Rattle.fd_prog.specs.Values.{value_of, truth_of}
use Rattle.exec_code.specs.Instructions.{Instruction, Assign, Read, Print, Skip, Install, Test, Start, Turn, Jump, Send, Recv, Stop, FlatJob}
use Rattle.exec_code.specs.Machine.{OpenLoop, Configuration, Effect, Goes, Notes, Faults, Ends, Strays, limited, by_all, by_some, by_home, target_distribution, stepped, behind, choice, gained_after, turned, turn, act, act_where, effect, instruction_at, line_at, first_configuration}
use Rattle.exec_code.specs.Sound.{IsSoundJob}
use Rattle.exec_code.specs.Traces.{Noted, noted_at, noted_by, next, next_in, walked, where_some}
use Rattle.exec_code.proofs.Growing.{goes_grows, notes_counts, LinesAbove, LinesUpTo}
use Rattle.exec_code.proofs.Returning.{all_low}
use Rattle.message_laws.specs.Behaviour.{Failure, HaveStep, no_stop}
use Rattle.message_laws.specs.Traces.{nth}
use Rattle.message_laws.proofs.Ways.{some_not_none}
use Rattle.rank_behaviour.specs.Jobs.{configurations, of_some, failure_in, count_of, steps_behind, steps_among, printed_between}
use Rattle.rank_behaviour.proofs.Balance.{trace_is}

-- ---- one instruction completes at most one step

abbrev AtMostOne : Configuration → Effect → Type 0
AtMostOne c (Goes d) = d.now.steps ≤ c.now.steps + 1
AtMostOne c (Notes kind d) = Unit {0}
AtMostOne c (Faults kind) = Unit {0}
AtMostOne c Ends = Unit {0}
AtMostOne c Strays = Unit {0}

limited_one : (c : Configuration) (b : Bool) (e : Effect) → AtMostOne c e → AtMostOne c (limited b e)
limited_one c true e h = h
limited_one c false e h = tt

all_one : {A : Type 0} (c : Configuration) (r : Result A FaultKind) (go : A → Effect) → ((x : A) → AtMostOne c (go x)) → AtMostOne c (by_all r go)
all_one c (Ok x) go h = h x
all_one c (Err kind) go h = tt

some_one : {A : Type 0} (c d : Configuration) (r : Result A FaultKind) (go : A → Effect) → ((x : A) → AtMostOne c (go x)) → AtMostOne c (by_some d r go)
some_one c d (Ok x) go h = h x
some_one c d (Err kind) go h = tt

home_one : {A : Type 0} (c : Configuration) (home : Option Distribution) (d : Configuration) (r : Result A FaultKind) (go : A → Effect) → ((x : A) → AtMostOne c (go x)) → AtMostOne c (by_home home d r go)
home_one c None d r go h = all_one c r go h
home_one c (Some x) d r go h = some_one c d r go h

turned_one : (c : Configuration) (exit left : ℕ) (by : ℤ) (outer : List OpenLoop) (store : Store) → (turned c exit left by outer store).now.steps ≤ c.now.steps + 1
turned_one c exit zero by outer store = omega arith
turned_one c exit (suc left) by outer store = omega arith

turn_one : (j : FlatJob) (var exit : ℕ) (c : Configuration) (loops : List OpenLoop) → AtMostOne c (turn j var exit c loops)
turn_one j var exit c [] = tt
turn_one j var exit c (l ∷ outer) =
    limited_one c (nat_lt c.now.steps j.limit) (by_all (gained_after l.begun var l.by c.now.store) (λ store. Goes (turned c exit l.left l.by outer store)))
    (all_one c (gained_after l.begun var l.by c.now.store) (λ store. Goes (turned c exit l.left l.by outer store)) (λ store. turned_one c exit l.left l.by outer store))

act_one : (j : FlatJob) (i : Instruction) (c : Configuration) → AtMostOne c (act j i c)
act_one j (Assign target e) c =
    limited_one c (nat_lt c.now.steps j.limit) _
    (all_one c (cell_of (readings_of j.program c.now.store) target) _
    (λ cell. home_one c (target_distribution j.program target) (behind c (suc c.at) c.now.store) (value_of (readings_of j.program c.now.store) e)
    (λ x. Goes (behind c (suc c.at) (put cell x c.now.store))) (λ x. omega arith)))
act_one j (Read target) c =
    limited_one c (nat_lt c.now.steps j.limit) _ (all_one c (read_into j.program j.input target c.now.store) (λ store. Goes (behind c (suc c.at) store)) (λ store. omega arith))
act_one j (Print items) c =
    limited_one c (nat_lt c.now.steps j.limit) _
    (some_one c (behind c (suc c.at) c.now.store) (line_text (readings_of j.program c.now.store) items) (λ text. Goes (record c { at = suc c.at; now = with_line text (stepped c.now) })) (λ text. omega arith))
act_one j Skip c = limited_one c (nat_lt c.now.steps j.limit) (Goes (behind c (suc c.at) c.now.store)) (omega arith)
act_one j (Install decomp number) c = limited_one c (nat_lt c.now.steps j.limit) _ (omega arith)
act_one j (Test condition no_side) c =
    limited_one c (nat_lt c.now.steps j.limit) _ (all_one c (truth_of (readings_of j.program c.now.store) condition) (λ b. Goes (behind c (choice b (suc c.at) no_side) c.now.store)) (λ b. omega arith))
act_one j (Start var first last by) c =
    limited_one c (nat_lt c.now.steps j.limit) _ (all_one c (bounds_of (readings_of j.program c.now.store) first last by) _ (λ b. omega arith))
act_one j (Turn var exit) c = turn_one j var exit c c.loops
act_one j (Jump to) c = omega arith
act_one j (Send x) c = omega arith
act_one j (Recv x) c = omega arith
act_one j Stop c = tt

where_one : (j : FlatJob) (i : Option Instruction) (c : Configuration) → AtMostOne c (act_where j i c)
where_one j None c = tt
where_one j (Some i) c = act_one j i c

goes_one : (j : FlatJob) (c d : Configuration) → effect j c ≡ Goes d → d.now.steps ≤ c.now.steps + 1
goes_one j c d h = subst (AtMostOne c) h (where_one j (instruction_at j c.at) c)

-- ---- lines

between_steps : (n m : ℕ) (ls : List Printed) → m ≤ n + 1 → LinesAbove n ls → LinesUpTo m ls → HaveStep (suc n) ls
between_steps n m [] le a u = tt
between_steps n m (l ∷ ls) le a u = let x = a.0 in let y = u.0 in (omega (arith, le, x, y), between_steps n m ls le a.1 u.1)

lines_by : (j : FlatJob) (rank : ℕ) (c d : Configuration) (b : Bool) → (rank == 0) ≡ b → effect j c ≡ Goes d → HaveStep (suc c.now.steps) (printed_between rank c d)
lines_by j rank c d false e h = rw e tt
lines_by j rank c d true e h =
    let g = goes_grows j c d h in
    let is : printed_between rank c d ≡ g.more =
    ap (λ (x : Bool). if x then drop (length c.now.lines) d.now.lines else []) e ∙ ap (drop (length c.now.lines)) g.lines ∙ drop-append_seam c.now.lines g.more in
    subst (λ (ls : List Printed). HaveStep (suc c.now.steps) ls) (sym is) (between_steps c.now.steps d.now.steps g.more (goes_one j c d h) g.above g.up_to)

pub lines_have_step : (j : FlatJob) (rank : ℕ) (c d : Configuration) → effect j c ≡ Goes d → HaveStep (suc c.now.steps) (printed_between rank c d)
lines_have_step j rank c d h = lines_by j rank c d (rank == 0) refl h

-- ---- steps

next_behind : (j : FlatJob) (c d : Configuration) (e : Effect) → effect j c ≡ e → next_in e ≡ Some d → c.now.steps + count_of (noted_by c.now.steps (line_at j c.at) e) ≤ d.now.steps
next_behind j c d (Goes x) h n = let same : x ≡ d = cc in let g = (goes_grows j c x h).steps in subst (λ (y : Configuration). c.now.steps + 0 ≤ y.now.steps) same (omega (arith, g))
next_behind j c d (Notes kind x) h n = let same : x ≡ d = cc in let g = (notes_counts j c x kind h).steps in subst (λ (y : Configuration). c.now.steps + 1 ≤ y.now.steps) same (omega (arith, g))
next_behind j c d (Faults kind) h n = absurd (some_not_none (sym n))
next_behind j c d Ends h n = absurd (some_not_none (sym n))
next_behind j c d Strays h n = absurd (some_not_none (sym n))

steps_behind_next : (j : FlatJob) (c d : Configuration) → next j c ≡ Some d → steps_behind j c ≤ d.now.steps
steps_behind_next j c d n = next_behind j c d (effect j c) refl n

first_behind : (j : FlatJob) (fuel before : ℕ) (d : Configuration) → before ≤ d.now.steps → before ≤ steps_among j before (walked j fuel d) 0
first_behind j zero before d le = omega arith
first_behind j (suc fuel) before d le = le

head_behind : (j : FlatJob) (fuel : ℕ) (c : Configuration) (o : Option Configuration) → next j c ≡ o → steps_behind j c ≤ steps_among j (steps_behind j c) (where_some (walked j fuel) o) 0
head_behind j fuel c None e = omega arith
head_behind j fuel c (Some d) e = first_behind j fuel (steps_behind j c) d (steps_behind_next j c d e)

-- from one configuration on the steps rise
abbrev Rises : FlatJob → ℕ → List Configuration → Type 0
Rises j before cs = (n : ℕ) → steps_among j before cs n ≤ steps_among j before cs (suc n)

rise_next : (j : FlatJob) (fuel : ℕ) (c : Configuration) (o : Option Configuration) → next j c ≡ o → ((before : ℕ) (d : Configuration) → before ≤ d.now.steps → Rises j before (walked j fuel d))
    → Rises j (steps_behind j c) (where_some (walked j fuel) o)
rise_next j fuel c None e go n = omega arith
rise_next j fuel c (Some d) e go n = go (steps_behind j c) d (steps_behind_next j c d e) n

rise : (j : FlatJob) (fuel before : ℕ) (c : Configuration) → before ≤ c.now.steps → Rises j before (walked j fuel c)
rise j zero before c le n = omega arith
rise j (suc fuel) before c le zero = let h = head_behind j fuel c (next j c) refl in omega (arith, h)
rise j (suc fuel) before c le (suc n) = rise_next j fuel c (next j c) refl (λ b d l. rise j fuel b d l) n

pub steps_rise : (j : FlatJob) (n : ℕ) → steps_among j 0 (configurations j) n ≤ steps_among j 0 (configurations j) (suc n)
steps_rise j n = rise j ((j.limit + 2) * (length j.code.instructions + 1)) 0 (first_configuration j) (omega arith) n

-- a noted fault counts
counts_one : (o : Option Noted) (f : Failure) → option_map failure_in o ≡ Some f → count_of o ≡ 1
counts_one None f e = absurd (some_not_none (sym e))
counts_one (Some x) f e = refl

abbrev Counted : FlatJob → ℕ → List Configuration → Type 0
Counted j before cs = (n : ℕ) (f : Failure) → option_map failure_in (of_some None (noted_at j) (nth cs n)) ≡ Some f → steps_among j before cs n < steps_among j before cs (suc n)

fault_next : (j : FlatJob) (fuel before : ℕ) (o : Option Configuration) → ((d : Configuration) → Counted j before (walked j fuel d)) → Counted j before (where_some (walked j fuel) o)
fault_next j fuel before None go n f e = absurd (some_not_none (sym e))
fault_next j fuel before (Some d) go n f e = go d n f e

fault_by : (j : FlatJob) (fuel before : ℕ) (c : Configuration) → Counted j before (walked j fuel c)
fault_by j zero before c n f e = absurd (some_not_none (sym e))
fault_by j (suc fuel) before c zero f e = let h = head_behind j fuel c (next j c) refl in let one = counts_one (noted_at j c) f e in omega (arith, h, one)
fault_by j (suc fuel) before c (suc n) f e = fault_next j fuel (steps_behind j c) (next j c) (λ d. fault_by j fuel (steps_behind j c) d) n f e

pub fault_counts : (j : FlatJob) (n : ℕ) (f : Failure) → option_map failure_in (of_some None (noted_at j) (nth (configurations j) n)) ≡ Some f → steps_among j 0 (configurations j) n < steps_among j 0 (configurations j) (suc n)
fault_counts j n f e = fault_by j ((j.limit + 2) * (length j.code.instructions + 1)) 0 (first_configuration j) n f e

count_few : (o : Option Noted) → count_of o ≤ 1
count_few None = omega arith
count_few (Some x) = omega arith

few_by : (j : FlatJob) (before : ℕ) (cs : List Configuration) → before ≤ j.limit + 1 → AllByRecursion (λ (c : Configuration). c.now.steps ≤ j.limit) cs → (n : ℕ) → steps_among j before cs n ≤ j.limit + 1
few_by j before [] le all n = le
few_by j before (c ∷ cs) le all zero = let x = all.0 in omega (arith, x)
few_by j before (c ∷ cs) le all (suc n) = let x = all.0 in let y = count_few (noted_at j c) in few_by j (steps_behind j c) cs (omega (arith, x, y)) all.1 n

pub steps_few : (j : FlatJob) (s : IsSoundJob j) (n : ℕ) → steps_among j 0 (configurations j) n < no_stop
steps_few j s n =
    let t = s.follows.trace in
    let low = all_low j (first_configuration j) s.follows.last s.follows.before t.walks (omega arith) in
    let all = subst (λ (cs : List Configuration). AllByRecursion (λ (c : Configuration). c.now.steps ≤ j.limit) cs) (sym (trace_is j s)) low in
    let few = few_by j 0 (configurations j) (omega arith) all n in
    let most = s.few_steps in
    omega (arith, few, most)

-- ---- the last configuration

abbrev EndsLast : FlatJob → List Configuration → Type 0
EndsLast j cs = (n : ℕ) (d : Configuration) → nth cs n ≡ Some d → next j d ≡ None → suc n ≡ length cs

last_next : (j : FlatJob) (fuel : ℕ) (o : Option Configuration) → ((x : Configuration) → EndsLast j (walked j fuel x)) → EndsLast j (where_some (walked j fuel) o)
last_next j fuel None go n d e over = absurd (some_not_none (sym e))
last_next j fuel (Some x) go n d e over = go x n d e over

last_by : (j : FlatJob) (fuel : ℕ) (c : Configuration) → EndsLast j (walked j fuel c)
last_by j zero c n d e over = absurd (some_not_none (sym e))
last_by j (suc fuel) c zero d e over = let same : c ≡ d = cc in ap (λ o. suc (length (where_some (walked j fuel) o))) (sym (ap (next j) same ∙ over))
last_by j (suc fuel) c (suc n) d e over = ap suc (last_next j fuel (next j c) (λ x. last_by j fuel x) n d e over)

pub last_is : (j : FlatJob) (n : ℕ) (d : Configuration) → nth (configurations j) n ≡ Some d → next j d ≡ None → suc n ≡ length (configurations j)
last_is j n d e over = last_by j ((j.limit + 2) * (length j.code.instructions + 1)) (first_configuration j) n d e over

-- the completed steps of a configuration are those that it has
pub steps_at : (j : FlatJob) (cs : List Configuration) (before n : ℕ) (c : Configuration) → nth cs n ≡ Some c → steps_among j before cs n ≡ c.now.steps
steps_at j [] before n c e = absurd (some_not_none (sym e))
steps_at j (d ∷ cs) before zero c e = let same : d ≡ c = cc in ap (λ (x : Configuration). x.now.steps) same
steps_at j (d ∷ cs) before (suc n) c e = steps_at j cs (steps_behind j d) n c e
