-- The machine follows the run in sequence, statement by statement, and passes a trail.
use Rattle.std.proofs.Common.{◌≡◌, ℕ, zero, suc, ◌+◌, ◌-◌, ◌≤◌, ℤ, Bool, true, false, List, [], ◌∷◌, ◌++◌, length, Some, Ok, refl, sym, ap, ◌∙◌, subst, arith, append_assoc}
use Rattle.fd_base.specs.declared.numbering.Line.{Line}
use Rattle.fd_base.specs.declared.numbers.FaultKind.TheVariants.{StepLimit}
use Rattle.fd_prog.specs.declared.statement.Remapped.{Remapped}
use Rattle.fd_prog.specs.Conditions.{Condition}
use Rattle.fd_prog.specs.Expressions.{Expression}
use Rattle.fd_prog.specs.Nodes as nodes
use Rattle.fd_prog.specs.Outcomes.{and_then}
use Rattle.fd_prog.specs.Sequence.{Progress, Onward, Task, ends_at, bounds_of, gained, line_text, with_line, iterations, looped, chosen, allowed, store_step, after, after_all}
use Rattle.fd_prog.specs.Statements.{Target, PrintItem, Statement, Assign, If, Do, While, Read, Print, Continue, Distribute, Statements}
use Rattle.fd_prog.specs.Stores.{Store, ScalarCell, put, cell_of, read_into, readings_of}
use Rattle.fd_prog.specs.Values.{value_of, truth_of}
use Rattle.fd_prog.proofs.Runs.{after-While}
use Rattle.exec_code.specs.Instructions as code
use Rattle.exec_code.specs.Instructions.{FlatJob, task_of}
use Rattle.exec_code.specs.Passing.{Mark, Makes, Decides, Turns, Starts, truth_way, left_way, step_events, instruction_marks, instruction_sites, instruction_name}
use Rattle.fd_prog.specs.Mappings.{Mapping, installed}
use Rattle.exec_code.specs.Machine.{OpenLoop, Configuration, Goes, Faults, limited, by_all, target_distribution, stepped, behind, choice, turned, act, instruction_at, line_at}
use Rattle.exec_code.specs.Trails.{distributes_before, leaving}
use Rattle.exec_code.proofs.Trips.{standing, arrives, trip_then}
use Rattle.executor_gen.specs.Layout.{at_in}
use Rattle.executor_gen.proofs.Trailing.{Lay, At, Along, Coming, Aim, Towards, at_same, at_along, part_along, in_marks, quiet}
use Rattle.executor_gen.proofs.Skipping.{Go, Skips, skips_to}
use Rattle.executor_gen.proofs.Stepping.{passed, step_all, step_test, step_some, step_assign, limit_ends, no_step_left}
use Rattle.executor_gen.proofs.Standing.{Stands, Hop, hop_on, trip_hop, pad_hop, HasSimple, HasBranch, has_loop, has_latch}

-- from the block of node a the machine comes to that of node b, as the run in sequence comes past a statement
abbrev pub Follows : Lay → ℕ → ℕ → Statement → Type 0
Follows l a b s = (now : Progress) (mapping : Mapping) (loops : List OpenLoop) (ms : List Mark) → Coming l a ms → Go l (l.place b) loops (Towards b) (standing (l.place a) now mapping loops) ms (after (task_of l.job) s now)

abbrev pub FollowsAll : Lay → ℕ → ℕ → Statements → Type 0
FollowsAll l a b ss = (now : Progress) (mapping : Mapping) (loops : List OpenLoop) (ms : List Mark) → Coming l a ms → Go l (l.place b) loops (Towards b) (standing (l.place a) now mapping loops) ms (after_all (task_of l.job) ss now)

-- ---- simple statements

-- behind the step of a simple statement
simple_out : (l : Lay) (a : ℕ) (line : Line) (s : Statement) (h : HasSimple l a line s) (loops : List OpenLoop) (now : Progress) (mapping : Mapping) (ms : List Mark) → At l a ms
    → Go l (l.place (suc a)) loops (Towards (suc a)) (standing (suc h.at) now mapping loops) ms (Ok now)
simple_out l a line s h loops now mapping ms x =
    h.out (l.place (suc a)) loops (Towards (suc a)) loops now mapping ms (Ok now) (arrives now mapping (ms ++ leaving l.plan a) (h.leave ms x))

pub follows_assign : (l : Lay) (a : ℕ) (line : Line) (target : Target) (e : Expression) → HasSimple l a line (Assign line target e) → Follows l a (suc a) (Assign line target e)
follows_assign l a line target e h now mapping loops ms coming =
    let j = l.job in
    let s = Assign line target e in
    let i = code.Assign target e in
    let c = standing h.at now mapping loops in
    let xs = ms ++ in_marks l a in
    let come = h.arrive ms coming in
    h.into (l.place (suc a)) loops (Towards (suc a)) loops now mapping ms (after (task_of j) s now)
    (step_assign l (l.place (suc a)) loops (Towards (suc a)) c line i xs (target_distribution j.program target) (cell_of (readings_of j.program now.store) target) (value_of (readings_of j.program now.store) e)
    (λ store next. Ok (record next { store = store })) (Ok (stepped now)) (record { here = h.here; line_is = h.line_is; along = at_along l a _ come }) refl refl
    (simple_out l a line s h loops (stepped now) mapping (passed l c line i xs) come) (λ t. simple_out l a line s h loops (record (stepped now) { store = t }) mapping (passed l c line i xs) come))

pub follows_read : (l : Lay) (a : ℕ) (line : Line) (target : Target) → HasSimple l a line (Read line target) → Follows l a (suc a) (Read line target)
follows_read l a line target h now mapping loops ms coming =
    let j = l.job in
    let s = Read line target in
    let i = code.Read target in
    let c = standing h.at now mapping loops in
    let xs = ms ++ in_marks l a in
    let come = h.arrive ms coming in
    h.into (l.place (suc a)) loops (Towards (suc a)) loops now mapping ms (after (task_of j) s now)
    (step_all l (l.place (suc a)) loops (Towards (suc a)) c line i xs (read_into j.program j.input target now.store) (λ store next. Ok (record next { store = store })) (λ store. behind c (suc h.at) store)
    (record { here = h.here; line_is = h.line_is; along = at_along l a _ come }) refl refl (λ t. simple_out l a line s h loops (record (stepped now) { store = t }) mapping (passed l c line i xs) come))

pub follows_print : (l : Lay) (a : ℕ) (line : Line) (items : List PrintItem) → HasSimple l a line (Print line items) → Follows l a (suc a) (Print line items)
follows_print l a line items h now mapping loops ms coming =
    let j = l.job in
    let s = Print line items in
    let i = code.Print items in
    let c = standing h.at now mapping loops in
    let xs = ms ++ in_marks l a in
    let come = h.arrive ms coming in
    h.into (l.place (suc a)) loops (Towards (suc a)) loops now mapping ms (after (task_of j) s now)
    (step_some l (l.place (suc a)) loops (Towards (suc a)) c (behind c (suc h.at) now.store) line i xs (line_text (readings_of j.program now.store) items) (λ text next. Ok (with_line text next))
    (λ text. standing (suc h.at) (with_line text (stepped now)) mapping loops) (Ok (stepped now)) (record { here = h.here; line_is = h.line_is; along = at_along l a _ come }) refl refl
    (simple_out l a line s h loops (stepped now) mapping (passed l c line i xs) come) (λ text. simple_out l a line s h loops (with_line text (stepped now)) mapping (passed l c line i xs) come))

pub follows_continue : (l : Lay) (a : ℕ) (line : Line) → HasSimple l a line (Continue line) → Follows l a (suc a) (Continue line)
follows_continue l a line h now mapping loops ms coming =
    let j = l.job in
    let s = Continue line in
    let i = code.Skip in
    let c = standing h.at now mapping loops in
    let xs = ms ++ in_marks l a in
    let come = h.arrive ms coming in
    h.into (l.place (suc a)) loops (Towards (suc a)) loops now mapping ms (after (task_of j) s now)
    (step_all l (l.place (suc a)) loops (Towards (suc a)) c line i xs (Ok now.store) (λ store next. Ok (record next { store = store })) (λ store. behind c (suc h.at) store)
    (record { here = h.here; line_is = h.line_is; along = at_along l a _ come }) refl refl (λ t. simple_out l a line s h loops (record (stepped now) { store = t }) mapping (passed l c line i xs) come))

pub follows_distribute : (l : Lay) (a : ℕ) (line : Line) (decomp : ℕ) (given : Remapped) → HasSimple l a line (Distribute line decomp given) → Follows l a (suc a) (Distribute line decomp given)
follows_distribute l a line decomp given h now mapping loops ms coming =
    let j = l.job in
    let s = Distribute line decomp given in
    let i = code.Install decomp (distributes_before l.nodes a) in
    let c = standing h.at now mapping loops in
    let xs = ms ++ in_marks l a in
    let come = h.arrive ms coming in
    let next = installed j.program j.ranks decomp (distributes_before l.nodes a) now.store mapping in
    h.into (l.place (suc a)) loops (Towards (suc a)) loops now mapping ms (after (task_of j) s now)
    (step_all l (l.place (suc a)) loops (Towards (suc a)) c line i xs (Ok now.store) (λ store n. Ok (record n { store = store })) (λ store. standing (suc h.at) (record (stepped now) { store = store }) next loops)
    (record { here = h.here; line_is = h.line_is; along = at_along l a _ come }) refl refl (λ t. simple_out l a line s h loops (record (stepped now) { store = t }) next (passed l c line i xs) come))

-- ---- an IF

-- behind the test of an IF the machine goes into one side or the other
one_side : (l : Lay) (to : ℕ) (aim : Aim) (at other : ℕ) (so otherwise : Progress → Onward) (now : Progress) (mapping : Mapping) (loops : List OpenLoop) (ms : List Mark)
    → Go l to loops aim (standing at now mapping loops) (ms ++ (Decides true ∷ [])) (so now) → Go l to loops aim (standing other now mapping loops) (ms ++ (Decides false ∷ [])) (otherwise now)
    → (b : Bool) → Go l to loops aim (standing (choice b at other) now mapping loops) (ms ++ (Decides b ∷ [])) (chosen b so otherwise now)
one_side l to aim at other so otherwise now mapping loops ms x y true = x
one_side l to aim at other so otherwise now mapping loops ms x y false = y

pub follows_fork : (l : Lay) (a no_side b : ℕ) (line : Line) (c : Condition) (so otherwise : Statements) → HasBranch l a line c no_side → FollowsAll l (suc a) b so → FollowsAll l no_side b otherwise → Follows l a b (If line c so otherwise)
follows_fork l a no_side b line c so otherwise h on_yes on_no now mapping loops ms coming =
    let j = l.job in
    let t = task_of j in
    let i = code.Test c h.other in
    let at = standing h.at now mapping loops in
    let n = stepped now in
    let xs = ms ++ in_marks l a in
    let ys = passed l at line i xs in
    let yes_marks = ys ++ (Decides true ∷ []) in
    let no_marks = ys ++ (Decides false ∷ []) in
    let out = leaving l.plan a ++ [] in
    let come = h.arrive ms coming in
    h.into (l.place b) loops (Towards b) loops now mapping ms (after t (If line c so otherwise) now)
    (step_test l (l.place b) loops (Towards b) at line i xs (truth_of (readings_of j.program now.store) c) (λ v. chosen v (after_all t so) (after_all t otherwise)) (λ v. behind at (choice v (suc h.at) h.other) now.store) (λ v. v)
    (record { here = h.here; line_is = h.line_is; along = at_along l a _ come }) (λ v is. ap truth_way is) refl
    (λ v. one_side l (l.place b) (Towards b) (suc h.at) h.other (after_all t so) (after_all t otherwise) n mapping loops ys
    (h.yes_way (l.place b) loops (Towards b) loops n mapping yes_marks (after_all t so n) (on_yes n mapping loops (yes_marks ++ out) (h.leave_yes ys come)))
    (h.no_way (l.place b) loops (Towards b) loops n mapping no_marks (after_all t otherwise n) (on_no n mapping loops (no_marks ++ out) (h.leave_no ys come))) v))

-- statements with a hop before them and one behind
pub follows_between : (l : Lay) (a b c d : ℕ) (ss : Statements) → Hop l a b → FollowsAll l b c ss → Hop l c d → FollowsAll l a d ss
follows_between l a b c d ss h inside k now mapping loops ms coming =
    let o = after_all (task_of l.job) ss now in
    hop_on l a b h (l.place d) loops (Towards d) loops now mapping ms o coming
    (λ xs come. trip_hop l c d loops (standing (l.place b) now mapping loops) xs o k (inside now mapping loops xs come))

-- ---- a DO

-- behind a test of a DO with so many iterations left: at the body's first pad, or behind the loop
abbrev behind_test : ℕ → ℕ → ℤ → List OpenLoop → ℕ → Progress → Mapping → Configuration
behind_test exit turn by outer zero now mapping = standing exit now mapping outer
behind_test exit turn by outer (suc left) now mapping = standing (suc turn) now mapping (record { left = left; by = by; begun = true } ∷ outer)

turned_is : (exit turn : ℕ) (by : ℤ) (outer loops : List OpenLoop) (left : ℕ) (now : Progress) (mapping : Mapping) (s : Store)
    → behind_test exit turn by outer left (record (stepped now) { store = s }) mapping ≡ turned (standing turn now mapping loops) exit left by outer s
turned_is exit turn by outer loops zero now mapping s = refl
turned_is exit turn by outer loops (suc left) now mapping s = refl

-- where a DO has its parts: its Loop is node a, its Latch node `latch`, and behind it comes node b
record Round (l : Lay) (line : Line) (var exit turn a latch b : ℕ) (run : Progress → Onward) : Type 0 where
  here : instruction_at l.job turn ≡ Some (code.Turn var exit)
  line_is : line_at l.job turn ≡ line
  body : (now : Progress) (mapping : Mapping) (loops : List OpenLoop) (ms : List Mark) → At l a ms → Go l (l.place latch) loops (Towards latch) (standing (suc turn) now mapping loops) (ms ++ (Decides true ∷ [])) (run now)
  back_marks : List Mark
  back : Skips l (l.place latch) turn back_marks
  return : (ms : List Mark) → Coming l latch ms → At l a ((ms ++ back_marks) ++ instruction_marks l.job true line (code.Turn var exit))
  out_marks : List Mark
  out : Skips l exit (l.place b) out_marks
  leave : (ms : List Mark) → At l a ms → Coming l b ((ms ++ (Decides false ∷ [])) ++ out_marks)

iterate : (l : Lay) (line : Line) (var exit turn a latch b : ℕ) (run : Progress → Onward) → Round l line var exit turn a latch b run → (by : ℤ) (outer : List OpenLoop) (left : ℕ) (now : Progress) (mapping : Mapping) (ms : List Mark) → At l a ms
    → Go l (l.place b) outer (Towards b) (behind_test exit turn by outer left now mapping) (ms ++ (Decides (left_way left) ∷ [])) (iterations l.job.limit line var by run left now)
iterate l line var exit turn a latch b run r by outer zero now mapping ms x =
    r.out (l.place b) outer (Towards b) outer now mapping (ms ++ (Decides false ∷ [])) (Ok now) (arrives now mapping ((ms ++ (Decides false ∷ [])) ++ r.out_marks) (r.leave ms x))
iterate l line var exit turn a latch b run r by outer (suc left) now mapping ms x =
    let j = l.job in
    let end = l.place b in
    let aim = Towards b in
    let i = code.Turn var exit in
    let loops : List OpenLoop = record { left = left; by = by; begun = true } ∷ outer in
    let more = iterations j.limit line var by run left in
    trip_then j (Along l) (l.place latch) loops (Coming l latch) end outer (Coming l b) (standing (suc turn) now mapping loops) (ms ++ (Decides true ∷ [])) (run now) (λ next. store_step j.limit line next (gained var by next.store) more) (r.body now mapping loops ms x)
    (λ n ps xs coming later.
    let c = standing turn n ps loops in
    let ys = xs ++ r.back_marks in
    let come = r.return xs coming in
    r.back end outer aim loops n ps xs (store_step j.limit line n (gained var by n.store) more)
    (step_test l end outer aim c line i ys (gained var by n.store) (λ store next. more (record next { store = store })) (λ store. turned c exit left by outer store) (λ store. left_way left)
    (record { here = r.here; line_is = r.line_is; along = at_along l a _ come }) (λ store is. refl) refl
    (λ s. subst (λ d. Go l end outer aim d (passed l c line i ys ++ (Decides (left_way left) ∷ [])) (more (record (stepped n) { store = s }))) (turned_is exit turn by outer loops left n ps s)
    (iterate l line var exit turn a latch b run r by outer left (record (stepped n) { store = s }) ps (passed l c line i ys) come))))

-- the first test of a DO and its iterations
first_test : (l : Lay) (line : Line) (var exit turn a latch b : ℕ) (run : Progress → Onward) → Round l line var exit turn a latch b run → (by : ℤ) (outer : List OpenLoop) (count : ℕ) (now : Progress) (mapping : Mapping) (ms : List Mark)
    → At l a (ms ++ (Makes (Turns line var) ∷ [])) → Go l (l.place b) outer (Towards b) (standing turn now mapping (record { left = count; by = by; begun = false } ∷ outer)) ms (looped l.job.limit line var by run count now)
first_test l line var exit turn a latch b run r by outer count now mapping ms x =
    let j = l.job in
    let end = l.place b in
    let aim = Towards b in
    let i = code.Turn var exit in
    let loops : List OpenLoop = record { left = count; by = by; begun = false } ∷ outer in
    let c = standing turn now mapping loops in
    let more = iterations j.limit line var by run count in
    let come : At l a (passed l c line i ms) = at_same l a (ms ++ (Makes (Turns line var) ∷ [])) (passed l c line i ms) (ap (λ es. ms ++ (es ++ (Makes (Turns line var) ∷ []))) (sym (quiet j))) x in
    step_test l end outer aim c line i ms (Ok now.store) (λ store next. more (record next { store = store })) (λ store. turned c exit count by outer store) (λ store. left_way count)
    (record { here = r.here; line_is = r.line_is; along = at_along l a _ come }) (λ store is. refl) refl
    (λ s. subst (λ d. Go l end outer aim d (passed l c line i ms ++ (Decides (left_way count) ∷ [])) (more (record (stepped now) { store = s }))) (turned_is exit turn by outer loops count now mapping s)
    (iterate l line var exit turn a latch b run r by outer count (record (stepped now) { store = s }) mapping (passed l c line i ms) come))

pub follows_do : (l : Lay) (a latch b : ℕ) (line : Line) (var : ℕ) (first last by : Expression) (body : Statements) → suc latch ≡ b
    → Stands l a line (nodes.Loop (Do line var first last by body) latch) → Stands l (suc a) line nodes.Pad → Stands l latch line (nodes.Latch (Do line var first last by body) a)
    → FollowsAll l (suc (suc a)) latch body → Follows l a b (Do line var first last by body)
follows_do l a latch b line var first last by body e at_loop at_pad at_latch inside now mapping loops ms coming =
    let j = l.job in
    let t = task_of j in
    let s = Do line var first last by body in
    let x = has_loop l a line s latch at_loop in
    let y = has_latch l latch line s a at_latch at_loop in
    let q = l.place a + length (at_in l.plan a) in
    let exit = l.place latch + length (at_in l.plan latch) + 1 in
    let run = after_all t body in
    let to_pad : suc (suc q) ≡ l.place (suc a) = omega (arith, x.next) in
    let turn_at : q + 1 ≡ suc q = omega arith in
    let top = pad_hop l (suc a) line at_pad in
    let r : Round l line var exit (suc q) a latch b run = record {
      here = x.here.2.0;
      line_is = x.here.2.1;
      body = λ n ps ls ns z. subst (λ (p : ℕ). Go l (l.place latch) ls (Towards latch) (standing p n ps ls) (ns ++ (Decides true ∷ [])) (run n)) (sym to_pad)
          (hop_on l (suc a) (suc (suc a)) top (l.place latch) ls (Towards latch) ls n ps (ns ++ (Decides true ∷ [])) (run n) (x.enter ns z) (λ xs come. inside n ps ls xs come));
      back_marks = in_marks l latch ++ [];
      back = skips_to l (l.place latch) (q + 1) (suc q) (in_marks l latch ++ []) turn_at y.back;
      return = y.return;
      out_marks = leaving l.plan a;
      out = skips_to l exit (l.place (suc latch)) (l.place b) (leaving l.plan a) (ap l.place e) y.out;
      leave = λ ns z. subst (λ (k : ℕ). Coming l k ((ns ++ (Decides false ∷ [])) ++ leaving l.plan a)) e (x.leave ns z);
    } in
    let c = standing q now mapping loops in
    let i = code.Start var first last by in
    let xs = ms ++ in_marks l a in
    let events = step_events j (instruction_sites i) (instruction_name false i) in
    let begun = Makes (Starts line var first last by) in
    let tests = Makes (Turns line var) in
    let whole : At l a ((xs ++ (events ++ (begun ∷ []))) ++ (tests ∷ [])) =
    at_same l a (xs ++ (events ++ (begun ∷ (tests ∷ [])))) ((xs ++ (events ++ (begun ∷ []))) ++ (tests ∷ []))
    (ap (λ z. xs ++ z) (sym (append_assoc events (begun ∷ []) (tests ∷ []))) ∙ sym (append_assoc xs (events ++ (begun ∷ [])) (tests ∷ []))) (x.arrive ms coming) in
    x.into (l.place b) loops (Towards b) loops now mapping ms (after t s now)
    (step_all l (l.place b) loops (Towards b) c line i xs (bounds_of (readings_of j.program now.store) first last by)
    (λ v next. looped t.limit line var v.by run v.count (record next { store = put (ScalarCell var) v.first next.store }))
    (λ v. standing (suc q) (record (stepped now) { store = put (ScalarCell var) v.first now.store }) mapping (record { left = v.count; by = v.by; begun = false } ∷ loops))
    (record { here = x.here.0; line_is = x.here.1; along = part_along l a (xs ++ (events ++ (begun ∷ []))) (tests ∷ []) whole }) refl refl
    (λ v. first_test l line var exit (suc q) a latch b run r v.by loops v.count (record (stepped now) { store = put (ScalarCell var) v.first now.store }) mapping (passed l c line i xs) whole))

-- ---- a DO WHILE

-- what follows a test of a DO WHILE in the run in sequence
abbrev tested : Task → Line → Condition → Statements → Bool → Progress → Onward
tested t line c body v next = chosen v (λ inside. and_then (after_all t body inside) (after t (While line c body))) (λ outside. Ok outside) next

-- where a DO WHILE has its parts
record Repeat (l : Lay) (line : Line) (c : Condition) (exit test a latch b : ℕ) (run : Progress → Onward) : Type 0 where
  here : instruction_at l.job test ≡ Some (code.Test c exit)
  line_is : line_at l.job test ≡ line
  body : (now : Progress) (mapping : Mapping) (loops : List OpenLoop) (ms : List Mark) → At l a ms → Go l (l.place latch) loops (Towards latch) (standing (suc test) now mapping loops) (ms ++ (Decides true ∷ [])) (run now)
  back_marks : List Mark
  back : Skips l (l.place latch) test back_marks
  return : (ms : List Mark) → Coming l latch ms → At l a ((ms ++ back_marks) ++ instruction_marks l.job true line (code.Test c exit))
  out_marks : List Mark
  out : Skips l exit (l.place b) out_marks
  leave : (ms : List Mark) → At l a ms → Coming l b ((ms ++ (Decides false ∷ [])) ++ out_marks)

repeats : (l : Lay) (line : Line) (c : Condition) (body : Statements) (exit test a latch b : ℕ) → Repeat l line c exit test a latch b (after_all (task_of l.job) body) → (n : ℕ) (now : Progress) (mapping : Mapping) (loops : List OpenLoop) (ms : List Mark)
    → l.job.limit - now.steps ≤ n → At l a (ms ++ instruction_marks l.job true line (code.Test c exit)) → Go l (l.place b) loops (Towards b) (standing test now mapping loops) ms (after (task_of l.job) (While line c body) now)
repeats l line c body exit test a latch b r zero now mapping loops ms few come =
    let j = l.job in
    let t = task_of j in
    let i = code.Test c exit in
    let at = standing test now mapping loops in
    let held = truth_of (readings_of j.program now.store) c in
    let none = no_step_left j.limit now.steps few in
    let e : act j i at ≡ Faults StepLimit = ap (λ v. limited v (by_all held (λ h. Goes (behind at (choice h (suc test) exit) now.store)))) none in
    let o : ends_at line StepLimit now ≡ after t (While line c body) now = ap (λ v. allowed v line now held (tested t line c body)) (sym none) ∙ sym (after-While t line c body now) in
    subst (λ x. Go l (l.place b) loops (Towards b) at ms x) o
    (limit_ends l (l.place b) loops (Towards b) at line i ms (record { here = r.here; line_is = r.line_is; along = at_along l a (ms ++ instruction_marks j true line i) come }) e)
repeats l line c body exit test a latch b r (suc n) now mapping loops ms few come =
    let j = l.job in
    let t = task_of j in
    let i = code.Test c exit in
    let end = l.place b in
    let aim = Towards b in
    let at = standing test now mapping loops in
    let m = stepped now in
    let run = after_all t body in
    let again = after t (While line c body) in
    let xs = ms ++ instruction_marks j true line i in
    subst (λ x. Go l end loops aim at ms x) (sym (after-While t line c body now))
    (step_test l end loops aim at line i ms (truth_of (readings_of j.program now.store) c) (tested t line c body) (λ v. behind at (choice v (suc test) exit) now.store) (λ v. v)
    (record { here = r.here; line_is = r.line_is; along = at_along l a xs come }) (λ v is. ap truth_way is) refl
    (λ v. one_side l end aim (suc test) exit (λ inside. and_then (run inside) again) (λ outside. Ok outside) m mapping loops xs
    (trip_then j (Along l) (l.place latch) loops (Coming l latch) end loops (Coming l b) (standing (suc test) m mapping loops) (xs ++ (Decides true ∷ [])) (run m) again (r.body m mapping loops xs come)
    (λ next ps ys coming later. r.back end loops aim loops next ps ys (again next)
    (repeats l line c body exit test a latch b r n next ps loops (ys ++ r.back_marks) (omega arith) (r.return ys coming))))
    (r.out end loops aim loops m mapping (xs ++ (Decides false ∷ [])) (Ok m) (arrives m mapping ((xs ++ (Decides false ∷ [])) ++ r.out_marks) (r.leave xs come))) v))

pub follows_while : (l : Lay) (a latch b : ℕ) (line : Line) (c : Condition) (body : Statements) → suc latch ≡ b
    → Stands l a line (nodes.Loop (While line c body) latch) → Stands l (suc a) line nodes.Pad → Stands l latch line (nodes.Latch (While line c body) a)
    → FollowsAll l (suc (suc a)) latch body → Follows l a b (While line c body)
follows_while l a latch b line c body e at_loop at_pad at_latch inside now mapping loops ms coming =
    let j = l.job in
    let t = task_of j in
    let s = While line c body in
    let x = has_loop l a line s latch at_loop in
    let y = has_latch l latch line s a at_latch at_loop in
    let q = l.place a + length (at_in l.plan a) in
    let exit = l.place latch + length (at_in l.plan latch) + 1 in
    let run = after_all t body in
    let to_pad : suc q ≡ l.place (suc a) = omega (arith, x.next) in
    let top = pad_hop l (suc a) line at_pad in
    let test_at : q + 0 ≡ q = omega arith in
    let r : Repeat l line c exit q a latch b run = record {
      here = x.here.0;
      line_is = x.here.1;
      body = λ n ps ls ns z. subst (λ (p : ℕ). Go l (l.place latch) ls (Towards latch) (standing p n ps ls) (ns ++ (Decides true ∷ [])) (run n)) (sym to_pad)
          (hop_on l (suc a) (suc (suc a)) top (l.place latch) ls (Towards latch) ls n ps (ns ++ (Decides true ∷ [])) (run n) (x.enter ns z) (λ xs come. inside n ps ls xs come));
      back_marks = in_marks l latch ++ [];
      back = skips_to l (l.place latch) (q + 0) q (in_marks l latch ++ []) test_at y.back;
      return = y.return;
      out_marks = leaving l.plan a;
      out = skips_to l exit (l.place (suc latch)) (l.place b) (leaving l.plan a) (ap l.place e) y.out;
      leave = λ ns z. subst (λ (k : ℕ). Coming l k ((ns ++ (Decides false ∷ [])) ++ leaving l.plan a)) e (x.leave ns z);
    } in
    x.into (l.place b) loops (Towards b) loops now mapping ms (after t s now)
    (repeats l line c body exit q a latch b r j.limit now mapping loops (ms ++ in_marks l a) (omega arith) (x.arrive ms coming))
