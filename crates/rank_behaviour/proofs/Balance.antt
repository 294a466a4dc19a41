-- The Sends and Recvs of a sound job's trace are matched.
use Rattle.std.proofs.Common.{◌≡◌, ℕ, zero, suc, ◌+◌, ◌*◌, ◌<◌, ◌≤◌, ◌==◌, nat_lt, Bool, true, false, List, [], ◌∷◌, ◌++◌, map, length, inl, inr, refl, sym, ◌∙◌, ap, subst, arith, append-nil, length-append}
use Rattle.std.proofs.lemmas.Bool.{cases_Bool, eq-eqb}
use Rattle.std.proofs.lemmas.Grind.{flat_map-append}
use Rattle.std.proofs.lemmas.List.Concat.{flat_map-cons}
use Rattle.std.specs.Prelude.{Option, Some, None, filter, option_map}
use Rattle.std.specs.List.{range_with_len}
use Rattle.fd_base.specs.declared.numbering.Line.{Line}
use Rattle.fd_prog.specs.declared.item.Event.{Event}
use Rattle.fd_prog.specs.declared.item.Event.TheVariants as event
use Rattle.fd_prog.specs.Items.{Name}
use Rattle.fd_prog.specs.Nodes.{nodes_of, nodes_among}
use Rattle.fd_prog.specs.Paths.{Happening, Sent, Received, Taken, Stolen, happenings, for_each}
use Rattle.fd_prog.specs.PathConditions.{IsGoodPlan}
use Rattle.fd_prog.specs.Statements as statements
use Rattle.program_laws.specs.Plans.{plan_of}
use Rattle.exec_code.specs.Instructions as code
use Rattle.exec_code.specs.Instructions.{Instruction, FlatJob}
use Rattle.exec_code.specs.Machine.{Configuration, Effect, Goes, Notes, Faults, Ends, Strays, effect, first_configuration, instruction_at, line_at}
use Rattle.exec_code.specs.Passing.{Doing, Does, Installs, Tests, Starts, Turns, instruction_sites, instruction_name, turned_name, Mark, Happens, Makes, marks_at, marks_of, marks_where, instruction_marks, step_marks, has_begun, takes_by, steals_by, decided, way_where}
use Rattle.exec_code.specs.Sound.{IsSoundJob, Finishes, stops, fails}
use Rattle.exec_code.specs.Traces.{noted_at, noted_by}
use Rattle.exec_code.specs.Trails.{IsTrail, events_in}
use Rattle.exec_code.proofs.Returning.{all_few}
use Rattle.exec_code.proofs.TrailPaths.{events_append, events_happen, trail_path}
use Rattle.exec_code.proofs.Walking.{all_walked}
use Rattle.message_laws.specs.Protocol.{Event as Operation, Local, Send, Recv, sends, recvs, is_send, is_recv, IsMatched}
use Rattle.message_laws.specs.Traces.{nth, front}
use Rattle.message_laws.proofs.Ways.{nth_some, some_not_none}
use Rattle.rank_behaviour.specs.Exchanged.{event_at, event_of, event_where, event_among}
use Rattle.rank_behaviour.specs.Jobs.{configurations, exchange_of, trace_of, of_some, failure_in}
use Rattle.rank_behaviour.proofs.Alternating.{Alternates, after, flag, sent_of, received_of, counted, alternates_left, alternates_right, sent_append, received_append, happen_if, happen_cons, happen_append, trail_alternates, trail_closes}

-- ---- the trace

-- the trace of a sound job is its configurations
pub trace_is : (j : FlatJob) (s : IsSoundJob j) → configurations j ≡ s.follows.before ++ (s.follows.last ∷ [])
trace_is j s =
    let f = s.follows in
    let few = all_few j (first_configuration j) f.last f.before f.trace.walks f.trace.over (omega arith) in
    let grown : length (f.before ++ (f.last ∷ [])) ≡ suc (length f.before) = omega (arith, length-append f.before (f.last ∷ [])) in
    all_walked j (first_configuration j) f.last f.before ((j.limit + 2) * (length j.code.instructions + 1)) f.trace.walks f.trace.over (omega (arith, few, grown))

-- ---- lists

pub front_more : {X : Type 0} (xs : List X) (n : ℕ) (x : X) → nth xs n ≡ Some x → front (suc n) xs ≡ front n xs ++ x ∷ []
front_more [] n x e = absurd (some_not_none (sym e))
front_more (y ∷ xs) zero x e = let same : y ≡ x = cc in ap (λ z. z ∷ []) same
front_more (y ∷ xs) (suc n) x e = ap (λ z. y ∷ z) (front_more xs n x e)

pub front_all : {X : Type 0} (xs : List X) → front (length xs) xs ≡ xs
front_all [] = refl
front_all (x ∷ xs) = ap (λ z. x ∷ z) (front_all xs)

pub nth_last : {X : Type 0} (xs : List X) (x : X) → nth (xs ++ x ∷ []) (length xs) ≡ Some x
nth_last [] x = refl
nth_last (y ∷ xs) x = nth_last xs x

-- what stands before an element, the element, and the rest
pub record Split {X : Type 0} (xs : List X) (n : ℕ) (x : X) : Type 0 where
  pub rest : List X
  pub is : xs ≡ front n xs ++ x ∷ rest

pub split_at : {X : Type 0} (xs : List X) (n : ℕ) (x : X) → nth xs n ≡ Some x → Split xs n x
split_at [] n x e = absurd (some_not_none (sym e))
split_at (y ∷ xs) zero x e = let same : y ≡ x = cc in record { rest = xs; is = ap (λ z. z ∷ xs) same }
split_at (y ∷ xs) (suc n) x e = let r = split_at xs n x e in record { rest = r.rest; is = ap (λ z. y ∷ z) r.is }

-- ---- marks of one configuration

-- neither sends nor receives of an item
record Quiet (hs : List Happening) : Type 0 where
  pub sent : sent_of hs ≡ 0
  pub received : received_of hs ≡ 0

quiet_taken : (b : Bool) (hs : List Happening) → Quiet hs → Quiet (happen_if b Taken hs)
quiet_taken false hs q = q
quiet_taken true hs q = record { sent = q.sent; received = q.received }

quiet_stolen : (b : Bool) (hs : List Happening) → Quiet hs → Quiet (happen_if b Stolen hs)
quiet_stolen false hs q = q
quiet_stolen true hs q = record { sent = q.sent; received = q.received }

quiet_append : (hs ks : List Happening) → Quiet hs → Quiet ks → Quiet (hs ++ ks)
quiet_append hs ks a b = record { sent = sent_append hs ks ∙ omega (arith, a.sent, b.sent); received = received_append hs ks ∙ omega (arith, a.received, b.received) }

quiet_takes : (x : ℕ) (ys : List ℕ) → Quiet (happenings x (map (λ y. event.Take (record { 0 = y })) ys))
quiet_takes x [] = record { sent = refl; received = refl }
quiet_takes x (y ∷ ys) =
    subst (λ (z : List Happening). Quiet z) (sym (happen_cons x (event.Take (record { 0 = y })) (map (λ y. event.Take (record { 0 = y })) ys)))
    (quiet_taken (y == x) (happenings x (map (λ y. event.Take (record { 0 = y })) ys)) (quiet_takes x ys))

quiet_steals : (x : ℕ) (ys : List ℕ) → Quiet (happenings x (map (λ y. event.Steal (record { 0 = y })) ys))
quiet_steals x [] = record { sent = refl; received = refl }
quiet_steals x (y ∷ ys) =
    subst (λ (z : List Happening). Quiet z) (sym (happen_cons x (event.Steal (record { 0 = y })) (map (λ y. event.Steal (record { 0 = y })) ys)))
    (quiet_stolen (y == x) (happenings x (map (λ y. event.Steal (record { 0 = y })) ys)) (quiet_steals x ys))

abbrev pub happened : ℕ → List Mark → List Happening
happened x ms = happenings x (events_in ms)

happened_append : (x : ℕ) (ms ns : List Mark) → happened x (ms ++ ns) ≡ happened x ms ++ happened x ns
happened_append x ms ns = ap (happenings x) (events_append ms ns) ∙ happen_append x (events_in ms) (events_in ns)

quiet_step : (j : FlatJob) (x : ℕ) (sites : List ℕ) (name : Option Name) (doing : Doing) → Quiet (happened x (step_marks j sites name (Some doing)))
quiet_step j x sites name doing =
    let takes = for_each event.Take (length j.items) (takes_by j sites) in
    let steals = for_each event.Steal (length j.items) (steals_by j name) in
    let all = takes ++ steals in
    let is : events_in (step_marks j sites name (Some doing)) ≡ all =
    events_append (map (λ e. Happens e) all) (Makes doing ∷ []) ∙ append-nil (events_in (map (λ e. Happens e) all)) ∙ events_happen all in
    subst (λ (z : List Event). Quiet (happenings x z)) (sym is)
    (subst (λ (z : List Happening). Quiet z) (sym (happen_append x takes steals))
    (quiet_append (happenings x takes) (happenings x steals)
    (quiet_takes x (filter (takes_by j sites) (range_with_len 1 (length j.items)))) (quiet_steals x (filter (steals_by j name) (range_with_len 1 (length j.items))))))

-- as many sends and receives of an item as an operation has
pub record Told (x : ℕ) (e : Operation) (hs : List Happening) : Type 0 where
  pub sent : sent_of hs ≡ is_send x e
  pub received : received_of hs ≡ is_recv x e

told_quiet : (x : ℕ) (hs : List Happening) → Quiet hs → Told x Local hs
told_quiet x hs q = record { sent = q.sent; received = q.received }

told_step : (j : FlatJob) (x : ℕ) (sites : List ℕ) (name : Option Name) (doing : Doing) → Told x Local (happened x (step_marks j sites name (Some doing)))
told_step j x sites name doing = told_quiet x (happened x (step_marks j sites name (Some doing))) (quiet_step j x sites name doing)

told_sent : (x y : ℕ) (b : Bool) → (y == x) ≡ b → Told x (Send y) (happen_if b Sent [])
told_sent x y true e = record { sent = rw e refl; received = refl }
told_sent x y false e = record { sent = rw e refl; received = refl }

told_received : (x y : ℕ) (b : Bool) → (y == x) ≡ b → Told x (Recv y) (happen_if b Received [])
told_received x y true e = record { sent = refl; received = rw e refl }
told_received x y false e = record { sent = refl; received = rw e refl }

marks_told : (j : FlatJob) (begun : Bool) (line : Line) (x : ℕ) (i : Instruction) → Told x (event_of i) (happened x (instruction_marks j begun line i))
marks_told j begun line x (code.Assign target e) = told_step j x (instruction_sites (code.Assign target e)) (instruction_name begun (code.Assign target e)) (Does (statements.Assign line target e))
marks_told j begun line x (code.Read target) = told_step j x (instruction_sites (code.Read target)) (instruction_name begun (code.Read target)) (Does (statements.Read line target))
marks_told j begun line x (code.Print items) = told_step j x (instruction_sites (code.Print items)) None (Does (statements.Print line items))
marks_told j begun line x code.Skip = told_step j x [] None (Does (statements.Continue line))
marks_told j begun line x (code.Install decomp number) = told_step j x [] (instruction_name begun (code.Install decomp number)) (Installs line decomp number)
marks_told j begun line x (code.Test c no_side) = told_step j x (instruction_sites (code.Test c no_side)) None (Tests line c)
marks_told j begun line x (code.Start var first last by) = told_step j x (instruction_sites (code.Start var first last by)) (instruction_name begun (code.Start var first last by)) (Starts line var first last by)
marks_told j begun line x (code.Turn var exit) = told_step j x [] (turned_name begun var) (Turns line var)
marks_told j begun line x (code.Jump to) = record { sent = refl; received = refl }
marks_told j begun line x (code.Send y) = subst (λ (z : List Happening). Told x (Send y.0) z) (sym (happen_cons x (event.Send y) [])) (told_sent x y.0 (y.0 == x) refl)
marks_told j begun line x (code.Recv y) = subst (λ (z : List Happening). Told x (Recv y.0) z) (sym (happen_cons x (event.Recv y) [])) (told_received x y.0 (y.0 == x) refl)
marks_told j begun line x code.Stop = record { sent = refl; received = refl }

where_told : (j : FlatJob) (begun : Bool) (line : Line) (x : ℕ) (i : Option Instruction) → Told x (event_where i) (happened x (marks_where j begun line i))
where_told j begun line x None = record { sent = refl; received = refl }
where_told j begun line x (Some i) = marks_told j begun line x i

-- nothing happens to an item by a decision
decided_none : (o : Option Bool) (e : Effect) → events_in (decided o e) ≡ []
decided_none None e = refl
decided_none (Some b) (Goes d) = refl
decided_none (Some b) (Notes kind d) = refl
decided_none (Some b) (Faults kind) = refl
decided_none (Some b) Ends = refl
decided_none (Some b) Strays = refl

happened_at : (j : FlatJob) (c : Configuration) (x : ℕ) → happened x (marks_at j c) ≡ happened x (marks_where j (has_begun c.loops) (line_at j c.at) (instruction_at j c.at))
happened_at j c x =
    let ms = marks_where j (has_begun c.loops) (line_at j c.at) (instruction_at j c.at) in
    let ds = decided (way_where j (instruction_at j c.at) c) (effect j c) in
    happened_append x ms ds ∙ ap (λ es. happened x ms ++ happenings x es) (decided_none (way_where j (instruction_at j c.at) c) (effect j c)) ∙ append-nil (happened x ms)

pub at_told : (j : FlatJob) (c : Configuration) (x : ℕ) → Told x (event_where (instruction_at j c.at)) (happened x (marks_at j c))
at_told j c x = subst (λ (z : List Happening). Told x (event_where (instruction_at j c.at)) z) (sym (happened_at j c x)) (where_told j (has_begun c.loops) (line_at j c.at) x (instruction_at j c.at))

-- ---- counts along the trace

marks_more : (j : FlatJob) (cs : List Configuration) (c : Configuration) → marks_of j (cs ++ c ∷ []) ≡ marks_of j cs ++ marks_at j c
marks_more j cs c = flat_map-append (marks_at j) cs (c ∷ []) ∙ ap (λ ms. marks_of j cs ++ ms) (flat_map-cons (marks_at j) c [] ∙ append-nil (marks_at j c))

-- with two ranks or more, an operation is that of the instruction
with_ranks : (j : FlatJob) (c : Configuration) → nat_lt 1 j.ranks ≡ true → event_at j c ≡ event_where (instruction_at j c.at)
with_ranks j c e = ap (λ b. event_among b (event_where (instruction_at j c.at))) e

with_one : (j : FlatJob) (c : Configuration) → nat_lt 1 j.ranks ≡ false → event_at j c ≡ Local
with_one j c e = ap (λ b. event_among b (event_where (instruction_at j c.at))) e

-- the first configurations send and receive an item as often as their marks say
record Along (j : FlatJob) (x n : ℕ) : Type 0 where
  pub sent : sends (exchange_of j) x n ≡ sent_of (happened x (marks_of j (front n (configurations j))))
  pub received : recvs (exchange_of j) x n ≡ received_of (happened x (marks_of j (front n (configurations j))))

along_step : (j : FlatJob) (x n : ℕ) (c : Configuration) → nat_lt 1 j.ranks ≡ true → nth (configurations j) n ≡ Some c → Along j x n → Along j x (suc n)
along_step j x n c ranks here a =
    let cs = front n (configurations j) in
    let is : happened x (marks_of j (front (suc n) (configurations j))) ≡ happened x (marks_of j cs) ++ happened x (marks_at j c) =
    ap (λ (z : List Configuration). happened x (marks_of j z)) (front_more (configurations j) n c here) ∙ ap (happened x) (marks_more j cs c) ∙ happened_append x (marks_of j cs) (marks_at j c) in
    let op : (exchange_of j).event n ≡ event_where (instruction_at j c.at) = ap (λ (o : Option Configuration). of_some Local (event_at j) o) here ∙ with_ranks j c ranks in
    let t = at_told j c x in
    let s : is_send x ((exchange_of j).event n) ≡ sent_of (happened x (marks_at j c)) = ap (is_send x) op ∙ sym t.sent in
    let r : is_recv x ((exchange_of j).event n) ≡ received_of (happened x (marks_at j c)) = ap (is_recv x) op ∙ sym t.received in
    let ss = sent_append (happened x (marks_of j cs)) (happened x (marks_at j c)) in
    let rr = received_append (happened x (marks_of j cs)) (happened x (marks_at j c)) in
    record {
      sent = subst (λ (z : List Happening). sends (exchange_of j) x (suc n) ≡ sent_of z) (sym is) (omega (arith, a.sent, s, ss));
      received = subst (λ (z : List Happening). recvs (exchange_of j) x (suc n) ≡ received_of z) (sym is) (omega (arith, a.received, r, rr));
    }

along : (j : FlatJob) (x n : ℕ) → nat_lt 1 j.ranks ≡ true → n ≤ length (configurations j) → Along j x n
along j x zero ranks le = record { sent = refl; received = refl }
along j x (suc n) ranks le = let e = nth_some (configurations j) n (omega (arith, le)) in along_step j x n e.element ranks e.is (along j x n ranks (omega (arith, le)))

-- ---- paths

good_plan : (j : FlatJob) (s : IsSoundJob j) → IsGoodPlan (plan_of j.program s.places) (nodes_among j.program.body + 1)
good_plan j s = s.good

by_trail : (j : FlatJob) (s : IsSoundJob j) (ms rest : List Mark) (path : List ℕ) (n : ℕ) → IsTrail (plan_of j.program s.places) (nodes_of j.program) path n (ms ++ rest) → (x : ℕ) → Alternates false (happened x ms)
by_trail j s ms rest path n t x =
    let p = plan_of j.program s.places in
    let found = trail_path p (nodes_of j.program) path n (ms ++ rest) t in
    let whole = trail_alternates p (nodes_among j.program.body + 1) (good_plan j s) path n found.0 found.1 (events_in (ms ++ rest)) found.2 x in
    alternates_left false (happened x ms) (happened x rest) (subst (λ (z : List Happening). Alternates false z) (happened_append x ms rest) whole)

by_end : (j : FlatJob) (s : IsSoundJob j) → (Finishes j (plan_of j.program s.places) s.follows.before s.follows.last) → (x : ℕ) → Alternates false (happened x (marks_of j (s.follows.before ++ (s.follows.last ∷ []))))
by_end j s (stops e a) x =
    let ms = marks_of j (s.follows.before ++ (s.follows.last ∷ [])) in
    by_trail j s ms [] a.path (nodes_among j.program.body + 1)
    (subst (λ (z : List Mark). IsTrail (plan_of j.program s.places) (nodes_of j.program) a.path (nodes_among j.program.body + 1) z) (sym (append-nil ms)) a.trail) x
by_end j s (fails kind e a) x = by_trail j s (marks_of j (s.follows.before ++ (s.follows.last ∷ []))) a.rest a.path a.last a.trail x

pub alternate : (j : FlatJob) → IsSoundJob j → (x : ℕ) → Alternates false (happened x (marks_of j (configurations j)))
alternate j s x = subst (λ (z : List Configuration). Alternates false (happened x (marks_of j z))) (sym (trace_is j s)) (by_end j s s.follows.finish x)

-- ---- balance

-- the first operation of a Recv's marks
alternates_received : (o : Bool) (x : ℕ) (c : Configuration) (j : FlatJob) (i : Option Instruction) (begun : Bool) (line : Line) (ks : List Happening) → event_where i ≡ Recv x → Alternates o (happened x (marks_where j begun line i) ++ ks) → o ≡ true
alternates_received o x c j None begun line ks e a = absurd (cc)
alternates_received o x c j (Some (code.Recv y)) begun line ks e a =
    let same : y.0 ≡ x = item_same e in
    let is : happened x (marks_where j begun line (Some (code.Recv y))) ≡ Received ∷ [] = happen_cons x (event.Recv y) [] ∙ ap (λ b. happen_if b Received []) (eq-eqb y.0 x same) in
    (subst (λ (z : List Happening). Alternates o (z ++ ks)) is a).0
  where
    number : Operation → ℕ
    number Local = 0
    number (Send z) = 0
    number (Recv z) = z

    item_same : {y x : ℕ} → Recv y ≡ Recv x → y ≡ x
    item_same e = ap number e
alternates_received o x c j (Some (code.Assign target e)) begun line ks h a = absurd (cc)
alternates_received o x c j (Some (code.Read target)) begun line ks h a = absurd (cc)
alternates_received o x c j (Some (code.Print items)) begun line ks h a = absurd (cc)
alternates_received o x c j (Some code.Skip) begun line ks h a = absurd (cc)
alternates_received o x c j (Some (code.Install decomp number)) begun line ks h a = absurd (cc)
alternates_received o x c j (Some (code.Test condition no_side)) begun line ks h a = absurd (cc)
alternates_received o x c j (Some (code.Start var first last by)) begun line ks h a = absurd (cc)
alternates_received o x c j (Some (code.Turn var exit)) begun line ks h a = absurd (cc)
alternates_received o x c j (Some (code.Jump to)) begun line ks h a = absurd (cc)
alternates_received o x c j (Some (code.Send y)) begun line ks h a = absurd (cc)
alternates_received o x c j (Some code.Stop) begun line ks h a = absurd (cc)

open_with : (j : FlatJob) → IsSoundJob j → nat_lt 1 j.ranks ≡ true → (n item : ℕ) (c : Configuration) → n < length (configurations j) → nth (configurations j) n ≡ Some c → (exchange_of j).event n ≡ Recv item → recvs (exchange_of j) item n < sends (exchange_of j) item n
open_with j s ranks n item c lt here e =
    let cs = configurations j in
    let f = front n cs in
    let sp = split_at cs n c here in
    let before = happened item (marks_of j f) in
    let rest = happened item (marks_of j sp.rest) in
    let is : happened item (marks_of j cs) ≡ before ++ (happened item (marks_at j c) ++ rest) =
    ap (λ (z : List Configuration). happened item (marks_of j z)) sp.is
    ∙ ap (happened item) (flat_map-append (marks_at j) f (c ∷ sp.rest)) ∙ happened_append item (marks_of j f) (marks_of j (c ∷ sp.rest))
    ∙ ap (λ hs. before ++ hs) (ap (happened item) (flat_map-cons (marks_at j) c sp.rest) ∙ happened_append item (marks_at j c) (marks_of j sp.rest)) in
    let all : Alternates false (before ++ (happened item (marks_at j c) ++ rest)) = subst (λ (z : List Happening). Alternates false z) is (alternate j s item) in
    let op : event_where (instruction_at j c.at) ≡ Recv item = sym (with_ranks j c ranks) ∙ sym (ap (λ (o : Option Configuration). of_some Local (event_at j) o) here) ∙ e in
    let opened : after false before ≡ true =
    alternates_received (after false before) item c j (instruction_at j c.at) (has_begun c.loops) (line_at j c.at) rest op
    (subst (λ (z : List Happening). Alternates (after false before) (z ++ rest)) (happened_at j c item) (alternates_right false before (happened item (marks_at j c) ++ rest) all)) in
    let count = counted false before (alternates_left false before (happened item (marks_at j c) ++ rest) all) in
    let one : flag (after false before) ≡ 1 = ap flag opened in
    let a = along j item n ranks (omega (arith, lt)) in
    omega (arith, count, one, a.sent, a.received)

not_with_one : {X : Type 0} (j : FlatJob) (n item : ℕ) (c : Configuration) → nat_lt 1 j.ranks ≡ false → nth (configurations j) n ≡ Some c → (exchange_of j).event n ≡ Recv item → X
not_with_one j n item c one here e =
    let l : Recv item ≡ Local = sym e ∙ ap (λ (o : Option Configuration). of_some Local (event_at j) o) here ∙ with_one j c one in
    absurd (cc)

-- where no fault is noted, the trace ends at Stop
closes_by : (j : FlatJob) (s : IsSoundJob j) → ((n : ℕ) → (trace_of j).noted n ≡ None) → Finishes j (plan_of j.program s.places) s.follows.before s.follows.last → (x : ℕ) → after false (happened x (marks_of j (s.follows.before ++ (s.follows.last ∷ [])))) ≡ false
closes_by j s none (stops e a) x =
    let p = plan_of j.program s.places in
    let ms = marks_of j (s.follows.before ++ (s.follows.last ∷ [])) in
    let found = trail_path p (nodes_of j.program) a.path (nodes_among j.program.body + 1) ms a.trail in
    trail_closes p (nodes_among j.program.body + 1) (good_plan j s) a.path (nodes_among j.program.body + 1) found.0 found.1 refl (events_in ms) found.2 x
closes_by j s none (fails kind e a) x =
    let at : nth (configurations j) (length s.follows.before) ≡ Some s.follows.last = ap (λ (z : List Configuration). nth z (length s.follows.before)) (trace_is j s) ∙ nth_last s.follows.before s.follows.last in
    let noted : (trace_of j).noted (length s.follows.before) ≡ Some (failure_in (record { step = s.follows.last.now.steps + 1; line = line_at j s.follows.last.at; kind = kind })) =
    ap (λ (o : Option Configuration). option_map failure_in (of_some None (noted_at j) o)) at ∙ ap (λ (z : Effect). option_map failure_in (noted_by s.follows.last.now.steps (line_at j s.follows.last.at) z)) e in
    absurd (some_not_none (sym noted ∙ none (length s.follows.before)))

sends_none : (j : FlatJob) (x n : ℕ) → nat_lt 1 j.ranks ≡ false → n ≤ length (configurations j) → (sends (exchange_of j) x n ≡ 0) × (recvs (exchange_of j) x n ≡ 0)
sends_none j x zero one le = (refl, refl)
sends_none j x (suc n) one le =
    let e = nth_some (configurations j) n (omega (arith, le)) in
    let op : (exchange_of j).event n ≡ Local = ap (λ (o : Option Configuration). of_some Local (event_at j) o) e.is ∙ with_one j e.element one in
    let s : is_send x ((exchange_of j).event n) ≡ 0 = ap (is_send x) op in
    let r : is_recv x ((exchange_of j).event n) ≡ 0 = ap (is_recv x) op in
    let i = sends_none j x n one (omega (arith, le)) in
    let i0 = i.0 in
    let i1 = i.1 in
    (omega (arith, i0, s), omega (arith, i1, r))

closed_by : (j : FlatJob) → IsSoundJob j → ((n : ℕ) → (trace_of j).noted n ≡ None) → (x : ℕ) → recvs (exchange_of j) x (length (configurations j)) ≡ sends (exchange_of j) x (length (configurations j))
closed_by j s none x = elim (cases_Bool (nat_lt 1 j.ranks)) [
  | inr f ↦ (let z = sends_none j x (length (configurations j)) f (omega arith) in z.1 ∙ sym z.0)
  | inl t ↦ (
      let cs = configurations j in
      let a = along j x (length cs) t (omega arith) in
      let hs = happened x (marks_of j cs) in
      let whole : happened x (marks_of j (front (length cs) cs)) ≡ hs = ap (λ (z : List Configuration). happened x (marks_of j z)) (front_all cs) in
      let end : after false hs ≡ false = ap (λ (z : List Configuration). after false (happened x (marks_of j z))) (trace_is j s) ∙ closes_by j s none s.follows.finish x in
      let count = counted false hs (alternate j s x) in
      let zero : flag (after false hs) ≡ 0 = ap flag end in
      let ss : sends (exchange_of j) x (length cs) ≡ sent_of hs = a.sent ∙ ap sent_of whole in
      let rr : recvs (exchange_of j) x (length cs) ≡ received_of hs = a.received ∙ ap received_of whole in
      omega (arith, count, zero, ss, rr))
]

pub matched : (j : FlatJob) → IsSoundJob j → IsMatched (trace_of j) (exchange_of j)
matched j s = record {
  open_before = λ n item lt e. (
      let here = nth_some (configurations j) n lt in
      elim (cases_Bool (nat_lt 1 j.ranks)) [ inl t ↦ open_with j s t n item here.element lt here.is e | inr f ↦ not_with_one j n item here.element f here.is e ]);
  closed = λ none item. closed_by j s none item;
}
