-- What a complete state is: its outcome is the first fault of the trace, its lines those before it.
use Rattle.std.proofs.Common.{◌≡◌, ℕ, zero, suc, ◌<◌, ◌≤◌, false, List, [], ◌∷◌, ◌++◌, ◌⊎◌, inl, inr, refl, sym, ◌∙◌, ap, subst, arith}
use Rattle.std.proofs.lemmas.Bool.{cases_eq, le-ltb}
use Rattle.std.proofs.lemmas.List.{append-nil}
use Rattle.std.proofs.lemmas.List.Elements.{filter-append}
use Rattle.std.specs.Prelude.{Option, Some, None, nat_lt, filter, count_by, ◌==◌, ◌≢◌}
use Rattle.mailbox_book.specs.declared.message.Message.{Message}
use Rattle.fd_prog.specs.declared.run.Printed.{Printed}
use Rattle.message_laws.specs.Behaviour.{Behaviour, Failure, Action, Fail, End, steps, printed, printed_by, HaveStep, posted, posted_by, posts, takes, taken, taken_by, of_tag, IsLawful}
use Rattle.message_laws.specs.System.{Status, Running, Ended, Faulted, Cut, State, Standing, places_of, IsComplete}
use Rattle.message_laws.specs.Facts.{IsFaultBefore, StatusOk, RankOk, Facts}
use Rattle.fd_prog.specs.declared.run.Outcome.{Outcome}
use Rattle.fd_prog.specs.declared.run.Outcome.TheVariants.{Done, Fault}
use Rattle.message_laws.specs.Outcomes.{failure, HasFailed, IsFirstFault, IsOutcome, lines_before, lines_of, all_lines}
use Rattle.message_laws.proofs.Basics.{Kind, acts, posts_to, takes_from, fails, ends, kind_of, apart}
use Rattle.message_laws.proofs.Moments.{in_order, steps_rise, IsFirst, first_before}
use Rattle.message_laws.proofs.Progress.{Executor, runs, failed, executor}
use Rattle.message_laws.proofs.Weights.{not_past}

pub some_is_none : {A : Type 0} {o : Option A} {x : A} → o ≡ Some x → o ≡ None → ⊥
some_is_none e n = let z = sym e ∙ n in absurd (cc)

same_fault : {o : Option Failure} {f g : Failure} → o ≡ Some f → o ≡ Some g → f ≡ g
same_fault {o} {f} {g} e d = ap (kept f) (sym e ∙ d)
  where
    kept : Failure → Option Failure → Failure
    kept f None = f
    kept f (Some g) = g

-- ---- the outcome

failed_least : (b : Behaviour) → IsLawful b → (s : State) → (c : ℕ) (f : Failure) → IsFirst b c f → (r other : ℕ) (g : Failure) → HasFailed b s r other g → (suc (b.completed c) < other) ⊎ ((suc (b.completed c) ≡ other) × (f ≡ g))
failed_least b h s c f first r other g x =
    let d = b.configuration r (places_of s r) in
    let noted = h.fail_noted r (places_of s r) g x.is in
    let le = first_before b c d f g first noted in
    let e = x.step in
    elim (cases_eq c d) [
      | inl same ↦ inr (ap (λ (z : ℕ). suc (b.completed z)) same ∙ sym e, same_fault first.noted (ap b.noted same ∙ noted))
      | inr ne ↦ (let up = h.fault_counts c f first.noted in let rise = steps_rise b h (suc c) d (omega (arith, le, ne)) in inl (omega (arith, up, rise, e)))
    ]

some_failed : (b : Behaviour) → IsLawful b → (s : State) → IsComplete b s → (c : ℕ) (f : Failure) → IsFirst b c f → Executor b s c f → (r : ℕ) × (r < b.ranks) × HasFailed b s r (suc (b.completed c)) f
some_failed b h s complete c f first (runs x lt st y l e) = absurd (complete x lt st)
some_failed b h s complete c f first (failed x lt st g is e) =
    let same : f ≡ g = same_fault first.noted (ap b.noted (sym e) ∙ h.fail_noted x (places_of s x) g is) in
    (x, lt, record { status = st; is = is ∙ ap Fail (sym same); step = ap (λ (z : ℕ). suc (b.completed z)) (sym e) })

-- where nothing is noted, no rank is faulted or cut
pub only_ended : (b : Behaviour) → IsLawful b → ((c : ℕ) → b.noted c ≡ None) → (r p : ℕ) (st : Status) → StatusOk b r p st → st ≢ Running → st ≡ Ended
only_ended b h none r p Running ok ne = absurd (ne refl)
only_ended b h none r p Ended ok ne = refl
only_ended b h none r p Faulted ok ne = absurd (some_is_none (h.fail_noted r p ok.0 ok.1) (none (b.configuration r p)))
only_ended b h none r p Cut ok ne = let early : IsFaultBefore b (steps b r p) = ok.1 in absurd (some_is_none early.noted (none early.at))

pub all_ended : (b : Behaviour) → IsLawful b → (s : State) → Facts b s → IsComplete b s → ((c : ℕ) → b.noted c ≡ None) → (r : ℕ) → r < b.ranks → (s.at r).status ≡ Ended
all_ended b h s k complete none r lt = only_ended b h none r (places_of s r) (s.at r).status (k.ranks r lt).status (complete r lt)

-- the first fault of the trace, as its outcome
as_first : (b : Behaviour) (c step : ℕ) (f : Failure) → b.noted c ≡ Some f → ((d : ℕ) → d < c → b.noted d ≡ None) → IsFirst b c f
as_first b c step f e n = record { noted = e; none = n }

-- a complete state has the outcome of the trace
pub outcome_is : (b : Behaviour) → IsLawful b → (s : State) → Facts b s → IsComplete b s → (o : Outcome) → IsFirstFault b o → IsOutcome b s o
outcome_is b h s k complete Done none = λ r lt e. apart (sym (all_ended b h s k complete none r lt) ∙ e) (inl (omega arith))
outcome_is b h s k complete (Fault step line kind) x =
    let c = x.0 in
    let f : Failure = failure line kind in
    let first : IsFirst b c f = as_first b c step f x.2 x.3 in
    let found = some_failed b h s complete c f first (executor b h s k c f first) in (
      (found.0, found.1, subst (λ (n : ℕ). HasFailed b s found.0 n f) (sym x.1) found.2),
      λ r other g lt y. subst (λ (n : ℕ). (n < other) ⊎ ((n ≡ other) × (f ≡ g))) (sym x.1) (failed_least b h s c f first r other g y),
    )

-- ---- lines

-- lines of a step that isn't before the outcome's fall away
late_lines : (f n : ℕ) (ls : List Printed) → HaveStep n ls → f ≤ n → filter (λ (l : Printed). nat_lt l.step f) ls ≡ []
late_lines f n [] h le = refl
late_lines f n (l ∷ ls) h le =
    let x : nat_lt l.step f ≡ false = le-ltb l.step f (let e = h.0 in omega (arith, e, le)) in
    rw x (late_lines f n ls h.1 le)

no_late : (b : Behaviour) → IsLawful b → (r k f : ℕ) → f ≤ suc (steps b r k) → Kind (b.action r k) → filter (λ l. nat_lt l.step f) (printed_by (b.action r k)) ≡ []
no_late b h r k f le (acts ls e) = ap (λ (a : Action). filter (λ (l : Printed). nat_lt l.step f) (printed_by a)) e ∙ late_lines f (suc (steps b r k)) ls (h.line_steps r k ls e) le
no_late b h r k f le (posts_to to m e) = ap (λ (a : Action). filter (λ (l : Printed). nat_lt l.step f) (printed_by a)) e
no_late b h r k f le (takes_from from tag e) = ap (λ (a : Action). filter (λ (l : Printed). nat_lt l.step f) (printed_by a)) e
no_late b h r k f le (fails g e) = ap (λ (a : Action). filter (λ (l : Printed). nat_lt l.step f) (printed_by a)) e
no_late b h r k f le (ends e) = ap (λ (a : Action). filter (λ (l : Printed). nat_lt l.step f) (printed_by a)) e

rest_late : (b : Behaviour) → IsLawful b → (r p f : ℕ) → f ≤ suc (steps b r p) → (k : ℕ) → p ≤ k → filter (λ l. nat_lt l.step f) (printed b r k) ≡ filter (λ l. nat_lt l.step f) (printed b r p)
rest_late b h r p f le zero at = let e : p ≡ zero = omega (arith, at) in ap (λ (z : ℕ). filter (λ (l : Printed). nat_lt l.step f) (printed b r z)) (sym e)
rest_late b h r p f le (suc k) at = elim (cases_eq p (suc k)) [
  | inl e ↦ ap (λ (z : ℕ). filter (λ (l : Printed). nat_lt l.step f) (printed b r z)) (sym e)
  | inr ne ↦ (
      let below : p ≤ k = omega (arith, at, ne) in
      let rise = steps_rise b h (b.configuration r p) (b.configuration r k) (in_order b h r p k below) in
      filter-append (λ (l : Printed). nat_lt l.step f) (printed b r k) (printed_by (b.action r k))
      ∙ (ap (λ (z : List Printed). filter (λ (l : Printed). nat_lt l.step f) (printed b r k) ++ z) (no_late b h r k f (omega (arith, le, rise)) (kind_of (b.action r k)))
      ∙ (append-nil (filter (λ (l : Printed). nat_lt l.step f) (printed b r k)) ∙ rest_late b h r p f le k below)))
]

-- a rank that doesn't run any more has completed the steps before the first fault
steps_done : (b : Behaviour) → IsLawful b → (c : ℕ) (f : Failure) → IsFirst b c f → (r p : ℕ) (st : Status) → StatusOk b r p st → st ≢ Running → b.completed c ≤ steps b r p
steps_done b h c f first r p Running ok ne = absurd (ne refl)
steps_done b h c f first r p Ended ok ne = let x = h.end_behind r p c f ok first.noted in steps_rise b h c (b.configuration r p) (omega (arith, x))
steps_done b h c f first r p Faulted ok ne = steps_rise b h c (b.configuration r p) (first_before b c (b.configuration r p) f ok.0 first (h.fail_noted r p ok.0 ok.1))
steps_done b h c f first r p Cut ok ne =
    let early : IsFaultBefore b (steps b r p) = ok.1 in
    let x = steps_rise b h c early.at (first_before b c early.at f early.fault first early.noted) in
    let y = early.before in
    omega (arith, x, y)

-- nothing comes behind an end
printed_stays : (b : Behaviour) → IsLawful b → (r p : ℕ) → b.action r p ≡ End → (k : ℕ) → p ≤ k → printed b r k ≡ printed b r p
printed_stays b h r p e zero at = let z : p ≡ zero = omega (arith, at) in ap (printed b r) (sym z)
printed_stays b h r p e (suc k) at = elim (cases_eq p (suc k)) [
  | inl z ↦ ap (printed b r) (sym z)
  | inr ne ↦ (
      let below : p ≤ k = omega (arith, at, ne) in
      ap (λ (a : Action). printed b r k ++ printed_by a) (h.end_stays r p k e below) ∙ (append-nil (printed b r k) ∙ printed_stays b h r p e k below))
]

pub posted_stays : (b : Behaviour) → IsLawful b → (q r p : ℕ) → b.action q p ≡ End → (k : ℕ) → p ≤ k → posted b q r k ≡ posted b q r p
posted_stays b h q r p e zero at = let z : p ≡ zero = omega (arith, at) in ap (posted b q r) (sym z)
posted_stays b h q r p e (suc k) at = elim (cases_eq p (suc k)) [
  | inl z ↦ ap (posted b q r) (sym z)
  | inr ne ↦ (
      let below : p ≤ k = omega (arith, at, ne) in
      ap (λ (a : Action). posted b q r k ++ posted_by a r) (h.end_stays q p k e below) ∙ (append-nil (posted b q r k) ∙ posted_stays b h q r p e k below))
]

pub taken_stays : (b : Behaviour) → IsLawful b → (q r p : ℕ) → b.action r p ≡ End → (k : ℕ) → p ≤ k → taken b q r k ≡ taken b q r p
taken_stays b h q r p e zero at = let z : p ≡ zero = omega (arith, at) in ap (taken b q r) (sym z)
taken_stays b h q r p e (suc k) at = elim (cases_eq p (suc k)) [
  | inl z ↦ ap (taken b q r) (sym z)
  | inr ne ↦ (
      let below : p ≤ k = omega (arith, at, ne) in
      ap (λ (a : Action). taken b q r k ++ taken_by a q) (h.end_stays r p k e below) ∙ (append-nil (taken b q r k) ∙ taken_stays b h q r p e k below))
]

-- an ended rank stands at its end
pub at_end : (b : Behaviour) (r : ℕ) (s : Standing) → RankOk b r s → s.status ≡ Ended → b.action r s.place ≡ End
at_end b r s k e = subst (λ (st : Status). StatusOk b r s.place st) e k.status

-- the lines of a complete state are those before the first fault
pub lines_are : (b : Behaviour) → IsLawful b → (s : State) → Facts b s → 0 < b.ranks → IsComplete b s → (o : Outcome) → IsFirstFault b o → lines_before o (lines_of b s) ≡ lines_before o (all_lines b)
lines_are b h s k lt complete Done none =
    let ok = k.ranks 0 lt in
    sym (printed_stays b h 0 (places_of s 0) (at_end b 0 (s.at 0) ok (all_ended b h s k complete none 0 lt)) (b.last 0) (not_past b h 0 lt (s.at 0) ok))
lines_are b h s k lt complete (Fault step line kind) x =
    let c = x.0 in
    let f : Failure = failure line kind in
    let ok = k.ranks 0 lt in
    let done = steps_done b h c f (as_first b c step f x.2 x.3) 0 (places_of s 0) (s.at 0).status ok.status (complete 0 lt) in
    let e = x.1 in
    sym (rest_late b h 0 (places_of s 0) step (omega (arith, done, e)) (b.last 0) (not_past b h 0 lt (s.at 0) ok))

-- ---- the boxes at a good end

pub all_posted : (b : Behaviour) → IsLawful b → (s : State) → Facts b s → IsComplete b s → ((c : ℕ) → b.noted c ≡ None) → (q r : ℕ) → q < b.ranks → posted b q r (places_of s q) ≡ posted b q r (b.last q)
all_posted b h s k complete none q r lt =
    let ok = k.ranks q lt in
    sym (posted_stays b h q r (places_of s q) (at_end b q (s.at q) ok (all_ended b h s k complete none q lt)) (b.last q) (not_past b h q lt (s.at q) ok))

pub all_taken : (b : Behaviour) → IsLawful b → (s : State) → Facts b s → IsComplete b s → ((c : ℕ) → b.noted c ≡ None) → (q r tag : ℕ) → q < b.ranks → r < b.ranks → takes b q r tag (places_of s r) ≡ posts b q r tag (places_of s q)
all_taken b h s k complete none q r tag lt lr =
    let ok = k.ranks r lr in
    let t : taken b q r (places_of s r) ≡ taken b q r (b.last r) = sym (taken_stays b h q r (places_of s r) (at_end b r (s.at r) ok (all_ended b h s k complete none r lr)) (b.last r) (not_past b h r lr (s.at r) ok)) in
    ap (λ (xs : List ℕ). count_by (λ o. o == tag) xs) t ∙ (h.all_taken none q r tag lt lr ∙ ap (λ (xs : List Message). of_tag tag xs) (sym (all_posted b h s k complete none q r lt)))
