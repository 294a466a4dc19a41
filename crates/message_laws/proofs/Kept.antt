-- Each step keeps the facts of a rank, of the stop word, and of each box.
use Rattle.std.proofs.Common.{◌≡◌, ℕ, suc, ◌<◌, ◌≤◌, Bool, true, false, IsTrue, IsFalse, inl, inr, refl, sym, ◌∙◌, ap, subst, arith}
use Rattle.std.proofs.lemmas.Bool.{cases_eq, cases_lt, ltb-true}
use Rattle.std.specs.Prelude.{nat_lt, ◌≢◌}
use Rattle.message_laws.specs.Behaviour.{Behaviour, Action, Act, Post, Take, Fail, End, is_last, steps, takes, posts, IsLawful}
use Rattle.message_laws.specs.Boxes.{Fits}
use Rattle.message_laws.specs.System.{Status, Running, Ended, Faulted, Cut, Standing, State, done_at, step_at, stepped, stop_at, stop_after, finds, places_of, found, Leads, Cuts, Can, event, cut}
use Rattle.message_laws.specs.Facts.{IsFaultBefore, RankOk, StopOk, HeardOk, Facts}
use Rattle.message_laws.proofs.Basics.{apart, min_left, min_right, takes_same, takes_one, takes_else, takes_apart, posts_rise}

abbrev pub IsClear : Behaviour → ℕ → ℕ → Type 0
IsClear b r p = (k : ℕ) → k < p → IsFalse (is_last (b.action r k))

pub clear_more : (b : Behaviour) (r p : ℕ) → IsClear b r p → IsFalse (is_last (b.action r p)) → IsClear b r (suc p)
clear_more b r p c h k lt = elim (cases_eq k p) [
  | inl e ↦ subst (λ (x : ℕ). IsFalse (is_last (b.action r x))) (sym e) h
  | inr ne ↦ c k (omega (arith, lt, ne))
]

-- a stop word below completed steps shows a fault before them
pub late_from_stop : (b : Behaviour) → IsLawful b → (w c : ℕ) → StopOk b w → w < b.completed c → IsFaultBefore b (b.completed c)
late_from_stop b h w c so lt = elim so [
  | inl e ↦ (let x = h.steps_few c in absurd (omega (arith, e, lt, x)))
  | inr x ↦ record { at = x.0; fault = x.1; noted = x.2; before = (let e = x.3 in omega (arith, e, lt)) }
]

pub done_kept : (b : Behaviour) (r p : ℕ) (a : Action) → b.action r p ≡ a → (found below : Bool) → IsClear b r p → (IsTrue below → IsFaultBefore b (steps b r p)) → RankOk b r (done_at p a found below)
done_kept b r p (Act lines) e found below c l = record { clear = clear_more b r p c (ap is_last e); status = tt }
done_kept b r p (Post to m) e found below c l = record { clear = clear_more b r p c (ap is_last e); status = tt }
done_kept b r p (Take from tag) e true below c l = record { clear = clear_more b r p c (ap is_last e); status = tt }
done_kept b r p (Take from tag) e false true c l = record { clear = c; status = (record { from = from; tag = tag; is = e }, l refl) }
done_kept b r p (Take from tag) e false false c l = record { clear = c; status = tt }
done_kept b r p (Fail f) e found below c l = record { clear = c; status = (f, e) }
done_kept b r p End e found below c l = record { clear = c; status = e }

pub step_kept : (b : Behaviour) (r p : ℕ) (s : Status) (found below : Bool) → RankOk b r (record { place = p; status = s }) → (IsTrue below → IsFaultBefore b (steps b r p)) → RankOk b r (step_at p s (b.action r p) found below)
step_kept b r p Running found below k l = done_kept b r p (b.action r p) refl found below k.clear l
step_kept b r p Ended found below k l = k
step_kept b r p Faulted found below k l = k
step_kept b r p Cut found below k l = k

-- a rank stays as it must
pub rank_kept : (b : Behaviour) → IsLawful b → (r : ℕ) (s : Standing) (found : Bool) (w : ℕ) → RankOk b r s → StopOk b w → RankOk b r (stepped b r s found w)
rank_kept b h r s found w k so = step_kept b r s.place s.status found (nat_lt w (steps b r s.place)) k (λ t. late_from_stop b h w (b.configuration r s.place) so (ltb-true w (steps b r s.place) t))

-- ---- the stop word

stop_at_ok : (b : Behaviour) → IsLawful b → (r p : ℕ) (s : Status) (a : Action) → b.action r p ≡ a → (w : ℕ) → StopOk b w → StopOk b (stop_at s a (steps b r p) w)
stop_at_ok b h r p Running (Act lines) e w so = so
stop_at_ok b h r p Running (Post to m) e w so = so
stop_at_ok b h r p Running (Take from tag) e w so = so
stop_at_ok b h r p Running (Fail f) e w so = elim (cases_lt w (steps b r p)) [
  | inl lt ↦ subst (StopOk b) (sym (min_left w (steps b r p) (omega (arith, lt)))) so
  | inr le ↦ subst (StopOk b) (sym (min_right w (steps b r p) le)) (inr (b.configuration r p, f, h.fail_noted r p f e, refl))
]
stop_at_ok b h r p Running End e w so = so
stop_at_ok b h r p Ended a e w so = so
stop_at_ok b h r p Faulted a e w so = so
stop_at_ok b h r p Cut a e w so = so

-- the stop word stays as it must
pub stop_kept : (b : Behaviour) → IsLawful b → (r : ℕ) (s : Standing) (w : ℕ) → StopOk b w → StopOk b (stop_after b r s w)
stop_kept b h r s w so = stop_at_ok b h r s.place s.status (b.action r s.place) refl w so

-- it never rises
stop_at_falls : (s : Status) (a : Action) (done w : ℕ) → stop_at s a done w ≤ w
stop_at_falls Running (Act lines) done w = omega arith
stop_at_falls Running (Post to m) done w = omega arith
stop_at_falls Running (Take from tag) done w = omega arith
stop_at_falls Running (Fail f) done w = omega arith
stop_at_falls Running End done w = omega arith
stop_at_falls Ended a done w = omega arith
stop_at_falls Faulted a done w = omega arith
stop_at_falls Cut a done w = omega arith

pub stop_falls : (b : Behaviour) (r : ℕ) (s : Standing) (w : ℕ) → stop_after b r s w ≤ w
stop_falls b r s w = stop_at_falls s.status (b.action r s.place) (steps b r s.place) w

pub heard_falls : (b : Behaviour) (r : ℕ) (s : Standing) (w v : ℕ) → HeardOk b r s w → v ≤ w → HeardOk b r s v
heard_falls b r s w v h le e = let x = h e in omega (arith, x, le)

done_heard : (b : Behaviour) (r p : ℕ) (a : Action) (found below : Bool) (w : ℕ) → HeardOk b r (done_at p a found below) (stop_at Running a (steps b r p) w)
done_heard b r p (Act lines) found below w e = absurd (apart e (inl (omega arith)))
done_heard b r p (Post to m) found below w e = absurd (apart e (inl (omega arith)))
done_heard b r p (Take from tag) true below w e = absurd (apart e (inl (omega arith)))
done_heard b r p (Take from tag) false true w e = absurd (apart e (inr (omega arith)))
done_heard b r p (Take from tag) false false w e = absurd (apart e (inl (omega arith)))
done_heard b r p (Fail f) found below w e = omega arith
done_heard b r p End found below w e = absurd (apart e (inl (omega arith)))

step_heard : (b : Behaviour) (r p : ℕ) (s : Status) (found below : Bool) (w : ℕ) → HeardOk b r (record { place = p; status = s }) w → HeardOk b r (step_at p s (b.action r p) found below) (stop_at s (b.action r p) (steps b r p) w)
step_heard b r p Running found below w h = done_heard b r p (b.action r p) found below w
step_heard b r p Ended found below w h = h
step_heard b r p Faulted found below w h = h
step_heard b r p Cut found below w h = h

-- a faulted rank has told its steps
pub heard_kept : (b : Behaviour) (r : ℕ) (s : Standing) (found : Bool) (loaded w : ℕ) → HeardOk b r s w → HeardOk b r (stepped b r s found loaded) (stop_after b r s w)
heard_kept b r s found loaded w h = step_heard b r s.place s.status found (nat_lt loaded (steps b r s.place)) w h

-- ---- boxes

step_at_rises : (p : ℕ) (s : Status) (a : Action) (found below : Bool) → p ≤ (step_at p s a found below).place
step_at_rises p Running (Act lines) found below = omega arith
step_at_rises p Running (Post to m) found below = omega arith
step_at_rises p Running (Take from tag) true below = omega arith
step_at_rises p Running (Take from tag) false true = omega arith
step_at_rises p Running (Take from tag) false false = omega arith
step_at_rises p Running (Fail f) found below = omega arith
step_at_rises p Running End found below = omega arith
step_at_rises p Ended a found below = omega arith
step_at_rises p Faulted a found below = omega arith
step_at_rises p Cut a found below = omega arith

pub place_rises : (b : Behaviour) (r : ℕ) (s : Standing) (found : Bool) (w : ℕ) → s.place ≤ (stepped b r s found w).place
place_rises b r s found w = step_at_rises s.place s.status (b.action r s.place) found (nat_lt w (steps b r s.place))

done_fits : (b : Behaviour) (q r i p : ℕ) (a : Action) → b.action r p ≡ a → (found below : Bool) → ((tag : ℕ) → a ≡ Take q tag → found ≡ true → takes b q r tag p < posts b q r tag i) → Fits b q r i p → Fits b q r i (done_at p a found below).place
done_fits b q r i p (Act lines) e found below h f t = let x = f t in let y = takes_same b q r t p (Act lines) e refl in omega (arith, x, y)
done_fits b q r i p (Post to m) e found below h f t = let x = f t in let y = takes_same b q r t p (Post to m) e refl in omega (arith, x, y)
done_fits b q r i p (Take from tag) e true below h f t = let x = f t in elim (cases_eq from q) [
  | inr ne ↦ (let y = takes_apart b q from r tag t p e ne in omega (arith, x, y))
  | inl same ↦ (let e2 : b.action r p ≡ Take q tag = e ∙ ap (λ (z : ℕ). Take z tag) same in elim (cases_eq tag t) [
    | inr ne ↦ (let y = takes_else b q r tag t p e2 ne in omega (arith, x, y))
    | inl is ↦ (let y = takes_one b q r t p (e2 ∙ ap (λ (z : ℕ). Take q z) is) in let z = h t (ap (λ (z : ℕ). Take z tag) same ∙ ap (λ (z : ℕ). Take q z) is) refl in omega (arith, y, z))
  ])
]
done_fits b q r i p (Take from tag) e false true h f t = f t
done_fits b q r i p (Take from tag) e false false h f t = f t
done_fits b q r i p (Fail g) e found below h f t = f t
done_fits b q r i p End e found below h f t = f t

step_fits : (b : Behaviour) (q r i p : ℕ) (s : Status) (found below : Bool) → ((tag : ℕ) → b.action r p ≡ Take q tag → found ≡ true → takes b q r tag p < posts b q r tag i) → Fits b q r i p → Fits b q r i (step_at p s (b.action r p) found below).place
step_fits b q r i p Running found below h f = done_fits b q r i p (b.action r p) refl found below h f
step_fits b q r i p Ended found below h f = f
step_fits b q r i p Faulted found below h f = f
step_fits b q r i p Cut found below h f = f

-- the box from q to r, where r steps: a take that finds its message finds it in that box
pub box_taken : (b : Behaviour) (q r i : ℕ) (s : Standing) (found : Bool) (w : ℕ) → ((tag : ℕ) → b.action r s.place ≡ Take q tag → found ≡ true → takes b q r tag s.place < posts b q r tag i) → Fits b q r i s.place → Fits b q r i (stepped b r s found w).place
box_taken b q r i s found w h f = step_fits b q r i s.place s.status found (nat_lt w (steps b r s.place)) h f

-- the box from q to r, where q comes to a later place
pub box_posted : (b : Behaviour) (q r i k j : ℕ) → i ≤ k → Fits b q r i j → Fits b q r k j
box_posted b q r i k j le f t = let x = f t in let y = posts_rise b q r t i k le in omega (arith, x, y)

-- ---- a state

-- what a rank that steps found, was there
pub found_there : (b : Behaviour) (s : State) (r q tag : ℕ) → b.action r (places_of s r) ≡ Take q tag → found b s r ≡ true → takes b q r tag (places_of s r) < posts b q r tag (places_of s q)
found_there b s r q tag e h = ltb-true _ _ (sym (ap (λ (a : Action). finds b r (places_of s r) a (places_of s)) e) ∙ h)

-- what holds of the rank that stepped and of the others, holds of all
pub at_all : (P : ℕ → Standing → Type 0) (s next : State) (r : ℕ) (own : Standing) → next.at r ≡ own → ((q : ℕ) → q ≢ r → next.at q ≡ s.at q) → P r own → ((q : ℕ) → q ≢ r → P q (s.at q)) → (q : ℕ) → P q (next.at q)
at_all P s next r own e o x y q = elim (cases_eq q r) [
  | inl same ↦ subst (λ (z : ℕ). P z (next.at z)) (sym same) (subst (P r) (sym e) x)
  | inr ne ↦ subst (P q) (sym (o q ne)) (y q ne)
]

leads_kept : (b : Behaviour) → IsLawful b → (s : State) (r : ℕ) (next : State) → r < b.ranks → Facts b s → Leads b s r next → Facts b next
leads_kept b h s r next lt k l =
    let own = stepped b r (s.at r) (found b s r) s.stop in
    let falls = stop_falls b r (s.at r) s.stop in
    let grown : (q : ℕ) → (s.at q).place ≤ (next.at q).place = at_all (λ q x. (s.at q).place ≤ x.place) s next r own l.own l.others (place_rises b r (s.at r) (found b s r) s.stop) (λ q ne. omega arith) in
    record {
      ranks = at_all (λ q x. q < b.ranks → RankOk b q x) s next r own l.own l.others (λ _. rank_kept b h r (s.at r) (found b s r) s.stop (k.ranks r lt) k.stop) (λ q ne. k.ranks q);
      heard = subst (λ (w : ℕ). (q : ℕ) → q < b.ranks → HeardOk b q (next.at q) w) (sym l.stop)
          (at_all (λ q x. q < b.ranks → HeardOk b q x (stop_after b r (s.at r) s.stop)) s next r own l.own l.others (λ _. heard_kept b r (s.at r) (found b s r) s.stop s.stop (k.heard r lt)) (λ q ne m. heard_falls b q (s.at q) s.stop _ (k.heard q m) falls));
      stop = subst (StopOk b) (sym l.stop) (stop_kept b h r (s.at r) s.stop k.stop);
      boxes = λ q x m n. box_posted b q x (s.at q).place (next.at q).place (next.at x).place (grown q)
          (at_all (λ x y. x < b.ranks → Fits b q x (s.at q).place y.place) s next r own l.own l.others
          (λ z. box_taken b q r (s.at q).place (s.at r) (found b s r) s.stop (λ tag e f. found_there b s r q tag e f) (k.boxes q r m z)) (λ x ne z. k.boxes q x m z) x n);
    }

cuts_kept : (b : Behaviour) → IsLawful b → (s : State) (r : ℕ) (next : State) → r < b.ranks → Facts b s → Cuts b s r next → Facts b next
cuts_kept b h s r next lt k c =
    let own : Standing = record { place = (s.at r).place; status = Cut } in
    let same : (q : ℕ) → (next.at q).place ≡ (s.at q).place = at_all (λ q x. x.place ≡ (s.at q).place) s next r own c.own c.others refl (λ q ne. refl) in
    record {
      ranks = at_all (λ q x. q < b.ranks → RankOk b q x) s next r own c.own c.others
          (λ _. record { clear = (k.ranks r lt).clear; status = (record { from = c.from; tag = c.tag; is = c.takes }, late_from_stop b h s.stop (b.configuration r (s.at r).place) k.stop c.below) }) (λ q ne. k.ranks q);
      heard = subst (λ (w : ℕ). (q : ℕ) → q < b.ranks → HeardOk b q (next.at q) w) (sym c.stop)
          (at_all (λ q x. q < b.ranks → HeardOk b q x s.stop) s next r own c.own c.others (λ _ e. absurd (apart e (inr (omega arith)))) (λ q ne. k.heard q));
      stop = subst (StopOk b) (sym c.stop) k.stop;
      boxes = λ q x m n. subst (λ (i : ℕ). Fits b q x i (next.at x).place) (sym (same q)) (subst (λ (j : ℕ). Fits b q x (s.at q).place j) (sym (same x)) (k.boxes q x m n));
    }

-- each step keeps the facts
pub facts_kept : (b : Behaviour) → IsLawful b → (s : State) (r : ℕ) (next : State) → r < b.ranks → Facts b s → Can b s r next → Facts b next
facts_kept b h s r next lt k (event l) = leads_kept b h s r next lt k l
facts_kept b h s r next lt k (cut c) = cuts_kept b h s r next lt k c
