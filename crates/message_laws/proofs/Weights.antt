-- A step leaves a state as it is, or raises its weight by one; the weight is bounded.
use Rattle.std.proofs.Common.{◌≡◌, ℕ, zero, suc, ◌+◌, ◌<◌, ◌≤◌, Bool, true, false, ◌⊎◌, inl, inr, refl, sym, ◌∙◌, ap, subst, arith, true≢false}
use Rattle.std.proofs.lemmas.Bool.{cases_eq, cases_lt, ltb-false, eq-eqb, ne_eqb}
use Rattle.std.specs.Prelude.{nat_lt, List, [], ◌∷◌, ◌≢◌}
use Rattle.message_laws.specs.Behaviour.{Behaviour, Action, Act, Post, Take, Fail, End, steps, IsLawful}
use Rattle.message_laws.specs.System.{Status, Running, Ended, Faulted, Cut, Standing, State, first_state, done_at, step_at, stepped, stop_at, stop_after, found, IsTaking, Waits, Leads, Cuts, Can, event, cut, put, event_of, swept, Moves, Pick, IsInterleaving, reached, changes, worth_of, worth, total, weight, most_weight, Answer, Rested, Waited, Moved, answer_at, answer_of}
use Rattle.message_laws.specs.Facts.{RankOk, Facts}
use Rattle.message_laws.proofs.Basics.{apart}
use Rattle.message_laws.proofs.Kept.{at_all}

-- a rank and the stop word stay as they are, or the rank's worth rises by one
pub data Step (old own : Standing) (w v : ℕ) : Type 0 where
  stays : (own ≡ old) → (v ≡ w) → Step old own w v
  raised : (worth own ≡ suc (worth old)) → Step old own w v

done_step : (p : ℕ) (a : Action) (found below : Bool) (done w : ℕ) → Step (record { place = p; status = Running }) (done_at p a found below) w (stop_at Running a done w)
done_step p (Act lines) found below done w = raised refl
done_step p (Post to m) found below done w = raised refl
done_step p (Take from tag) true below done w = raised refl
done_step p (Take from tag) false true done w = raised refl
done_step p (Take from tag) false false done w = stays refl refl
done_step p (Fail f) found below done w = raised refl
done_step p End found below done w = raised refl

step_step : (p : ℕ) (st : Status) (a : Action) (found below : Bool) (done w : ℕ) → Step (record { place = p; status = st }) (step_at p st a found below) w (stop_at st a done w)
step_step p Running a found below done w = done_step p a found below done w
step_step p Ended a found below done w = stays refl refl
step_step p Faulted a found below done w = stays refl refl
step_step p Cut a found below done w = stays refl refl

pub rank_step : (b : Behaviour) (r : ℕ) (s : Standing) (found : Bool) (w : ℕ) → Step s (stepped b r s found w) w (stop_after b r s w)
rank_step b r s found w = step_step s.place s.status (b.action r s.place) found (nat_lt w (steps b r s.place)) (steps b r s.place) w

-- a running rank that doesn't wait is raised
done_goes : (b : Behaviour) (r p : ℕ) (a : Action) → b.action r p ≡ a → (found below : Bool) → (IsTaking b r p → found ≡ false → below ≡ false → ⊥) → worth (done_at p a found below) ≡ suc p
done_goes b r p (Act lines) e found below h = refl
done_goes b r p (Post to m) e found below h = refl
done_goes b r p (Take from tag) e true below h = refl
done_goes b r p (Take from tag) e false true h = refl
done_goes b r p (Take from tag) e false false h = absurd (h (record { from = from; tag = tag; is = e }) refl refl)
done_goes b r p (Fail f) e found below h = refl
done_goes b r p End e found below h = refl

goes_at : (b : Behaviour) (r p : ℕ) (st : Status) → st ≡ Running → (found below : Bool) → (IsTaking b r p → found ≡ false → below ≡ false → ⊥) → worth (step_at p st (b.action r p) found below) ≡ suc (worth_of p st)
goes_at b r p Running e found below h = done_goes b r p (b.action r p) refl found below h
goes_at b r p Ended e found below h = absurd (apart e (inr (omega arith)))
goes_at b r p Faulted e found below h = absurd (apart e (inr (omega arith)))
goes_at b r p Cut e found below h = absurd (apart e (inr (omega arith)))

pub goes_up : (b : Behaviour) (s : State) (r : ℕ) (next : State) → (s.at r).status ≡ Running → (Waits b s r → ⊥) → Leads b s r next → worth (next.at r) ≡ suc (worth (s.at r))
goes_up b s r next run no_wait l =
    ap worth l.own ∙ goes_at b r (s.at r).place (s.at r).status run (found b s r) (nat_lt s.stop (steps b r (s.at r).place))
    (λ t f g. no_wait (record { runs = run; takes = t; missing = f; above = ltb-false _ _ g }))

-- a worth that rose is of another standing
pub worth_apart : (x y : Standing) → worth x ≡ suc (worth y) → x ≡ y → ⊥
worth_apart x y e f = let z : worth x ≡ worth y = ap worth f in absurd {A = ⊥} (omega (arith, e, z))

-- ---- sums

total_same : (f g : ℕ → ℕ) (n : ℕ) → ((q : ℕ) → q < n → g q ≡ f q) → total g n ≡ total f n
total_same f g zero h = refl
total_same f g (suc n) h = let x = total_same f g n (λ q lt. h q (omega (arith, lt))) in let y = h n (omega arith) in omega (arith, x, y)

total_more : (f g : ℕ → ℕ) (r n : ℕ) → r < n → g r ≡ suc (f r) → ((q : ℕ) → q ≢ r → g q ≡ f q) → total g n ≡ suc (total f n)
total_more f g r zero lt e h = absurd (omega (arith, lt))
total_more f g r (suc n) lt e h = elim (cases_eq n r) [
  | inl same ↦ (
      let x = total_same f g n (λ q m. h q (λ z. absurd {A = ⊥} (omega (arith, m, z, same)))) in
      let y : g n ≡ suc (f n) = subst (λ (z : ℕ). g z ≡ suc (f z)) (sym same) e in
      omega (arith, x, y))
  | inr ne ↦ (let x = total_more f g r n (omega (arith, lt, ne)) e h in let y = h n ne in omega (arith, x, y))
]

total_le : (f g : ℕ → ℕ) (n : ℕ) → ((q : ℕ) → q < n → f q ≤ g q) → total f n ≤ total g n
total_le f g zero h = omega arith
total_le f g (suc n) h = let x = total_le f g n (λ q lt. h q (omega (arith, lt))) in let y = h n (omega arith) in omega (arith, x, y)

pub raised_weight : (b : Behaviour) (s next : State) (r : ℕ) → r < b.ranks → worth (next.at r) ≡ suc (worth (s.at r)) → ((q : ℕ) → q ≢ r → next.at q ≡ s.at q) → weight b next ≡ suc (weight b s)
raised_weight b s next r lt e o = total_more (λ q. worth (s.at q)) (λ q. worth (next.at q)) r b.ranks lt e (λ q ne. ap worth (o q ne))

-- states with the same standings and the same stop word
pub same_state : (s next : State) → ((q : ℕ) → next.at q ≡ s.at q) → next.stop ≡ s.stop → next ≡ s
same_state s next h e = λ i. record { at = λ q. h q i; stop = e i }

leads_weight : (b : Behaviour) (s : State) (r : ℕ) (next : State) → r < b.ranks → Leads b s r next → (next ≡ s) ⊎ (weight b next ≡ suc (weight b s))
leads_weight b s r next lt l = elim (rank_step b r (s.at r) (found b s r) s.stop) [
  | stays e f ↦ inl (same_state s next (at_all (λ q x. x ≡ s.at q) s next r (s.at r) (l.own ∙ e) l.others refl (λ q ne. refl)) (l.stop ∙ f))
  | raised e ↦ inr (raised_weight b s next r lt (ap worth l.own ∙ e) l.others)
]

cuts_weight : (b : Behaviour) (s : State) (r : ℕ) (next : State) → r < b.ranks → Cuts b s r next → weight b next ≡ suc (weight b s)
cuts_weight b s r next lt c =
    let old : worth (s.at r) ≡ (s.at r).place = ap (λ (st : Status). worth_of (s.at r).place st) c.runs in
    let new : worth (next.at r) ≡ suc (s.at r).place = ap worth c.own in
    raised_weight b s next r lt (new ∙ ap suc (sym old)) c.others

-- a step leaves the state as it is, or raises its weight by one
pub can_weight : (b : Behaviour) (s : State) (r : ℕ) (next : State) → r < b.ranks → Can b s r next → (next ≡ s) ⊎ (weight b next ≡ suc (weight b s))
can_weight b s r next lt (event l) = leads_weight b s r next lt l
can_weight b s r next lt (cut c) = inr (cuts_weight b s r next lt c)

-- a rank isn't behind its last place
pub not_past : (b : Behaviour) → IsLawful b → (r : ℕ) → r < b.ranks → (s : Standing) → RankOk b r s → s.place ≤ b.last r
not_past b h r inside s k = elim (cases_lt (b.last r) s.place) [
  | inl lt ↦ absurd (true≢false (sym (h.is_last r inside) ∙ k.clear (b.last r) lt))
  | inr le ↦ le
]

worth_few : (p : ℕ) (st : Status) → worth_of p st ≤ suc p
worth_few p Running = omega arith
worth_few p Ended = omega arith
worth_few p Faulted = omega arith
worth_few p Cut = omega arith

pub weight_few : (b : Behaviour) → IsLawful b → (s : State) → Facts b s → weight b s ≤ most_weight b
weight_few b h s k = total_le (λ q. worth (s.at q)) (λ q. suc (b.last q)) b.ranks (λ q lt. let x = worth_few (s.at q).place (s.at q).status in let y = not_past b h q lt (s.at q) (k.ranks q lt) in omega (arith, x, y))

-- ---- schedules

pub leads_on : (b : Behaviour) (s : State) (r : ℕ) → Leads b s r (event_of b s r)
leads_on b s r = record {
  own = rw (eq-eqb r r refl) refl;
  others = λ q ne. rw (ne_eqb q r ne) refl;
  stop = refl;
}

-- the state after the step is the one
pub leads_is : (b : Behaviour) (s : State) (r : ℕ) (next : State) → Leads b s r next → next ≡ event_of b s r
leads_is b s r next l = same_state (event_of b s r) next (λ q. elim (cases_eq q r) [
  | inl e ↦ ap next.at e ∙ (l.own ∙ sym (ap (put s.at r (stepped b r (s.at r) (found b s r) s.stop)) e ∙ (leads_on b s r).own))
  | inr ne ↦ l.others q ne ∙ sym ((leads_on b s r).others q ne)
]) l.stop

pub data Swept (b : Behaviour) (s : State) (n : ℕ) : Type 0 where
  still : (swept b s n ≡ s) → ((r : ℕ) → r < n → event_of b s r ≡ s) → Swept b s n
  rose : (weight b s < weight b (swept b s n)) → Swept b s n

swept_more : (b : Behaviour) (s : State) (n : ℕ) → n < b.ranks → Swept b s n → Swept b s (suc n)
swept_more b s n lt (rose up) = elim (leads_weight b (swept b s n) n (event_of b (swept b s n) n) lt (leads_on b (swept b s n) n)) [
  | inl e ↦ rose (let z = ap (weight b) e in omega (arith, up, z))
  | inr e ↦ rose (omega (arith, up, e))
]
swept_more b s n lt (still e h) = elim (leads_weight b s n (event_of b s n) lt (leads_on b s n)) [
  | inl f ↦ still (ap (λ (x : State). event_of b x n) e ∙ f) (λ r m. elim (cases_eq r n) [ inl z ↦ ap (event_of b s) z ∙ f | inr ne ↦ h r (omega (arith, m, ne)) ])
  | inr f ↦ rose (let z = ap (λ (x : State). weight b (event_of b x n)) e in omega (arith, f, z))
]

pub sweep : (b : Behaviour) (s : State) (n : ℕ) → n ≤ b.ranks → Swept b s n
sweep b s zero le = still refl (λ r lt. absurd (omega (arith, lt)))
sweep b s (suc n) le = swept_more b s n (omega (arith, le)) (sweep b s n (omega (arith, le)))

pub sweep_moves : (b : Behaviour) (s : State) → Moves b s → weight b s < weight b (swept b s b.ranks)
sweep_moves b s m = elim (sweep b s b.ranks (omega arith)) [
  | rose up ↦ up
  | still e h ↦ (
      let x = m.moves (event_of b s m.rank) (leads_on b s m.rank) in
      let y = ap (weight b) (h m.rank m.inside) in
      absurd (omega (arith, x, y)))
]

-- the weight at the end of an interleaving counts its changes
pub changes_weight : (b : Behaviour) (s : State) (ps : List Pick) → IsInterleaving b s ps → changes b s ps + weight b s ≡ weight b (reached s ps)
changes_weight b s [] h = omega arith
changes_weight b s (p ∷ ps) h = let rest = changes_weight b p.next ps h.2 in elim (can_weight b s p.rank p.next h.0 h.1) [
  | inl e ↦ (let z = ap (weight b) e in omega (arith, z, rest))
  | inr e ↦ omega (arith, e, rest)
]

weight_first : (f : ℕ → ℕ) (n : ℕ) → ((q : ℕ) → f q ≡ 0) → total f n ≡ 0
weight_first f zero h = refl
weight_first f (suc n) h = let x = weight_first f n h in let y = h n in omega (arith, x, y)

pub first_weight : (b : Behaviour) → weight b first_state ≡ 0
first_weight b = weight_first (λ r. worth (first_state.at r)) b.ranks (λ q. refl)

-- ---- answers

abbrev answer_number : Answer → ℕ
answer_number Rested = 0
answer_number Waited = 1
answer_number Moved = 2

other_answer : {X : Type 0} {a c : Answer} → a ≡ c → answer_number a ≢ answer_number c → X
other_answer e ne = absurd (ne (ap answer_number e))

moved_not : {X : Type 0} → Moved ≡ Waited → X
moved_not e = other_answer e (λ z. absurd {A = ⊥} (omega (arith, z)))

rested_not : {X : Type 0} → Rested ≡ Waited → X
rested_not e = other_answer e (λ z. absurd {A = ⊥} (omega (arith, z)))

waits_by : (b : Behaviour) (s : State) (r : ℕ) (st : Status) → (s.at r).status ≡ st → (a : Action) → b.action r (s.at r).place ≡ a → (f : Bool) → found b s r ≡ f → (w : Bool) → nat_lt s.stop (steps b r (s.at r).place) ≡ w → answer_at st a f w ≡ Waited → Waits b s r
waits_by b s r Running i (Act lines) e f g w k h = moved_not h
waits_by b s r Running i (Post to m) e f g w k h = moved_not h
waits_by b s r Running i (Take from tag) e true g w k h = moved_not h
waits_by b s r Running i (Take from tag) e false g true k h = moved_not h
waits_by b s r Running i (Take from tag) e false g false k h = record { runs = i; takes = record { from = from; tag = tag; is = e }; missing = g; above = ltb-false _ _ k }
waits_by b s r Running i (Fail x) e f g w k h = moved_not h
waits_by b s r Running i End e f g w k h = moved_not h
waits_by b s r Ended i a e f g w k h = rested_not h
waits_by b s r Faulted i a e f g w k h = rested_not h
waits_by b s r Cut i a e f g w k h = rested_not h

-- a step that answers Waited is of a rank that waits
pub waited_waits : (b : Behaviour) (s : State) (r : ℕ) → answer_of b s r ≡ Waited → Waits b s r
waited_waits b s r h = waits_by b s r (s.at r).status refl (b.action r (s.at r).place) refl (found b s r) refl (nat_lt s.stop (steps b r (s.at r).place)) refl h
