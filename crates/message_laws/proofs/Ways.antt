-- The places of a rank's way, by configuration and index.
use Rattle.std.proofs.Common.{◌≡◌, ℕ, zero, suc, ◌+◌, ◌-◌, ◌<◌, ◌≤◌, List, [], ◌∷◌, ◌++◌, length, inl, inr, refl, sym, ◌∙◌, ap, subst, arith, length-append}
use Rattle.std.proofs.lemmas.Bool.{cases_eq, cases_lt}
use Rattle.std.specs.Prelude.{Option, Some, None}
use Rattle.message_laws.specs.Behaviour.{Action, End}
use Rattle.message_laws.proofs.Basics.{rises}
use Rattle.message_laws.specs.Traces.{Trace, Entry, numbered, way, nth, action_in, configuration_in, behaviour_of}

pub some_not_none : {A : Type 0} {x : A} → Some x ≡ None → ⊥
some_not_none e = absurd (cc)

pub nth_inside : {X : Type 0} (xs : List X) (k : ℕ) (x : X) → nth xs k ≡ Some x → k < length xs
nth_inside [] k x e = absurd (some_not_none (sym e))
nth_inside (y ∷ xs) zero x e = omega arith
nth_inside (y ∷ xs) (suc k) x e = let r = nth_inside xs k x e in omega (arith, r)

pub nth_past : {X : Type 0} (xs : List X) (k : ℕ) → length xs ≤ k → nth xs k ≡ None
nth_past [] k le = refl
nth_past (y ∷ xs) zero le = absurd (omega (arith, le))
nth_past (y ∷ xs) (suc k) le = nth_past xs k (omega (arith, le))

-- an element at each index inside
pub record Element {X : Type 0} (xs : List X) (k : ℕ) : Type 0 where
  pub element : X
  pub is : nth xs k ≡ Some element

pub nth_some : {X : Type 0} (xs : List X) (k : ℕ) → k < length xs → Element xs k
nth_some [] k lt = absurd (omega (arith, lt))
nth_some (y ∷ xs) zero lt = record { element = y; is = refl }
nth_some (y ∷ xs) (suc k) lt = let r = nth_some xs k (omega (arith, lt)) in record { element = r.element; is = r.is }

pub nth_left : {X : Type 0} (xs ys : List X) (k : ℕ) → k < length xs → nth (xs ++ ys) k ≡ nth xs k
nth_left [] ys k lt = absurd (omega (arith, lt))
nth_left (x ∷ xs) ys zero lt = refl
nth_left (x ∷ xs) ys (suc k) lt = nth_left xs ys k (omega (arith, lt))

nth_right : {X : Type 0} (xs ys : List X) (p k : ℕ) → p ≡ length xs + k → nth (xs ++ ys) p ≡ nth ys k
nth_right [] ys p k e = ap (nth ys) (omega (arith, e))
nth_right (x ∷ xs) ys zero k e = absurd (omega (arith, e))
nth_right (x ∷ xs) ys (suc p) k e = nth_right xs ys p k (omega (arith, e))

length-numbered : (c : ℕ) (xs : List Action) → length (numbered c xs) ≡ length xs
length-numbered c [] = refl
length-numbered c (a ∷ xs) = let r = length-numbered c xs in omega (arith, r)

abbrev pub the_entry : ℕ → Action → Entry
the_entry c a = record { configuration = c; action = a }

nth_numbered : (c : ℕ) (xs : List Action) (k : ℕ) (a : Action) → nth xs k ≡ Some a → nth (numbered c xs) k ≡ Some (the_entry c a)
nth_numbered c [] k a e = absurd (some_not_none (sym e))
nth_numbered c (x ∷ xs) zero a e = ap (λ (o : Option Action). entry_of o) e
  where
    entry_of : Option Action → Option Entry
    entry_of None = None
    entry_of (Some x) = Some (the_entry c x)
nth_numbered c (x ∷ xs) (suc k) a e = nth_numbered c xs k a e

pub record IsNumbered (c : ℕ) (xs : List Action) (k : ℕ) (e : Entry) : Type 0 where
  pub here : nth xs k ≡ Some e.action
  pub number : e.configuration ≡ c

abbrev entry_in : Entry → Option Entry → Entry
entry_in d None = d
entry_in d (Some x) = x

same_entry : {x y : Entry} → Some x ≡ Some y → x ≡ y
same_entry {x} e = ap (entry_in x) e

numbered_nth : (c : ℕ) (xs : List Action) (k : ℕ) (e : Entry) → nth (numbered c xs) k ≡ Some e → IsNumbered c xs k e
numbered_nth c [] k e h = absurd (some_not_none (sym h))
numbered_nth c (x ∷ xs) zero e h = let s = same_entry h in record { here = ap (λ (y : Entry). Some y.action) s; number = ap (λ (y : Entry). y.configuration) (sym s) }
numbered_nth c (x ∷ xs) (suc k) e h = let r = numbered_nth c xs k e h in record { here = r.here; number = r.number }

-- ---- places

-- the place at which a configuration begins for a rank
abbrev pub start : Trace → ℕ → ℕ → ℕ
start t r n = length (way t r n)

pub start_suc : (t : Trace) (r n : ℕ) → start t r (suc n) ≡ start t r n + length (t.actions n r)
start_suc t r n = let e = length-append (way t r n) (numbered n (t.actions n r)) in let f = length-numbered n (t.actions n r) in omega (arith, e, f)

pub start_rises : (t : Trace) (r m n : ℕ) → m ≤ n → start t r m ≤ start t r n
start_rises t r = rises (start t r) (λ n. let e = start_suc t r n in omega (arith, e))

pub way_at : (t : Trace) (r count n k : ℕ) (a : Action) → n < count → nth (t.actions n r) k ≡ Some a → nth (way t r count) (start t r n + k) ≡ Some (the_entry n a)
way_at t r zero n k a lt e = absurd (omega (arith, lt))
way_at t r (suc count) n k a lt e = elim (cases_eq n count) [
  | inl same ↦ subst (λ (z : ℕ). nth (way t r (suc count)) (start t r z + k) ≡ Some (the_entry z a)) (sym same)
      (nth_right (way t r count) (numbered count (t.actions count r)) (start t r count + k) k refl ∙ nth_numbered count (t.actions count r) k a (subst (λ (z : ℕ). nth (t.actions z r) k ≡ Some a) same e))
  | inr ne ↦ (
      let inside = nth_inside (t.actions n r) k a e in
      let next = start_suc t r n in
      let up = start_rises t r (suc n) count (omega (arith, lt, ne)) in
      nth_left (way t r count) (numbered count (t.actions count r)) (start t r n + k) (omega (arith, inside, next, up)) ∙ way_at t r count n k a (omega (arith, lt, ne)) e)
]

-- a place is action k of configuration n
pub record Located (t : Trace) (r count p : ℕ) (e : Entry) : Type 0 where
  pub n : ℕ
  pub k : ℕ
  pub inside : n < count
  pub place : p ≡ start t r n + k
  pub here : nth (t.actions n r) k ≡ Some e.action
  pub number : e.configuration ≡ n

pub locate : (t : Trace) (r count p : ℕ) (e : Entry) → nth (way t r count) p ≡ Some e → Located t r count p e
locate t r zero p e h = absurd (some_not_none (sym h))
locate t r (suc count) p e h = elim (cases_lt p (start t r count)) [
  | inl lt ↦ (
      let x = locate t r count p e (sym (nth_left (way t r count) (numbered count (t.actions count r)) p lt) ∙ h) in
      let i = x.inside in
      record { n = x.n; k = x.k; inside = omega (arith, i); place = x.place; here = x.here; number = x.number })
  | inr le ↦ (
      let k = p - start t r count in
      let at : p ≡ start t r count + k = omega (arith, le) in
      let x = numbered_nth count (t.actions count r) k e (sym (nth_right (way t r count) (numbered count (t.actions count r)) p k at) ∙ h) in
      record { n = count; k = k; inside = omega arith; place = at; here = x.here; number = x.number })
]

-- ---- the behaviour at a place

pub action_at : (t : Trace) (r n k : ℕ) (a : Action) → n < t.count → nth (t.actions n r) k ≡ Some a → (behaviour_of t).action r (start t r n + k) ≡ a
action_at t r n k a lt e = ap action_in (way_at t r t.count n k a lt e)

pub configuration_at : (t : Trace) (r n k : ℕ) (a : Action) → n < t.count → nth (t.actions n r) k ≡ Some a → (behaviour_of t).configuration r (start t r n + k) ≡ n
configuration_at t r n k a lt e = ap (configuration_in t.count) (way_at t r t.count n k a lt e)

-- where a place stands: at an action of a configuration, or behind all
pub data Place (t : Trace) (r p : ℕ) : Type 0 where
  inside : (n k : ℕ) (a : Action) → (n < t.count) → (p ≡ start t r n + k) → (nth (t.actions n r) k ≡ Some a) → ((behaviour_of t).action r p ≡ a) → ((behaviour_of t).configuration r p ≡ n) → Place t r p
  behind : (start t r t.count ≤ p) → ((behaviour_of t).action r p ≡ End) → ((behaviour_of t).configuration r p ≡ t.count) → Place t r p

place_by : (t : Trace) (r p : ℕ) (o : Option Entry) → nth (way t r t.count) p ≡ o → Place t r p
place_by t r p None e = elim (cases_lt p (start t r t.count)) [
  | inl lt ↦ (let x = nth_some (way t r t.count) p lt in absurd (some_not_none (sym x.is ∙ e)))
  | inr le ↦ behind le (ap action_in e) (ap (configuration_in t.count) e)
]
place_by t r p (Some x) e = let l = locate t r t.count p x e in inside l.n l.k x.action l.inside l.place l.here (ap action_in e) (ap (configuration_in t.count) e ∙ l.number)

pub place_of : (t : Trace) (r p : ℕ) → Place t r p
place_of t r p = place_by t r p (nth (way t r t.count) p) refl

-- a place inside a configuration comes before the next begins
pub before_next : (t : Trace) (r n k p : ℕ) (a : Action) → p ≡ start t r n + k → nth (t.actions n r) k ≡ Some a → p < start t r (suc n)
before_next t r n k p a e h = let i = nth_inside (t.actions n r) k a h in let s = start_suc t r n in omega (arith, e, i, s)

-- a later place is at no earlier configuration
pub later_number : (t : Trace) (r n k m l p q : ℕ) (a : Action) → p ≡ start t r n + k → q ≡ start t r m + l → nth (t.actions m r) l ≡ Some a → p ≤ q → n ≤ m
later_number t r n k m l p q a e f h le = elim (cases_lt m n) [
  | inl lt ↦ (let x = before_next t r m l q a f h in let up = start_rises t r (suc m) n lt in absurd (omega (arith, x, up, e, le)))
  | inr ge ↦ ge
]
