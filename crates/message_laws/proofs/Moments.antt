-- The order of places: by configuration, and at one configuration the first halves first.
use Rattle.std.proofs.Common.{◌≡◌, ℕ, zero, suc, ◌+◌, ◌*◌, ◌<◌, ◌≤◌, Bool, true, false, ◌&&◌, ◌||◌, inl, inr, refl, sym, ◌∙◌, ap, arith}
use Rattle.std.proofs.lemmas.Bool.{cases_eq, cases_lt, eq-eqb}
use Rattle.std.specs.Prelude.{Option, Some, None}
use Rattle.message_laws.specs.Behaviour.{Behaviour, Failure, Take, is_take, is_past_half, IsEarlier, IsLawful}
use Rattle.message_laws.proofs.Basics.{rises}

abbrev pub bit : Bool → ℕ
bit true = 1
bit false = 0

abbrev pub moment : Behaviour → ℕ → ℕ → ℕ
moment b r p = 2 * b.configuration r p + bit (is_past_half b r p)

bit_small : (t : Bool) → bit t ≤ 1
bit_small true = omega arith
bit_small false = omega arith

bit_or : (a t : Bool) → bit t ≤ bit (a || (true && t))
bit_or true true = omega arith
bit_or true false = omega arith
bit_or false true = omega arith
bit_or false false = omega arith

half_stays : (b : Behaviour) (r p : ℕ) → b.configuration r p ≡ b.configuration r (suc p) → bit (is_past_half b r p) ≤ bit (is_past_half b r (suc p))
half_stays b r p e = rw (eq-eqb (b.configuration r p) (b.configuration r (suc p)) e) (bit_or (is_take (b.action r (suc p))) (is_past_half b r p))

moment_step : (b : Behaviour) → IsLawful b → (r p : ℕ) → moment b r p ≤ moment b r (suc p)
moment_step b h r p =
    let le = h.in_order r p in
    let s = bit_small (is_past_half b r p) in
    elim (cases_eq (b.configuration r p) (b.configuration r (suc p))) [
      | inl e ↦ (let x = half_stays b r p e in omega (arith, e, x))
      | inr ne ↦ omega (arith, ne, le, s)
    ]

pub moment_rises : (b : Behaviour) → IsLawful b → (r m n : ℕ) → m ≤ n → moment b r m ≤ moment b r n
moment_rises b h r = rises (moment b r) (moment_step b h r)

pub in_order : (b : Behaviour) → IsLawful b → (r m n : ℕ) → m ≤ n → b.configuration r m ≤ b.configuration r n
in_order b h r = rises (b.configuration r) (h.in_order r)

pub steps_rise : (b : Behaviour) → IsLawful b → (c d : ℕ) → c ≤ d → b.completed c ≤ b.completed d
steps_rise b h = rises b.completed h.steps_rise

take_past_half : (b : Behaviour) (r p : ℕ) → is_take (b.action r p) ≡ true → is_past_half b r p ≡ true
take_past_half b r zero e = e
take_past_half b r (suc p) e = rw e refl

-- what is posted earlier than a take has an earlier moment
pub earlier_moment : (b : Behaviour) (q k r p from tag : ℕ) → b.action r p ≡ Take from tag → IsEarlier b q k r p → moment b q k < moment b r p
earlier_moment b q k r p from tag e x =
    let one : bit (is_past_half b r p) ≡ 1 = ap bit (take_past_half b r p (ap is_take e)) in
    let s = bit_small (is_past_half b q k) in
    elim x [
      | inl lt ↦ omega (arith, one, s, lt)
      | inr y ↦ (let none : bit (is_past_half b q k) ≡ 0 = ap bit y.1 in let c = y.0 in omega (arith, one, none, c))
    ]

-- an earlier moment is of no later configuration
pub moment_order : (b : Behaviour) (q k r p : ℕ) → moment b q k ≤ moment b r p → b.configuration q k ≤ b.configuration r p
moment_order b q k r p le = let s = bit_small (is_past_half b r p) in omega (arith, s, le)

-- ---- the first fault

-- the trace notes a fault here, and none before
pub record IsFirst (b : Behaviour) (c : ℕ) (f : Failure) : Type 0 where
  pub noted : b.noted c ≡ Some f
  pub none : (d : ℕ) → d < c → b.noted d ≡ None

pub data Search (b : Behaviour) (n : ℕ) : Type 0 where
  nothing : ((d : ℕ) → d < n → b.noted d ≡ None) → Search b n
  first : (c : ℕ) (f : Failure) → (c < n) → IsFirst b c f → Search b n

look : (b : Behaviour) (n : ℕ) (o : Option Failure) → b.noted n ≡ o → ((d : ℕ) → d < n → b.noted d ≡ None) → Search b (suc n)
look b n None e h = nothing (λ d lt. elim (cases_eq d n) [ inl x ↦ ap b.noted x ∙ e | inr ne ↦ h d (omega (arith, lt, ne)) ])
look b n (Some f) e h = first n f (omega arith) (record { noted = e; none = h })

pub search_to : (b : Behaviour) (n : ℕ) → Search b n
search_to b zero = nothing (λ d lt. absurd (omega (arith, lt)))
search_to b (suc n) = elim (search_to b n) [
  | nothing h ↦ look b n (b.noted n) refl h
  | first c f lt x ↦ first c f (omega (arith, lt)) x
]

some_is_none : {A : Type 0} {o : Option A} {x : A} → o ≡ Some x → o ≡ None → ⊥
some_is_none e n = let z = sym e ∙ n in absurd (cc)

-- where the trace notes a fault, it notes one first
pub record FirstTo (b : Behaviour) (d : ℕ) : Type 0 where
  pub at : ℕ
  pub fault : Failure
  pub is : IsFirst b at fault
  pub before : at ≤ d

pub first_to : (b : Behaviour) (d : ℕ) (g : Failure) → b.noted d ≡ Some g → FirstTo b d
first_to b d g e = elim (search_to b (suc d)) [
  | nothing h ↦ absurd (some_is_none e (h d (omega arith)))
  | first c f lt x ↦ record { at = c; fault = f; is = x; before = omega (arith, lt) }
]

-- the first fault comes no later than another
pub first_before : (b : Behaviour) (c d : ℕ) (f g : Failure) → IsFirst b c f → b.noted d ≡ Some g → c ≤ d
first_before b c d f g x e = elim (cases_lt d c) [ inl lt ↦ absurd (some_is_none e (x.none d lt)) | inr le ↦ le ]
