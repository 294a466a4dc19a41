-- One entry of a box more.
use Rattle.std.proofs.Common.{◌≡◌, ◌≢◌, ℕ, ◌+◌, ◌==◌, ℤ, Bool, true, false, ◌&&◌, List, [], ◌∷◌, ◌++◌, refl, sym, ◌∙◌, ap, arith, inl, inr, if◌then◌else◌}
use Rattle.std.specs.Prelude.{Option, Some, None, is_some}
use Rattle.std.proofs.lemmas.Bool.{cases_Bool, eq-eqb, ne_eqb}
use Rattle.std.proofs.lemmas.List.Sums.{sum_by-cons, sum_by-append}
use Rattle.mailbox_book.specs.Boxes.{Entry, fresh, spent, is_fresh, is_waiting, without_first, first_of, count_waiting}

pub without_at : (tag : ℕ) (e : Entry) (es : List Entry) → is_fresh tag e ≡ true → without_first tag (e ∷ es) ≡ spent e ∷ es
without_at tag e es h = rw h refl

pub without_on : (tag : ℕ) (e : Entry) (es : List Entry) → is_fresh tag e ≡ false → without_first tag (e ∷ es) ≡ e ∷ without_first tag es
without_on tag e es h = rw h refl

pub first_at : (tag : ℕ) (e : Entry) (es : List Entry) → is_fresh tag e ≡ true → first_of tag (e ∷ es) ≡ e.numbers
first_at tag e es h = rw h refl

pub first_on : (tag : ℕ) (e : Entry) (es : List Entry) → is_fresh tag e ≡ false → first_of tag (e ∷ es) ≡ first_of tag es
first_on tag e es h = rw h refl

never : (b : Bool) → (b && false) ≡ false
never true = refl
never false = refl

-- a message that was taken, one of another tag, and one of the tag that waits
pub spent_not_fresh : (tag : ℕ) (e : Entry) → e.numbers ≡ None → is_fresh tag e ≡ false
spent_not_fresh tag e h = ap (λ (o : Option (List ℤ)). (e.tag == tag) && is_some o) h ∙ never (e.tag == tag)

pub other_not_fresh : (tag : ℕ) (e : Entry) → e.tag ≢ tag → is_fresh tag e ≡ false
other_not_fresh tag e ne = ap (λ (b : Bool). b && is_waiting e) (ne_eqb e.tag tag ne)

pub waiting_fresh : (tag : ℕ) (e : Entry) (numbers : List ℤ) → e.tag ≡ tag → e.numbers ≡ Some numbers → is_fresh tag e ≡ true
waiting_fresh tag e numbers same h = ap (λ (b : Bool). b && is_waiting e) (eq-eqb e.tag tag same) ∙ ap (λ (o : Option (List ℤ)). is_some o) h

-- ---- how many wait

count_cons : (e : Entry) (es : List Entry) → count_waiting (e ∷ es) ≡ (if is_waiting e then 1 else 0) + count_waiting es
count_cons e es = sum_by-cons (λ (e : Entry). if is_waiting e then 1 else 0) e es

pub one_more_waits : (es : List Entry) (tag : ℕ) (numbers : List ℤ) → count_waiting (es ++ fresh tag numbers ∷ []) ≡ count_waiting es + 1
one_more_waits es tag numbers = sum_by-append (λ (e : Entry). if is_waiting e then 1 else 0) es (fresh tag numbers ∷ [])

both : (b d : Bool) → (b && d) ≡ true → d ≡ true
both true d h = h
both false d h = absurd (cc)

pub one_less_waits : (tag : ℕ) (numbers : List ℤ) (es : List Entry) → first_of tag es ≡ Some numbers → count_waiting (without_first tag es) + 1 ≡ count_waiting es
one_less_waits tag numbers [] h = absurd (cc)
one_less_waits tag numbers (e ∷ es) h = elim (cases_Bool (is_fresh tag e)) [
  | inl f ↦ (
      let gone : count_waiting (without_first tag (e ∷ es)) ≡ count_waiting es = ap (λ xs. count_waiting xs) (without_at tag e es f) ∙ count_cons (spent e) es ∙ omega arith in
      let there : count_waiting (e ∷ es) ≡ 1 + count_waiting es = count_cons e es ∙ ap (λ (b : Bool). (if b then 1 else 0) + count_waiting es) (both (e.tag == tag) (is_waiting e) f) in
      omega (arith, gone, there))
  | inr f ↦ (
      let left : count_waiting (without_first tag (e ∷ es)) ≡ (if is_waiting e then 1 else 0) + count_waiting (without_first tag es) = ap (λ xs. count_waiting xs) (without_on tag e es f) ∙ count_cons e (without_first tag es) in
      omega (arith, left, count_cons e es, one_less_waits tag numbers es (sym (first_on tag e es f) ∙ h)))
]

pub none_less : (tag : ℕ) (es : List Entry) → first_of tag es ≡ None → without_first tag es ≡ es
none_less tag [] h = refl
none_less tag (e ∷ es) h = elim (cases_Bool (is_fresh tag e)) [
  | inl f ↦ absurd (waits e.numbers (both (e.tag == tag) (is_waiting e) f) (sym (first_at tag e es f) ∙ h))
  | inr f ↦ without_on tag e es f ∙ ap (λ xs. e ∷ xs) (none_less tag es (sym (first_on tag e es f) ∙ h))
]
  where
    waits : (o : Option (List ℤ)) → is_some o ≡ true → o ≡ None → ⊥
    waits None s n = absurd (cc)
    waits (Some x) s n = absurd (cc)
