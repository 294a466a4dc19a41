-- Headers and queues after a post and after a take.
use Rattle.std.proofs.Common.{◌≡◌, ◌≢◌, ℕ, suc, ◌-◌, ◌<◌, ◌≤◌, ℤ, List, [], ◌∷◌, ◌++◌, length, get_or, drop, slice_get, refl, sym, ◌∙◌, ap, ap₂, subst, arith, inl, inr, ◌⊎◌, true, false, length-append, length-drop}
use Rattle.std.specs.Prelude.{Some, None}
use Rattle.std.proofs.lemmas.Bool.{cases_eq, cases_lt, eq-eqb, ne_eqb, lt-ltb, le-ltb}
use Rattle.std.proofs.lemmas.List.{get_or_append_left, get_or_push}
use Rattle.mailbox_book.specs.declared.message.Tag.{Tag}
use Rattle.mailbox_book.specs.declared.message.Header.{Header}
use Rattle.mailbox_book.specs.Boxes.{is_fresh, tag_number, tag_of, headers_of, without_first, first_of}
use Rattle.mailbox_book.specs.Marks.{entries_of, entry, from_end, with_tag}
use Rattle.mailbox_book.proofs.Entries.{without_at, without_on, first_at, first_on, spent_not_fresh, other_not_fresh, waiting_fresh}

-- ---- from the end of a queue

end_none : (q : List (List ℤ)) (n : ℕ) → length q < n → from_end q n ≡ None
end_none q n l = rw (lt-ltb (length q) n l) refl

end_some : (q : List (List ℤ)) (n : ℕ) → n ≤ length q → from_end q n ≡ Some (get_or q (length q - n) [])
end_some q n l = rw (le-ltb (length q) n l) refl

end_new : (q : List (List ℤ)) (x : List ℤ) → from_end (q ++ x ∷ []) 1 ≡ Some x
end_new q x =
    end_some (q ++ x ∷ []) 1 (omega (arith, length-append q (x ∷ [])))
    ∙ ap (λ y. Some y) (ap (λ i. get_or (q ++ x ∷ []) i []) (omega (arith, length-append q (x ∷ []))) ∙ last)
  where
    last : get_or (q ++ x ∷ []) (length q) [] ≡ x
    last = get_or_push q x [] (length q) refl

end_pushed : (q : List (List ℤ)) (x : List ℤ) (n : ℕ) → 1 ≤ n → from_end (q ++ x ∷ []) (suc n) ≡ from_end q n
end_pushed q x n l = elim (cases_lt (length q) n) [
  | inl s ↦ end_none (q ++ x ∷ []) (suc n) (omega (arith, s, length-append q (x ∷ []))) ∙ sym (end_none q n s)
  | inr g ↦ (
      let at : length (q ++ x ∷ []) - suc n ≡ length q - n = omega (arith, g, length-append q (x ∷ [])) in
      end_some (q ++ x ∷ []) (suc n) (omega (arith, g, length-append q (x ∷ [])))
      ∙ ap (λ y. Some y) (ap (λ i. get_or (q ++ x ∷ []) i []) at ∙ get_or_append_left q (x ∷ []) [] (length q - n) (omega (arith, g, l)))
      ∙ sym (end_some q n g))
]

end_dropped : (q : List (List ℤ)) (n : ℕ) → n < length q → from_end (drop 1 q) n ≡ from_end q n
end_dropped [] n l = absurd (omega (arith, l))
end_dropped (x ∷ xs) n l =
    let at : suc (length xs) - n ≡ suc (length xs - n) = omega (arith, l) in
    end_some xs n (omega (arith, l)) ∙ sym (end_some (x ∷ xs) n (omega (arith, l)) ∙ ap (λ i. Some (get_or (x ∷ xs) i [])) at)

end_gone : (q : List (List ℤ)) (n : ℕ) → length q ≤ n → 0 < n → from_end (drop 1 q) n ≡ None
end_gone q n l p = end_none (drop 1 q) n (omega (arith, l, p, length-drop 1 q))

-- the front of a queue
end_front : (q : List (List ℤ)) (n : ℕ) → length q ≡ suc n → from_end q (suc n) ≡ Some (get_or q 0 [])
end_front q n e = end_some q (suc n) (omega (arith, e)) ∙ ap (λ i. Some (get_or q i [])) (omega (arith, e))

front : (q : List (List ℤ)) → 0 < length q → slice_get q 0 ≡ Some (get_or q 0 [])
front [] l = absurd (omega (arith, l))
front (x ∷ xs) l = refl

no_front : (q : List (List ℤ)) → length q ≤ 0 → slice_get q 0 ≡ None
no_front [] l = refl
no_front (x ∷ xs) l = absurd (omega (arith, l))

-- ---- how many headers have a tag

with_same : (t : ℕ) (h : Header) (hs : List Header) → tag_number h.tag ≡ t → with_tag t (h ∷ hs) ≡ suc (with_tag t hs)
with_same t h hs e = rw (eq-eqb (tag_number h.tag) t e) refl

with_other : (t : ℕ) (h : Header) (hs : List Header) → tag_number h.tag ≢ t → with_tag t (h ∷ hs) ≡ with_tag t hs
with_other t h hs ne = rw (ne_eqb (tag_number h.tag) t ne) refl

pub with_pushed : (t : ℕ) (h : Header) (hs : List Header) → tag_number h.tag ≡ t → with_tag t (hs ++ h ∷ []) ≡ suc (with_tag t hs)
with_pushed t h [] e = with_same t h [] e
with_pushed t h (g ∷ gs) e = elim (cases_eq (tag_number g.tag) t) [
  | inl s ↦ with_same t g (gs ++ h ∷ []) s ∙ ap suc (with_pushed t h gs e ∙ sym (with_same t g gs s))
  | inr n ↦ with_other t g (gs ++ h ∷ []) n ∙ with_pushed t h gs e ∙ ap suc (sym (with_other t g gs n))
]

pub with_kept : (t : ℕ) (h : Header) (hs : List Header) → tag_number h.tag ≢ t → with_tag t (hs ++ h ∷ []) ≡ with_tag t hs
with_kept t h [] ne = with_other t h [] ne
with_kept t h (g ∷ gs) ne = elim (cases_eq (tag_number g.tag) t) [
  | inl s ↦ with_same t g (gs ++ h ∷ []) s ∙ ap suc (with_kept t h gs ne) ∙ sym (with_same t g gs s)
  | inr n ↦ with_other t g (gs ++ h ∷ []) n ∙ with_kept t h gs ne ∙ sym (with_other t g gs n)
]

-- ---- a post

-- `after` has other numbers at one tag alone
abbrev pub Elsewhere : (ℕ → List (List ℤ)) → (ℕ → List (List ℤ)) → ℕ → Type 0
Elsewhere before after t = (u : ℕ) → u ≢ t → after u ≡ before u

pub entries_post : (w v : ℕ → List (List ℤ)) (h : Header) (x : List ℤ) (hs : List Header) → v (tag_number h.tag) ≡ w (tag_number h.tag) ++ x ∷ [] → Elsewhere w v (tag_number h.tag)
    → entries_of v (hs ++ h ∷ []) ≡ entries_of w hs ++ entry h (Some x) ∷ []
entries_post w v h x [] at off = ap (λ o. entry h o ∷ []) (ap (λ q. from_end q 1) at ∙ end_new (w (tag_number h.tag)) x)
entries_post w v h x (g ∷ gs) at off = ap₂ (λ o es. entry g o ∷ es) numbers (entries_post w v h x gs at off)
  where
    numbers : from_end (v (tag_number g.tag)) (suc (with_tag (tag_number g.tag) (gs ++ h ∷ []))) ≡ from_end (w (tag_number g.tag)) (suc (with_tag (tag_number g.tag) gs))
    numbers = elim (cases_eq (tag_number g.tag) (tag_number h.tag)) [
      | inl e ↦ ap₂ (λ q n. from_end q (suc n)) (ap v e ∙ at ∙ ap (λ t. w t ++ x ∷ []) (sym e)) (with_pushed (tag_number g.tag) h gs (sym e)) ∙ end_pushed (w (tag_number g.tag)) x (suc (with_tag (tag_number g.tag) gs)) (omega arith)
      | inr ne ↦ ap₂ (λ q n. from_end q (suc n)) (off (tag_number g.tag) ne) (with_kept (tag_number g.tag) h gs (λ e. ne (sym e)))
    ]

-- ---- a take

-- the front of the queue is no message of these headers
entries_apart : (w v : ℕ → List (List ℤ)) (t : ℕ) (hs : List Header) → v t ≡ drop 1 (w t) → Elsewhere w v t → with_tag t hs < length (w t) → entries_of v hs ≡ entries_of w hs
entries_apart w v t [] at off l = refl
entries_apart w v t (h ∷ hs) at off l = elim (cases_eq (tag_number h.tag) t) [
  | inl e ↦ ap₂ (λ o es. entry h o ∷ es)
      (subst (λ u. from_end (v u) (suc (with_tag u hs)) ≡ from_end (w u) (suc (with_tag u hs))) (sym e)
      (ap (λ q. from_end q (suc (with_tag t hs))) at ∙ end_dropped (w t) (suc (with_tag t hs)) (omega (arith, l, with_same t h hs e))))
      (entries_apart w v t hs at off (omega (arith, l, with_same t h hs e)))
  | inr ne ↦ ap₂ (λ o es. entry h o ∷ es) (ap (λ q. from_end q (suc (with_tag (tag_number h.tag) hs))) (off (tag_number h.tag) ne)) (entries_apart w v t hs at off (omega (arith, l, with_other t h hs ne)))
]

-- what is taken, and what is left
pub record IsTaken (w v : ℕ → List (List ℤ)) (t : ℕ) (hs : List Header) : Type 0 where
  pub first : first_of t (entries_of w hs) ≡ slice_get (w t) 0
  pub rest : entries_of v hs ≡ without_first t (entries_of w hs)

passed : (w v : ℕ → List (List ℤ)) (t : ℕ) (h : Header) (hs : List Header) → is_fresh t (entry h (from_end (w (tag_number h.tag)) (suc (with_tag (tag_number h.tag) hs)))) ≡ false
    → from_end (v (tag_number h.tag)) (suc (with_tag (tag_number h.tag) hs)) ≡ from_end (w (tag_number h.tag)) (suc (with_tag (tag_number h.tag) hs)) → IsTaken w v t hs → IsTaken w v t (h ∷ hs)
passed w v t h hs f same r =
    let e = entry h (from_end (w (tag_number h.tag)) (suc (with_tag (tag_number h.tag) hs))) in
    record { first = first_on t e (entries_of w hs) f ∙ r.first; rest = ap₂ (λ o es. entry h o ∷ es) same r.rest ∙ sym (without_on t e (entries_of w hs) f) }

taken_here : (w v : ℕ → List (List ℤ)) (h : Header) (hs : List Header) → v (tag_number h.tag) ≡ drop 1 (w (tag_number h.tag)) → Elsewhere w v (tag_number h.tag)
    → length (w (tag_number h.tag)) ≡ suc (with_tag (tag_number h.tag) hs) → IsTaken w v (tag_number h.tag) (h ∷ hs)
taken_here w v h hs at off e =
    let t = tag_number h.tag in
    let n = with_tag t hs in
    let m = entry h (from_end (w t) (suc n)) in
    let is : from_end (w t) (suc n) ≡ Some (get_or (w t) 0 []) = end_front (w t) n e in
    let f : is_fresh t m ≡ true = waiting_fresh t m (get_or (w t) 0 []) refl is in
    let gone : from_end (v t) (suc n) ≡ None = ap (λ q. from_end q (suc n)) at ∙ end_gone (w t) (suc n) (omega (arith, e)) (omega arith) in
    record {
      first = first_at t m (entries_of w hs) f ∙ is ∙ sym (front (w t) (omega (arith, e)));
      rest = ap₂ (λ o es. entry h o ∷ es) gone (entries_apart w v t hs at off (omega (arith, e))) ∙ sym (without_at t m (entries_of w hs) f);
    }

taken_later : (w v : ℕ → List (List ℤ)) (h : Header) (hs : List Header) → v (tag_number h.tag) ≡ drop 1 (w (tag_number h.tag))
    → length (w (tag_number h.tag)) < suc (with_tag (tag_number h.tag) hs) → IsTaken w v (tag_number h.tag) hs → IsTaken w v (tag_number h.tag) (h ∷ hs)
taken_later w v h hs at l r =
    let t = tag_number h.tag in
    let n = with_tag t hs in
    let was : from_end (w t) (suc n) ≡ None = end_none (w t) (suc n) l in
    let is : from_end (v t) (suc n) ≡ None = ap (λ q. from_end q (suc n)) at ∙ end_gone (w t) (suc n) (omega (arith, l)) (omega arith) in
    passed w v t h hs (spent_not_fresh t (entry h (from_end (w t) (suc n))) was) (is ∙ sym was) r

pub entries_take : (w v : ℕ → List (List ℤ)) (t : ℕ) (hs : List Header) → v t ≡ drop 1 (w t) → Elsewhere w v t → length (w t) ≤ with_tag t hs → IsTaken w v t hs
entries_take w v t [] at off l = record { first = sym (no_front (w t) l); rest = refl }
entries_take w v t (h ∷ hs) at off l = elim (cases_eq (tag_number h.tag) t) [
  | inl e ↦ same e (λ s. entries_take w v t hs at off s) (cases_lt (length (w t)) (suc (with_tag t hs)))
  | inr ne ↦ passed w v t h hs (other_not_fresh t (entry h (from_end (w (tag_number h.tag)) (suc (with_tag (tag_number h.tag) hs)))) ne)
      (ap (λ q. from_end q (suc (with_tag (tag_number h.tag) hs))) (off (tag_number h.tag) ne)) (entries_take w v t hs at off (omega (arith, l, with_other t h hs ne)))
]
  where
    same : tag_number h.tag ≡ t → (length (w t) ≤ with_tag t hs → IsTaken w v t hs) → (length (w t) < suc (with_tag t hs)) ⊎ (suc (with_tag t hs) ≤ length (w t)) → IsTaken w v t (h ∷ hs)
    same e rec (inl s) =
        let r : IsTaken w v t hs = rec (omega (arith, s)) in
        subst (λ u. v u ≡ drop 1 (w u) → length (w u) < suc (with_tag u hs) → IsTaken w v u hs → IsTaken w v u (h ∷ hs)) e (taken_later w v h hs) at s r
    same e rec (inr g) =
        let n : length (w t) ≡ suc (with_tag t hs) = omega (arith, g, l, with_same t h hs e) in
        subst (λ u. v u ≡ drop 1 (w u) → Elsewhere w v u → length (w u) ≡ suc (with_tag u hs) → IsTaken w v u (h ∷ hs)) e (taken_here w v h hs) at off n

-- ---- headers

pub headers_kept : (w : ℕ → List (List ℤ)) → ((h : Header) → tag_of (tag_number h.tag) ≡ h.tag) → (hs : List Header) → headers_of (entries_of w hs) ≡ hs
headers_kept w tags [] = refl
headers_kept w tags (h ∷ hs) = ap₂ (λ (t : Tag) (rest : List Header). record { tag = t; count = h.count } ∷ rest) (tags h) (headers_kept w tags hs)
