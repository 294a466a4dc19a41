-- Paths of a function whose value changes at one or two places.
use Rattle.std.proofs.Common.{◌≡◌, ℕ, true, false, eqb, List, [], ◌∷◌, ◌++◌, refl, sym, ap, ◌∙◌, inl, inr}
use Rattle.std.proofs.lemmas.Bool.{cases_Bool, cases_eq, eqb-true, eqb-false, ne_eqb}
use Rattle.fd_links.specs.Chains.{without}
use Rattle.fd_links.specs.Rings.{Follows}

-- a number isn't in a list
abbrev pub Avoids : ℕ → List ℕ → Type 0
Avoids q [] = Unit {0}
Avoids q (x ∷ xs) = (x ≡ q → ⊥) × Avoids q xs

-- g is f but that the number before s leads to the one behind s
pub record Skips (f g : ℕ → ℕ) (s p n : ℕ) : Type 0 where
  pub same : (x : ℕ) → (x ≡ p → ⊥) → g x ≡ f x
  pub joined : g p ≡ n
  pub to_s : f p ≡ s
  pub from_s : f s ≡ n
  pub only : (x : ℕ) → f x ≡ s → x ≡ p
  pub apart : p ≡ s → ⊥

pub without_self : (s x : ℕ) (xs : List ℕ) → eqb x s ≡ true → without s (x ∷ xs) ≡ without s xs
without_self s x xs e = rw e refl

pub without_other : (s x : ℕ) (xs : List ℕ) → eqb x s ≡ false → without s (x ∷ xs) ≡ x ∷ without s xs
without_other s x xs e = rw e refl

-- a path goes on without s
pub Follows-skip : (f g : ℕ → ℕ) (s p n : ℕ) → Skips f g s p n → (from : ℕ) (xs : List ℕ) (to : ℕ) → (from ≡ s → ⊥) → (to ≡ s → ⊥) → Follows f from xs to → Follows g from (without s xs) to
Follows-skip f g s p n k from [] to a b h =
    elim (cases_eq from p) [
      | inl e ↦ absurd (b (sym h ∙ (ap f e ∙ k.to_s)))
      | inr e ↦ k.same from e ∙ h
    ]
Follows-skip f g s p n k from (x ∷ []) to a b h =
    elim (cases_Bool (eqb x s)) [
      | inl e ↦ rw (without_self s x [] e) (ap g (k.only from (h.0 ∙ eqb-true x s e)) ∙ (k.joined ∙ (sym k.from_s ∙ (ap f (sym (eqb-true x s e)) ∙ h.1))))
      | inr e ↦ rw (without_other s x [] e) (k.same from (λ q. eqb-false x s e (sym h.0 ∙ (ap f q ∙ k.to_s))) ∙ h.0, Follows-skip f g s p n k x [] to (eqb-false x s e) b h.1)
    ]
Follows-skip f g s p n k from (x ∷ (y ∷ ys)) to a b h =
    elim (cases_Bool (eqb x s)) [
      | inl e ↦
          let behind : f s ≡ y = ap f (sym (eqb-true x s e)) ∙ h.1.0 in
          let other : y ≡ s → ⊥ = λ q. k.apart (sym (k.only s (behind ∙ q))) in
          rw (without_self s x (y ∷ ys) e, without_other s y ys (ne_eqb y s other)) (ap g (k.only from (h.0 ∙ eqb-true x s e)) ∙ (k.joined ∙ (sym k.from_s ∙ behind)), Follows-skip f g s p n k y ys to other b h.1.1)
      | inr e ↦ rw (without_other s x (y ∷ ys) e) (k.same from (λ q. eqb-false x s e (sym h.0 ∙ (ap f q ∙ k.to_s))) ∙ h.0, Follows-skip f g s p n k x (y ∷ ys) to (eqb-false x s e) b h.1)
    ]

-- g is f but that l leads to s, and s to t
pub record Appends (f g : ℕ → ℕ) (s t l : ℕ) : Type 0 where
  pub same : (x : ℕ) → (x ≡ l → ⊥) → (x ≡ s → ⊥) → g x ≡ f x
  pub to_s : g l ≡ s
  pub from_s : g s ≡ t
  pub last : f l ≡ t
  pub only : (x : ℕ) → (x ≡ s → ⊥) → f x ≡ t → x ≡ l

-- the ring that ends at t ends with s before it
pub Follows-append : (f g : ℕ → ℕ) (s t l : ℕ) → Appends f g s t l → (from : ℕ) (xs : List ℕ) → (from ≡ s → ⊥) → Avoids s xs → Avoids t xs → Follows f from xs t → Follows g from (xs ++ s ∷ []) t
Follows-append f g s t l k from [] a b d h = (ap g (k.only from a h) ∙ k.to_s, k.from_s)
Follows-append f g s t l k from (x ∷ xs) a b d h =
    (k.same from (λ q. d.0 (sym h.0 ∙ (ap f q ∙ k.last))) a ∙ h.0, Follows-append f g s t l k x xs b.0 b.1 d.1 h.1)

-- every other ring is as it was
pub Follows-other : (f g : ℕ → ℕ) (s t l : ℕ) → Appends f g s t l → (from : ℕ) (xs : List ℕ) (to : ℕ) → (from ≡ s → ⊥) → Avoids s xs → Avoids t xs → (to ≡ t → ⊥) → Follows f from xs to → Follows g from xs to
Follows-other f g s t l k from [] to a b d o h = k.same from (λ q. o (sym h ∙ (ap f q ∙ k.last))) a ∙ h
Follows-other f g s t l k from (x ∷ xs) to a b d o h =
    (k.same from (λ q. d.0 (sym h.0 ∙ (ap f q ∙ k.last))) a ∙ h.0, Follows-other f g s t l k x xs to b.0 b.1 d.1 o h.1)
