-- Links and links back still undo each other after a place is taken out and put in.
use Rattle.std.proofs.Common.{◌≡◌, ℕ, refl, sym, ap, ◌∙◌, inl, inr}
use Rattle.std.proofs.lemmas.Bool.{cases_eq, eq-eqb, ne_eqb}
use Rattle.fd_links.specs.Rings.{AreInverse, put}

pub put_at : (f : ℕ → ℕ) (at value x : ℕ) → x ≡ at → put f at value x ≡ value
put_at f at value x e = rw (eq-eqb x at e) refl

pub put_other : (f : ℕ → ℕ) (at value x : ℕ) → (x ≡ at → ⊥) → put f at value x ≡ f x
put_other f at value x n = rw (ne_eqb x at n) refl

-- they undo each other at every number but s, which neither leads to
pub record AreInverseBut (s : ℕ) (f b : ℕ → ℕ) : Type 0 where
  pub back : (x : ℕ) → (x ≡ s → ⊥) → b (f x) ≡ x
  pub forth : (x : ℕ) → (x ≡ s → ⊥) → f (b x) ≡ x
  pub not_to : (x : ℕ) → (x ≡ s → ⊥) → f x ≡ s → ⊥
  pub not_back : (x : ℕ) → (x ≡ s → ⊥) → b x ≡ s → ⊥

-- one half: f with the number before s led to the one behind s
taken_back : (f b : ℕ → ℕ) (s x : ℕ) → ((x : ℕ) → b (f x) ≡ x) → (x ≡ s → ⊥) → put b (f s) (b s) (put f (b s) (f s) x) ≡ x
taken_back f b s x back n =
    elim (cases_eq x (b s)) [
      | inl e ↦ ap (put b (f s) (b s)) (put_at f (b s) (f s) x e) ∙ (put_at b (f s) (b s) (f s) refl ∙ sym e)
      | inr o ↦
          let ne : f x ≡ f s → ⊥ = λ q. n (sym (back x) ∙ (ap b q ∙ back s)) in
          ap (put b (f s) (b s)) (put_other f (b s) (f s) x o) ∙ (put_other b (f s) (b s) (f x) ne ∙ back x)
    ]

taken_not_to : (f b : ℕ → ℕ) (s x : ℕ) → ((x : ℕ) → b (f x) ≡ x) → (x ≡ s → ⊥) → put f (b s) (f s) x ≡ s → ⊥
taken_not_to f b s x back n h =
    elim (cases_eq x (b s)) [
      | inl e ↦ n (e ∙ (ap b (sym (sym (put_at f (b s) (f s) x e) ∙ h)) ∙ back s))
      | inr o ↦ o (sym (back x) ∙ ap b (sym (put_other f (b s) (f s) x o) ∙ h))
    ]

pub taken_out : (f b : ℕ → ℕ) (s : ℕ) → AreInverse f b → AreInverseBut s (put f (b s) (f s)) (put b (f s) (b s))
taken_out f b s k = record {
  back = λ x n. taken_back f b s x k.back n;
  forth = λ x n. taken_back b f s x k.forth n;
  not_to = λ x n h. taken_not_to f b s x k.back n h;
  not_back = λ x n h. taken_not_to b f s x k.forth n h;
}

-- s put in before t, one way and the other
put_back : (f b : ℕ → ℕ) (s t x : ℕ) → AreInverseBut s f b → (t ≡ s → ⊥) → put (put b s (b t)) t s (put (put f (b t) s) s t x) ≡ x
put_back f b s t x k a =
    elim (cases_eq x s) [
      | inl e ↦ ap (put (put b s (b t)) t s) (put_at (put f (b t) s) s t x e) ∙ (put_at (put b s (b t)) t s t refl ∙ sym e)
      | inr o ↦ elim (cases_eq x (b t)) [
        | inl e ↦
            let st : s ≡ t → ⊥ = λ q. a (sym q) in
            ap (put (put b s (b t)) t s) (put_other (put f (b t) s) s t x o ∙ put_at f (b t) s x e) ∙ (put_other (put b s (b t)) t s s st ∙ (put_at b s (b t) s refl ∙ sym e))
        | inr u ↦
            let not_t : f x ≡ t → ⊥ = λ q. u (sym (k.back x o) ∙ ap b q) in
            ap (put (put b s (b t)) t s) (put_other (put f (b t) s) s t x o ∙ put_other f (b t) s x u) ∙ (put_other (put b s (b t)) t s (f x) not_t ∙ (put_other b s (b t) (f x) (k.not_to x o) ∙ k.back x o))
      ]
    ]

put_forth : (f b : ℕ → ℕ) (s t x : ℕ) → AreInverseBut s f b → (t ≡ s → ⊥) → put (put f (b t) s) s t (put (put b s (b t)) t s x) ≡ x
put_forth f b s t x k a =
    elim (cases_eq x t) [
      | inl e ↦ ap (put (put f (b t) s) s t) (put_at (put b s (b t)) t s x e) ∙ (put_at (put f (b t) s) s t s refl ∙ sym e)
      | inr o ↦ elim (cases_eq x s) [
        | inl e ↦ ap (put (put f (b t) s) s t) (put_other (put b s (b t)) t s x o ∙ put_at b s (b t) x e) ∙ (put_other (put f (b t) s) s t (b t) (k.not_back t a) ∙ (put_at f (b t) s (b t) refl ∙ sym e))
        | inr u ↦
            let not_l : b x ≡ b t → ⊥ = λ q. o (sym (k.forth x u) ∙ (ap f q ∙ k.forth t a)) in
            ap (put (put f (b t) s) s t) (put_other (put b s (b t)) t s x o ∙ put_other b s (b t) x u) ∙ (put_other (put f (b t) s) s t (b x) (k.not_back x u) ∙ (put_other f (b t) s (b x) not_l ∙ k.forth x u))
      ]
    ]

pub put_in : (f b : ℕ → ℕ) (s t : ℕ) → AreInverseBut s f b → (t ≡ s → ⊥) → AreInverse (put (put f (b t) s) s t) (put (put b s (b t)) t s)
put_in f b s t k a = record { back = λ x. put_back f b s t x k a; forth = λ x. put_forth f b s t x k a }
