-- The paths after a place is moved to the end of a ring.
use Rattle.std.proofs.Common.{◌≡◌, ℕ, List, [], ◌∷◌, ◌++◌, refl, sym, ap, ◌∙◌, eqb, inl, inr}
use Rattle.std.proofs.lemmas.Bool.{cases_Bool, eqb-false}
use Rattle.fd_links.specs.Chains.{without}
use Rattle.fd_links.specs.Rings.{AreInverse, Follows, moved, put}
use Rattle.fd_links.proofs.Inverses.{AreInverseBut, put_at, put_other, taken_out}
use Rattle.fd_links.proofs.Paths.{Skips, Appends, Avoids, Follows-skip, Follows-append, Follows-other, without_self, without_other}

skips_of : (f b : ℕ → ℕ) (s : ℕ) → AreInverse f b → (b s ≡ s → ⊥) → Skips f (put f (b s) (f s)) s (b s) (f s)
skips_of f b s k a = record {
  same = λ x n. put_other f (b s) (f s) x n;
  joined = put_at f (b s) (f s) (b s) refl;
  to_s = k.forth s;
  from_s = refl;
  only = λ x h. sym (k.back x) ∙ ap b h;
  apart = a;
}

pub appends_of : (f b : ℕ → ℕ) (s t : ℕ) → AreInverseBut s f b → (t ≡ s → ⊥) → Appends f (put (put f (b t) s) s t) s t (b t)
appends_of f b s t k a = record {
  same = λ x n o. put_other (put f (b t) s) s t x o ∙ put_other f (b t) s x n;
  to_s = put_other (put f (b t) s) s t (b t) (k.not_back t a) ∙ put_at f (b t) s (b t) refl;
  from_s = put_at (put f (b t) s) s t s refl;
  last = k.forth t a;
  only = λ x n h. sym (k.back x n) ∙ ap b h;
}

Avoids-without_self : (s : ℕ) (xs : List ℕ) → Avoids s (without s xs)
Avoids-without_self s [] = tt
Avoids-without_self s (x ∷ xs) =
    elim (cases_Bool (eqb x s)) [
      | inl e ↦ rw (without_self s x xs e) (Avoids-without_self s xs)
      | inr e ↦ rw (without_other s x xs e) (eqb-false x s e, Avoids-without_self s xs)
    ]

Avoids-without : (t s : ℕ) (xs : List ℕ) → Avoids t xs → Avoids t (without s xs)
Avoids-without t s [] a = tt
Avoids-without t s (x ∷ xs) a =
    elim (cases_Bool (eqb x s)) [
      | inl e ↦ rw (without_self s x xs e) (Avoids-without t s xs a.1)
      | inr e ↦ rw (without_other s x xs e) (a.0, Avoids-without t s xs a.1)
    ]

-- the ring that ends at t has s at its end
pub Follows-moved_to : (f b : ℕ → ℕ) (s t : ℕ) (xs : List ℕ) → AreInverse f b → (b s ≡ s → ⊥) → (t ≡ s → ⊥) → Avoids t xs → Follows f t xs t → Follows (moved f b s t) t (without s xs ++ s ∷ []) t
Follows-moved_to f b s t xs k a n v h =
    Follows-append (put f (b s) (f s)) (moved f b s t) s t (put b (f s) (b s) t) (appends_of (put f (b s) (f s)) (put b (f s) (b s)) s t (taken_out f b s k) n) t (without s xs) n (Avoids-without_self s xs) (Avoids-without t s xs v) (Follows-skip f (put f (b s) (f s)) s (b s) (f s) (skips_of f b s k a) t xs t n n h)

-- every other ring has lost s
pub Follows-moved : (f b : ℕ → ℕ) (s t c : ℕ) (xs : List ℕ) → AreInverse f b → (b s ≡ s → ⊥) → (t ≡ s → ⊥) → (c ≡ s → ⊥) → (c ≡ t → ⊥) → Avoids t xs → Follows f c xs c → Follows (moved f b s t) c (without s xs) c
Follows-moved f b s t c xs k a n m o v h =
    Follows-other (put f (b s) (f s)) (moved f b s t) s t (put b (f s) (b s) t) (appends_of (put f (b s) (f s)) (put b (f s) (b s)) s t (taken_out f b s k) n) c (without s xs) c m (Avoids-without_self s xs) (Avoids-without t s xs v) o (Follows-skip f (put f (b s) (f s)) s (b s) (f s) (skips_of f b s k a) c xs c m m h)

-- a place that is a ring by itself stands in no path of another
pub Follows-alone : (f b : ℕ → ℕ) (s from : ℕ) (xs : List ℕ) (to : ℕ) → AreInverse f b → b s ≡ s → (from ≡ s → ⊥) → Follows f from xs to → Avoids s xs
Follows-alone f b s from [] to k a n h = tt
Follows-alone f b s from (x ∷ xs) to k a n h =
    let other : x ≡ s → ⊥ = λ q. n (sym (k.back from) ∙ (ap b (h.0 ∙ q) ∙ a)) in
    (other, Follows-alone f b s x xs to k a other h.1)

-- functions that agree have the same paths
pub Follows-same : (f g : ℕ → ℕ) → ((x : ℕ) → g x ≡ f x) → (from : ℕ) (xs : List ℕ) (to : ℕ) → Follows f from xs to → Follows g from xs to
Follows-same f g e from [] to h = e from ∙ h
Follows-same f g e from (x ∷ xs) to h = (e from ∙ h.0, Follows-same f g e x xs to h.1)
