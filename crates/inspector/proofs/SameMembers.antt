-- Lists with the same members.
use Rattle.std.proofs.Common.{◌≡◌, ℕ, List, [], ◌∷◌, ◌++◌, Contains, sym, subst, ◌⊎◌, inl, inr}
use Rattle.std.proofs.lemmas.List.Elements.{Contains-append_cases, Contains-append_left, Contains-append_right}
use Rattle.inspector.specs.Walks.{HaveSameMembers}

pub members_equal : (xs ys : List ℕ) → xs ≡ ys → HaveSameMembers xs ys
members_equal xs ys e = record {
  forth = λ x h. subst (λ (zs : List ℕ). Contains zs x) e h;
  back = λ x h. subst (λ (zs : List ℕ). Contains zs x) (sym e) h;
}

pub members_along : (xs ys zs : List ℕ) → HaveSameMembers xs ys → HaveSameMembers ys zs → HaveSameMembers xs zs
members_along xs ys zs h k = record { forth = λ x m. k.forth x (h.forth x m); back = λ x m. h.back x (k.back x m) }

append_forth : (xs ys zs : List ℕ) → ((x : ℕ) → Contains xs x → Contains ys x) → (x : ℕ) → Contains (xs ++ zs) x → Contains (ys ++ zs) x
append_forth xs ys zs f x k = by (Contains-append_cases xs zs x k)
  where
    by : Contains xs x ⊎ Contains zs x → Contains (ys ++ zs) x
    by (inl h) = Contains-append_left ys zs x (f x h)
    by (inr h) = Contains-append_right ys zs x h

-- the same elements behind both
pub members_append : (xs ys zs : List ℕ) → HaveSameMembers xs ys → HaveSameMembers (xs ++ zs) (ys ++ zs)
members_append xs ys zs h = record { forth = append_forth xs ys zs h.forth; back = append_forth ys xs zs h.back }

-- one more element behind both
pub members_pushed : (old mid new : List ℕ) (e : ℕ) → HaveSameMembers mid old → new ≡ mid ++ e ∷ [] → HaveSameMembers new (old ++ e ∷ [])
members_pushed old mid new e h is = members_along new (mid ++ e ∷ []) (old ++ e ∷ []) (members_equal new (mid ++ e ∷ []) is) (members_append mid old (e ∷ []) h)
