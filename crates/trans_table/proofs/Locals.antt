-- Local numbers by counts of the elements that each rank has so far.
use Rattle.std.proofs.Common.{◌≡◌, ℕ, ◌+◌, ◌^◌, ◌<◌, ◌==◌, ◌++◌, ◌∷◌, [], List, get_or, length, map, set, take, refl, sym, ap, ap₂, ◌∙◌, inl, inr, arith}
use Rattle.std.specs.Prelude.{count_by, pos, negsuc}
use Rattle.std.specs.List.{range_with_len}
use Rattle.std.proofs.lemmas.Bool.{cases_eq, eq-eqb, ne_eqb}
use Rattle.std.proofs.lemmas.List.{get_or-set_other, get_or-set_same, length-take-le}
use Rattle.std.proofs.lemmas.List.FromFn.{map-range_with_len_more}
use Rattle.std.proofs.lemmas.List.Sums.{count_by-le-length, count_by_more_no, count_by_more_yes}
use Rattle.fd_base.specs.Places.{irregular_owners, local_in}
use Rattle.trans_table.specs.Tables.{locals_of}

-- how many of the first n elements each rank has
abbrev pub AreCounts : List ℕ → List ℕ → ℕ → Type 0
AreCounts owners counts n = (rank : ℕ) → rank < 16 → get_or counts rank 0 ≡ count_by (λ owner. owner == rank) (take n owners)

pub counted : (owners counts : List ℕ) (n o : ℕ) → n < length owners → o ≡ get_or owners n 0 → length counts ≡ 16 → o < 16 → AreCounts owners counts n → AreCounts owners (set counts o (get_or counts o 0 + 1)) (n + 1)
counted owners counts n o l e w h k rank r =
    elim (cases_eq rank o) [
      | inl q ↦ rw q (get_or-set_same counts o (get_or counts o 0 + 1) 0 (omega (arith, h, w)) ∙ (ap (λ m. m + 1) (k o h) ∙ sym (count_by_more_yes (λ owner. owner == o) owners n 0 l (eq-eqb (get_or owners n 0) o (sym e)))))
      | inr n_o ↦ get_or-set_other counts o rank (get_or counts o 0 + 1) 0 n_o ∙ (k rank r ∙ sym (count_by_more_no (λ owner. owner == rank) owners n 0 l (ne_eqb (get_or owners n 0) rank (λ q. n_o (sym (e ∙ q))))))
    ]

pub count_small : (owners counts : List ℕ) (n o : ℕ) → n < length owners → length owners < 2 ^ 32 → o < 16 → AreCounts owners counts n → get_or counts o 0 + 1 < 2 ^ 32
count_small owners counts n o l s h k =
    omega (arith, l, s, k o h, count_by-le-length (λ owner. owner == o) (take n owners), length-take-le n owners (omega (arith, l)))

pub numbered : (owners counts locals : List ℕ) (n o : ℕ) → o ≡ get_or owners n 0 → o < 16 → AreCounts owners counts n → locals ≡ map (local_in owners) (range_with_len 0 n) → locals ++ get_or counts o 0 ∷ [] ≡ map (local_in owners) (range_with_len 0 (n + 1))
numbered owners counts locals n o e h k m =
    ap₂ (λ a b. a ++ b ∷ []) m (k o h ∙ ap (λ r. count_by (λ owner. owner == r) (take n owners)) e) ∙ sym (map-range_with_len_more (local_in owners) 0 n n (omega arith))

-- ---- the definitions at worked rows

-- 3, -1, 4, 0 and 7 by three ranks
owners_of_five : irregular_owners (pos 3 ∷ negsuc 0 ∷ pos 4 ∷ pos 0 ∷ pos 7 ∷ []) 3 ≡ 0 ∷ 2 ∷ 1 ∷ 0 ∷ 1 ∷ []
owners_of_five = refl

locals_of_five : locals_of (0 ∷ 2 ∷ 1 ∷ 0 ∷ 1 ∷ []) ≡ 0 ∷ 0 ∷ 0 ∷ 1 ∷ 1 ∷ []
locals_of_five = refl
