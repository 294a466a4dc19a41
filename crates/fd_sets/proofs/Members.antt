-- Words, and the sets of the items in them.
use Rattle.std.proofs.Common.{◌≡◌, ℕ, zero, suc, ◌+◌, ◌*◌, ◌<◌, ◌≤◌, Bool, false, not, ◌||◌, ◌&&◌, eqb, List, ◌++◌, length, take, drop, refl, sym, ap, ap₂, ◌∙◌, inl, inr, arith}
use Rattle.std.specs.Prelude.{filter}
use Rattle.std.specs.List.{list_any, range_with_len}
use Rattle.std.specs.Ordering.{nat_cmp, eq_by_cmp}
use Rattle.std.specs.Cmp.{nat_cmp_total}
use Rattle.std.specs.FinSet as set
use Rattle.std.proofs.lemmas.Bool.{cases_Bool, cases_eq, cases_lt, ne_eqb, eq-eqb}
use Rattle.std.proofs.Math.Seq.{take-append_seam}
use Rattle.std.proofs.lemmas.Bool.Decides.{nat_tests}
use Rattle.fd_sets.specs.Sets.{in_words, members_of}
use Rattle.fd_sets.specs.Kept.{words_of, with_words}
use Rattle.fd_sets.specs.declared.kept.Words.{Words}
use Rattle.fd_sets.specs.declared.kept.Words.TheVariants.{Few, Many}
use Rattle.fd_sets.proofs.Bits.{in_past}

cmp-eqb : (q x : ℕ) → eq_by_cmp nat_cmp q x ≡ eqb x q
cmp-eqb q x = grind (arith, nat_tests)

-- a filter of a range has what is in the range and passes
none_below : (p : ℕ → Bool) (low n q : ℕ) → q < low → list_any (λ x. eqb x q) (filter p (range_with_len low n)) ≡ false
none_below p low zero q h = refl
none_below p low (suc n) q h =
    elim (cases_Bool (p low)) [
      | inl e ↦ rw (e, ne_eqb low q (λ k. omega arith)) (none_below p (low + 1) n q (omega arith))
      | inr e ↦ rw e (none_below p (low + 1) n q (omega arith))
    ]

in_filter : (p : ℕ → Bool) (low n q : ℕ) → low ≤ q → q < low + n → list_any (λ x. eqb x q) (filter p (range_with_len low n)) ≡ p q
in_filter p low zero q l h = absurd (omega arith)
in_filter p low (suc n) q l h =
    elim (cases_eq low q) [
      | inl e ↦ elim (cases_Bool (p low)) [
        | inl k ↦ rw (k, eq-eqb low q e) (sym (ap p (sym e) ∙ k))
        | inr k ↦ rw k (none_below p (low + 1) n q (omega arith) ∙ sym (ap p (sym e) ∙ k))
      ]
      | inr e ↦ elim (cases_Bool (p low)) [
        | inl k ↦ rw (k, ne_eqb low q e) (in_filter p (low + 1) n q (omega arith) (omega arith))
        | inr k ↦ rw k (in_filter p (low + 1) n q (omega arith) (omega arith))
      ]
    ]

none_above : (p : ℕ → Bool) (low n q : ℕ) → low + n ≤ q → list_any (λ x. eqb x q) (filter p (range_with_len low n)) ≡ false
none_above p low zero q h = refl
none_above p low (suc n) q h =
    elim (cases_Bool (p low)) [
      | inl e ↦ rw (e, ne_eqb low q (λ k. omega arith)) (none_above p (low + 1) n q (omega arith))
      | inr e ↦ rw e (none_above p (low + 1) n q (omega arith))
    ]

-- an item is a member where its bit is set
pub contains-members : (words : List ℕ) (q : ℕ) → set.contains (members_of words) q ≡ in_words words q
unfolding members_of
contains-members words q =
    set.contains-from_list_nat (filter (in_words words) (range_with_len 0 (64 * length words))) q
    ∙ elim (cases_lt q (64 * length words)) [
      | inl l ↦ in_filter (in_words words) 0 (64 * length words) q (omega arith) (omega arith)
      | inr l ↦ none_above (in_words words) 0 (64 * length words) q (omega arith) ∙ sym (in_past words q (omega arith))
    ]

-- a set has an item where the words say so
pub same_members : (words : List ℕ) (s : set.FinSet nat_cmp) → ((q : ℕ) → in_words words q ≡ set.contains s q) → members_of words ≡ s
same_members words s h = set.same_set nat_cmp_total set.nat_cmp-IsAntisymmetric (members_of words) s (λ q. contains-members words q ∙ h q)

pub members-none : (words : List ℕ) → ((q : ℕ) → in_words words q ≡ false) → members_of words ≡ set.empty
members-none words h = same_members words set.empty (λ q. h q ∙ sym (set.contains-empty nat_cmp q))

pub members-insert : (new old : List ℕ) (item : ℕ) → ((q : ℕ) → in_words new q ≡ (eqb item q || in_words old q)) → members_of new ≡ set.insert (members_of old) item
members-insert new old item h =
    same_members new (set.insert (members_of old) item) (λ q. h q ∙ (ap₂ (λ a b. a || b) (sym (cmp-eqb q item)) (sym (contains-members old q)) ∙ sym (set.contains-insert nat_cmp_total (members_of old) item q)))

pub members-union : (new old others : List ℕ) → ((q : ℕ) → in_words new q ≡ (in_words old q || in_words others q)) → members_of new ≡ set.union (members_of old) (members_of others)
members-union new old others h =
    same_members new (set.union (members_of old) (members_of others)) (λ q. h q ∙ (ap₂ (λ a b. a || b) (sym (contains-members old q)) (sym (contains-members others q)) ∙ sym (set.contains-union nat_cmp_total (members_of old) (members_of others) q)))

pub members-meet : (new old others : List ℕ) → ((q : ℕ) → in_words new q ≡ (in_words old q && in_words others q)) → members_of new ≡ set.intersection (members_of old) (members_of others)
members-meet new old others h =
    same_members new (set.intersection (members_of old) (members_of others)) (λ q. h q ∙ (ap₂ (λ a b. a && b) (sym (contains-members old q)) (sym (contains-members others q)) ∙ sym (set.contains-intersection nat_cmp_total (members_of old) (members_of others) q)))

pub members-drop : (new old others : List ℕ) → ((q : ℕ) → in_words new q ≡ (in_words old q && not (in_words others q))) → members_of new ≡ set.difference (members_of old) (members_of others)
members-drop new old others h =
    same_members new (set.difference (members_of old) (members_of others)) (λ q. h q ∙ (ap₂ (λ a b. a && not b) (sym (contains-members old q)) (sym (contains-members others q)) ∙ sym (set.contains-difference nat_cmp_total (members_of old) (members_of others) q)))

-- words of the same count that are written back
pub written : (w : Words) (new : List ℕ) → length new ≡ length (words_of w) → words_of (with_words w new) ≡ new
written (Few words) new e = refl
written (Many words) new e =
    sym (ap (λ k. take k (new ++ drop (length new) words.items)) (e ∙ sym words.ok.0)) ∙ take-append_seam new (drop (length new) words.items)
