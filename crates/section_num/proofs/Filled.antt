-- Sets that are filled item by item, and tables that are filled node by node.
use Rattle.std.proofs.Common.{◌≡◌, ◌≢◌, ℕ, zero, suc, ◌+◌, ◌<◌, ◌≤◌, Bool, true, false, eqb, ◌||◌, List, [], ◌∷◌, length, get_or, set, take, refl, sym, ap, ◌∙◌, subst, arith, inl, inr}
use Rattle.std.specs.Prelude.{map, replicate}
use Rattle.std.specs.List.{list_any}
use Rattle.std.specs.FinSet as finite
use Rattle.std.specs.Ordering.{nat_cmp, eq_by_cmp}
use Rattle.std.specs.Cmp.{nat_cmp_total}
use Rattle.std.proofs.lemmas.Bool.{cases_lt, cases_eq}
use Rattle.std.proofs.lemmas.Bool.Decides.{nat_tests}
use Rattle.std.proofs.lemmas.List.{get_or-replicate, get_or-set_same, get_or-set_other, get_or_past, length-map, length-set, length-replicate, map-set}
use Rattle.std.proofs.lemmas.List.Folds.{list_any_more}
use Rattle.fd_base.specs.declared.numbering.ItemNo.{ItemNo}
use Rattle.fd_sets.specs.Sets.{Subset}
use Rattle.section_num.specs.Tables.{is_in}
use Rattle.fd_sets.specs.Tables.{no_items}

-- an item is among numbers
abbrev pub is_one : List ItemNo → ℕ → Bool
is_one numbers x = list_any (λ (n : ItemNo). eqb n.0 x) numbers

cmp-eqb : (q x : ℕ) → eq_by_cmp nat_cmp q x ≡ eqb x q
cmp-eqb q x = grind (arith, nat_tests)

or_turned : (a b : Bool) → (a || b) ≡ (b || a)
or_turned true true = refl
or_turned true false = refl
or_turned false true = refl
or_turned false false = refl

-- one more item in a set
pub one_more : (s t : finite.FinSet nat_cmp) (numbers : List ItemNo) (i : ℕ) (d : ItemNo) (x : ℕ) → i < length numbers → t ≡ finite.insert s (get_or numbers i d).0
    → finite.contains s x ≡ is_one (take i numbers) x → finite.contains t x ≡ is_one (take (i + 1) numbers) x
one_more s t numbers i d x h f g =
    let k : ℕ = (get_or numbers i d).0 in
    ap (λ v. finite.contains v x) f ∙ (finite.contains-insert nat_cmp_total s k x ∙ (ap (λ b. b || finite.contains s x) (cmp-eqb x k) ∙ (ap (λ b. eqb k x || b) g
    ∙ (or_turned (eqb k x) (is_one (take i numbers) x) ∙ sym (list_any_more (λ (n : ItemNo). eqb n.0 x) numbers i d h)))))

-- ---- tables

-- all sets of a new table have its size
pub size_new : (t : List Subset) (nodes items n : ℕ) → t ≡ replicate nodes (record { size = items; members = finite.empty }) → n < nodes → (get_or t n no_items).size ≡ items
size_new t nodes items n e h = ap (λ xs. (get_or xs n no_items).size) e ∙ ap (λ (s : Subset). s.size) (get_or-replicate nodes n (record { size = items; members = finite.empty }) no_items h)

pub long_new : (t : List Subset) (nodes items : ℕ) → t ≡ replicate nodes (record { size = items; members = finite.empty }) → length t ≡ nodes
long_new t nodes items e = ap length e ∙ length-replicate nodes (record { size = items; members = finite.empty })

-- one set more
pub long_put : (t u : List Subset) (k : ℕ) (s : Subset) (nodes : ℕ) → u ≡ set t k s → length t ≡ nodes → length u ≡ nodes
long_put t u k s nodes e h = ap length e ∙ (length-set t k s ∙ h)

pub size_put : (t u : List Subset) (k : ℕ) (s : Subset) (nodes items : ℕ) → u ≡ set t k s → s.size ≡ items → length t ≡ nodes → ((n : ℕ) → n < nodes → (get_or t n no_items).size ≡ items)
    → (n : ℕ) → n < nodes → (get_or u n no_items).size ≡ items
size_put t u k s nodes items e f l h n m =
    elim (cases_eq n k) [
      | inl same ↦ ap (λ xs. (get_or xs n no_items).size) e ∙ (ap (λ j. (get_or (set t k s) j no_items).size) same ∙ (ap (λ (v : Subset). v.size) (get_or-set_same t k s no_items (omega (arith, l, m, same))) ∙ f))
      | inr other ↦ ap (λ xs. (get_or xs n no_items).size) e ∙ (ap (λ (v : Subset). v.size) (get_or-set_other t k n s no_items other) ∙ h n m)
    ]

pub in_put : (t u : List Subset) (k : ℕ) (s : Subset) (marks : ℕ → ℕ → Bool) → u ≡ set t k s → k < length t → ((x : ℕ) → finite.contains s.members x ≡ marks k x)
    → ((n x : ℕ) → n < k → is_in t n x ≡ marks n x) → (n x : ℕ) → n < k + 1 → is_in u n x ≡ marks n x
in_put t u k s marks e l f h n x m =
    let col : List Subset → List Bool = map (λ (v : Subset). finite.contains v.members x) in
    let turned : col u ≡ set (col t) k (finite.contains s.members x) = ap col e ∙ map-set (λ (v : Subset). finite.contains v.members x) t k s in
    let long : length (col t) ≡ length t = length-map t (λ (v : Subset). finite.contains v.members x) in
    elim (cases_eq n k) [
      | inl same ↦ ap (λ (xs : List Bool). get_or xs n false) turned
          ∙ (ap (λ j. get_or (set (col t) k (finite.contains s.members x)) j false) same
          ∙ (get_or-set_same (col t) k (finite.contains s.members x) false (omega (arith, l, long)) ∙ (f x ∙ ap (λ j. marks j x) (sym same))))
      | inr other ↦ ap (λ (xs : List Bool). get_or xs n false) turned ∙ (get_or-set_other (col t) k n (finite.contains s.members x) false other ∙ h n x (omega (arith, m, other)))
    ]

-- inside a list nothing stands in for an element
pub inside_same : {A : Type 0} (xs : List A) (i : ℕ) (d e : A) → i < length xs → get_or xs i d ≡ get_or xs i e
inside_same [] i d e h = absurd (omega arith)
inside_same (x ∷ xs) zero d e h = refl
inside_same (x ∷ xs) (suc i) d e h = inside_same xs i d e (omega arith)
