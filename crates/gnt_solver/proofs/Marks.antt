-- Tables of sets, item by item.
use Rattle.std.proofs.Common.{◌≡◌, ℕ, zero, suc, ◌<◌, Bool, true, false, not, ◌&&◌, ◌||◌, List, [], ◌∷◌, length, get_or, set, refl, sym, ◌∙◌, ap, subst, arith, inl, inr, get_or-set_other, get_or-set_same, length-set}
use Rattle.std.proofs.lemmas.Bool.{cases_eq}
use Rattle.std.proofs.lemmas.List.{get_or_default}
use Rattle.std.specs.Prelude.{replicate}
use Rattle.std.specs.Ordering.{nat_cmp}
use Rattle.std.specs.Cmp.{nat_cmp_total}
use Rattle.std.specs.FinSet as sets
use Rattle.fd_sets.specs.Sets.{Subset}
use Rattle.fd_sets.specs.Tables.{no_items}
use Rattle.gnt_solver.specs.declared.tables.Size.{Size}
use Rattle.gnt_solver.specs.Columns.{held, col, at, IsTable}

pub held-union : (a b : sets.FinSet nat_cmp) (x : ℕ) → sets.contains (sets.union a b) x ≡ (sets.contains a x || sets.contains b x)
held-union a b x = sets.contains-union nat_cmp_total a b x

pub held-intersection : (a b : sets.FinSet nat_cmp) (x : ℕ) → sets.contains (sets.intersection a b) x ≡ (sets.contains a x && sets.contains b x)
held-intersection a b x = sets.contains-intersection nat_cmp_total a b x

pub held-difference : (a b : sets.FinSet nat_cmp) (x : ℕ) → sets.contains (sets.difference a b) x ≡ (sets.contains a x && not (sets.contains b x))
held-difference a b x = sets.contains-difference nat_cmp_total a b x

pub held-empty : (x : ℕ) → sets.contains (sets.empty {R = nat_cmp}) x ≡ false
held-empty x = sets.contains-empty nat_cmp x

-- the mark of a node is whether its set has the item
pub at_col : (t : List Subset) (x n : ℕ) (d : Subset) → n < length t → at (col t x) n ≡ held (get_or t n d) x
at_col [] x n d h = absurd (omega (arith, h))
at_col (s ∷ t) x zero d h = refl
at_col (s ∷ t) x (suc n) d h = at_col t x n d (omega (arith, h))

pub col-set : (t : List Subset) (x n : ℕ) (s : Subset) → col (set t n s) x ≡ set (col t x) n (held s x)
col-set [] x n s = refl
col-set (u ∷ t) x zero s = refl
col-set (u ∷ t) x (suc n) s = ap (λ (bs : List Bool). held u x ∷ bs) (col-set t x n s)

pub col-replicate : (k x n : ℕ) (s : Subset) → held s x ≡ false → at (col (replicate k s) x) n ≡ false
col-replicate zero x n s h = refl
col-replicate (suc k) x zero s h = h
col-replicate (suc k) x (suc n) s h = col-replicate k x n s h

length-replicate : (k : ℕ) (s : Subset) → length (replicate k s) ≡ k
length-replicate zero s = refl
length-replicate (suc k) s = let e = length-replicate k s in omega (arith, e)

get_or-replicate : (k n : ℕ) (s : Subset) → n < k → get_or (replicate k s) n no_items ≡ s
get_or-replicate zero n s h = absurd (omega (arith, h))
get_or-replicate (suc k) zero s h = refl
get_or-replicate (suc k) (suc n) s h = get_or-replicate k n s (omega (arith, h))

pub replicated : (size : Size) (s : Subset) → s.size ≡ size.items → IsTable size (replicate size.nodes s)
replicated size s h = record { long = length-replicate size.nodes s; sizes = λ n lt. ap (λ (u : Subset). u.size) (get_or-replicate size.nodes n s lt) ∙ h }

pub table-set : (size : Size) (t : List Subset) (n : ℕ) (s : Subset) → IsTable size t → s.size ≡ size.items → n < size.nodes → IsTable size (set t n s)
table-set size t n s is h lt = record {
  long = length-set t n s ∙ is.long;
  sizes = λ m k. elim (cases_eq n m) [
    | inl e ↦ let here : n < length t = (let l : length t ≡ size.nodes = is.long in omega arith) in
        subst (λ (i : ℕ). (get_or (set t n s) i no_items).size ≡ size.items) e (ap (λ (u : Subset). u.size) (get_or-set_same t n s no_items here) ∙ h)
    | inr ne ↦ ap (λ (u : Subset). u.size) (get_or-set_other t n m s no_items (λ e. ne (sym e))) ∙ is.sizes m k
  ];
}

pub long_col : (t : List Subset) (x : ℕ) → length (col t x) ≡ length t
long_col [] x = refl
long_col (s ∷ t) x = let e = long_col t x in omega (arith, e)

-- ---- the set of a node

pub of_node : (t : List Subset) (n x : ℕ) (s : Subset) → n < length t → s ≡ get_or t n s → held s x ≡ at (col t x) n
of_node t n x s h e = ap (λ (u : Subset). held u x) e ∙ sym (at_col t x n s h)

pub size_of_node : (size : Size) (t : List Subset) (n : ℕ) (s : Subset) → IsTable size t → n < size.nodes → s ≡ get_or t n s → s.size ≡ size.items
size_of_node size t n s is lt e = ap (λ (u : Subset). u.size) (e ∙ get_or_default t n s no_items (omega (arith, lt, is.long))) ∙ is.sizes n lt

-- the set of a node is changed to one that has an item or not
pub col_changed : (t : List Subset) (x n : ℕ) (u : Subset) (b : Bool) → held u x ≡ b → col (set t n u) x ≡ set (col t x) n b
col_changed t x n u b e = col-set t x n u ∙ ap (λ (c : Bool). set (col t x) n c) e

-- ---- members that come and go

-- what is in both or in one of them is in that one
pub absorbed : (a b : Bool) → ((a && b) || b) ≡ b
absorbed true true = refl
absorbed true false = refl
absorbed false b = refl

-- nothing is in a set and not in it
pub excluded : (a b : Bool) → ((a && b) && not b) ≡ false
excluded true true = refl
excluded true false = refl
excluded false b = refl
