-- Tables of sets, item by item.
use Rattle.std.proofs.Common.{◌≡◌, ℕ, ◌<◌, ◌≤◌, ◌==◌, Bool, false, ◌&&◌, ◌||◌, List, length, get_or, set, sym, ◌∙◌, ap, arith, inl, inr}
use Rattle.std.specs.Prelude.{replicate}
use Rattle.std.specs.FinSet as finite
use Rattle.std.specs.Ordering.{nat_cmp, eq_by_cmp}
use Rattle.std.specs.Cmp.{nat_cmp_total}
use Rattle.std.proofs.lemmas.Bool.{cases_eq, cases_lt, eq-eqb, ne_eqb}
use Rattle.std.proofs.lemmas.Bool.Decides.{nat_tests}
use Rattle.std.proofs.lemmas.List.{get_or-replicate, get_or_past, length-replicate, get_or-set_same, get_or-set_other, get_or-map, get_or_default, length-map, length-set, map-set}
use Rattle.fd_sets.specs.Sets.{Subset}
use Rattle.gnt_solver.specs.declared.tables.Size.{Size}
use Rattle.gnt_solver.specs.Columns.{at, col, held, IsTable}
use Rattle.fd_sets.specs.Tables.{no_items}

cmp-eqb : (q x : ℕ) → eq_by_cmp nat_cmp q x ≡ (q == x)
cmp-eqb q x = grind (arith, nat_tests)

-- the set of a node, as the table tells it
of_node : (t : List Subset) (n : ℕ) (s : Subset) (x : ℕ) → n < length t → s ≡ get_or t n s → finite.contains s.members x ≡ at (col t x) n
of_node t n s x h e = ap (λ (u : Subset). held u x) e ∙ sym (get_or-map (λ (u : Subset). held u x) t n s false h)

-- one more item in the set of a node
pub marks_more : (t : List Subset) (n item : ℕ) (s u : Subset) → n < length t → s ≡ get_or t n s → u.members ≡ finite.insert s.members item
    → (m x : ℕ) → at (col (set t n u) x) m ≡ (((m == n) && (x == item)) || at (col t x) m)
marks_more t n item s u h e f m x =
    let turned : col (set t n u) x ≡ set (col t x) n (held u x) = map-set (λ (v : Subset). held v x) t n u in
    let long : length (col t x) ≡ length t = length-map t (λ (v : Subset). held v x) in
    let has : held u x ≡ ((x == item) || at (col t x) n) =
    ap (λ v. finite.contains v x) f ∙ (finite.contains-insert nat_cmp_total s.members item x ∙ (λ i. cmp-eqb x item i || of_node t n s x h e i)) in
    elim (cases_eq m n) [
      | inl same ↦
          ap (λ (xs : List Bool). at xs m) turned ∙ (ap (λ j. at (set (col t x) n (held u x)) j) same
          ∙ (get_or-set_same (col t x) n (held u x) false (omega (arith, h, long)) ∙ (has ∙ sym (λ i. ((eq-eqb m n same i) && (x == item)) || at (col t x) (same i)))))
      | inr other ↦
          ap (λ (xs : List Bool). at xs m) turned ∙ (get_or-set_other (col t x) n m (held u x) false other ∙ ap (λ b. (b && (x == item)) || at (col t x) m) (sym (ne_eqb m n other)))
    ]

-- the table keeps its size
pub table_kept : (size : Size) (t : List Subset) (n : ℕ) (s u : Subset) → n < length t → s ≡ get_or t n s → u.size ≡ s.size → IsTable size t → IsTable size (set t n u)
table_kept size t n s u h e f is = record {
  long = length-set t n u ∙ is.long;
  sizes = λ m lt. elim (cases_eq m n) [
    | inl same ↦ ap (λ j. (get_or (set t n u) j no_items).size) same ∙ (ap (λ (v : Subset). v.size) (get_or-set_same t n u no_items h)
        ∙ (f ∙ (ap (λ (v : Subset). v.size) (e ∙ get_or_default t n s no_items h) ∙ is.sizes n (omega (arith, h, is.long)))))
    | inr other ↦ ap (λ (v : Subset). v.size) (get_or-set_other t n m u no_items other) ∙ is.sizes m lt
  ];
}

pub room : (t : List Subset) (n item : ℕ) (s : Subset) → n < length t → s ≡ get_or t n s → item ≤ (get_or t n no_items).size → item ≤ s.size
room t n item s h e le = omega (arith, le, ap (λ (v : Subset). v.size) (e ∙ get_or_default t n s no_items h))

-- ---- a new table

abbrev pub no_set : ℕ → Subset
no_set items = record { size = items; members = finite.empty }

pub none_new : (t : List Subset) (nodes items : ℕ) → t ≡ replicate nodes (no_set items) → (x n : ℕ) → at (col t x) n ≡ false
none_new t nodes items e x n =
    let long : length (replicate nodes (no_set items)) ≡ nodes = length-replicate nodes (no_set items) in
    ap (λ (u : List Subset). at (col u x) n) e ∙ elim (cases_lt n nodes) [
      | inl lt ↦ get_or-map (λ (v : Subset). held v x) (replicate nodes (no_set items)) n (no_set items) false (omega (arith, lt, long))
          ∙ (ap (λ (v : Subset). held v x) (get_or-replicate nodes n (no_set items) (no_set items) lt) ∙ finite.contains-empty nat_cmp x)
      | inr ge ↦ get_or_past (col (replicate nodes (no_set items)) x) n false (omega (arith, ge, long, length-map (replicate nodes (no_set items)) (λ (v : Subset). held v x)))
    ]

pub table_new : (t : List Subset) (nodes items : ℕ) → t ≡ replicate nodes (no_set items) → IsTable (record { nodes = nodes; items = items }) t
table_new t nodes items e = record {
  long = ap length e ∙ length-replicate nodes (no_set items);
  sizes = λ n lt. ap (λ (u : List Subset). (get_or u n no_items).size) e ∙ ap (λ (v : Subset). v.size) (get_or-replicate nodes n (no_set items) no_items lt);
}
