-- The lines of listings, one after another.
use Rattle.std.proofs.Common.{◌≡◌, ℕ, zero, suc, ◌+◌, ◌-◌, ◌<◌, ◌≤◌, Bool, true, false, cond, List, [], ◌∷◌, ◌++◌, map, filter, length, take, get_or, refl, sym, ◌∙◌, ap, arith, append-nil, append_assoc, length-take}
use Rattle.std.specs.Fmt.{decimal}
use Rattle.std.specs.List.{range_with_len}
use Rattle.std.proofs.lemmas.List.{map-id, map-append, map_more, get_or-map, get_or_default, length-map}
use Rattle.std.proofs.lemmas.List.Elements.{filter-append, filter_agree}
use Rattle.std.proofs.lemmas.List.FromFn.{map-range_with_len_more}
use Rattle.fd_base.specs.declared.numbering.Line.{Line}
use Rattle.fd_sets.specs.Sets.{Subset}
use Rattle.fd_prog.specs.declared.item.Item.{Item}
use Rattle.fd_prog.specs.Programs.{CheckedProgram}
use Rattle.fd_prog.specs.Items.{LinearItem, linear_item_of}
use Rattle.interval_graph.specs.declared.node.Row.{Row}
use Rattle.interval_graph.specs.Rows.{row_at}
use Rattle.gnt_solver.specs.Columns.{at, col, held}
use Rattle.place_text.specs.Listings.{by_node, item_line, item_lines, marked_lines}
use Rattle.place_text.specs.Tables.{lines_of}

-- ---- marked items

range_more : (k : ℕ) → range_with_len 1 (k + 1) ≡ range_with_len 1 k ++ (k + 1) ∷ []
range_more k =
    sym (map-id (range_with_len 1 (k + 1))) ∙ (map-range_with_len_more (λ (x : ℕ). x) 1 k (k + 1) (omega arith)
    ∙ ap (λ (xs : List ℕ). xs ++ (k + 1) ∷ []) (map-id (range_with_len 1 k)))

marked_more : (front : List ℕ) (k : ℕ) (marked : ℕ → Bool) → marked_lines front (k + 1) marked ≡ marked_lines front k marked ++ map (λ (x : ℕ). front ++ decimal x) (cond (marked (k + 1)) ((k + 1) ∷ []) [])
marked_more front k marked =
    let text : ℕ → List ℕ = λ x. front ++ decimal x in
    ap (λ (xs : List ℕ). map text (filter marked xs)) (range_more k) ∙ (ap (map text) (filter-append marked (range_with_len 1 k) ((k + 1) ∷ []))
    ∙ map-append text (filter marked (range_with_len 1 k)) (filter marked ((k + 1) ∷ [])))

-- an item that is marked has the next line
marked_yes : (front : List ℕ) (k : ℕ) (marked : ℕ → Bool) → marked (k + 1) ≡ true → marked_lines front (k + 1) marked ≡ marked_lines front k marked ++ (front ++ decimal (k + 1)) ∷ []
marked_yes front k marked e =
    marked_more front k marked ∙ ap (λ (b : Bool). marked_lines front k marked ++ map (λ (x : ℕ). front ++ decimal x) (cond b ((k + 1) ∷ []) [])) e

-- another has none
marked_no : (front : List ℕ) (k : ℕ) (marked : ℕ → Bool) → marked (k + 1) ≡ false → marked_lines front (k + 1) marked ≡ marked_lines front k marked
marked_no front k marked e =
    marked_more front k marked ∙ (ap (λ (b : Bool). marked_lines front k marked ++ map (λ (x : ℕ). front ++ decimal x) (cond b ((k + 1) ∷ []) [])) e
    ∙ append-nil (marked_lines front k marked))

-- items without a mark have no lines
marked_none : (front : List ℕ) (k : ℕ) (marked : ℕ → Bool) (d : ℕ) → ((x : ℕ) → k < x → x ≤ k + d → marked x ≡ false) → marked_lines front (k + d) marked ≡ marked_lines front k marked
marked_none front k marked zero h = let e : k + 0 ≡ k = omega arith in ap (λ (n : ℕ). marked_lines front n marked) e
marked_none front k marked (suc d) h =
    let e : k + suc d ≡ k + d + 1 = omega arith in
    ap (λ (n : ℕ). marked_lines front n marked) e ∙ (marked_no front (k + d) marked (h (k + d + 1) (omega arith) (omega arith)) ∙ marked_none front k marked d (λ x lo hi. h x lo (omega (arith, hi))))

pub marked_past : (front : List ℕ) (k n : ℕ) (marked : ℕ → Bool) → k ≤ n → ((x : ℕ) → k + 1 ≤ x → x ≤ n → marked x ≡ false) → marked_lines front n marked ≡ marked_lines front k marked
marked_past front k n marked le h =
    let e : n ≡ k + (n - k) = omega arith in
    ap (λ (i : ℕ). marked_lines front i marked) e ∙ marked_none front k marked (n - k) (λ x lo hi. h x (omega arith) (omega (arith, hi, le)))

-- below the least item that is marked from one on, none is marked
pub none_below : (marked : ℕ → Bool) (from n : ℕ) → ((x : ℕ) → from ≤ x → marked x ≡ true → n ≤ x) → (x : ℕ) → from ≤ x → x < n → marked x ≡ false
none_below marked from n least x lo hi = not_true (marked x) (λ e. let le = least x lo e in omega (arith, le, hi))
  where
    not_true : (b : Bool) → (b ≡ true → ⊥) → b ≡ false
    not_true true h = absurd (h refl)
    not_true false h = refl

-- the next item that is marked has the next line
pub marked_next : (front : List ℕ) (k n : ℕ) (marked : ℕ → Bool) → k + 1 ≤ n → marked n ≡ true → ((x : ℕ) → k + 1 ≤ x → marked x ≡ true → n ≤ x)
    → marked_lines front n marked ≡ marked_lines front k marked ++ (front ++ decimal n) ∷ []
marked_next front k n marked lo here least =
    let e : n ≡ n - 1 + 1 = omega arith in
    let line : ℕ → List (List ℕ) = λ x. (front ++ decimal x) ∷ [] in
    ap (λ (i : ℕ). marked_lines front i marked) e ∙ (marked_yes front (n - 1) marked (ap marked (sym e) ∙ here)
    ∙ (ap (λ (ls : List (List ℕ)). ls ++ line (n - 1 + 1)) (marked_past front k (n - 1) marked (omega arith) (λ x a b. none_below marked (k + 1) n least x a (omega (arith, b, lo))))
    ∙ ap (λ (i : ℕ). marked_lines front k marked ++ line i) (sym e)))

-- the set of a node tells the marks that its table tells
pub of_table : (front : List ℕ) (items : ℕ) (t : List Subset) (n : ℕ) (s : Subset) → n < length t → s ≡ get_or t n s → marked_lines front items (held s) ≡ marked_lines front items (λ x. at (col t x) n)
of_table front items t n s h e =
    let text : ℕ → List ℕ = λ x. front ++ decimal x in
    ap (map text) (filter_agree (held s) (λ x. at (col t x) n) (λ x. ap (λ (u : Subset). held u x) e ∙ sym (get_or-map (λ (u : Subset). held u x) t n s false h)) (range_with_len 1 items))

-- ---- items

lines_append : (p : CheckedProgram) (a : ℕ) (xs : List LinearItem) (y : LinearItem) → item_lines p a (xs ++ y ∷ []) ≡ item_lines p a xs ++ item_line p (a + length xs) y ∷ []
lines_append p a [] y = let e : a ≡ a + 0 = omega arith in ap (λ (n : ℕ). item_line p n y ∷ []) e
lines_append p a (x ∷ xs) y =
    let e : a + 1 + length xs ≡ a + length (x ∷ xs) = omega arith in
    ap (λ (ls : List (List ℕ)). item_line p a x ∷ ls) (lines_append p (a + 1) xs y ∙ ap (λ (n : ℕ). item_lines p (a + 1) xs ++ item_line p n y ∷ []) e)

-- the item at an index has the next line
pub items_more : (p : CheckedProgram) (items : List Item) (i : ℕ) (item : Item) → i < length items → item ≡ get_or items i item
    → item_lines p 1 (map linear_item_of (take (i + 1) items)) ≡ item_lines p 1 (map linear_item_of (take i items)) ++ item_line p (i + 1) (linear_item_of item) ∷ []
items_more p items i item h e =
    let before = map linear_item_of (take i items) in
    let long : 1 + length before ≡ i + 1 = omega (arith, length-map (take i items) linear_item_of, length-take i items) in
    ap (item_lines p 1) (map_more linear_item_of items i item h) ∙ (lines_append p 1 before (linear_item_of (get_or items i item))
    ∙ (ap (λ (n : ℕ). item_lines p 1 before ++ item_line p n (linear_item_of (get_or items i item)) ∷ []) long
    ∙ ap (λ (x : Item). item_lines p 1 before ++ item_line p (i + 1) (linear_item_of x) ∷ []) (sym e)))

-- ---- nodes

nodes_append : (f : ℕ → Line → List (List ℕ)) (n : ℕ) (xs : List Line) (y : Line) → by_node f n (xs ++ y ∷ []) ≡ by_node f n xs ++ f (n + length xs) y
nodes_append f n [] y = let e : n ≡ n + 0 = omega arith in append-nil (f n y) ∙ ap (λ (m : ℕ). f m y) e
nodes_append f n (x ∷ xs) y =
    let e : n + 1 + length xs ≡ n + length (x ∷ xs) = omega arith in
    ap (λ (ls : List (List ℕ)). f n x ++ ls) (nodes_append f (n + 1) xs y ∙ ap (λ (m : ℕ). by_node f (n + 1) xs ++ f m y) e)
    ∙ sym (append_assoc (f n x) (by_node f (n + 1) xs) (f (n + length (x ∷ xs)) y))

-- the node at an index has the next lines
pub nodes_more : (f : ℕ → Line → List (List ℕ)) (rows : List Row) (i : ℕ) → i < length rows
    → by_node f 0 (lines_of (take (i + 1) rows)) ≡ by_node f 0 (lines_of (take i rows)) ++ f i (row_at rows i).line
nodes_more f rows i h =
    let line : Row → Line = λ r. r.line in
    let long : 0 + length (map line (take i rows)) ≡ i = omega (arith, length-map (take i rows) line, length-take i rows) in
    ap (by_node f 0) (map_more line rows i (row_at rows i) h) ∙ (nodes_append f 0 (map line (take i rows)) (line (get_or rows i (row_at rows i)))
    ∙ (ap (λ (m : ℕ). by_node f 0 (map line (take i rows)) ++ f m (line (get_or rows i (row_at rows i)))) long
    ∙ ap (λ (r : Row). by_node f 0 (map line (take i rows)) ++ f i r.line) (get_or_default rows i (row_at rows i) _ h)))
