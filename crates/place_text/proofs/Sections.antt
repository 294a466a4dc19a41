-- The entries that places have, in the order of their lines.
use Rattle.std.proofs.Common.{◌≡◌, ℕ, zero, suc, ◌+◌, ◌-◌, ◌<◌, ◌≤◌, ◌||◌, nat_lt, not, Bool, true, false, IsTrue, inl, inr, cond, List, [], ◌∷◌, ◌++◌, All, map, filter, length, take, get_or, refl, sym, ◌∙◌, ap, subst, arith, true≢false}
use Rattle.std.specs.Prelude.{AllPairs, Contains}
use Rattle.std.specs.Fmt.{decimal}
use Rattle.std.specs.List.{range_with_len}
use Rattle.std.proofs.lemmas.Bool.{and_from, cases_eq, cases_lt, eq-eqb, le-leb, lt-ltb, or_left, or_right}
use Rattle.std.proofs.lemmas.List.{get_or-append-add, get_or-map, get_or_append_left, length-append, length-map, map-append, take_all}
use Rattle.std.proofs.lemmas.List.Elements.{All-nil, All-append, All-filter, All-map, All-weaker, Contains-append_left, Contains-append_right, filter_passes}
use Rattle.std.proofs.lemmas.List.FromFn.{get_or-range_with_len, length-range_with_len}
use Rattle.std.proofs.lemmas.List.Kept.{AllPairs-filter}
use Rattle.fd_base.specs.declared.numbering.Line.{Line}
use Rattle.fd_prog.specs.Paths.{Places}
use Rattle.interval_graph.specs.declared.node.Row.{Row}
use Rattle.interval_graph.specs.Rows.{row_at}
use Rattle.place_text.specs.declared.entry.Entry.{Entry}
use Rattle.place_text.specs.declared.entry.Kind.{Kind}
use Rattle.place_text.specs.declared.entry.Kind.TheVariants.{SendIn, RecvIn, SendOut, RecvOut, Hoist}
use Rattle.place_text.specs.Listings.{by_node, front_text, hoist_lines, marked_lines, place_lines}
use Rattle.place_text.specs.Readings.{AreHoistsTaken, IsEntry, Layout, by_kind, comes_before, entry_line, is_hoist, line_of_node, marked, turn, word_before, words_between}
use Rattle.place_text.specs.Tables.{lines_of}
use Rattle.place_text.proofs.Lines.{nodes_more}

-- ---- entries

abbrev pub entry : Kind → ℕ → ℕ → Entry
entry k n x = record { node = n; kind = k; item = x }

abbrev pub marks : Kind → ℕ → ℕ → (ℕ → Bool) → List Entry
marks k n items m = map (entry k n) (filter m (range_with_len 1 items))

-- the operations of a node
abbrev pub operations : ℕ → Places → ℕ → List Entry
operations items places n =
    (marks SendIn n items (places.send_in n) ++ marks RecvIn n items (places.recv_in n)) ++ (marks SendOut n items (places.send_out n) ++ marks RecvOut n items (places.recv_out n))

abbrev pub hoisted : ℕ → Places → ℕ → List Entry
hoisted items places n = marks Hoist n items (places.hoists n)

-- those of the nodes before one
pub upto : (ℕ → List Entry) → ℕ → List Entry
upto g zero = []
upto g (suc n) = upto g n ++ g n

-- ---- their lines

twice : (y : Layout) (k : Kind) (n : ℕ) (zs : List ℕ) → map (entry_line y) (map (entry k n) zs) ≡ map (λ (x : ℕ). front_text (word_before k) n (line_of_node y n) (words_between k) ++ decimal x) zs
twice y k n [] = refl
twice y k n (x ∷ zs) = ap (λ (ls : List (List ℕ)). entry_line y (entry k n x) ∷ ls) (twice y k n zs)

kind_lines : (y : Layout) (k : Kind) (n items : ℕ) (m : ℕ → Bool) → marked_lines (front_text (word_before k) n (line_of_node y n) (words_between k)) items m ≡ map (entry_line y) (marks k n items m)
kind_lines y k n items m = sym (twice y k n (filter m (range_with_len 1 items)))

two_lists : (y : Layout) (ds es : List Entry) (ls ms : List (List ℕ)) → ls ≡ map (entry_line y) ds → ms ≡ map (entry_line y) es → ls ++ ms ≡ map (entry_line y) (ds ++ es)
two_lists y ds es ls ms h k = (λ i. h i ++ k i) ∙ sym (map-append (entry_line y) ds es)

pub operation_lines : (y : Layout) (items : ℕ) (places : Places) (n : ℕ) → place_lines items places n (line_of_node y n) ≡ map (entry_line y) (operations items places n)
operation_lines y items places n =
    two_lists y _ _ _ _
    (two_lists y _ _ _ _ (kind_lines y SendIn n items (places.send_in n)) (kind_lines y RecvIn n items (places.recv_in n)))
    (two_lists y _ _ _ _ (kind_lines y SendOut n items (places.send_out n)) (kind_lines y RecvOut n items (places.recv_out n)))

pub hoisted_lines : (y : Layout) (items : ℕ) (places : Places) (n : ℕ) → hoist_lines items places n (line_of_node y n) ≡ map (entry_line y) (hoisted items places n)
hoisted_lines y items places n = kind_lines y Hoist n items (places.hoists n)

node_lines : (y : Layout) (f : ℕ → Line → List (List ℕ)) (g : ℕ → List Entry) (rows : List Row) → ((n : ℕ) → n < length rows → f n (row_at rows n).line ≡ map (entry_line y) (g n))
    → (i : ℕ) → i ≤ length rows → by_node f 0 (lines_of (take i rows)) ≡ map (entry_line y) (upto g i)
unfolding upto
node_lines y f g rows h zero le = refl
node_lines y f g rows h (suc i) le =
    let lt : i < length rows = omega (arith, le) in
    let e : suc i ≡ i + 1 = omega arith in
    ap (λ (k : ℕ). by_node f 0 (lines_of (take k rows))) e ∙ (nodes_more f rows i lt ∙ two_lists y (upto g i) (g i) _ _ (node_lines y f g rows h i (omega (arith, le))) (h i lt))

line_is : (y : Layout) (rows : List Row) → y.lines ≡ lines_of rows → (n : ℕ) → n < length rows → line_of_node y n ≡ (row_at rows n).line
line_is y rows e n lt = ap (λ (ls : List Line). get_or ls n (record { 0 = 0 })) e ∙ get_or-map (λ (r : Row). r.line) rows n (row_at [] 0) (record { 0 = 0 }) lt

-- the lines of all nodes
pub all_nodes : (y : Layout) (f : ℕ → Line → List (List ℕ)) (g : ℕ → List Entry) (rows : List Row) → y.lines ≡ lines_of rows → ((n : ℕ) → f n (line_of_node y n) ≡ map (entry_line y) (g n))
    → by_node f 0 (lines_of rows) ≡ map (entry_line y) (upto g (length rows))
all_nodes y f g rows e h =
    ap (λ (rs : List Row). by_node f 0 (lines_of rs)) (sym (take_all (length rows) rows (omega arith)))
    ∙ node_lines y f g rows (λ n lt. ap (f n) (sym (line_is y rows e n lt)) ∙ h n) (length rows) (omega arith)

-- ---- what holds of them

range_in : (items : ℕ) → All (λ (x : ℕ). (1 ≤ x) × (x ≤ items)) (range_with_len 1 items)
range_in items j d lt =
    let h : j < items = omega (arith, lt, length-range_with_len 1 items) in
    let e = get_or-range_with_len 1 items j d h in
    (omega (arith, e), omega (arith, e, h))

marks_all : (P : Entry → Type 0) (k : Kind) (n items : ℕ) (m : ℕ → Bool) → ((x : ℕ) → 1 ≤ x → x ≤ items → m x ≡ true → P (entry k n x)) → All P (marks k n items m)
marks_all P k n items m h =
    let zs = filter m (range_with_len 1 items) in
    let within = All-filter m (λ (x : ℕ). (1 ≤ x) × (x ≤ items)) (range_with_len 1 items) (range_in items) in
    All-map P (entry k n) zs (λ j d lt. h (get_or zs j d) (within j d lt).0 (within j d lt).1 (filter_passes m (range_with_len 1 items) j d lt))

operations_all : (P : Entry → Type 0) (items : ℕ) (places : Places) (n : ℕ) → ((k : Kind) → is_hoist k ≡ false → (x : ℕ) → 1 ≤ x → x ≤ items → by_kind places k n x ≡ true → P (entry k n x)) → All P (operations items places n)
operations_all P items places n h =
    All-append P _ _
    (All-append P _ _ (marks_all P SendIn n items (places.send_in n) (h SendIn refl)) (marks_all P RecvIn n items (places.recv_in n) (h RecvIn refl)))
    (All-append P _ _ (marks_all P SendOut n items (places.send_out n) (h SendOut refl)) (marks_all P RecvOut n items (places.recv_out n) (h RecvOut refl)))

-- an entry that there can be, of those that are marked
abbrev pub Fits : Layout → Places → Bool → Entry → Type 0
Fits y places hoists e = IsEntry y hoists e × IsTrue (marked places e)

operation_fits : (y : Layout) (places : Places) (n : ℕ) → n < length y.lines → (k : Kind) → is_hoist k ≡ false → (x : ℕ) → 1 ≤ x → x ≤ y.items → by_kind places k n x ≡ true → (n ≡ n) × Fits y places false (entry k n x)
operation_fits y places n lt k h x lo hi m =
    let free : (not (is_hoist k) || y.taken n x) ≡ true = or_left (not (is_hoist k)) (y.taken n x) (ap not h) in
    (refl, (record { kind = h; real = and_from _ _ (lt-ltb n (length y.lines) lt) (and_from _ _ (le-leb 1 x lo) (and_from _ _ (le-leb x y.items hi) free)) }, m))

pub operations_fit : (y : Layout) (places : Places) (n : ℕ) → n < length y.lines → All (λ (e : Entry). (e.node ≡ n) × Fits y places false e) (operations y.items places n)
operations_fit y places n lt = operations_all (λ (e : Entry). (e.node ≡ n) × Fits y places false e) y.items places n (operation_fits y places n lt)

pub hoisted_fit : (y : Layout) (places : Places) → AreHoistsTaken y places → (n : ℕ) → n < length y.lines → All (λ (e : Entry). (e.node ≡ n) × Fits y places true e) (hoisted y.items places n)
hoisted_fit y places taken n lt =
    marks_all (λ (e : Entry). (e.node ≡ n) × Fits y places true e) Hoist n y.items (places.hoists n) (λ x lo hi m.
    (refl, (record { kind = refl; real = and_from _ _ (lt-ltb n (length y.lines) lt) (and_from _ _ (le-leb 1 x lo) (and_from _ _ (le-leb x y.items hi) (taken n x lt lo hi m))) }, m)))

pub upto_all : (Q : Entry → Type 0) (g : ℕ → List Entry) (i : ℕ) → ((n : ℕ) → n < i → All (λ (e : Entry). (e.node ≡ n) × Q e) (g n)) → All (λ (e : Entry). (e.node < i) × Q e) (upto g i)
unfolding upto
upto_all Q g zero h = All-nil (λ (e : Entry). (e.node < 0) × Q e)
upto_all Q g (suc i) h =
    All-append (λ (e : Entry). (e.node < suc i) × Q e) (upto g i) (g i)
    (All-weaker (λ (e : Entry). (e.node < i) × Q e) (λ (e : Entry). (e.node < suc i) × Q e) (λ e t. (omega (arith, t.0), t.1)) (upto g i) (upto_all Q g i (λ n lt. h n (omega (arith, lt)))))
    (All-weaker (λ (e : Entry). (e.node ≡ i) × Q e) (λ (e : Entry). (e.node < suc i) × Q e) (λ e t. (omega (arith, t.0), t.1)) (g i) (h i (omega arith)))

-- ---- their order

abbrev pub Before : Entry → Entry → Type 0
Before d e = comes_before d e ≡ true

item_before : (k : Kind) (n x z : ℕ) → x < z → Before (entry k n x) (entry k n z)
item_before k n x z h = or_right (nat_lt n n) _ (and_from _ _ (eq-eqb n n refl) (or_right (nat_lt (turn k) (turn k)) _ (and_from _ _ (eq-eqb (turn k) (turn k) refl) (lt-ltb x z h))))

kind_before : (d e : Entry) → d.node ≡ e.node → turn d.kind < turn e.kind → Before d e
kind_before d e h k = or_right (nat_lt d.node e.node) _ (and_from _ _ (eq-eqb d.node e.node h) (or_left (nat_lt (turn d.kind) (turn e.kind)) _ (lt-ltb (turn d.kind) (turn e.kind) k)))

node_before : (d e : Entry) → d.node < e.node → Before d e
node_before d e h = or_left (nat_lt d.node e.node) _ (lt-ltb d.node e.node h)

range_order : (items : ℕ) → AllPairs (λ (a b : ℕ). a < b) (range_with_len 1 items)
range_order items i j d lt h =
    let hj : j < items = omega (arith, h, length-range_with_len 1 items) in
    let hi : i < items = omega (arith, lt, hj) in
    omega (arith, lt, get_or-range_with_len 1 items i d hi, get_or-range_with_len 1 items j d hj)

pub marks_order : (k : Kind) (n items : ℕ) (m : ℕ → Bool) → AllPairs Before (marks k n items m)
marks_order k n items m i j d lt h =
    let zs = filter m (range_with_len 1 items) in
    let hj : j < length zs = omega (arith, h, length-map zs (entry k n)) in
    let hi : i < length zs = omega (arith, lt, hj) in
    let up : get_or zs i 0 < get_or zs j 0 = AllPairs-filter (λ (a b : ℕ). a < b) m (range_with_len 1 items) (range_order items) i j 0 lt hj in
    let ei : get_or (map (entry k n) zs) i d ≡ entry k n (get_or zs i 0) = get_or-map (entry k n) zs i 0 d hi in
    let ej : get_or (map (entry k n) zs) j d ≡ entry k n (get_or zs j 0) = get_or-map (entry k n) zs j 0 d hj in
    (λ t. comes_before (ei t) (ej t)) ∙ item_before k n (get_or zs i 0) (get_or zs j 0) up

-- two lists, of which each entry of the one stands before each of the other
order_append : (P Q : Entry → Type 0) (xs ys : List Entry) → All P xs → All Q ys → ((d e : Entry) → P d → Q e → Before d e) → AllPairs Before xs → AllPairs Before ys → AllPairs Before (xs ++ ys)
order_append P Q xs ys ps qs cross hx hy i j d lt h = elim (cases_lt j (length xs)) [
  | inl jx ↦ (λ t. comes_before (get_or_append_left xs ys d i (omega (arith, lt, jx)) t) (get_or_append_left xs ys d j jx t)) ∙ hx i j d lt jx
  | inr jy ↦
      let q : ℕ = j - length xs in
      let at : length xs + q ≡ j = omega (arith, jy) in
      let within : q < length ys = omega (arith, jy, h, length-append xs ys) in
      let ej : get_or (xs ++ ys) j d ≡ get_or ys q d = ap (λ (n : ℕ). get_or (xs ++ ys) n d) (sym at) ∙ get_or-append-add xs ys q d in
      elim (cases_lt i (length xs)) [
        | inl ix ↦ (λ t. comes_before (get_or_append_left xs ys d i ix t) (ej t)) ∙ cross _ _ (ps i d ix) (qs q d within)
        | inr iy ↦
            let r : ℕ = i - length xs in
            let is : length xs + r ≡ i = omega (arith, iy) in
            let ei : get_or (xs ++ ys) i d ≡ get_or ys r d = ap (λ (n : ℕ). get_or (xs ++ ys) n d) (sym is) ∙ get_or-append-add xs ys r d in
            (λ t. comes_before (ei t) (ej t)) ∙ hy r q d (omega (arith, lt, at, is)) within
      ]
]

abbrev At : ℕ → ℕ → Entry → Type 0
At n t e = (e.node ≡ n) × (turn e.kind ≡ t)

at_marks : (k : Kind) (n items : ℕ) (m : ℕ → Bool) → All (At n (turn k)) (marks k n items m)
at_marks k n items m = marks_all (At n (turn k)) k n items m (λ x lo hi h. (refl, refl))

in_turn : (n s t : ℕ) → s < t → (d e : Entry) → At n s d → At n t e → Before d e
in_turn n s t lt d e p q = kind_before d e (p.0 ∙ sym q.0) (omega (arith, lt, p.1, q.1))

-- those at the `in`, and those at the `out`
abbrev Early : ℕ → Entry → Type 0
Early n e = (e.node ≡ n) × (turn e.kind < 2)

abbrev Late : ℕ → Entry → Type 0
Late n e = (e.node ≡ n) × (2 ≤ turn e.kind)

early : (n : ℕ) (e : Entry) (t : ℕ) → t < 2 → At n t e → Early n e
early n e t lt p = (p.0, omega (arith, lt, p.1))

late : (n : ℕ) (e : Entry) (t : ℕ) → 2 ≤ t → At n t e → Late n e
late n e t le p = (p.0, omega (arith, le, p.1))

pub operations_order : (items : ℕ) (places : Places) (n : ℕ) → AllPairs Before (operations items places n)
operations_order items places n =
    let A = marks SendIn n items (places.send_in n) in
    let B = marks RecvIn n items (places.recv_in n) in
    let C = marks SendOut n items (places.send_out n) in
    let D = marks RecvOut n items (places.recv_out n) in
    let a = at_marks SendIn n items (places.send_in n) in
    let b = at_marks RecvIn n items (places.recv_in n) in
    let c = at_marks SendOut n items (places.send_out n) in
    let d = at_marks RecvOut n items (places.recv_out n) in
    order_append (Early n) (Late n) (A ++ B) (C ++ D)
    (All-append (Early n) A B (All-weaker (At n 0) (Early n) (λ e. early n e 0 (omega arith)) A a) (All-weaker (At n 1) (Early n) (λ e. early n e 1 (omega arith)) B b))
    (All-append (Late n) C D (All-weaker (At n 2) (Late n) (λ e. late n e 2 (omega arith)) C c) (All-weaker (At n 3) (Late n) (λ e. late n e 3 (omega arith)) D d))
    (λ p q h k. kind_before p q (h.0 ∙ sym k.0) (omega (arith, h.1, k.1)))
    (order_append (At n 0) (At n 1) A B a b (in_turn n 0 1 (omega arith)) (marks_order SendIn n items (places.send_in n)) (marks_order RecvIn n items (places.recv_in n)))
    (order_append (At n 2) (At n 3) C D c d (in_turn n 2 3 (omega arith)) (marks_order SendOut n items (places.send_out n)) (marks_order RecvOut n items (places.recv_out n)))

pub upto_order : (Q : Entry → Type 0) (g : ℕ → List Entry) (i : ℕ) → ((n : ℕ) → n < i → All (λ (e : Entry). (e.node ≡ n) × Q e) (g n)) → ((n : ℕ) → AllPairs Before (g n)) → AllPairs Before (upto g i)
unfolding upto
upto_order Q g zero h o = λ i j d lt within. absurd (omega arith)
upto_order Q g (suc i) h o =
    order_append (λ (e : Entry). (e.node < i) × Q e) (λ (e : Entry). (e.node ≡ i) × Q e) (upto g i) (g i) (upto_all Q g i (λ n lt. h n (omega (arith, lt)))) (h i (omega arith))
    (λ d e p q. node_before d e (omega (arith, p.0, q.0))) (upto_order Q g i (λ n lt. h n (omega (arith, lt))) o) (o i)

-- ---- they are all there

in_marks : (k : Kind) (n : ℕ) (m : ℕ → Bool) (x : ℕ) → m x ≡ true → (len a : ℕ) → a ≤ x → x < a + len → Contains (map (entry k n) (filter m (range_with_len a len))) (entry k n x)
in_marks k n m x h zero a lo hi = absurd (omega (arith, lo, hi))
in_marks k n m x h (suc len) a lo hi =
    let F = filter m (range_with_len (a + 1) len) in
    elim (cases_eq x a) [
      | inl here ↦
          subst (λ (b : Bool). Contains (map (entry k n) (cond b (a ∷ F) F)) (entry k n x)) (sym (ap m (sym here) ∙ h)) (0, omega arith, ap (entry k n) (sym here))
      | inr other ↦
          let rest = in_marks k n m x h len (a + 1) (omega arith) (omega arith) in
          elim (m a) as (λ b. Contains (map (entry k n) (cond b (a ∷ F) F)) (entry k n x)) [
            | true ↦ Contains-append_right (entry k n a ∷ []) (map (entry k n) F) (entry k n x) rest
            | false ↦ rest
          ]
    ]

marked_there : (k : Kind) (n items : ℕ) (m : ℕ → Bool) (x : ℕ) → 1 ≤ x → x ≤ items → m x ≡ true → Contains (marks k n items m) (entry k n x)
marked_there k n items m x lo hi h = in_marks k n m x h items 1 lo (omega (arith, hi))

pub operation_there : (items : ℕ) (places : Places) (k : Kind) → is_hoist k ≡ false → (n x : ℕ) → 1 ≤ x → x ≤ items → by_kind places k n x ≡ true → Contains (operations items places n) (entry k n x)
operation_there items places SendIn h n x lo hi m = Contains-append_left _ _ _ (Contains-append_left _ _ _ (marked_there SendIn n items (places.send_in n) x lo hi m))
operation_there items places RecvIn h n x lo hi m = Contains-append_left _ _ _ (Contains-append_right (marks SendIn n items (places.send_in n)) _ _ (marked_there RecvIn n items (places.recv_in n) x lo hi m))
operation_there items places SendOut h n x lo hi m =
    Contains-append_right (marks SendIn n items (places.send_in n) ++ marks RecvIn n items (places.recv_in n)) _ _ (Contains-append_left _ _ _ (marked_there SendOut n items (places.send_out n) x lo hi m))
operation_there items places RecvOut h n x lo hi m =
    Contains-append_right (marks SendIn n items (places.send_in n) ++ marks RecvIn n items (places.recv_in n)) _ _
    (Contains-append_right (marks SendOut n items (places.send_out n)) _ _ (marked_there RecvOut n items (places.recv_out n) x lo hi m))
operation_there items places Hoist h n x lo hi m = absurd (true≢false h)

pub hoist_there : (items : ℕ) (places : Places) (k : Kind) → is_hoist k ≡ true → (n x : ℕ) → 1 ≤ x → x ≤ items → by_kind places k n x ≡ true → Contains (hoisted items places n) (entry k n x)
hoist_there items places SendIn h n x lo hi m = absurd (true≢false (sym h))
hoist_there items places RecvIn h n x lo hi m = absurd (true≢false (sym h))
hoist_there items places SendOut h n x lo hi m = absurd (true≢false (sym h))
hoist_there items places RecvOut h n x lo hi m = absurd (true≢false (sym h))
hoist_there items places Hoist h n x lo hi m = marked_there Hoist n items (places.hoists n) x lo hi m

pub upto_there : (g : ℕ → List Entry) (e : Entry) (n : ℕ) → Contains (g n) e → (i : ℕ) → n < i → Contains (upto g i) e
unfolding upto
upto_there g e n h zero lt = absurd (omega arith)
upto_there g e n h (suc i) lt = elim (cases_lt n i) [
  | inl less ↦ Contains-append_left (upto g i) (g i) e (upto_there g e n h i less)
  | inr more ↦ let at : n ≡ i = omega arith in Contains-append_right (upto g i) (g i) e (subst (λ (k : ℕ). Contains (g k) e) at h)
]
