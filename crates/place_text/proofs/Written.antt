-- A written listing is right line by line, and tells the places of which it was made.
use Rattle.std.proofs.Common.{◌≡◌, ℕ, zero, suc, ◌+◌, ◌-◌, ◌<◌, ◌≤◌, ◌^◌, ◌&&◌, Bool, true, false, IsTrue, inl, inr, List, [], ◌∷◌, ◌++◌, All, map, length, get_or, Some, refl, sym, ◌∙◌, ap, subst, arith, codes}
use Rattle.std.specs.Prelude.{◌↔◌, AllPairs, Contains, flat_map, option_map}
use Rattle.std.specs.Fmt.{decimal}
use Rattle.std.specs.List.{slice_get}
use Rattle.std.proofs.lemmas.Bool.{and_from, and_parts, cases_Bool, cases_lt, leb-true}
use Rattle.std.proofs.lemmas.List.{length-append, length-map}
use Rattle.std.proofs.lemmas.List.Elements.{All-map, All-weaker}
use Rattle.std.proofs.lemmas.Option.{slice_get-get_or, slice_get-map, slice_get_past}
use Rattle.fd_prog.specs.Programs.{CheckedProgram}
use Rattle.fd_prog.specs.Items.{LinearItem}
use Rattle.fd_prog.specs.Paths.{Places}
use Rattle.interval_graph.specs.declared.node.Row.{Row}
use Rattle.place_text.specs.declared.entry.Entry.{Entry}
use Rattle.place_text.specs.declared.entry.Kind.TheVariants.{SendIn}
use Rattle.place_text.specs.declared.known.Known.{Known}
use Rattle.place_text.specs.Listings.{by_node, counted_lines, ended_line, hoist_lines, item_lines, listing, place_lines}
use Rattle.place_text.specs.Readings.{AreBack, AreHoistsTaken, AreUnbroken, IsEntry, IsEntryLine, IsFirstWrong, IsKnown, IsReadAs, IsRight, IsToldIn, Layout, comes_before, end_at, end_of, entry_line, first_of, hoists_at, is_hoist, is_real, layout_of, lines_in, marked, opening, places_at}
use Rattle.place_text.specs.Tables.{lines_of}
use Rattle.place_text.proofs.Again.{all_lines, counted, entry_clear, listing_lines, told_hoists, told_places}
use Rattle.place_text.proofs.Entries.{IsPlain, one_known, real_item, real_node}
use Rattle.place_text.proofs.Parts.{few_lines}
use Rattle.place_text.proofs.Readings.{count_right, some_text}
use Rattle.place_text.proofs.Sections.{Before, Fits, all_nodes, entry, hoist_there, hoisted, hoisted_fit, hoisted_lines, marks_order, operation_lines, operation_there, operations, operations_fit, operations_order, upto, upto_all, upto_order, upto_there}
use Rattle.place_text.proofs.Whole.{BeginsWith, IsHalf, end_half, half_at, in_end, whole}

-- ---- lists of lines

past_front : (xs ys : List (List ℕ)) (n m : ℕ) → m ≡ length xs + n → slice_get (xs ++ ys) m ≡ slice_get ys n
past_front [] ys n m h = ap (slice_get ys) (omega (arith, h))
past_front (x ∷ xs) ys n zero h = absurd (omega (arith, h))
past_front (x ∷ xs) ys n (suc m) h = past_front xs ys n m (omega (arith, h))

front_is : (xs ys : List (List ℕ)) (i : ℕ) → i < length xs → slice_get (xs ++ ys) i ≡ slice_get xs i
front_is [] ys i lt = absurd (omega arith)
front_is (x ∷ xs) ys zero lt = refl
front_is (x ∷ xs) ys (suc i) lt = front_is xs ys i (omega (arith, lt))

-- ---- a section

abbrev some_entry : Entry
some_entry = entry SendIn 0 0

-- lines from a place on that tell these entries, which are all that are marked
pub record IsSection (y : Layout) (places : Places) (hoists : Bool) (ls : List (List ℕ)) (first : ℕ) (es : List Entry) : Type 0 where
  pub fit : All (Fits y places hoists) es
  pub order : AllPairs Before es
  pub there : (e : Entry) → Fits y places hoists e → Contains es e
  pub lines : (j : ℕ) → j < length es → slice_get ls (first + j) ≡ slice_get (map (entry_line y) es) j

line_at : (y : Layout) (places : Places) (hoists : Bool) (ls : List (List ℕ)) (first : ℕ) (es : List Entry) → IsSection y places hoists ls first es → (j : ℕ) → j < length es → (d : Entry)
    → slice_get ls (first + j) ≡ Some (entry_line y (get_or es j d))
line_at y places hoists ls first es s j lt d = s.lines j lt ∙ (slice_get-map (entry_line y) es j ∙ ap (option_map (entry_line y)) (slice_get-get_or es j d lt))

entries_right : (k : Known) → IsKnown k → (places : Places) (hoists : Bool) (ls : List (List ℕ)) (first : ℕ) (es : List Entry) → IsSection (layout_of k) places hoists ls first es
    → (i : ℕ) → first ≤ i → i < first + length es → IsEntryLine (layout_of k) hoists ls first i
entries_right k known places hoists ls first es s i lo hi =
    let y = layout_of k in
    let j : ℕ = i - first in
    let at : first + j ≡ i = omega (arith, lo) in
    let lt : j < length es = omega (arith, lo, hi) in (
      get_or es j some_entry,
      record {
        real = (s.fit j some_entry lt).0;
        line = ap (slice_get ls) (sym at) ∙ line_at y places hoists ls first es s j lt some_entry;
        behind = λ d more rd ld.
            let p : ℕ = j - 1 in
            let before : first + p ≡ i - 1 = omega (arith, more, at) in
            let pj : p < j = omega (arith, more, at) in
            let pl : p < length es = omega (arith, pj, lt) in
            let same : d ≡ get_or es p some_entry =
            one_known k known hoists d (get_or es p some_entry) rd (s.fit p some_entry pl).0 (some_text _ _ (sym ld ∙ (ap (slice_get ls) (sym before) ∙ line_at y places hoists ls first es s p pl some_entry))) in
            subst (λ (x : Entry). comes_before x (get_or es j some_entry) ≡ true) (sym same) (s.order p j some_entry pj lt);
      },
    )

told_by : (k : Known) → IsKnown k → (places : Places) (hoists : Bool) (ls : List (List ℕ)) (first : ℕ) (es : List Entry) → IsSection (layout_of k) places hoists ls first es
    → (e : Entry) → is_hoist e.kind ≡ hoists → IsToldIn (layout_of k) ls first (first + length es) e ↔ IsTrue (is_real (layout_of k) e && marked places e)
told_by k known places hoists ls first es s e h =
    let y = layout_of k in (
      (λ t.
          let j : ℕ = t.place - first in
          let at : first + j ≡ t.place = omega (arith, t.low) in
          let lt : j < length es = omega (arith, t.low, t.high) in
          let same : e ≡ get_or es j some_entry =
          one_known k known hoists e (get_or es j some_entry) (record { kind = h; real = t.real.real }) (s.fit j some_entry lt).0 (some_text _ _ (sym t.line ∙ (ap (slice_get ls) (sym at) ∙ line_at y places hoists ls first es s j lt some_entry))) in
          and_from (is_real y e) (marked places e) t.real.real (ap (marked places) same ∙ (s.fit j some_entry lt).1)),
      (λ b.
          let p = and_parts (is_real y e) (marked places e) b in
          let c = s.there e (record { kind = h; real = p.0 }, p.1) in
          let lt : c.0 < length es = c.1 in
          record { place = first + c.0; low = omega arith; high = omega (arith, lt); real = record { kind = refl; real = p.0 }; line = line_at y places hoists ls first es s c.0 lt e ∙ ap (λ (x : Entry). Some (entry_line y x)) c.2 }),
    )

-- ---- both sections

-- lines that begin with these, and then tell the operations and the hoists of places
pub record AreMade (k : Known) (places : Places) (front ls : List (List ℕ)) (es hs : List Entry) : Type 0 where
  pub operations : IsSection (layout_of k) places false ls (places_at front + 1) es
  pub hoists : IsSection (layout_of k) places true ls (places_at front + 1 + length es + 1) hs
  pub begins : BeginsWith front ls
  pub first : slice_get ls (places_at front) ≡ Some (codes "places " ++ decimal (length es))
  pub second : slice_get ls (places_at front + 1 + length es) ≡ Some (codes "hoists " ++ decimal (length hs))
  pub long : length ls ≡ places_at front + 1 + length es + 1 + length hs
  pub few : length ls + 1 < 2 ^ 32

half : (k : Known) → IsKnown k → (places : Places) (front ls : List (List ℕ)) (es hs : List Entry) → AreMade k places front ls es hs → IsHalf front (layout_of k) ls (length es) (length hs)
half k known places front ls es hs m =
    let one = count_right (codes "places ") ls (places_at front) (length es) (omega (arith, m.long, m.few)) m.first in
    let two = count_right (codes "hoists ") ls (places_at front + 1 + length es) (length hs) (omega (arith, m.long, m.few)) m.second in
    record {
      places = one.1;
      begins = m.begins;
      counted = one.0;
      entries = entries_right k known places false ls (places_at front + 1) es m.operations;
      second = two.0;
      hoists = two.1;
    }

-- each line is right
made_right : (k : Known) → IsKnown k → (places : Places) (front ls : List (List ℕ)) (es hs : List Entry) → AreMade k places front ls es hs → (i : ℕ) → i ≤ length ls → IsRight front (layout_of k) ls i
made_right k known places front ls es hs m i le =
    let h = half k known places front ls es hs m in
    let end = end_half front (layout_of k) ls (length es) (length hs) h in
    elim (cases_lt i (end_at front ls)) [
      | inl less ↦ whole front (layout_of k) ls (length es) (length hs) h (entries_right k known places true ls (places_at front + 1 + length es + 1) hs m.hoists) i less
      | inr more ↦ in_end front (layout_of k) ls i more (slice_get_past ls i (omega (arith, more, end, m.long)))
    ]

pub none_wrong : (k : Known) → IsKnown k → (places : Places) (front ls : List (List ℕ)) (es hs : List Entry) → AreMade k places front ls es hs → (line : ℕ) → IsFirstWrong front (layout_of k) ls line → ⊥
none_wrong k known places front ls es hs m line w = w.wrong (made_right k known places front ls es hs m (line - 1) (omega (arith, w.low, w.high)))

-- what the lines tell is what is marked
made_told : (k : Known) → IsKnown k → (places : Places) (front ls : List (List ℕ)) (es hs : List Entry) → AreMade k places front ls es hs → (e : Entry)
    → IsToldIn (layout_of k) ls (first_of (is_hoist e.kind) front ls) (end_of (is_hoist e.kind) front ls) e ↔ IsTrue (is_real (layout_of k) e && marked places e)
made_told k known places front ls es hs m e =
    let y = layout_of k in
    let n : ℕ = length es in
    let a : ℕ = length hs in
    let h = half k known places front ls es hs m in
    let at = half_at front ls (length es) h.places in
    let end = end_half front y ls (length es) (length hs) h in
    let T : Bool → Type 0 = λ b. IsToldIn y ls (first_of b front ls) (end_of b front ls) e in
    let to_places : IsToldIn y ls (places_at front + 1) (places_at front + 1 + length es) e → T false = λ t. subst (λ (q : ℕ). IsToldIn y ls (places_at front + 1) q e) at t in
    let from_places : T false → IsToldIn y ls (places_at front + 1) (places_at front + 1 + length es) e = λ t. subst (λ (q : ℕ). IsToldIn y ls (places_at front + 1) q e) (sym at) t in
    let to_hoists : IsToldIn y ls (places_at front + 1 + length es + 1) (places_at front + 1 + length es + 1 + length hs) e → T true =
    λ t. subst (λ (q : ℕ). IsToldIn y ls (hoists_at front ls + 1) q e) end (subst (λ (q : ℕ). IsToldIn y ls (q + 1) (places_at front + 1 + length es + 1 + length hs) e) at t) in
    let from_hoists : T true → IsToldIn y ls (places_at front + 1 + length es + 1) (places_at front + 1 + length es + 1 + length hs) e =
    λ t. subst (λ (q : ℕ). IsToldIn y ls (q + 1) (places_at front + 1 + length es + 1 + length hs) e) (sym at) (subst (λ (q : ℕ). IsToldIn y ls (hoists_at front ls + 1) q e) (sym end) t) in
    elim (cases_Bool (is_hoist e.kind)) [
      | inl hoist ↦
          let w = told_by k known places true ls (places_at front + 1 + length es + 1) hs m.hoists e hoist in
          (λ t. w.0 (from_hoists (subst T hoist t)), λ x. subst T (sym hoist) (to_hoists (w.1 x)))
      | inr other ↦
          let w = told_by k known places false ls (places_at front + 1) es m.operations e other in
          (λ t. w.0 (from_places (subst T other t)), λ x. subst T (sym other) (to_places (w.1 x)))
    ]

one_test : (a b : Bool) → (IsTrue a → IsTrue b) → (IsTrue b → IsTrue a) → a ≡ b
one_test true b f g = sym (f refl)
one_test false true f g = g refl
one_test false false f g = refl

pub made_back : (k : Known) → IsKnown k → (places read : Places) (front ls : List (List ℕ)) (es hs : List Entry) → AreMade k places front ls es hs → IsReadAs front (layout_of k) ls read → AreBack (layout_of k) places read
made_back k known places read front ls es hs m r e =
    let told = made_told k known places front ls es hs m e in
    one_test (marked read e) (is_real (layout_of k) e && marked places e) (λ h. told.0 ((r.told e).0 h)) (λ h. (r.told e).1 (told.1 h))

-- ---- the lines of a listing

many : (ls : List (List ℕ)) → length ls ≤ length (flat_map ended_line ls)
many [] = omega arith
many (l ∷ ls) = omega (arith, many ls, length-append (ended_line l) (flat_map ended_line ls), length-append l (codes "\n"))

-- a listing has at least as many bytes as lines
few_told : (word other last : List ℕ) (ls : List (List ℕ)) (text : List ℕ) → text ≡ other ++ ((ended_line word ++ flat_map ended_line ls) ++ last) → length ls ≤ length text
few_told word other last ls text e =
    omega (arith, ap length e, many ls, length-append other ((ended_line word ++ flat_map ended_line ls) ++ last), length-append (ended_line word ++ flat_map ended_line ls) last, length-append (ended_line word) (flat_map ended_line ls))

few_last : (word other more : List ℕ) (ls : List (List ℕ)) (text : List ℕ) → text ≡ other ++ (more ++ (ended_line word ++ flat_map ended_line ls)) → length ls ≤ length text
few_last word other more ls text e =
    omega (arith, ap length e, many ls, length-append other (more ++ (ended_line word ++ flat_map ended_line ls)), length-append more (ended_line word ++ flat_map ended_line ls), length-append (ended_line word) (flat_map ended_line ls))

real_low : (y : Layout) (hoists : Bool) (e : Entry) → IsEntry y hoists e → 1 ≤ e.item
real_low y hoists e h = leb-true 1 e.item (and_parts _ _ (and_parts _ _ h.real).1).0

entries_clear : (k : Known) → IsKnown k → (places : Places) (hoists : Bool) (es : List Entry) → All (Fits (layout_of k) places hoists) es → All (IsPlain 10) (map (entry_line (layout_of k)) es)
entries_clear k known places hoists es fit =
    let y = layout_of k in
    All-map (IsPlain 10) (entry_line y) es (All-weaker (Fits y places hoists) (λ (e : Entry). IsPlain 10 (entry_line y e)) (λ e f.
    entry_clear y e (omega (arith, real_node y hoists e f.0, known.few)) (omega (arith, real_item y hoists e f.0, known.items)) (omega (arith, known.numbers e.node))) es fit)

places_line : (front P H : List (List ℕ)) (j : ℕ) → j < length P → slice_get (all_lines front P H) (length front + 1 + j) ≡ slice_get P j
places_line front P H j lt =
    past_front front (counted (codes "places ") P ++ counted (codes "hoists ") H) (suc j) (length front + 1 + j) (omega arith) ∙ front_is P (counted (codes "hoists ") H) j lt

first_line : (front P H : List (List ℕ)) → slice_get (all_lines front P H) (length front) ≡ Some (codes "places " ++ decimal (length P))
first_line front P H = past_front front (counted (codes "places ") P ++ counted (codes "hoists ") H) 0 (length front) (omega arith)

behind_places : (front P H : List (List ℕ)) (j : ℕ) → slice_get (all_lines front P H) (length front + 1 + length P + j) ≡ slice_get (counted (codes "hoists ") H) j
behind_places front P H j =
    past_front front (counted (codes "places ") P ++ counted (codes "hoists ") H) (suc (length P + j)) (length front + 1 + length P + j) (omega arith)
    ∙ past_front P (counted (codes "hoists ") H) j (length P + j) refl

all_long : (front P H : List (List ℕ)) → length (all_lines front P H) ≡ length front + 1 + length P + 1 + length H
all_long front P H =
    omega (arith, length-append front (counted (codes "places ") P ++ counted (codes "hoists ") H), length-append (counted (codes "places ") P) (counted (codes "hoists ") H))

-- lines that are made of entries
from_entries : (k : Known) (places : Places) (front ls : List (List ℕ)) (es hs : List Entry) → ls ≡ all_lines front (map (entry_line (layout_of k)) es) (map (entry_line (layout_of k)) hs) → length ls + 1 < 2 ^ 32
    → All (Fits (layout_of k) places false) es → AllPairs Before es → ((e : Entry) → Fits (layout_of k) places false e → Contains es e)
    → All (Fits (layout_of k) places true) hs → AllPairs Before hs → ((e : Entry) → Fits (layout_of k) places true e → Contains hs e) → AreMade k places front ls es hs
from_entries k places front ls es hs e few fit order there fits orders theres =
    let y = layout_of k in
    let P = map (entry_line y) es in
    let H = map (entry_line y) hs in
    let np : length P ≡ length es = length-map es (entry_line y) in
    let nh : length H ≡ length hs = length-map hs (entry_line y) in
    let get : (i : ℕ) → slice_get ls i ≡ slice_get (all_lines front P H) i = λ i. ap (λ (ts : List (List ℕ)). slice_get ts i) e in
    record {
      operations = record { fit = fit; order = order; there = there; lines = λ j lt. get (length front + 1 + j) ∙ places_line front P H j (omega (arith, lt, np)) };
      hoists = record {
        fit = fits;
        order = orders;
        there = theres;
        lines = λ j lt.
            let at : length front + 1 + length es + 1 + j ≡ length front + 1 + length P + suc j = omega (arith, np) in
            get (length front + 1 + length es + 1 + j) ∙ (ap (slice_get (all_lines front P H)) at ∙ behind_places front P H (suc j));
      };
      begins = λ i lt. get i ∙ front_is front (counted (codes "places ") P ++ counted (codes "hoists ") H) i lt;
      first = get (length front) ∙ (first_line front P H ∙ ap (λ (n : ℕ). Some (codes "places " ++ decimal n)) np);
      second =
          let at : length front + 1 + length es ≡ length front + 1 + length P + 0 = omega (arith, np) in
          get (length front + 1 + length es) ∙ (ap (slice_get (all_lines front P H)) at ∙ (behind_places front P H 0 ∙ ap (λ (n : ℕ). Some (codes "hoists " ++ decimal n)) nh));
      long = omega (arith, ap length e, all_long front P H, np, nh);
      few = few;
    }

abbrev pub all_operations : Known → Places → List Row → List Entry
all_operations k places rows = upto (operations k.items places) (length rows)

abbrev pub all_hoists : Known → Places → List Row → List Entry
all_hoists k places rows = upto (hoisted k.items places) (length rows)

pub written : (k : Known) → IsKnown k → (rows : List Row) → k.lines.items ≡ lines_of rows → (p : CheckedProgram) (xs : List LinearItem) → length xs ≡ k.items → (places : Places) → AreUnbroken (opening p xs)
    → AreHoistsTaken (layout_of k) places → (text : List ℕ) → text ≡ listing p xs (lines_of rows) places → length text + 1 < 2 ^ 32
    → AreMade k places (opening p xs) (lines_in text) (all_operations k places rows) (all_hoists k places rows)
written k known rows e p xs n places unbroken taken text is short =
    let y = layout_of k in
    let long : length k.lines.items ≡ length rows = ap length e ∙ length-map rows (λ (r : Row). r.line) in
    let fits_at : (m : ℕ) → m < length rows → All (λ (d : Entry). (d.node ≡ m) × Fits y places false d) (operations k.items places m) = λ m lt. operations_fit y places m (omega (arith, lt, long)) in
    let hoists_fit_at : (m : ℕ) → m < length rows → All (λ (d : Entry). (d.node ≡ m) × Fits y places true d) (hoisted k.items places m) = λ m lt. hoisted_fit y places taken m (omega (arith, lt, long)) in
    let fit : All (Fits y places false) (all_operations k places rows) =
    All-weaker (λ (d : Entry). (d.node < length rows) × Fits y places false d) (Fits y places false) (λ d t. t.1) (all_operations k places rows) (upto_all (Fits y places false) (operations k.items places) (length rows) fits_at) in
    let fits : All (Fits y places true) (all_hoists k places rows) =
    All-weaker (λ (d : Entry). (d.node < length rows) × Fits y places true d) (Fits y places true) (λ d t. t.1) (all_hoists k places rows) (upto_all (Fits y places true) (hoisted k.items places) (length rows) hoists_fit_at) in
    let P : told_places xs (lines_of rows) places ≡ map (entry_line y) (all_operations k places rows) =
    ap (λ (m : ℕ). by_node (place_lines m places) 0 (lines_of rows)) n ∙ all_nodes y (place_lines k.items places) (operations k.items places) rows e (operation_lines y k.items places) in
    let H : told_hoists xs (lines_of rows) places ≡ map (entry_line y) (all_hoists k places rows) =
    ap (λ (m : ℕ). by_node (hoist_lines m places) 0 (lines_of rows)) n ∙ all_nodes y (hoist_lines k.items places) (hoisted k.items places) rows e (hoisted_lines y k.items places) in
    let items : List ℕ = counted_lines (codes "items ") (item_lines p 1 xs) in
    let told : List (List ℕ) = told_places xs (lines_of rows) places in
    let lifted : List (List ℕ) = told_hoists xs (lines_of rows) places in
    let few_places : length (told_places xs (lines_of rows) places) < 2 ^ 64 = omega (arith, short, few_told (codes "places " ++ decimal (length told)) items (counted_lines (codes "hoists ") lifted) told text is) in
    let few_hoists : length (told_hoists xs (lines_of rows) places) < 2 ^ 64 = omega (arith, short, few_last (codes "hoists " ++ decimal (length lifted)) items (counted_lines (codes "places ") told) lifted text is) in
    let lines : lines_in (listing p xs (lines_of rows) places) ≡ all_lines (opening p xs) (told_places xs (lines_of rows) places) (told_hoists xs (lines_of rows) places) =
    listing_lines p xs (lines_of rows) places unbroken
    (subst (All (IsPlain 10)) (sym P) (entries_clear k known places false (all_operations k places rows) fit)) (subst (All (IsPlain 10)) (sym H) (entries_clear k known places true (all_hoists k places rows) fits))
    few_places few_hoists in
    from_entries k places (opening p xs) (lines_in text) (all_operations k places rows) (all_hoists k places rows)
    (ap lines_in is ∙ (lines ∙ (λ i. all_lines (opening p xs) (P i) (H i)))) (few_lines text short)
    fit (upto_order (Fits y places false) (operations k.items places) (length rows) fits_at (operations_order k.items places))
    (λ d f. upto_there (operations k.items places) d d.node (operation_there k.items places d.kind f.0.kind d.node d.item (real_low y false d f.0) (real_item y false d f.0) f.1) (length rows) (omega (arith, real_node y false d f.0, long)))
    fits (upto_order (Fits y places true) (hoisted k.items places) (length rows) hoists_fit_at (λ m. marks_order _ m k.items (places.hoists m)))
    (λ d f. upto_there (hoisted k.items places) d d.node (hoist_there k.items places d.kind f.0.kind d.node d.item (real_low y true d f.0) (real_item y true d f.0) f.1) (length rows) (omega (arith, real_node y true d f.0, long)))
