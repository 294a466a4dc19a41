-- The words of lines that tell entries, and that a line tells one entry.
use Rattle.std.proofs.Common.{◌≡◌, ℕ, ◌+◌, ◌<◌, ◌≤◌, ◌^◌, ◌%◌, nat_lt, nat_le, ◌==◌, Bool, true, false, cond, List, [], ◌∷◌, ◌++◌, All, length, get_or, refl, sym, ◌∙◌, ap, arith, append_assoc, codes, true≢false}
use Rattle.std.specs.Fmt.{decimal}
use Rattle.std.specs.Str.{bytes_eq}
use Rattle.std.specs.Str.Parse.{digits_value}
use Rattle.std.proofs.lemmas.Fmt.{decimal_by_steps, decimal_is_IsNumeral}
use Rattle.std.proofs.lemmas.List.Elements.{All-nil, All-cons, All-append}
use Rattle.std.proofs.lemmas.List.Splits.{slice_split_at, slice_split_none}
use Rattle.std.proofs.lemmas.Bool.{ne_eqb, ltb-true, leb-true, and_parts}
use Rattle.place_text.specs.declared.entry.Kind.{Kind}
use Rattle.place_text.specs.declared.entry.Kind.TheVariants.{SendIn, RecvIn, SendOut, RecvOut, Hoist}
use Rattle.place_text.specs.declared.entry.Entry.{Entry}
use Rattle.place_text.specs.declared.known.Known.{Known}
use Rattle.place_text.specs.Readings.{Layout, IsEntry, IsKnown, layout_of, is_hoist, entry_line, entry_words, line_of_node, parts_at, word_before, words_between, words_by}

-- ---- numbers between blanks

-- a text without this byte
abbrev pub IsPlain : ℕ → List ℕ → Type 0
IsPlain sep ds = All (λ (b : ℕ). (b == sep) ≡ false) ds

plain_digit : (sep n : ℕ) → sep < 48 → (48 + n == sep) ≡ false
plain_digit sep n h = ne_eqb (48 + n) sep (λ e. omega arith)

pub plain : (sep n : ℕ) → sep < 48 → n < 2 ^ 64 → IsPlain sep (decimal n)
plain sep n low h = decimal_by_steps (λ (n : ℕ) (ds : List ℕ). IsPlain sep ds)
    (λ n lt. All-cons (λ (b : ℕ). (b == sep) ≡ false) (48 + n) [] (plain_digit sep n low) (All-nil (λ (b : ℕ). (b == sep) ≡ false)))
    (λ n ds ge all. All-append (λ (b : ℕ). (b == sep) ≡ false) ds ((48 + n % 10) ∷ []) all (All-cons (λ (b : ℕ). (b == sep) ≡ false) (48 + n % 10) [] (plain_digit sep (n % 10) low) (All-nil (λ (b : ℕ). (b == sep) ≡ false))))
    n h

-- a number and what stands behind a blank
number_then : (n : ℕ) (r : List ℕ) → n < 2 ^ 64 → parts_at 32 (decimal n ++ (32 ∷ r)) ≡ decimal n ∷ parts_at 32 r
number_then n r h = slice_split_at (λ (b : ℕ). b == 32) (decimal n) 32 r (plain 32 n (omega arith) h) refl

number_last : (n : ℕ) → n < 2 ^ 64 → parts_at 32 (decimal n) ≡ decimal n ∷ []
number_last n h = slice_split_none (λ (b : ℕ). b == 32) (decimal n) (plain 32 n (omega arith) h)

-- ---- the words of a line

-- the line, read on to its end
flat : (word n l told x : List ℕ) → (word ++ (codes "node " ++ (n ++ (codes " line " ++ (l ++ told))))) ++ x ≡ word ++ (codes "node " ++ (n ++ (codes " line " ++ (l ++ (told ++ x)))))
flat word n l told x = simp append_assoc refl

words_told : (k : Kind) (n l x : ℕ) → n < 2 ^ 64 → l < 2 ^ 64 → x < 2 ^ 64
    → parts_at 32 (word_before k ++ (codes "node " ++ (decimal n ++ (codes " line " ++ (decimal l ++ (words_between k ++ decimal x)))))) ≡ words_by k (decimal n) (decimal l) (decimal x)
words_told SendIn n l x hn hl hx = ap (λ (ps : List (List ℕ)). codes "node" ∷ ps) (number_then n _ hn ∙ ap (λ (ps : List (List ℕ)). decimal n ∷ (codes "line" ∷ ps)) (number_then l _ hl ∙ ap (λ (ps : List (List ℕ)). decimal l ∷ (codes "in" ∷ (codes "send" ∷ ps))) (number_last x hx)))
words_told RecvIn n l x hn hl hx = ap (λ (ps : List (List ℕ)). codes "node" ∷ ps) (number_then n _ hn ∙ ap (λ (ps : List (List ℕ)). decimal n ∷ (codes "line" ∷ ps)) (number_then l _ hl ∙ ap (λ (ps : List (List ℕ)). decimal l ∷ (codes "in" ∷ (codes "recv" ∷ ps))) (number_last x hx)))
words_told SendOut n l x hn hl hx = ap (λ (ps : List (List ℕ)). codes "node" ∷ ps) (number_then n _ hn ∙ ap (λ (ps : List (List ℕ)). decimal n ∷ (codes "line" ∷ ps)) (number_then l _ hl ∙ ap (λ (ps : List (List ℕ)). decimal l ∷ (codes "out" ∷ (codes "send" ∷ ps))) (number_last x hx)))
words_told RecvOut n l x hn hl hx = ap (λ (ps : List (List ℕ)). codes "node" ∷ ps) (number_then n _ hn ∙ ap (λ (ps : List (List ℕ)). decimal n ∷ (codes "line" ∷ ps)) (number_then l _ hl ∙ ap (λ (ps : List (List ℕ)). decimal l ∷ (codes "out" ∷ (codes "recv" ∷ ps))) (number_last x hx)))
words_told Hoist n l x hn hl hx = ap (λ (ps : List (List ℕ)). codes "hoist" ∷ (codes "node" ∷ ps)) (number_then n _ hn ∙ ap (λ (ps : List (List ℕ)). decimal n ∷ (codes "line" ∷ ps)) (number_then l _ hl ∙ ap (λ (ps : List (List ℕ)). decimal l ∷ (codes "item" ∷ ps)) (number_last x hx)))

-- the words of the line of an entry
pub words_of_line : (y : Layout) (e : Entry) → e.node < 2 ^ 16 → e.item < 2 ^ 16 → (line_of_node y e.node).0 < 2 ^ 64 → parts_at 32 (entry_line y e) ≡ entry_words (line_of_node y e.node).0 e
words_of_line y e hn hx hl =
    ap (parts_at 32) (flat (word_before e.kind) (decimal e.node) (decimal (line_of_node y e.node).0) (words_between e.kind) (decimal e.item))
    ∙ words_told e.kind e.node (line_of_node y e.node).0 e.item (omega arith) hl (omega arith)

-- ---- a line tells one entry

abbrev kind_in : List (List ℕ) → Kind
kind_in ws = cond (bytes_eq (get_or ws 0 []) (codes "hoist")) Hoist
    (cond (bytes_eq (get_or ws 4 []) (codes "in")) (cond (bytes_eq (get_or ws 5 []) (codes "send")) SendIn RecvIn) (cond (bytes_eq (get_or ws 5 []) (codes "send")) SendOut RecvOut))

abbrev node_in : List (List ℕ) → ℕ
node_in ws = digits_value 10 (cond (bytes_eq (get_or ws 0 []) (codes "hoist")) (get_or ws 2 []) (get_or ws 1 []))

abbrev item_in : List (List ℕ) → ℕ
item_in ws = digits_value 10 (get_or ws 6 [])

kind_told : (k : Kind) (n l x : List ℕ) → kind_in (words_by k n l x) ≡ k
kind_told SendIn n l x = refl
kind_told RecvIn n l x = refl
kind_told SendOut n l x = refl
kind_told RecvOut n l x = refl
kind_told Hoist n l x = refl

node_told : (k : Kind) (n l x : List ℕ) → node_in (words_by k n l x) ≡ digits_value 10 n
node_told SendIn n l x = refl
node_told RecvIn n l x = refl
node_told SendOut n l x = refl
node_told RecvOut n l x = refl
node_told Hoist n l x = refl

item_told : (k : Kind) (n l x : List ℕ) → item_in (words_by k n l x) ≡ digits_value 10 x
item_told SendIn n l x = refl
item_told RecvIn n l x = refl
item_told SendOut n l x = refl
item_told RecvOut n l x = refl
item_told Hoist n l x = refl

abbrev entry_in : List (List ℕ) → Entry
entry_in ws = record { node = node_in ws; kind = kind_in ws; item = item_in ws }

read_back : (e : Entry) (line : ℕ) → e.node < 2 ^ 16 → e.item < 2 ^ 16 → entry_in (entry_words line e) ≡ e
read_back e line hn hx =
    let node : node_in (entry_words line e) ≡ e.node = node_told e.kind (decimal e.node) (decimal line) (decimal e.item) ∙ (decimal_is_IsNumeral e.node (omega arith)).1 in
    let kind : kind_in (entry_words line e) ≡ e.kind = kind_told e.kind (decimal e.node) (decimal line) (decimal e.item) in
    let item : item_in (entry_words line e) ≡ e.item = item_told e.kind (decimal e.node) (decimal line) (decimal e.item) ∙ (decimal_is_IsNumeral e.item (omega arith)).1 in
    λ i. record { node = node i; kind = kind i; item = item i }

pub one_entry : (y : Layout) (d e : Entry) → d.node < 2 ^ 16 → d.item < 2 ^ 16 → e.node < 2 ^ 16 → e.item < 2 ^ 16 → (line_of_node y d.node).0 < 2 ^ 64 → (line_of_node y e.node).0 < 2 ^ 64
    → entry_line y d ≡ entry_line y e → d ≡ e
one_entry y d e hd xd he xe ld le same =
    sym (read_back d (line_of_node y d.node).0 hd xd)
    ∙ (ap entry_in (sym (words_of_line y d hd xd ld) ∙ (ap (parts_at 32) same ∙ words_of_line y e he xe le))
    ∙ read_back e (line_of_node y e.node).0 he xe)

-- ---- the words, one by one

pub seven : (k : Kind) (n l x : List ℕ) → length (words_by k n l x) ≡ 7
seven SendIn n l x = refl
seven RecvIn n l x = refl
seven SendOut n l x = refl
seven RecvOut n l x = refl
seven Hoist n l x = refl

pub sixth : (k : Kind) (n l x d : List ℕ) → get_or (words_by k n l x) 6 d ≡ x
sixth SendIn n l x d = refl
sixth RecvIn n l x d = refl
sixth SendOut n l x d = refl
sixth RecvOut n l x d = refl
sixth Hoist n l x d = refl

pub node_of_operation : (k : Kind) → is_hoist k ≡ false → (n l x d : List ℕ) → get_or (words_by k n l x) 1 d ≡ n
node_of_operation SendIn h n l x d = refl
node_of_operation RecvIn h n l x d = refl
node_of_operation SendOut h n l x d = refl
node_of_operation RecvOut h n l x d = refl
node_of_operation Hoist h n l x d = absurd (true≢false h)

pub node_of_hoist : (k : Kind) → is_hoist k ≡ true → (n l x d : List ℕ) → get_or (words_by k n l x) 2 d ≡ n
node_of_hoist SendIn h n l x d = absurd (true≢false (sym h))
node_of_hoist RecvIn h n l x d = absurd (true≢false (sym h))
node_of_hoist SendOut h n l x d = absurd (true≢false (sym h))
node_of_hoist RecvOut h n l x d = absurd (true≢false (sym h))
node_of_hoist Hoist h n l x d = refl

pub hoist_is : (k : Kind) → is_hoist k ≡ true → k ≡ Hoist
hoist_is SendIn h = absurd (true≢false (sym h))
hoist_is RecvIn h = absurd (true≢false (sym h))
hoist_is SendOut h = absurd (true≢false (sym h))
hoist_is RecvOut h = absurd (true≢false (sym h))
hoist_is Hoist h = refl

abbrev pub kind_by : List ℕ → List ℕ → Kind
kind_by place operation = cond (bytes_eq place (codes "in")) (cond (bytes_eq operation (codes "send")) SendIn RecvIn) (cond (bytes_eq operation (codes "send")) SendOut RecvOut)

pub kind_read : (k : Kind) → is_hoist k ≡ false → (n l x c d : List ℕ) → kind_by (get_or (words_by k n l x) 4 c) (get_or (words_by k n l x) 5 d) ≡ k
kind_read SendIn h n l x c d = refl
kind_read RecvIn h n l x c d = refl
kind_read SendOut h n l x c d = refl
kind_read RecvOut h n l x c d = refl
kind_read Hoist h n l x c d = absurd (true≢false h)

-- ---- entries that there can be

pub real_node : (y : Layout) (hoists : Bool) (e : Entry) → IsEntry y hoists e → e.node < length y.lines
real_node y hoists e h = ltb-true e.node (length y.lines) (and_parts (nat_lt e.node (length y.lines)) _ h.real).0

pub real_item : (y : Layout) (hoists : Bool) (e : Entry) → IsEntry y hoists e → e.item ≤ y.items
real_item y hoists e h =
    let behind = (and_parts (nat_lt e.node (length y.lines)) _ h.real).1 in
    leb-true e.item y.items (and_parts (nat_le e.item y.items) _ (and_parts (nat_le 1 e.item) _ behind).1).0

-- the words that a line which tells an entry is found to have
pub words_heard : (k : Known) → IsKnown k → (hoists : Bool) (e : Entry) → IsEntry (layout_of k) hoists e → (line : List ℕ) → line ≡ entry_line (layout_of k) e → (words : List (List ℕ)) → words ≡ parts_at 32 line
    → words ≡ entry_words (line_of_node (layout_of k) e.node).0 e
words_heard k known hoists e h line told words cut =
    cut ∙ (ap (parts_at 32) told ∙ words_of_line (layout_of k) e (omega (arith, real_node (layout_of k) hoists e h, known.few)) (omega (arith, real_item (layout_of k) hoists e h, known.items)) (omega (arith, known.numbers e.node)))

pub one_known : (k : Known) → IsKnown k → (hoists : Bool) (d e : Entry) → IsEntry (layout_of k) hoists d → IsEntry (layout_of k) hoists e → entry_line (layout_of k) d ≡ entry_line (layout_of k) e → d ≡ e
one_known k known hoists d e hd he same =
    one_entry (layout_of k) d e
    (omega (arith, real_node (layout_of k) hoists d hd, known.few)) (omega (arith, real_item (layout_of k) hoists d hd, known.items))
    (omega (arith, real_node (layout_of k) hoists e he, known.few)) (omega (arith, real_item (layout_of k) hoists e he, known.items))
    (omega (arith, known.numbers d.node)) (omega (arith, known.numbers e.node)) same
