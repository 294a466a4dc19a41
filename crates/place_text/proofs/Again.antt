-- A listing that was written is cut into its lines again.
use Rattle.std.proofs.Common.{◌≡◌, ℕ, suc, ◌+◌, ◌-◌, ◌<◌, ◌^◌, ◌==◌, ◌||◌, ◌&&◌, nat_lt, Bool, true, false, inl, inr, cond, List, [], ◌∷◌, ◌++◌, All, length, take, get_or, refl, sym, ◌∙◌, ap, arith, append-nil, append_assoc, codes, true≢false}
use Rattle.std.specs.Prelude.{flat_map}
use Rattle.std.specs.Fmt.{decimal}
use Rattle.std.proofs.lemmas.Bool.{and_from, cases_Bool, lt-ltb, or_left, or_right}
use Rattle.std.proofs.lemmas.Grind.{flat_map-append}
use Rattle.std.proofs.Math.Seq.{get_or-append_seam}
use Rattle.std.proofs.lemmas.List.{length-append}
use Rattle.std.proofs.lemmas.List.Elements.{All-nil, All-cons, All-head, All-tail, All-append}
use Rattle.std.proofs.lemmas.List.Splits.{slice_split_at, slice_split_none}
use Rattle.fd_base.specs.declared.numbering.Line.{Line}
use Rattle.fd_prog.specs.Programs.{CheckedProgram}
use Rattle.fd_prog.specs.Items.{LinearItem}
use Rattle.fd_prog.specs.Paths.{Places}
use Rattle.place_text.specs.declared.entry.Entry.{Entry}
use Rattle.place_text.specs.declared.entry.Kind.{Kind}
use Rattle.place_text.specs.declared.entry.Kind.TheVariants.{SendIn, RecvIn, SendOut, RecvOut, Hoist}
use Rattle.place_text.specs.Listings.{ended_line, item_lines, by_node, place_lines, hoist_lines, listing}
use Rattle.place_text.specs.Readings.{AreUnbroken, Layout, entry_line, line_of_node, lines_in, opening, parts_at, unended, word_before, words_between}
use Rattle.place_text.proofs.Entries.{IsPlain, plain}

-- ---- texts without ends of lines

has : ℕ → List ℕ → Bool
has sep [] = false
has sep (b ∷ bs) = (b == sep) || has sep bs

clear : (sep : ℕ) (bs : List ℕ) → has sep bs ≡ false → IsPlain sep bs
unfolding has
clear sep [] h = All-nil (λ (b : ℕ). (b == sep) ≡ false)
clear sep (b ∷ bs) h = elim (cases_Bool (b == sep)) [
  | inl same ↦ absurd (true≢false (sym (or_left (b == sep) (has sep bs) same) ∙ h))
  | inr other ↦ elim (cases_Bool (has sep bs)) [
    | inl more ↦ absurd (true≢false (sym (or_right (b == sep) (has sep bs) more) ∙ h))
    | inr none ↦ All-cons (λ (c : ℕ). (c == sep) ≡ false) b bs other (clear sep bs none)
  ]
]

word_clear : (k : Kind) → IsPlain 10 (word_before k)
unfolding has
word_clear SendIn = clear 10 [] refl
word_clear RecvIn = clear 10 [] refl
word_clear SendOut = clear 10 [] refl
word_clear RecvOut = clear 10 [] refl
word_clear Hoist = clear 10 (codes "hoist ") refl

between_clear : (k : Kind) → IsPlain 10 (words_between k)
unfolding has
between_clear SendIn = clear 10 (codes " in send ") refl
between_clear RecvIn = clear 10 (codes " in recv ") refl
between_clear SendOut = clear 10 (codes " out send ") refl
between_clear RecvOut = clear 10 (codes " out recv ") refl
between_clear Hoist = clear 10 (codes " item ") refl

node_clear : IsPlain 10 (codes "node ")
unfolding has
node_clear = clear 10 (codes "node ") refl

line_clear : IsPlain 10 (codes " line ")
unfolding has
line_clear = clear 10 (codes " line ") refl

places_clear : IsPlain 10 (codes "places ")
unfolding has
places_clear = clear 10 (codes "places ") refl

hoists_clear : IsPlain 10 (codes "hoists ")
unfolding has
hoists_clear = clear 10 (codes "hoists ") refl

both_clear : (xs ys : List ℕ) → IsPlain 10 xs → IsPlain 10 ys → IsPlain 10 (xs ++ ys)
both_clear xs ys h k = All-append (λ (b : ℕ). (b == 10) ≡ false) xs ys h k

-- the line of an entry
pub entry_clear : (y : Layout) (e : Entry) → e.node < 2 ^ 64 → e.item < 2 ^ 64 → (line_of_node y e.node).0 < 2 ^ 64 → IsPlain 10 (entry_line y e)
entry_clear y e hn hx hl =
    let told = words_between e.kind in
    let line = decimal (line_of_node y e.node).0 in
    let behind : IsPlain 10 (codes " line " ++ (line ++ told)) = both_clear (codes " line ") (line ++ told) line_clear (both_clear line told (plain 10 (line_of_node y e.node).0 (omega arith) hl) (between_clear e.kind)) in
    let node : IsPlain 10 (codes "node " ++ (decimal e.node ++ (codes " line " ++ (line ++ told)))) =
    both_clear (codes "node ") (decimal e.node ++ (codes " line " ++ (line ++ told))) node_clear (both_clear (decimal e.node) (codes " line " ++ (line ++ told)) (plain 10 e.node (omega arith) hn) behind) in
    both_clear (word_before e.kind ++ (codes "node " ++ (decimal e.node ++ (codes " line " ++ (line ++ told))))) (decimal e.item)
    (both_clear (word_before e.kind) (codes "node " ++ (decimal e.node ++ (codes " line " ++ (line ++ told)))) (word_clear e.kind) node) (plain 10 e.item (omega arith) hx)

-- ---- lines with their ends

-- lines with an end between each two
joined : List ℕ → List (List ℕ) → List ℕ
joined l [] = l
joined l (m ∷ ls) = l ++ (10 ∷ joined m ls)

ended : (l : List ℕ) (ls : List (List ℕ)) → flat_map ended_line (l ∷ ls) ≡ joined l ls ++ (10 ∷ [])
unfolding joined
ended l [] = append-nil (l ++ (10 ∷ []))
ended l (m ∷ ls) =
    append_assoc l (10 ∷ []) (flat_map ended_line (m ∷ ls)) ∙ (ap (λ (t : List ℕ). l ++ (10 ∷ t)) (ended m ls) ∙ sym (append_assoc l (10 ∷ joined m ls) (10 ∷ [])))

take_front : (t r : List ℕ) → take (length t) (t ++ r) ≡ t
take_front [] r = refl
take_front (x ∷ t) r = ap (λ (u : List ℕ). x ∷ u) (take_front t r)

-- the end of the last line is left out
end_left : (t : List ℕ) → unended (t ++ (10 ∷ [])) ≡ t
end_left t =
    let long : length (t ++ (10 ∷ [])) ≡ length t + 1 = length-append t (10 ∷ []) in
    let last : length (t ++ (10 ∷ [])) - 1 ≡ length t = omega (arith, long) in
    let ends : (get_or (t ++ (10 ∷ [])) (length (t ++ (10 ∷ [])) - 1) 0 == 10) ≡ true =
    ap (λ (n : ℕ). get_or (t ++ (10 ∷ [])) n 0 == 10) last ∙ ap (λ (b : ℕ). b == 10) (get_or-append_seam t 10 [] 0) in
    let ended_one : (nat_lt 0 (length (t ++ (10 ∷ []))) && (get_or (t ++ (10 ∷ [])) (length (t ++ (10 ∷ [])) - 1) 0 == 10)) ≡ true = and_from _ _ (lt-ltb 0 (length (t ++ (10 ∷ []))) (omega (arith, long))) ends in
    ap (λ (b : Bool). cond b (take (length (t ++ (10 ∷ [])) - 1) (t ++ (10 ∷ []))) (t ++ (10 ∷ []))) ended_one
    ∙ (ap (λ (n : ℕ). take n (t ++ (10 ∷ []))) last ∙ take_front t (10 ∷ []))

cut_again : (l : List ℕ) (ls : List (List ℕ)) → IsPlain 10 l → All (IsPlain 10) ls → parts_at 10 (joined l ls) ≡ l ∷ ls
unfolding joined
cut_again l [] h hs = slice_split_none (λ (b : ℕ). b == 10) l h
cut_again l (m ∷ ls) h hs = slice_split_at (λ (b : ℕ). b == 10) l 10 (joined m ls) h refl ∙ ap (λ (ps : List (List ℕ)). l ∷ ps) (cut_again m ls (All-head (IsPlain 10) m ls hs) (All-tail (IsPlain 10) m ls hs))

-- the lines of a text are those of which it was made
lines_again : (l : List ℕ) (ls : List (List ℕ)) → IsPlain 10 l → All (IsPlain 10) ls → lines_in (flat_map ended_line (l ∷ ls)) ≡ l ∷ ls
lines_again l ls h hs = ap lines_in (ended l ls) ∙ (ap (parts_at 10) (end_left (joined l ls)) ∙ cut_again l ls h hs)

-- ---- a listing by its lines

abbrev pub counted : List ℕ → List (List ℕ) → List (List ℕ)
counted word ls = (word ++ decimal (length ls)) ∷ ls

abbrev pub all_lines : List (List ℕ) → List (List ℕ) → List (List ℕ) → List (List ℕ)
all_lines front places hoists = front ++ (counted (codes "places ") places ++ counted (codes "hoists ") hoists)

length_items : (p : CheckedProgram) (a : ℕ) (xs : List LinearItem) → length (item_lines p a xs) ≡ length xs
length_items p a [] = refl
length_items p a (x ∷ xs) = ap suc (length_items p (a + 1) xs)

abbrev pub told_places : List LinearItem → List Line → Places → List (List ℕ)
told_places xs lines places = by_node (place_lines (length xs) places) 0 lines

abbrev pub told_hoists : List LinearItem → List Line → Places → List (List ℕ)
told_hoists xs lines places = by_node (hoist_lines (length xs) places) 0 lines

text_lines : (p : CheckedProgram) (xs : List LinearItem) (lines : List Line) (places : Places) → listing p xs lines places ≡ flat_map ended_line (all_lines (opening p xs) (told_places xs lines places) (told_hoists xs lines places))
text_lines p xs lines places =
    let B = counted (codes "places ") (told_places xs lines places) in
    let C = counted (codes "hoists ") (told_hoists xs lines places) in
    ap (λ (n : ℕ). flat_map ended_line ((codes "items " ++ decimal n) ∷ item_lines p 1 xs) ++ (flat_map ended_line B ++ flat_map ended_line C)) (length_items p 1 xs)
    ∙ (ap (λ (t : List ℕ). flat_map ended_line (opening p xs) ++ t) (sym (flat_map-append ended_line B C)) ∙ sym (flat_map-append ended_line (opening p xs) (B ++ C)))

count_clear : (word : List ℕ) (n : ℕ) → IsPlain 10 word → n < 2 ^ 64 → IsPlain 10 (word ++ decimal n)
count_clear word n h lt = both_clear word (decimal n) h (plain 10 n (omega arith) lt)

all_clear : (front places hoists : List (List ℕ)) → AreUnbroken front → All (IsPlain 10) places → All (IsPlain 10) hoists → length places < 2 ^ 64 → length hoists < 2 ^ 64 → All (IsPlain 10) (all_lines front places hoists)
all_clear front places hoists hf hp hh np nh =
    All-append (IsPlain 10) front (counted (codes "places ") places ++ counted (codes "hoists ") hoists) hf
    (All-append (IsPlain 10) (counted (codes "places ") places) (counted (codes "hoists ") hoists)
    (All-cons (IsPlain 10) (codes "places " ++ decimal (length places)) places (count_clear (codes "places ") (length places) places_clear np) hp)
    (All-cons (IsPlain 10) (codes "hoists " ++ decimal (length hoists)) hoists (count_clear (codes "hoists ") (length hoists) hoists_clear nh) hh))

pub listing_lines : (p : CheckedProgram) (xs : List LinearItem) (lines : List Line) (places : Places) → AreUnbroken (opening p xs)
    → All (IsPlain 10) (told_places xs lines places) → All (IsPlain 10) (told_hoists xs lines places) → length (told_places xs lines places) < 2 ^ 64 → length (told_hoists xs lines places) < 2 ^ 64
    → lines_in (listing p xs lines places) ≡ all_lines (opening p xs) (told_places xs lines places) (told_hoists xs lines places)
listing_lines p xs lines places h hp hh np nh =
    let all = all_clear (opening p xs) (told_places xs lines places) (told_hoists xs lines places) h hp hh np nh in
    ap lines_in (text_lines p xs lines places)
    ∙ lines_again (codes "items " ++ decimal (length xs)) (item_lines p 1 xs ++ (counted (codes "places ") (told_places xs lines places) ++ counted (codes "hoists ") (told_hoists xs lines places)))
    (All-head (IsPlain 10) (codes "items " ++ decimal (length xs)) (item_lines p 1 xs ++ (counted (codes "places ") (told_places xs lines places) ++ counted (codes "hoists ") (told_hoists xs lines places))) all)
    (All-tail (IsPlain 10) (codes "items " ++ decimal (length xs)) (item_lines p 1 xs ++ (counted (codes "places ") (told_places xs lines places) ++ counted (codes "hoists ") (told_hoists xs lines places))) all)
