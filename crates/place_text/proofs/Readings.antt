-- The lines of a listing, one after another.
use Rattle.std.proofs.Common.{◌≡◌, ℕ, ◌+◌, ◌<◌, ◌^◌, Bool, true, false, IsTrue, ◌==◌, ◌||◌, ◌⊎◌, inl, inr, eqb, cond, List, [], ◌∷◌, ◌++◌, length, drop, Option, Some, None, refl, sym, ◌∙◌, ap, subst, arith, true≢false}
use Rattle.std.specs.Prelude.{◌↔◌}
use Rattle.std.specs.Fmt.{decimal}
use Rattle.std.specs.List.{slice_get}
use Rattle.std.specs.Str.Parse.{digits_value}
use Rattle.std.proofs.lemmas.Bool.{both_ways, and_parts, and_from, or_cases, or_left, or_right, cases_eq, eq-eqb, eqb-true}
use Rattle.std.proofs.lemmas.Fmt.{decimal_is_IsNumeral}
use Rattle.std.proofs.lemmas.Option.{get_or_from_slice_get}
use Rattle.place_text.specs.declared.entry.Entry.{Entry}
use Rattle.place_text.specs.declared.entry.Kind.{Kind}
use Rattle.place_text.specs.declared.entry.Kind.TheVariants.{SendIn, RecvIn, SendOut, RecvOut, Hoist}
use Rattle.place_text.specs.declared.known.Known.{Known}
use Rattle.place_text.specs.declared.refusal.ListingRefusal.{ListingRefusal}
use Rattle.place_text.specs.declared.refusal.ListingRefusal.TheVariants as refused
use Rattle.place_text.specs.Readings.{Layout, IsEntry, IsEntryAt, IsEntryLine, IsKnown, IsCountLine, IsToldIn, LastIs, NamesLine, comes_before, count_at, entry_line, is_hoist, is_real, layout_of, same_entry, stands_behind, turn}
use Rattle.place_text.proofs.Entries.{one_known}

pub some_text : (a b : List ℕ) → Some a ≡ Some b → a ≡ b
some_text a b e = cc

pub some_number : (a b : ℕ) → Some a ≡ Some b → a ≡ b
some_number a b e = cc

pub none_some : (a : List ℕ) → None ≡ Some a → ⊥
none_some a e = cc

-- ---- a line with a count

-- what stands behind the front
drop_front : (front rest : List ℕ) → drop (length front) (front ++ rest) ≡ rest
drop_front [] rest = refl
drop_front (x ∷ front) rest = drop_front front rest

-- the count behind a word
pub behind_word : (word : List ℕ) (n : ℕ) → n < 2 ^ 32 → digits_value 10 (drop (length word) (word ++ decimal n)) ≡ n
behind_word word n h = ap (digits_value 10) (drop_front word (decimal n)) ∙ (decimal_is_IsNumeral n (omega arith)).1

pub counted : (word : List ℕ) (ls : List (List ℕ)) (i n : ℕ) → n < 2 ^ 32 → slice_get ls i ≡ Some (word ++ decimal n) → count_at word ls i ≡ n
counted word ls i n h e = ap (λ (t : List ℕ). digits_value 10 (drop (length word) t)) (get_or_from_slice_get ls i (word ++ decimal n) [] e) ∙ behind_word word n h

pub count_right : (word : List ℕ) (ls : List (List ℕ)) (i n : ℕ) → n < 2 ^ 32 → slice_get ls i ≡ Some (word ++ decimal n) → IsCountLine word ls i × (n ≡ count_at word ls i)
count_right word ls i n h e =
    let is = counted word ls i n h e in
    (record { small = subst (λ (m : ℕ). m < 2 ^ 32) (sym is) h; line = e ∙ ap (λ (m : ℕ). Some (word ++ decimal m)) (sym is) }, sym is)

-- what a line with a count has behind the word
pub count_heard : (word : List ℕ) (ls : List (List ℕ)) (i : ℕ) (line : List ℕ) → slice_get ls i ≡ Some line → IsCountLine word ls i → drop (length word) line ≡ decimal (count_at word ls i)
count_heard word ls i line e h = ap (drop (length word)) (some_text line (word ++ decimal (count_at word ls i)) (sym e ∙ h.line)) ∙ drop_front word (decimal (count_at word ls i))

-- ---- a line that tells an entry

-- the line that is behind what the last one told
pub entry_right : (k : Known) → IsKnown k → (hoists : Bool) (ls : List (List ℕ)) (i : ℕ) (last : Option Entry) (e : Entry) → IsEntry (layout_of k) hoists e → slice_get ls i ≡ Some (entry_line (layout_of k) e)
    → stands_behind last e ≡ true → (first : ℕ) → LastIs (layout_of k) hoists ls first i last → IsEntryAt (layout_of k) hoists ls first i e
entry_right k known hoists ls i None e real line behind first last = record {
  real = real;
  line = line;
  behind = λ d lt rd ld. absurd (omega (arith, last, lt));
}
entry_right k known hoists ls i (Some b) e real line behind first last = record {
  real = real;
  line = line;
  behind = λ d lt rd ld. subst (λ (x : Entry). IsTrue (comes_before x e)) (one_known k known hoists b d last.1 rd (some_text _ _ (sym last.2 ∙ ld))) behind;
}

-- a line that tells an entry which isn't behind the last one isn't right
pub entry_wrong : (k : Known) → IsKnown k → (hoists : Bool) (ls : List (List ℕ)) (i : ℕ) (last : Option Entry) (e : Entry) → IsEntry (layout_of k) hoists e → slice_get ls i ≡ Some (entry_line (layout_of k) e)
    → stands_behind last e ≡ false → (first : ℕ) → LastIs (layout_of k) hoists ls first i last → IsEntryLine (layout_of k) hoists ls first i → ⊥
entry_wrong k known hoists ls i None e real line behind first last h = true≢false behind
entry_wrong k known hoists ls i (Some b) e real line behind first last h =
    let same : h.0 ≡ e = one_known k known hoists h.0 e h.1.real real (some_text _ _ (sym h.1.line ∙ line)) in
    both_ways (comes_before b e) behind (subst (λ (x : Entry). IsTrue (comes_before b x)) same (h.1.behind b last.0 last.1 last.2))

-- a place without a line that tells an entry
pub entry_missing : (y : Layout) (hoists : Bool) (ls : List (List ℕ)) (i : ℕ) → slice_get ls i ≡ None → (first : ℕ) → IsEntryLine y hoists ls first i → ⊥
entry_missing y hoists ls i e first h = none_some (entry_line y h.0) (sym e ∙ h.1.line)

-- ---- entries that are told

kind_at : ℕ → Kind
kind_at n = cond (eqb n 0) SendIn (cond (eqb n 1) RecvIn (cond (eqb n 2) SendOut (cond (eqb n 3) RecvOut Hoist)))

kind_again : (k : Kind) → kind_at (turn k) ≡ k
unfolding kind_at
kind_again SendIn = refl
kind_again RecvIn = refl
kind_again SendOut = refl
kind_again RecvOut = refl
kind_again Hoist = refl

one_kind : (j k : Kind) → turn j ≡ turn k → j ≡ k
one_kind j k e = sym (kind_again j) ∙ (ap kind_at e ∙ kind_again k)

same_is : (d e : Entry) → same_entry d e ≡ true → d ≡ e
same_is d e h =
    let kinds = and_parts (turn d.kind == turn e.kind) _ h in
    let rest = and_parts (d.node == e.node) (d.item == e.item) kinds.1 in
    let kind : d.kind ≡ e.kind = one_kind d.kind e.kind (eqb-true _ _ kinds.0) in
    let node : d.node ≡ e.node = eqb-true _ _ rest.0 in
    let item : d.item ≡ e.item = eqb-true _ _ rest.1 in
    λ i. record { node = node i; kind = kind i; item = item i }

same_self : (d e : Entry) → d ≡ e → same_entry d e ≡ true
same_self d e h =
    and_from _ _ (eq-eqb _ _ (ap (λ (x : Entry). turn x.kind) h)) (and_from _ _ (eq-eqb _ _ (ap (λ (x : Entry). x.node) h)) (eq-eqb _ _ (ap (λ (x : Entry). x.item) h)))

-- one line more
pub told_more : (k : Known) → IsKnown k → (hoists : Bool) (ls : List (List ℕ)) (first j : ℕ) (e : Entry) → IsEntryAt (layout_of k) hoists ls first (first + j) e → (O : Type 0) (old new : Bool) (o : Entry)
    → new ≡ (same_entry o e || old) → IsTrue old ↔ (O ⊎ ((is_hoist o.kind ≡ hoists) × IsToldIn (layout_of k) ls first (first + j) o))
    → IsTrue new ↔ (O ⊎ ((is_hoist o.kind ≡ hoists) × IsToldIn (layout_of k) ls first (first + (j + 1)) o))
told_more k known hoists ls first j e at O old new o is before =
    let wider : IsToldIn (layout_of k) ls first (first + j) o → IsToldIn (layout_of k) ls first (first + (j + 1)) o =
    λ t. let lt : t.place < first + j = t.high in record { place = t.place; low = t.low; high = omega arith; real = t.real; line = t.line } in (
      (λ h. elim (or_cases (same_entry o e) old (sym is ∙ h)) [
        | inl same ↦
            let one : o ≡ e = same_is o e same in
            inr (
              ap (λ (x : Entry). is_hoist x.kind) one ∙ at.real.kind,
              record { place = first + j; low = omega arith; high = omega arith; real = record { kind = refl; real = ap (λ (x : Entry). is_real (layout_of k) x) one ∙ at.real.real }; line = at.line ∙ ap (λ (x : Entry). Some (entry_line (layout_of k) x)) (sym one) },
            )
        | inr was ↦ elim (before.0 was) [
          | inl so ↦ inl so
          | inr t ↦ inr (t.0, wider t.1)
        ]
      ]),
      (λ h. is ∙ elim h [
        | inl so ↦ or_right (same_entry o e) old (before.1 (inl so))
        | inr t ↦ elim (cases_eq t.1.place (first + j)) [
          | inl here ↦
              let there : slice_get ls (first + j) ≡ Some (entry_line (layout_of k) o) = ap (slice_get ls) (sym here) ∙ t.1.line in
              or_left (same_entry o e) old (same_self o e (one_known k known hoists o e (record { kind = t.0; real = t.1.real.real }) at.real (some_text _ _ (sym there ∙ at.line))))
          | inr other ↦
              let lt : t.1.place < first + (j + 1) = t.1.high in
              or_right (same_entry o e) old (before.1 (inr (t.0, record { place = t.1.place; low = t.1.low; high = omega arith; real = t.1.real; line = t.1.line })))
        ]
      ]),
    )

-- what holds of the line that is named
pub names : (e : ListingRefusal) (P Q : ℕ → Type 0) → ((line : ℕ) → P line → Q line) → NamesLine e P → NamesLine e Q
names (refused.Bad line) P Q f h = f line.0 h
names refused.Memory P Q f h = h
