-- The map from names to their lines, told of the keys' bytes and of the lines in each set.
use Rattle.std.proofs.Common.{◌≡◌, ℕ, suc, ◌+◌, ◌<◌, Bool, true, false, cond, not, List, [], ◌∷◌, refl, sym, ap, ◌∙◌, map, Option, None, Some, is_some, option_map, position, length, nat_eq, nat_lt, arith}
use Rattle.std.specs.List.{list_any, position_or_len}
use Rattle.std.specs.Map.{keys_of, lookup}
use Rattle.std.specs.Str.{bytes_eq}
use Rattle.indexmap.specs.IndexMap.{insert_entry, set_value_at}
use Rattle.indexmap.specs.IndexSet.{insert_key}
use Rattle.fd_base.specs.declared.numbering.Line.{Line}
use Rattle.fd_names.specs.Names.{Lines, is_made, lines_of, or_no_lines, with_made}

one_more : (n : ℕ) → 1 + n ≡ suc n
one_more n = omega arith

module _ {K X : Type 0} (v : K → List ℕ) (w : X → List ℕ) where
  abbrev seen : K × X → List ℕ × List ℕ
  seen e = (v e.0, w e.1)

  lookup-seen : (n : List ℕ) (es : List (K × X)) → lookup (bytes_eq n) (map seen es) ≡ option_map w (lookup (λ k. bytes_eq n (v k)) es)
  lookup-seen n [] = refl
  lookup-seen n (e ∷ es) =
      elim (bytes_eq n (v e.0)) as (λ b. cond b (Some (w e.1)) (lookup (bytes_eq n) (map seen es)) ≡ option_map w (cond b (Some e.1) (lookup (λ k. bytes_eq n (v k)) es)))
      [ true ↦ refl | false ↦ lookup-seen n es ]

  put-seen : (k : K) (x : X) (es : List (K × X)) → map seen (insert_entry (λ a b. bytes_eq (v a) (v b)) es k x) ≡ insert_entry bytes_eq (map seen es) (v k) (w x)
  put-seen k x [] = refl
  put-seen k x (e ∷ es) =
      elim (bytes_eq (v k) (v e.0)) as (λ b. map seen (cond b ((e.0, x) ∷ es) (e ∷ insert_entry (λ a c. bytes_eq (v a) (v c)) es k x)) ≡ cond b ((v e.0, w x) ∷ map seen es) ((v e.0, w e.1) ∷ insert_entry bytes_eq (map seen es) (v k) (w x)))
      [ true ↦ refl | false ↦ ap (λ r. (v e.0, w e.1) ∷ r) (put-seen k x es) ]

  -- a write at the index of a name is an insertion under the name
  set-seen : (n : List ℕ) (y : X) (es : List (K × X)) → position_or_len (λ k. bytes_eq n (v k)) (keys_of es) < length (keys_of es) → map seen (set_value_at es (position_or_len (λ k. bytes_eq n (v k)) (keys_of es)) y) ≡ insert_entry bytes_eq (map seen es) n (w y)
  set-seen n y [] h = absurd (omega (arith, h))
  set-seen n y (e ∷ es) h =
      let p = position_or_len (λ k. bytes_eq n (v k)) (keys_of es) in
      (elim (bytes_eq n (v e.0)) as (λ b. cond (not b) (1 + p) 0 < suc (length (keys_of es)) → map seen (set_value_at (e ∷ es) (cond (not b) (1 + p) 0) y) ≡ cond b ((v e.0, w y) ∷ map seen es) ((v e.0, w e.1) ∷ insert_entry bytes_eq (map seen es) n (w y)))
      [ true ↦ λ less. refl | false ↦ λ less. ap (λ q. map seen (set_value_at (e ∷ es) q y)) (one_more p) ∙ ap (λ r. (v e.0, w e.1) ∷ r) (set-seen n y es (omega (arith, less))) ]) h

  lines_are : (es : List (K × X)) (ts : Lines) (n : List ℕ) → map seen es ≡ ts → lines_of ts n ≡ or_no_lines (option_map w (lookup (λ k. bytes_eq n (v k)) es))
  lines_are es ts n same = ap (λ t. lines_of t n) (sym same) ∙ ap or_no_lines (lookup-seen n es)

  pub has_line : (es : List (K × X)) (ts : Lines) (n : List ℕ) (l : Line) (x : X) → map seen es ≡ ts → lookup (λ k. bytes_eq n (v k)) es ≡ Some x → list_any (nat_eq l.0) (w x) ≡ is_made ts l n
  unfolding is_made
  has_line es ts n l x same found = ap (list_any (nat_eq l.0)) (sym (lines_are es ts n same ∙ ap (λ o. or_no_lines (option_map w o)) found))

  pub has_no_line : (es : List (K × X)) (ts : Lines) (n : List ℕ) (l : Line) → map seen es ≡ ts → lookup (λ k. bytes_eq n (v k)) es ≡ None → false ≡ is_made ts l n
  unfolding is_made
  has_no_line es ts n l same found = ap (list_any (nat_eq l.0)) (sym (lines_are es ts n same ∙ ap (λ o. or_no_lines (option_map w o)) found))

  pub put_is : (old new : List (K × X)) (ts : Lines) (k : K) (n : List ℕ) (x : X) (ls : List ℕ) → map seen old ≡ ts → v k ≡ n → w x ≡ ls → new ≡ insert_entry (λ a b. bytes_eq (v a) (v b)) old k x → map seen new ≡ insert_entry bytes_eq ts n ls
  put_is old new ts k n x ls same key lines made = ap (map seen) made ∙ (put-seen k x old ∙ (λ i. insert_entry bytes_eq (same i) (key i) (lines i)))

  placed_by : (b : Bool) (k i : ℕ) → cond b (Some k) None ≡ Some i → (b ≡ true) × (k ≡ i)
  placed_by true k i h = (refl, cc)
  placed_by false k i h = absurd cc

  none_by : (o : Option X) → is_some o ≡ false → o ≡ None
  none_by None h = refl
  none_by (Some x) h = absurd cc

  pub new_is : (es : List (K × X)) (ts : Lines) (n : List ℕ) (l : Line) → map seen es ≡ ts → is_some (lookup (λ k. bytes_eq n (v k)) es) ≡ false → insert_entry bytes_eq ts n (l.0 ∷ []) ≡ with_made ts n l
  unfolding with_made
  new_is es ts n l same found =
      let none : lines_of ts n ≡ [] = lines_are es ts n same ∙ ap (λ o. or_no_lines (option_map w o)) (none_by (lookup (λ k. bytes_eq n (v k)) es) found) in
      ap (λ ls. insert_entry bytes_eq ts n (insert_key nat_eq ls l.0)) (sym none)

  pub grown_is : (old new : List (K × X)) (ts : Lines) (n : List ℕ) (l : Line) (i : ℕ) (x y : X) → map seen old ≡ ts → position (λ k. bytes_eq n (v k)) (keys_of old) ≡ Some i → lookup (λ k. bytes_eq n (v k)) old ≡ Some x → w y ≡ insert_key nat_eq (w x) l.0 → new ≡ set_value_at old i y → map seen new ≡ with_made ts n l
  unfolding with_made
  grown_is old new ts n l i x y same place found grown made =
      let p = position_or_len (λ k. bytes_eq n (v k)) (keys_of old) in
      let at = placed_by (nat_lt p (length (keys_of old))) p i place in
      let less : p < length (keys_of old) = grind (arith, at.0) in
      let lines : lines_of ts n ≡ w x = lines_are old ts n same ∙ ap (λ o. or_no_lines (option_map w o)) found in
      ap (map seen) made ∙ (ap (λ j. map seen (set_value_at old j y)) (sym at.1) ∙ (set-seen n y old less ∙ (λ j. insert_entry bytes_eq (same j) n ((grown ∙ ap (λ ls. insert_key nat_eq ls l.0) (sym lines)) j))))
