-- What the maps tell of their keys, told of the keys' bytes.
use Rattle.std.proofs.Common.{◌≡◌, ℕ, true, false, cond, List, [], ◌∷◌, ◌++◌, refl, sym, ap, ◌∙◌, map, Some, ◌+◌, ◌-◌, ◌||◌, not, length, take, arith}
use Rattle.std.proofs.lemmas.List.{map-append, length-append}
use Rattle.std.proofs.Math.Seq.{take-append_seam}
use Rattle.std.specs.List.{list_any, position_or_len}
use Rattle.std.specs.Map.{lookup}
use Rattle.std.specs.Str.{bytes_eq}
use Rattle.indexmap.specs.IndexMap.{insert_entry}
use Rattle.indexmap.specs.IndexSet.{insert_key}
use Rattle.fd_names.specs.Names.{with_name, number_in}

lookup-seen : {K X : Type 0} (v : K → List ℕ) (n : List ℕ) (es : List (K × X)) → lookup (bytes_eq n) (map (λ e. (v e.0, e.1)) es) ≡ lookup (λ k. bytes_eq n (v k)) es
lookup-seen v n [] = refl
lookup-seen v n (e ∷ es) = ap (λ r. cond (bytes_eq n (v e.0)) (Some e.1) r) (lookup-seen v n es)

any-seen : {K : Type 0} (v : K → List ℕ) (n : List ℕ) (ks : List K) → list_any (bytes_eq n) (map v ks) ≡ list_any (λ k. bytes_eq n (v k)) ks
any-seen v n [] = refl
any-seen v n (k ∷ ks) = ap (λ b. bytes_eq n (v k) || b) (any-seen v n ks)

place-seen : {K : Type 0} (v : K → List ℕ) (n : List ℕ) (ks : List K) → position_or_len (bytes_eq n) (map v ks) ≡ position_or_len (λ k. bytes_eq n (v k)) ks
place-seen v n [] = refl
place-seen v n (k ∷ ks) = ap (λ r. cond (not (bytes_eq n (v k))) (1 + r) 0) (place-seen v n ks)

put-seen : {K X : Type 0} (v : K → List ℕ) (k : K) (x : X) (es : List (K × X)) → map (λ e. (v e.0, e.1)) (insert_entry (λ a b. bytes_eq (v a) (v b)) es k x) ≡ insert_entry bytes_eq (map (λ e. (v e.0, e.1)) es) (v k) x
put-seen v k x [] = refl
put-seen v k x (e ∷ es) =
    elim (bytes_eq (v k) (v e.0)) as (λ b. map (λ e'. (v e'.0, e'.1)) (cond b ((e.0, x) ∷ es) (e ∷ insert_entry (λ a c. bytes_eq (v a) (v c)) es k x)) ≡ cond b ((v e.0, x) ∷ map (λ e'. (v e'.0, e'.1)) es) ((v e.0, e.1) ∷ insert_entry bytes_eq (map (λ e'. (v e'.0, e'.1)) es) (v k) x))
    [ true ↦ refl | false ↦ ap (λ r. (v e.0, e.1) ∷ r) (put-seen v k x es) ]

add-seen : {K : Type 0} (v : K → List ℕ) (k : K) (ks : List K) → map v (insert_key (λ a b. bytes_eq (v a) (v b)) ks k) ≡ cond (list_any (bytes_eq (v k)) (map v ks)) (map v ks) (map v ks ++ v k ∷ [])
add-seen v k ks =
    rw (any-seen v (v k) ks)
    (elim (list_any (λ x. bytes_eq (v k) (v x)) ks) as (λ b. map v (cond b ks (ks ++ k ∷ [])) ≡ cond b (map v ks) (map v ks ++ v k ∷ [])) [ true ↦ refl | false ↦ map-append v ks (k ∷ []) ])

pub found_is : {K X : Type 0} (v : K → List ℕ) (es : List (K × X)) (ts : List (List ℕ × X)) (n : List ℕ) → map (λ e. (v e.0, e.1)) es ≡ ts → lookup (λ k. bytes_eq n (v k)) es ≡ lookup (bytes_eq n) ts
found_is v es ts n same = sym (lookup-seen v n es) ∙ ap (λ t. lookup (bytes_eq n) t) same

pub added_is : {K : Type 0} (v : K → List ℕ) (old new : List K) (ns : List (List ℕ)) (k : K) (n : List ℕ) → map v old ≡ ns → v k ≡ n → new ≡ insert_key (λ a b. bytes_eq (v a) (v b)) old k → map v new ≡ with_name ns n
unfolding with_name
added_is v old new ns k n same key made = ap (map v) made ∙ (add-seen v k old ∙ (ap (λ t. cond (list_any (bytes_eq (v k)) t) t (t ++ v k ∷ [])) same ∙ ap (λ b. cond (list_any (bytes_eq b) ns) ns (ns ++ b ∷ [])) key))

pub place_is : {K : Type 0} (v : K → List ℕ) (ks : List K) (ns : List (List ℕ)) (k : K) (n : List ℕ) → map v ks ≡ ns → v k ≡ n → position_or_len (λ b. bytes_eq (v k) (v b)) ks ≡ number_in ns n
unfolding number_in
place_is v ks ns k n same key = sym (place-seen v (v k) ks) ∙ (ap (λ t. position_or_len (bytes_eq (v k)) t) same ∙ ap (λ b. position_or_len (bytes_eq b) ns) key)

pub put_is : {K X : Type 0} (v : K → List ℕ) (old new : List (K × X)) (ts : List (List ℕ × X)) (k : K) (n : List ℕ) (x : X) → map (λ e. (v e.0, e.1)) old ≡ ts → v k ≡ n → new ≡ insert_entry (λ a b. bytes_eq (v a) (v b)) old k x → map (λ e. (v e.0, e.1)) new ≡ insert_entry bytes_eq ts n x
put_is v old new ts k n x same key made = ap (map (λ e. (v e.0, e.1))) made ∙ (put-seen v k x old ∙ (ap (λ t. insert_entry bytes_eq t (v k) x) same ∙ ap (λ b. insert_entry bytes_eq ts b x) key))

pub left_is : (old new ns : List (List ℕ)) (n : List ℕ) → new ≡ take (length old - 1) old → old ≡ ns ++ n ∷ [] → new ≡ ns
left_is old new ns n made same =
    let count : length old ≡ length ns + 1 = ap length same ∙ length-append ns (n ∷ []) in
    let less : length old - 1 ≡ length ns = omega arith in
    made ∙ (ap (λ k. take k old) less ∙ (ap (take (length ns)) same ∙ take-append_seam ns (n ∷ [])))
