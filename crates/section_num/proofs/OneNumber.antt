-- Uses with one number are uses of one item.
use Rattle.std.proofs.Common.{◌≡◌, ◌≢◌, ℕ, zero, suc, ◌<◌, ◌≤◌, ◌⊎◌, inl, inr, Bool, true, false, cond, eqb, not, ◌||◌, List, [], ◌∷◌, length, get_or, Option, Some, None, refl, sym, ap, ◌∙◌, arith}
use Rattle.std.specs.Prelude.{Contains, map, filter, find, option_map, slice_get, unwrap_or}
use Rattle.std.specs.List.{list_any, position, range_with_len}
use Rattle.std.proofs.lemmas.List.Quantifiers.{position-Some}
use Rattle.fd_prog.specs.Items.{LinearItem, is_same_item}
use Rattle.fd_prog.specs.Needs.{Sight, needs}
use Rattle.fd_prog.specs.Programs.{CheckedProgram}
use Rattle.fd_prog.specs.Uses.{Use, first_uses, firsts_of, item_at_site, items_at_sites, items_of, number_in, uses_of}
use Rattle.section_num.specs.Numbers.{AreAlike, number_of_use}
use Rattle.section_num.proofs.Numbers.{is_known, same_back}
use Rattle.std.proofs.lemmas.Bool.{cases_lt}
use Rattle.std.proofs.lemmas.Option.{slice_get-map}
use Rattle.section_num.proofs.Places.{none_passes}
use Rattle.section_num.proofs.Sites.{range_at, range_past}
use Rattle.section_num.proofs.SameItems.{item_same, item_self}

-- what a filter keeps it still finds
still_first : {A : Type 0} (q : A → Bool) (b : Bool) (x : A) (ys : List A) → (q x ≡ true → b ≡ true) → q x ≡ true → list_any q (cond b (x ∷ ys) ys) ≡ true
still_first q true x ys h e = ap (λ c. c || list_any q ys) e
still_first q false x ys h e = absurd (let c = h e in cc)

still_behind : {A : Type 0} (q : A → Bool) (b : Bool) (x : A) (ys : List A) → list_any q ys ≡ true → list_any q (cond b (x ∷ ys) ys) ≡ true
still_behind q true x ys e = ap (λ c. q x || c) e ∙ or_true (q x)
  where
    or_true : (c : Bool) → (c || true) ≡ true
    or_true true = refl
    or_true false = refl
still_behind q false x ys e = e

still_by : {A : Type 0} (q : A → Bool) (b : Bool) (x : A) (xs ys : List A) → (q x ≡ true → b ≡ true) → (q x || list_any q xs) ≡ true → (list_any q xs ≡ true → list_any q ys ≡ true) → (r : Bool) → q x ≡ r → list_any q (cond b (x ∷ ys) ys) ≡ true
still_by q b x xs ys h e rest true f = still_first q b x ys h f
still_by q b x xs ys h e rest false f = still_behind q b x ys (rest (sym (ap (λ c. c || list_any q xs) f) ∙ e))

still_found : {A : Type 0} (q p : A → Bool) (xs : List A) → ((x : A) → q x ≡ true → p x ≡ true) → list_any q xs ≡ true → list_any q (filter p xs) ≡ true
still_found q p [] h e = e
still_found q p (x ∷ xs) h e = still_by q (p x) x xs (filter p xs) (h x) e (λ f. still_found q p xs h f) (q x) refl

known_by : (v w : Use) (vs : List Use) → is_known (first_uses vs) w.item ≡ true → (b : Bool) → is_same_item v.item w.item ≡ b → is_known (first_uses (v ∷ vs)) w.item ≡ true
known_by v w vs h true e = ap (λ c. c || is_known (filter (λ (x : Use). not (is_same_item v.item x.item)) (first_uses vs)) w.item) e
known_by v w vs h false e =
    let q : Use → Bool = λ x. is_same_item x.item w.item in
    let p : Use → Bool = λ x. not (is_same_item v.item x.item) in
    ap (λ c. c || list_any q (filter p (first_uses vs))) e
    ∙ still_found q p (first_uses vs) (λ x f. ap (λ (y : LinearItem). not (is_same_item v.item y)) (item_same x.item w.item f) ∙ ap not e) h

-- the item of each use is that of a first use
known_first : (us : List Use) (k : ℕ) (d : Use) → k < length us → is_known (first_uses us) (get_or us k d).item ≡ true
known_first [] k d h = absurd (omega arith)
known_first (v ∷ vs) zero d h = ap (λ c. c || is_known (filter (λ (x : Use). not (is_same_item v.item x.item)) (first_uses vs)) v.item) (item_self v.item)
known_first (v ∷ vs) (suc k) d h = known_by v (get_or vs k d) vs (known_first vs k d (omega arith)) (is_same_item v.item (get_or vs k d).item) refl

among : (us : List Use) (x : LinearItem) → list_any (is_same_item x) (map (λ (u : Use). u.item) us) ≡ is_known us x
among [] x = refl
among (u ∷ us) x = ap (λ b. b || list_any (is_same_item x) (map (λ (v : Use). v.item) us)) (same_back x u.item) ∙ ap (λ b. is_same_item u.item x || b) (among us x)

-- a use has a number
placed : (p : CheckedProgram) (u : Use) → Contains (uses_of p) u → position (is_same_item u.item) (items_of p) ≢ None
placed p u h none =
    let known : is_known (firsts_of p) u.item ≡ true = ap (λ (w : Use). is_known (firsts_of p) w.item) (sym h.2) ∙ known_first (uses_of p) h.0 u h.1 in
    let unknown : is_known (firsts_of p) u.item ≡ false = sym (among (firsts_of p) u.item) ∙ none_passes (is_same_item u.item) (items_of p) none in
    let both : true ≡ false = sym known ∙ unknown in
    absurd cc

same_place : (xs : List LinearItem) (x y : LinearItem) (r s : Option ℕ) → position (is_same_item x) xs ≡ r → position (is_same_item y) xs ≡ s → r ≢ None → unwrap_or (option_map suc r) 0 ≡ unwrap_or (option_map suc s) 0 → x ≡ y
same_place xs x y None s e f h g = absurd (h refl)
same_place xs x y (Some k) None e f h g = absurd (omega (arith, g))
same_place xs x y (Some k) (Some j) e f h g =
    let same : k ≡ j = omega (arith, g) in
    let left : x ≡ get_or xs k x = item_same x (get_or xs k x) (position-Some (is_same_item x) xs k x e).1 in
    let right : y ≡ get_or xs j x = item_same y (get_or xs j x) (position-Some (is_same_item y) xs j x f).1 in
    left ∙ (ap (λ i. get_or xs i x) same ∙ sym right)

-- uses with one number have one item
pub one_item : (p : CheckedProgram) (u v : Use) → Contains (uses_of p) u → number_of_use p u ≡ number_of_use p v → u.item ≡ v.item
one_item p u v h e = same_place (items_of p) u.item v.item (position (is_same_item u.item) (items_of p)) (position (is_same_item v.item) (items_of p)) refl refl (placed p u h) e

-- ---- references by their numbers

found_by : (s : ℕ) (u v : Use) (us : List Use) (b : Bool) → cond b (Some v) (find (λ (w : Use). eqb w.site s) us) ≡ Some u → (find (λ (w : Use). eqb w.site s) us ≡ Some u → Contains us u) → Contains (v ∷ us) u
found_by s u v us true e h = let same : v ≡ u = cc in (0, omega arith, same)
found_by s u v us false e h = let inside = h e in (suc inside.0, omega (arith, inside.1), inside.2)

found : (s : ℕ) (u : Use) (us : List Use) → find (λ (w : Use). eqb w.site s) us ≡ Some u → Contains us u
found s u [] e = absurd cc
found s u (v ∷ us) e = found_by s u v us (eqb v.site s) e (λ f. found s u us f)

-- the first uses of references with one number have one item
pub one_item_at : (p : CheckedProgram) (i j : ℕ) (u v : Use) → find (λ (w : Use). eqb w.site i) (uses_of p) ≡ Some u → find (λ (w : Use). eqb w.site j) (uses_of p) ≡ Some v → item_at_site p i ≡ item_at_site p j → u.item ≡ v.item
one_item_at p i j u v e f h =
    let number : Option Use → ℕ = λ r. unwrap_or (option_map (λ (w : Use). number_in (items_of p) w.item) r) 0 in
    one_item p u v (found i u (uses_of p) e) (sym (ap number e) ∙ (h ∙ ap number f))

pub one_need : (s : Sight) (x y : LinearItem) (rank limit : ℕ) → x ≡ y → needs s x rank limit ≡ needs s y rank limit
one_need s x y rank limit e = ap (λ z. needs s z rank limit) e

-- ---- the numbers of all references

some_same : {A : Type 0} (x y : A) → Some x ≡ Some y → x ≡ y
some_same x y e = cc

number_at : (p : CheckedProgram) (i k : ℕ) → slice_get (items_at_sites p) i ≡ Some k → (i < p.sites) ⊎ (p.sites ≤ i) → item_at_site p i ≡ k
number_at p i k e (inl lt) =
    some_same (item_at_site p i) k (sym (slice_get-map (item_at_site p) (range_with_len 0 p.sites) i ∙ ap (option_map (item_at_site p)) (range_at 0 p.sites i i lt (omega arith))) ∙ e)
number_at p i k e (inr le) =
    let none : None ≡ Some k = sym (slice_get-map (item_at_site p) (range_with_len 0 p.sites) i ∙ ap (option_map (item_at_site p)) (range_past 0 p.sites i le)) ∙ e in
    absurd cc

pub are_alike : (p : CheckedProgram) (numbers : List ℕ) → numbers ≡ items_at_sites p → AreAlike p numbers
are_alike p numbers e = λ i j k u v f g a b s rank limit.
    let left : item_at_site p i ≡ k = number_at p i k (ap (λ ns. slice_get ns i) (sym e) ∙ f) (cases_lt i p.sites) in
    let back : item_at_site p j ≡ k = number_at p j k (ap (λ ns. slice_get ns j) (sym e) ∙ g) (cases_lt j p.sites) in
    one_need s u.item v.item rank limit (one_item_at p i j u v a b (left ∙ sym back))
