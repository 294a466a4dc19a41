-- The numbers of references, each by the first use with it.
use Rattle.std.proofs.Common.{◌≡◌, ◌≢◌, ℕ, zero, suc, Bool, true, false, cond, eqb, List, [], ◌∷◌, Option, Some, None, refl, sym, ap, ◌∙◌, arith}
use Rattle.std.specs.Prelude.{◌+◌, ◌<◌, ◌≤◌, ◌⊎◌, find, map, option_map, replicate, slice_get, slice_set, unwrap_or}
use Rattle.std.proofs.Common.{inl, inr}
use Rattle.std.proofs.lemmas.Bool.{cases_lt}
use Rattle.std.specs.List.{range_with_len}
use Rattle.std.proofs.lemmas.Option.{slice_get-map}
use Rattle.std.proofs.lemmas.Bool.{eqb-false, eqb-true}
use Rattle.fd_prog.specs.Uses.{Use}
use Rattle.section_num.specs.Noting.{is_zero, with_site}
use Rattle.section_num.proofs.Counts.{Numbered, number_by, sites_by}

-- the use has the reference of this number
abbrev is_at : ℕ → Use → Bool
is_at s u = eqb u.site s

-- what a reference has after some uses, by what it had before and the first use with it
abbrev pub site_value : List Use → ℕ → Option Use → ℕ
site_value firsts zero r = unwrap_or (option_map (number_by firsts) r) 0
site_value firsts (suc v) r = suc v

set_here : (ks : List ℕ) (i n v : ℕ) → slice_get ks i ≡ Some v → slice_get (slice_set ks i n) i ≡ Some n
set_here [] i n v h = absurd cc
set_here (k ∷ ks) zero n v h = refl
set_here (k ∷ ks) (suc i) n v h = set_here ks i n v h

set_there : (ks : List ℕ) (i j n : ℕ) → i ≢ j → slice_get (slice_set ks i n) j ≡ slice_get ks j
set_there [] i j n h = refl
set_there (k ∷ ks) zero zero n h = absurd (h refl)
set_there (k ∷ ks) zero (suc j) n h = refl
set_there (k ∷ ks) (suc i) zero n h = refl
set_there (k ∷ ks) (suc i) (suc j) n h = set_there ks i j n (λ e. h (ap suc e))

other : (b : Bool) (ks : List ℕ) (i j n : ℕ) → i ≢ j → slice_get (cond b (slice_set ks i n) ks) j ≡ slice_get ks j
other true ks i j n h = set_there ks i j n h
other false ks i j n h = refl

nothing : (firsts : List Use) (v : ℕ) → v ≡ site_value firsts v None
nothing firsts zero = refl
nothing firsts (suc v) = refl

full : (firsts : List Use) (v : ℕ) (r : Option Use) → v ≢ 0 → site_value firsts v r ≡ v
full firsts zero r h = absurd (h refl)
full firsts (suc v) r h = refl

suc_zero : (v : ℕ) (b : Bool) → eqb (suc v) 0 ≡ b → b ≡ false
suc_zero v true h = absurd (omega (arith, eqb-true (suc v) 0 h))
suc_zero v false h = refl

-- a use with the reference
at_it : (firsts : List Use) (u : Use) (sites : List ℕ) (v : ℕ) (r : Option Use) → number_by firsts u ≢ 0 → slice_get sites u.site ≡ Some v
    → (w : ℕ) × (slice_get (with_site (number_by firsts u) u.site sites) u.site ≡ Some w) × (site_value firsts w r ≡ site_value firsts v (Some u))
at_it firsts u sites zero r h e =
    let open_ : is_zero (slice_get sites u.site) ≡ true = ap is_zero e in
    (number_by firsts u, ap (λ b. slice_get (cond b (slice_set sites u.site (number_by firsts u)) sites) u.site) open_ ∙ set_here sites u.site (number_by firsts u) 0 e, full firsts (number_by firsts u) r h)
at_it firsts u sites (suc v) r h e =
    let shut : is_zero (slice_get sites u.site) ≡ false = ap is_zero e ∙ suc_zero v (eqb (suc v) 0) refl in
    (suc v, ap (λ b. slice_get (cond b (slice_set sites u.site (number_by firsts u)) sites) u.site) shut ∙ e, refl)

site_by : (firsts : List Use) (u : Use) (us : List Use) (sites : List ℕ) (s v : ℕ) → number_by firsts u ≢ 0 → slice_get sites s ≡ Some v
    → ((next : List ℕ) (w : ℕ) → slice_get next s ≡ Some w → slice_get (sites_by firsts us next) s ≡ Some (site_value firsts w (find (is_at s) us)))
    → (b : Bool) → eqb u.site s ≡ b → slice_get (sites_by firsts us (with_site (number_by firsts u) u.site sites)) s ≡ Some (site_value firsts v (cond b (Some u) (find (is_at s) us)))
site_by firsts u us sites s v h e rest true at =
    let same : u.site ≡ s = eqb-true u.site s at in
    let w = at_it firsts u sites v (find (is_at s) us) h (ap (slice_get sites) same ∙ e) in
    let next = with_site (number_by firsts u) u.site sites in
    rest next w.0 (ap (slice_get next) (sym same) ∙ w.1) ∙ ap Some w.2
site_by firsts u us sites s v h e rest false at =
    rest (with_site (number_by firsts u) u.site sites) v (other (is_zero (slice_get sites u.site)) sites u.site s (number_by firsts u) (eqb-false u.site s at) ∙ e)

-- a reference has the number of the item of the first use with it
pub site_after : (firsts us : List Use) (sites : List ℕ) (s v : ℕ) → Numbered firsts us → slice_get sites s ≡ Some v → slice_get (sites_by firsts us sites) s ≡ Some (site_value firsts v (find (is_at s) us))
site_after firsts [] sites s v h e = e ∙ ap Some (nothing firsts v)
site_after firsts (u ∷ us) sites s v h e = site_by firsts u us sites s v h.0 e (λ next w f. site_after firsts us next s w h.1 f) (eqb u.site s) refl

-- ---- all references

set_none : (ks : List ℕ) (i n s : ℕ) → slice_get ks s ≡ None → slice_get (slice_set ks i n) s ≡ None
set_none [] i n s h = refl
set_none (k ∷ ks) i n zero h = absurd cc
set_none (k ∷ ks) zero n (suc s) h = h
set_none (k ∷ ks) (suc i) n (suc s) h = set_none ks i n s h

past_end : (firsts : List Use) (u : Use) (sites : List ℕ) (s : ℕ) → slice_get sites s ≡ None → (b : Bool) → slice_get (cond b (slice_set sites u.site (number_by firsts u)) sites) s ≡ None
past_end firsts u sites s e false = e
past_end firsts u sites s e true = set_none sites u.site (number_by firsts u) s e

site_none : (firsts us : List Use) (sites : List ℕ) (s : ℕ) → slice_get sites s ≡ None → slice_get (sites_by firsts us sites) s ≡ None
site_none firsts [] sites s e = e
site_none firsts (u ∷ us) sites s e = site_none firsts us (with_site (number_by firsts u) u.site sites) s (past_end firsts u sites s e (is_zero (slice_get sites u.site)))

unset_at : (n s : ℕ) → s < n → slice_get {X = ℕ} (replicate n 0) s ≡ Some 0
unset_at zero s h = absurd (omega arith)
unset_at (suc n) zero h = refl
unset_at (suc n) (suc s) h = unset_at n s (omega arith)

unset_past : (n s : ℕ) → n ≤ s → slice_get {X = ℕ} (replicate n 0) s ≡ None
unset_past zero s h = refl
unset_past (suc n) zero h = absurd (omega arith)
unset_past (suc n) (suc s) h = unset_past n s (omega arith)

pub range_at : (a n s j : ℕ) → s < n → a + s ≡ j → slice_get (range_with_len a n) s ≡ Some j
range_at a zero s j h e = absurd (omega arith)
range_at a (suc n) zero j h e = ap Some (omega arith)
range_at a (suc n) (suc s) j h e = range_at (a + 1) n s j (omega arith) (omega arith)

pub range_past : (a n s : ℕ) → n ≤ s → slice_get (range_with_len a n) s ≡ None
range_past a zero s h = refl
range_past a (suc n) zero h = absurd (omega arith)
range_past a (suc n) (suc s) h = range_past (a + 1) n s (omega arith)

same_head : {A : Type 0} (x y : A) → Some x ≡ Some y → x ≡ y
same_head x y h = cc

-- lists with the same elements at all places are one
same_by_get : {A : Type 0} (xs ys : List A) → ((i : ℕ) → slice_get xs i ≡ slice_get ys i) → xs ≡ ys
same_by_get [] [] h = refl
same_by_get [] (y ∷ ys) h = absurd (let e = h 0 in cc)
same_by_get (x ∷ xs) [] h = absurd (let e = h 0 in cc)
same_by_get (x ∷ xs) (y ∷ ys) h = ap (λ z. z ∷ xs) (same_head x y (h 0)) ∙ ap (λ zs. y ∷ zs) (same_by_get xs ys (λ i. h (suc i)))

all_at : (firsts us : List Use) (n s : ℕ) → Numbered firsts us → (s < n) ⊎ (n ≤ s)
    → slice_get (sites_by firsts us (replicate n 0)) s ≡ option_map (λ j. unwrap_or (option_map (number_by firsts) (find (is_at j) us)) 0) (slice_get (range_with_len 0 n) s)
all_at firsts us n s h (inl lt) =
    site_after firsts us (replicate n 0) s 0 h (unset_at n s lt) ∙ sym (ap (option_map (λ j. unwrap_or (option_map (number_by firsts) (find (is_at j) us)) 0)) (range_at 0 n s s lt (omega arith)))
all_at firsts us n s h (inr le) =
    site_none firsts us (replicate n 0) s (unset_past n s le) ∙ sym (ap (option_map (λ j. unwrap_or (option_map (number_by firsts) (find (is_at j) us)) 0)) (range_past 0 n s le))

-- each reference has the number of the item of the first use with it, and 0 where there is none
pub all_sites : (firsts us : List Use) (n : ℕ) → Numbered firsts us → sites_by firsts us (replicate n 0) ≡ map (λ j. unwrap_or (option_map (number_by firsts) (find (is_at j) us)) 0) (range_with_len 0 n)
all_sites firsts us n h =
    same_by_get (sites_by firsts us (replicate n 0)) (map (λ j. unwrap_or (option_map (number_by firsts) (find (is_at j) us)) 0) (range_with_len 0 n))
    (λ s. all_at firsts us n s h (cases_lt s n) ∙ sym (slice_get-map (λ j. unwrap_or (option_map (number_by firsts) (find (is_at j) us)) 0) (range_with_len 0 n) s))
