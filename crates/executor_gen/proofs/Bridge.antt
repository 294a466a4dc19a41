-- What the nodes of a program take is what its instructions read by, and the plan of its items is a job's.
use Rattle.std.proofs.Common.{◌≡◌, ◌≢◌, ℕ, zero, suc, ◌<◌, ◌≤◌, ◌⊎◌, inl, inr, ◌||◌, ◌==◌, Bool, true, false, cond, eqb, All, AllPairs, List, [], ◌∷◌, ◌++◌, map, flat_map, find, length, get_or, Option, Some, None, unwrap_or, option_map, refl, sym, ap, ◌∙◌, subst, arith, append_assoc}
use Rattle.std.specs.List.{AllByRecursion, IsDistinct, list_any}
use Rattle.std.proofs.lemmas.Bool.{eqb-true, eq-eqb, ne_eqb}
use Rattle.std.proofs.lemmas.Grind.{flat_map-append}
use Rattle.std.proofs.lemmas.List.{get_or-map, length-map}
use Rattle.std.proofs.lemmas.List.Elements.{recursion_from_All}
use Rattle.std.proofs.lemmas.List.FromFn.{get_or-map-range_with_len}
use Rattle.std.proofs.lemmas.Map.Keys.{IsDistinct-from_apart, IsDistinct-head, IsDistinct-tail}
use Rattle.std.proofs.lemmas.Option.{none-some}
use Rattle.fd_base.specs.declared.numbering.ItemNo.{ItemNo}
use Rattle.fd_base.specs.declared.numbering.Line.{Line}
use Rattle.fd_prog.specs.Checked.{Reference, statements_references, IsCheckedProgram}
use Rattle.fd_prog.specs.Items.{LinearItem, linear_item_of}
use Rattle.fd_prog.specs.Nodes.{Node, node_at, nodes_of}
use Rattle.fd_prog.specs.Paths.{Places}
use Rattle.fd_prog.specs.Programs.{CheckedProgram}
use Rattle.fd_prog.specs.Uses.{Use, items_of, number_in, item_at_site, items_at_sites, uses_of, uses_by_node, takes}
use Rattle.exec_code.specs.Instructions.{FlatJob}
use Rattle.exec_code.specs.Passing.{item_at, takes_by}
use Rattle.exec_code.specs.Sound.{AreItemsOf}
use Rattle.program_laws.specs.Plans.{plan_of}
use Rattle.executor_gen.specs.Uses.{role_sites, IsPlanOf}
use Rattle.executor_gen.proofs.Readings.{Reading, use_by, use_in, uses_in_all, sites_of, reference_sites}
use Rattle.executor_gen.proofs.NodeReadings.{readings_by_node, once_among, all_both, AllOf, program_used, program_told, statements_same, program_all}

-- ---- the item of a reference by its number, where references have different numbers

abbrev item_or : Bool → Option LinearItem → Option LinearItem → Option LinearItem
item_or true x y = x
item_or false x y = y

abbrev looked_up : List Reading → ℕ → Option LinearItem
looked_up [] site = None
looked_up (r ∷ rs) site = item_or (eqb r.site site) r.item (looked_up rs site)

abbrev Found : (ℕ → Option LinearItem) → Reading → Type 0
Found f r = f r.site ≡ r.item

still_found : (r : Reading) (rs xs : List Reading) → AllByRecursion (λ y. eqb r.site y ≡ false) (sites_of xs) → AllByRecursion (Found (looked_up rs)) xs → AllByRecursion (Found (looked_up (r ∷ rs))) xs
still_found r rs [] apart h = tt
still_found r rs (x ∷ xs) apart h = (ap (λ b. item_or b r.item (looked_up rs x.site)) apart.0 ∙ h.0, still_found r rs xs apart.1 h.1)

all_found : (rs : List Reading) → IsDistinct eqb (sites_of rs) → AllByRecursion (Found (looked_up rs)) rs
all_found [] h = tt
all_found (r ∷ rs) h = (
  ap (λ b. item_or b r.item (looked_up rs r.site)) (eq-eqb r.site r.site refl),
  still_found r rs rs (IsDistinct-head eqb r.site (sites_of rs) h) (all_found rs (IsDistinct-tail eqb r.site (sites_of rs) h)),
)

no_reference : Reference
no_reference = record { array = 0; subs = 0; site = 0 }

sites_differ : (xs : List Reference) → AllPairs (λ (r s : Reference). r.site ≢ s.site) xs → IsDistinct eqb (reference_sites xs)
sites_differ xs h = IsDistinct-from_apart eqb (reference_sites xs) (λ i j d lt within.
    let few : length (reference_sites xs) ≡ length xs = length-map xs (λ (r : Reference). r.site) in
    let inner : j < length xs = omega (arith, within, few) in
    let outer : i < length xs = omega (arith, lt, inner) in
    let a : get_or (reference_sites xs) i d ≡ (get_or xs i no_reference).site = get_or-map (λ (r : Reference). r.site) xs i no_reference d outer in
    let b : get_or (reference_sites xs) j d ≡ (get_or xs j no_reference).site = get_or-map (λ (r : Reference). r.site) xs j no_reference d inner in
    ne_eqb (get_or (reference_sites xs) i d) (get_or (reference_sites xs) j d) (λ e. h i j no_reference lt inner (sym a ∙ e ∙ b)))

abbrev IsBelow : ℕ → Reading → Type 0
IsBelow n r = r.site < n

sites_low : (n : ℕ) (rs : List Reading) (xs : List Reference) → sites_of rs ≡ reference_sites xs → All (λ (r : Reference). r.site < n) xs → AllByRecursion (IsBelow n) rs
sites_low n rs xs e h = readings_low n rs (subst (λ (ys : List ℕ). AllByRecursion (λ y. y < n) ys) (sym e) (references_low n xs (recursion_from_All (λ (r : Reference). r.site < n) xs h)))
  where
    references_low : (m : ℕ) (ys : List Reference) → AllByRecursion (λ (r : Reference). r.site < m) ys → AllByRecursion (λ y. y < m) (reference_sites ys)
    references_low m [] k = tt
    references_low m (y ∷ ys) k = (k.0, references_low m ys k.1)

    readings_low : (m : ℕ) (ys : List Reading) → AllByRecursion (λ y. y < m) (sites_of ys) → AllByRecursion (IsBelow m) ys
    readings_low m [] k = tt
    readings_low m (y ∷ ys) k = (k.0, readings_low m ys k.1)

-- ---- the first use with a number

abbrev is_at : ℕ → Use → Bool
is_at site u = u.site == site

find_some : {A : Type 0} (q : A → Bool) (xs ys : List A) (x : A) → q x ≡ true → find q (xs ++ (x ∷ ys)) ≡ None → ⊥
find_some q [] ys x yes_at h = none-some x (sym h ∙ ap (λ b. cond b (Some x) (find q ys)) yes_at)
find_some q (z ∷ zs) ys x yes_at h = find_by q z (find q (zs ++ (x ∷ ys))) (q z) h (find_some q zs ys x yes_at)
  where
    find_by : {B : Type 0} (p : B → Bool) (w : B) (rest : Option B) (b : Bool) → cond b (Some w) rest ≡ None → (rest ≡ None → ⊥) → ⊥
    find_by p w rest true e go = none-some w (sym e)
    find_by p w rest false e go = go e

-- the use of a reference that makes an item is among the uses
abbrev Known : List Use → Reading → Type 0
Known us r = (x : LinearItem) → r.item ≡ Some x → find (is_at r.site) us ≡ None → ⊥

known_here : (us before rest : List Use) (r : Reading) → us ≡ before ++ (use_in r ++ rest) → Known us r
known_here us before rest r e x is none =
    let u : Use = record { line = r.line; site = r.site; item = x } in
    let same : us ≡ before ++ (u ∷ rest) = e ∙ ap (λ i. before ++ (use_by r.line r.site i ++ rest)) is in
    find_some (is_at r.site) before rest u (eq-eqb r.site r.site refl) (ap (find (is_at r.site)) (sym same) ∙ none)

all_known : (us before : List Use) (rs : List Reading) → us ≡ before ++ uses_in_all rs → AllByRecursion (Known us) rs
all_known us before [] e = tt
all_known us before (r ∷ rs) e = (known_here us before (uses_in_all rs) r e, all_known us (before ++ use_in r) rs (e ∙ sym (append_assoc before (use_in r) (uses_in_all rs))))

-- the number of an item, or 0 where there is none
abbrev number_or : List LinearItem → Option LinearItem → ℕ
number_or xs None = 0
number_or xs (Some x) = number_in xs x

abbrev number_found : List LinearItem → Option Use → ℕ
number_found xs u = unwrap_or (option_map (λ (v : Use). number_in xs v.item) u) 0

-- what is found has the item of its number
abbrev FindsOr : List LinearItem → (ℕ → Option LinearItem) → ℕ → Option Use → Type 0
FindsOr xs f site found = (number_found xs found ≡ number_or xs (f site)) ⊎ (found ≡ None)

finds_by : (xs : List LinearItem) (f : ℕ → Option LinearItem) (site : ℕ) (u : Use) (rest : Option Use) (b : Bool) → eqb u.site site ≡ b → f u.site ≡ Some u.item → FindsOr xs f site rest → FindsOr xs f site (cond b (Some u) rest)
finds_by xs f site u rest true e h go =
    let same : f site ≡ Some u.item = ap f (sym (eqb-true u.site site e)) ∙ h in
    inl (ap (number_or xs) (sym same))
finds_by xs f site u rest false e h go = go

finds_at : (xs : List LinearItem) (f : ℕ → Option LinearItem) (site : ℕ) (line : Line) (s : ℕ) (item : Option LinearItem) (us : List Use) → f s ≡ item → FindsOr xs f site (find (is_at site) us)
    → FindsOr xs f site (find (is_at site) (use_by line s item ++ us))
finds_at xs f site line s None us h go = go
finds_at xs f site line s (Some x) us h go = finds_by xs f site (record { line = line; site = s; item = x }) (find (is_at site) us) (eqb s site) refl h go

finds : (xs : List LinearItem) (f : ℕ → Option LinearItem) (site : ℕ) (rs : List Reading) → AllByRecursion (Found f) rs → FindsOr xs f site (find (is_at site) (uses_in_all rs))
finds xs f site [] h = inr refl
finds xs f site (r ∷ rs) h = finds_at xs f site r.line r.site r.item (uses_in_all rs) h.0 (finds xs f site rs h.1)

-- a reference has the number of the item that it makes
number_by : (xs : List LinearItem) (f : ℕ → Option LinearItem) (site : ℕ) (item : Option LinearItem) (found : Option Use) → f site ≡ item → FindsOr xs f site found → ((x : LinearItem) → item ≡ Some x → found ≡ None → ⊥)
    → number_found xs found ≡ number_or xs item
number_by xs f site item found h (inl e) known = e ∙ ap (number_or xs) h
number_by xs f site None found h (inr e) known = ap (number_found xs) e
number_by xs f site (Some x) found h (inr e) known = absurd (known x refl e)

-- the number and the place of a reference
abbrev Numbered : CheckedProgram → Reading → Type 0
Numbered p r = (item_at_site p r.site ≡ number_or (items_of p) r.item) × (r.site < p.sites)

numbered_each : (p : CheckedProgram) (f : ℕ → Option LinearItem) (all xs : List Reading) → uses_of p ≡ uses_in_all all → AllByRecursion (Found f) all → AllByRecursion (Found f) xs
    → AllByRecursion (Known (uses_of p)) xs → AllByRecursion (IsBelow p.sites) xs → AllByRecursion (Numbered p) xs
numbered_each p f all [] e every h k l = tt
numbered_each p f all (r ∷ rs) e every h k l =
    let found = subst (λ (us : List Use). FindsOr (items_of p) f r.site (find (is_at r.site) us)) (sym e) (finds (items_of p) f r.site all every) in (
      (number_by (items_of p) f r.site r.item (find (is_at r.site) (uses_of p)) h.0 found k.0, l.0),
      numbered_each p f all rs e every h.1 k.1 l.1,
    )

-- ---- at each node

flat : (rows : List (List Reading)) → flat_map (λ (us : List Use). us) (map uses_in_all rows) ≡ uses_in_all (flat_map (λ (rs : List Reading). rs) rows)
flat [] = refl
flat (rs ∷ rows) = ap (λ us. uses_in_all rs ++ us) (flat rows) ∙ sym (flat_map-append use_in rs (flat_map (λ (qs : List Reading). qs) rows))

all_flat : (P : Reading → Type 0) (rows : List (List Reading)) → AllOf P rows → AllByRecursion P (flat_map (λ (rs : List Reading). rs) rows)
all_flat P [] h = tt
all_flat P (rs ∷ rows) h = all_both P rs (flat_map (λ (qs : List Reading). qs) rows) h.0 (all_flat P rows h.1)

first_part : (P : Reading → Type 0) (xs ys : List Reading) → AllByRecursion P (xs ++ ys) → AllByRecursion P xs × AllByRecursion P ys
first_part P [] ys h = (tt, h)
first_part P (x ∷ xs) ys h = let rest = first_part P xs ys h.1 in ((h.0, rest.0), rest.1)

all_rows : (P : Reading → Type 0) (rows : List (List Reading)) → AllByRecursion P (flat_map (λ (rs : List Reading). rs) rows) → AllOf P rows
all_rows P [] h = tt
all_rows P (rs ∷ rows) h = let both = first_part P rs (flat_map (λ (qs : List Reading). qs) rows) h in (both.0, all_rows P rows both.1)

all_at : (P : Reading → Type 0) (rows : List (List Reading)) (n : ℕ) → AllOf P rows → AllByRecursion P (get_or rows n [])
all_at P [] n h = tt
all_at P (rs ∷ rows) zero h = h.0
all_at P (rs ∷ rows) (suc n) h = all_at P rows n h.1

program_flat : (p : CheckedProgram) → uses_of p ≡ uses_in_all (flat_map (λ (rs : List Reading). rs) (readings_by_node p))
program_flat p = ap (flat_map (λ (us : List Use). us)) (program_used p) ∙ flat (readings_by_node p)

-- every reference that a node reads has the number of its item
program_numbered : (p : CheckedProgram) → IsCheckedProgram p → AllOf (Numbered p) (readings_by_node p)
program_numbered p rules =
    let once = once_among p [] p.body in
    let rows = readings_by_node p in
    let all = flat_map (λ (rs : List Reading). rs) rows in
    let same = statements_same p [] p.body in
    let differ : IsDistinct eqb (sites_of once) = subst (λ (xs : List ℕ). IsDistinct eqb xs) (sym same) (sites_differ (statements_references p.body) rules.apart) in
    let f = looked_up once in
    let every = all_flat (Found f) rows (program_all (Found f) p (all_found once differ)) in
    let low = all_flat (IsBelow p.sites) rows (program_all (IsBelow p.sites) p (sites_low p.sites once (statements_references p.body) same rules.sites)) in
    all_rows (Numbered p) rows (numbered_each p f all all (program_flat p) every every (all_known (uses_of p) [] all (program_flat p)) low)

-- ---- in a job

at_number : (xs : List ItemNo) (i : ℕ) → get_or (map (λ (x : ItemNo). x.0) xs) i 0 ≡ (get_or xs i (record { 0 = 0 })).0
at_number [] i = refl
at_number (x ∷ xs) zero = refl
at_number (x ∷ xs) (suc i) = at_number xs i

item_at_is : (j : FlatJob) (site : ℕ) → map (λ (x : ItemNo). x.0) j.of_site ≡ items_at_sites j.program → site < j.program.sites → item_at j site ≡ item_at_site j.program site
item_at_is j site e low =
    sym (at_number j.of_site site) ∙ ap (λ xs. get_or xs site 0) e ∙ get_or-map-range_with_len (item_at_site j.program) 0 j.program.sites site site 0 low (omega arith)

no_zero : (n x : ℕ) → n ≡ 0 → 1 ≤ x → (n == x) ≡ false
no_zero n x e h = ne_eqb n x (λ same. absurd (omega (arith, e, same, h)))

-- a reading without an item is of no item; one with an item is of that alone
taken_by : (p : CheckedProgram) (x : ℕ) (line : Line) (site n : ℕ) (item : Option LinearItem) (us : List Use) (rest : Bool) → n ≡ number_or (items_of p) item → 1 ≤ x → list_any (λ (u : Use). number_in (items_of p) u.item == x) us ≡ rest
    → list_any (λ (u : Use). number_in (items_of p) u.item == x) (use_by line site item ++ us) ≡ ((n == x) || rest)
taken_by p x line site n None us rest e h same = same ∙ sym (ap (λ b. b || rest) (no_zero n x e h))
taken_by p x line site n (Some y) us rest e h same = ap (λ b. (number_in (items_of p) y == x) || b) same ∙ ap (λ k. (k == x) || rest) (sym e)

taken_same : (j : FlatJob) (x : ℕ) (rs : List Reading) → map (λ (y : ItemNo). y.0) j.of_site ≡ items_at_sites j.program → 1 ≤ x → AllByRecursion (Numbered j.program) rs
    → list_any (λ (u : Use). number_in (items_of j.program) u.item == x) (uses_in_all rs) ≡ takes_by j (sites_of rs) x
taken_same j x [] e h k = refl
taken_same j x (r ∷ rs) e h k =
    taken_by j.program x r.line r.site (item_at j r.site) r.item (uses_in_all rs) (takes_by j (sites_of rs) x) (item_at_is j r.site e k.0.1 ∙ k.0.0) h (taken_same j x rs e h k.1)

uses_at : (rows : List (List Reading)) (n : ℕ) → get_or (map uses_in_all rows) n [] ≡ uses_in_all (get_or rows n [])
uses_at [] n = refl
uses_at (rs ∷ rows) zero = refl
uses_at (rs ∷ rows) (suc n) = uses_at rows n

sites_at : (rows : List (List Reading)) (n : ℕ) → get_or (map sites_of rows) n [] ≡ sites_of (get_or rows n [])
sites_at [] n = refl
sites_at (rs ∷ rows) zero = refl
sites_at (rs ∷ rows) (suc n) = sites_at rows n

node_sites_at : (ns : List Node) (n : ℕ) → get_or (map (λ (m : Node). role_sites m.role) ns) n [] ≡ role_sites (node_at ns n).role
node_sites_at [] n = refl
node_sites_at (m ∷ ns) zero = refl
node_sites_at (m ∷ ns) (suc n) = node_sites_at ns n

taken_at : (j : FlatJob) → IsCheckedProgram j.program → map (λ (y : ItemNo). y.0) j.of_site ≡ items_at_sites j.program → (n x : ℕ) → 1 ≤ x → takes j.program n x ≡ takes_by j (role_sites (node_at (nodes_of j.program) n).role) x
taken_at j rules e n x h =
    let p = j.program in
    let rows = readings_by_node p in
    let uses : get_or (uses_by_node p) n [] ≡ uses_in_all (get_or rows n []) = ap (λ (us : List (List Use)). get_or us n []) (program_used p) ∙ uses_at rows n in
    let sites : sites_of (get_or rows n []) ≡ role_sites (node_at (nodes_of p) n).role = sym (sites_at rows n) ∙ ap (λ (xs : List (List ℕ)). get_or xs n []) (program_told p) ∙ node_sites_at (nodes_of p) n in
    ap (λ (us : List Use). list_any (λ (u : Use). number_in (items_of p) u.item == x) us) uses
    ∙ taken_same j x (get_or rows n []) e h (all_at (Numbered p) rows n (program_numbered p rules)) ∙ ap (λ xs. takes_by j xs x) sites

-- the plan of a program's items, with any places, is that of each of its jobs
pub plan_is_of : (j : FlatJob) (places : Places) → IsCheckedProgram j.program → AreItemsOf j.program j.items j.of_site → IsPlanOf j (nodes_of j.program) (plan_of j.program places)
plan_is_of j places rules h = record {
  graph = refl;
  items = sym (sym (length-map j.items linear_item_of) ∙ ap length h.items);
  take = taken_at j rules h.sites;
  steal = λ n x up. refl;
}
