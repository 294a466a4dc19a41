-- On a path of a good placement an item's sends and receives alternate.
use Rattle.std.proofs.Common.{◌≡◌, ℕ, zero, suc, ◌+◌, ◌<◌, ◌≤◌, ◌==◌, Bool, true, false, List, [], ◌∷◌, ◌++◌, map, ◌⊎◌, inl, inr, refl, sym, ◌∙◌, ap, ap₂, subst, arith, append_assoc, append-nil}
use Rattle.std.proofs.lemmas.List.{map-append}
use Rattle.std.proofs.lemmas.Bool.{cases_Bool, cases_lt, ne_eqb}
use Rattle.std.proofs.lemmas.List.Elements.{filter-append}
use Rattle.std.specs.Prelude.{Option, Some, None, filter, ◌&&◌}
use Rattle.std.specs.List.{range_with_len}
use Rattle.fd_base.specs.declared.numbering.ItemNo.{ItemNo}
use Rattle.fd_prog.specs.declared.item.Event.{Event}
use Rattle.fd_prog.specs.declared.item.Event.TheVariants.{Send, Recv, Take, Steal, Hoist}
use Rattle.fd_prog.specs.Paths.{Plan, IsPath, start, forward, entry, cycle, Happening, Sent, Received, Taken, Hoisted, Stolen, happenings, happening_of, item_in, for_each, operations, taken_inside, at_arrival, at_leaving}
use Rattle.fd_prog.specs.PathConditions.{IsGoodPlan, IsBalanced, MayCome, latest, or_else, is_operation}
use Rattle.exec_code.specs.Trails.{without_hoists}

-- ---- lists of happenings

-- the latest operation is a send
abbrev pub open_by : Option Happening → Bool
open_by None = false
open_by (Some Sent) = true
open_by (Some Received) = false
open_by (Some Taken) = false
open_by (Some Hoisted) = false
open_by (Some Stolen) = false

-- sends and receives alternate, where at first a send is open or not
abbrev pub Alternates : Bool → List Happening → Type 0
Alternates o [] = Unit {0}
Alternates o (Sent ∷ hs) = (o ≡ false) × Alternates true hs
Alternates o (Received ∷ hs) = (o ≡ true) × Alternates false hs
Alternates o (Taken ∷ hs) = Alternates o hs
Alternates o (Hoisted ∷ hs) = Alternates o hs
Alternates o (Stolen ∷ hs) = Alternates o hs

-- a send is open behind them
abbrev pub after : Bool → List Happening → Bool
after o [] = o
after o (Sent ∷ hs) = after true hs
after o (Received ∷ hs) = after false hs
after o (Taken ∷ hs) = after o hs
after o (Hoisted ∷ hs) = after o hs
after o (Stolen ∷ hs) = after o hs

abbrev pub sent_of : List Happening → ℕ
sent_of [] = 0
sent_of (Sent ∷ hs) = suc (sent_of hs)
sent_of (Received ∷ hs) = sent_of hs
sent_of (Taken ∷ hs) = sent_of hs
sent_of (Hoisted ∷ hs) = sent_of hs
sent_of (Stolen ∷ hs) = sent_of hs

abbrev pub received_of : List Happening → ℕ
received_of [] = 0
received_of (Sent ∷ hs) = received_of hs
received_of (Received ∷ hs) = suc (received_of hs)
received_of (Taken ∷ hs) = received_of hs
received_of (Hoisted ∷ hs) = received_of hs
received_of (Stolen ∷ hs) = received_of hs

abbrev pub flag : Bool → ℕ
flag true = 1
flag false = 0

pub counted : (o : Bool) (hs : List Happening) → Alternates o hs → flag o + sent_of hs ≡ received_of hs + flag (after o hs)
counted o [] x = omega arith
counted o (Sent ∷ hs) x =
    let e : flag o ≡ 0 = ap flag x.0 in
    let r : 1 + sent_of hs ≡ received_of hs + flag (after true hs) = counted true hs x.1 in
    omega (arith, e, r)
counted o (Received ∷ hs) x =
    let e : flag o ≡ 1 = ap flag x.0 in
    let r : 0 + sent_of hs ≡ received_of hs + flag (after false hs) = counted false hs x.1 in
    omega (arith, e, r)
counted o (Taken ∷ hs) x = counted o hs x
counted o (Hoisted ∷ hs) x = counted o hs x
counted o (Stolen ∷ hs) x = counted o hs x

pub alternates_left : (o : Bool) (hs ks : List Happening) → Alternates o (hs ++ ks) → Alternates o hs
alternates_left o [] ks x = tt
alternates_left o (Sent ∷ hs) ks x = (x.0, alternates_left true hs ks x.1)
alternates_left o (Received ∷ hs) ks x = (x.0, alternates_left false hs ks x.1)
alternates_left o (Taken ∷ hs) ks x = alternates_left o hs ks x
alternates_left o (Hoisted ∷ hs) ks x = alternates_left o hs ks x
alternates_left o (Stolen ∷ hs) ks x = alternates_left o hs ks x

pub alternates_right : (o : Bool) (hs ks : List Happening) → Alternates o (hs ++ ks) → Alternates (after o hs) ks
alternates_right o [] ks x = x
alternates_right o (Sent ∷ hs) ks x = alternates_right true hs ks x.1
alternates_right o (Received ∷ hs) ks x = alternates_right false hs ks x.1
alternates_right o (Taken ∷ hs) ks x = alternates_right o hs ks x
alternates_right o (Hoisted ∷ hs) ks x = alternates_right o hs ks x
alternates_right o (Stolen ∷ hs) ks x = alternates_right o hs ks x

pub sent_append : (hs ks : List Happening) → sent_of (hs ++ ks) ≡ sent_of hs + sent_of ks
sent_append [] ks = omega arith
sent_append (Sent ∷ hs) ks = let r = sent_append hs ks in omega (arith, r)
sent_append (Received ∷ hs) ks = sent_append hs ks
sent_append (Taken ∷ hs) ks = sent_append hs ks
sent_append (Hoisted ∷ hs) ks = sent_append hs ks
sent_append (Stolen ∷ hs) ks = sent_append hs ks

pub received_append : (hs ks : List Happening) → received_of (hs ++ ks) ≡ received_of hs + received_of ks
received_append [] ks = omega arith
received_append (Sent ∷ hs) ks = received_append hs ks
received_append (Received ∷ hs) ks = let r = received_append hs ks in omega (arith, r)
received_append (Taken ∷ hs) ks = received_append hs ks
received_append (Hoisted ∷ hs) ks = received_append hs ks
received_append (Stolen ∷ hs) ks = received_append hs ks

-- ---- from the conditions on paths

latest_on : (xs : List Happening) (h : Happening) → is_operation h ≡ true → latest is_operation (xs ++ h ∷ []) ≡ Some h
latest_on [] h e = ap (λ b. or_else None b h) e
latest_on (x ∷ xs) h e = ap (λ o. or_else o (is_operation x) x) (latest_on xs h e)

latest_off : (xs : List Happening) (h : Happening) → is_operation h ≡ false → latest is_operation (xs ++ h ∷ []) ≡ latest is_operation xs
latest_off [] h e = ap (λ b. or_else None b h) e
latest_off (x ∷ xs) h e = ap (λ o. or_else o (is_operation x) x) (latest_off xs h e)

not_open : (o : Option Happening) → (o ≡ Some Sent → ⊥) → open_by o ≡ false
not_open None h = refl
not_open (Some Sent) h = absurd (h refl)
not_open (Some Received) h = refl
not_open (Some Taken) h = refl
not_open (Some Hoisted) h = refl
not_open (Some Stolen) h = refl

abbrev flag_behind : List Happening → Bool
flag_behind done = open_by (latest is_operation done)

abbrev Along : List Happening → Type 0
Along hs = (xs ys : List Happening) (h : Happening) → hs ≡ xs ++ (h ∷ ys) → MayCome h xs

moved : (hs done rest : List Happening) (h : Happening) → hs ≡ done ++ (h ∷ rest) → hs ≡ (done ++ h ∷ []) ++ rest
moved hs done rest h e = e ∙ sym (append_assoc done (h ∷ []) rest)

by_flag : (hs done rest : List Happening) → Along hs → hs ≡ done ++ rest → Alternates (flag_behind done) rest
by_flag hs done [] along e = tt
by_flag hs done (Sent ∷ rest) along e = (
  not_open (latest is_operation done) (along done rest Sent e),
  subst (λ (b : Bool). Alternates b rest) (ap open_by (latest_on done Sent refl)) (by_flag hs (done ++ Sent ∷ []) rest along (moved hs done rest Sent e)),
)
by_flag hs done (Received ∷ rest) along e = (
  ap open_by (along done rest Received e),
  subst (λ (b : Bool). Alternates b rest) (ap open_by (latest_on done Received refl)) (by_flag hs (done ++ Received ∷ []) rest along (moved hs done rest Received e)),
)
by_flag hs done (Taken ∷ rest) along e = subst (λ (b : Bool). Alternates b rest) (ap open_by (latest_off done Taken refl)) (by_flag hs (done ++ Taken ∷ []) rest along (moved hs done rest Taken e))
by_flag hs done (Hoisted ∷ rest) along e = subst (λ (b : Bool). Alternates b rest) (ap open_by (latest_off done Hoisted refl)) (by_flag hs (done ++ Hoisted ∷ []) rest along (moved hs done rest Hoisted e))
by_flag hs done (Stolen ∷ rest) along e = subst (λ (b : Bool). Alternates b rest) (ap open_by (latest_off done Stolen refl)) (by_flag hs (done ++ Stolen ∷ []) rest along (moved hs done rest Stolen e))

flag_end : (done rest : List Happening) → after (flag_behind done) rest ≡ flag_behind (done ++ rest)
flag_end done [] = ap flag_behind (sym (append-nil done))
flag_end done (Sent ∷ rest) = ap (λ b. after b rest) (sym (ap open_by (latest_on done Sent refl))) ∙ flag_end (done ++ Sent ∷ []) rest ∙ ap flag_behind (append_assoc done (Sent ∷ []) rest)
flag_end done (Received ∷ rest) = ap (λ b. after b rest) (sym (ap open_by (latest_on done Received refl))) ∙ flag_end (done ++ Received ∷ []) rest ∙ ap flag_behind (append_assoc done (Received ∷ []) rest)
flag_end done (Taken ∷ rest) = ap (λ b. after b rest) (sym (ap open_by (latest_off done Taken refl))) ∙ flag_end (done ++ Taken ∷ []) rest ∙ ap flag_behind (append_assoc done (Taken ∷ []) rest)
flag_end done (Hoisted ∷ rest) = ap (λ b. after b rest) (sym (ap open_by (latest_off done Hoisted refl))) ∙ flag_end (done ++ Hoisted ∷ []) rest ∙ ap flag_behind (append_assoc done (Hoisted ∷ []) rest)
flag_end done (Stolen ∷ rest) = ap (λ b. after b rest) (sym (ap open_by (latest_off done Stolen refl))) ∙ flag_end (done ++ Stolen ∷ []) rest ∙ ap flag_behind (append_assoc done (Stolen ∷ []) rest)

balanced_alternates : {E : Type 0} (hs : List Happening) → IsBalanced E hs → Alternates false hs
balanced_alternates hs x = by_flag hs [] hs x.along refl

balanced_closes : {E : Type 0} (hs : List Happening) → IsBalanced E hs → E → after false hs ≡ false
balanced_closes hs x e = flag_end [] hs ∙ not_open (latest is_operation hs) (x.closed e)

-- ---- events of one item

abbrev pub happen_if : Bool → Happening → List Happening → List Happening
happen_if true h hs = h ∷ hs
happen_if false h hs = hs

pub happen_cons : (x : ℕ) (e : Event) (es : List Event) → happenings x (e ∷ es) ≡ happen_if (item_in e == x) (happening_of e) (happenings x es)
happen_cons x e es = elim (cases_Bool (item_in e == x)) [ inl t ↦ rw t refl | inr f ↦ rw f refl ]

pub happen_append : (x : ℕ) (es fs : List Event) → happenings x (es ++ fs) ≡ happenings x es ++ happenings x fs
happen_append x es fs =
    ap (map happening_of) (filter-append (λ e. item_in e == x) es fs)
    ∙ map-append happening_of (filter (λ e. item_in e == x) es) (filter (λ e. item_in e == x) fs)

-- two lists alternate alike
record Alike (hs ks : List Happening) : Type 0 where
  pub alternates : (o : Bool) → Alternates o hs → Alternates o ks
  pub same : (o : Bool) → after o ks ≡ after o hs

alike_if : (b : Bool) (h : Happening) (hs ks : List Happening) → Alike hs ks → Alike (happen_if b h hs) (happen_if b h ks)
alike_if false h hs ks x = x
alike_if true Sent hs ks x = record { alternates = λ o a. (a.0, x.alternates true a.1); same = λ o. x.same true }
alike_if true Received hs ks x = record { alternates = λ o a. (a.0, x.alternates false a.1); same = λ o. x.same false }
alike_if true Taken hs ks x = record { alternates = λ o a. x.alternates o a; same = λ o. x.same o }
alike_if true Hoisted hs ks x = record { alternates = λ o a. x.alternates o a; same = λ o. x.same o }
alike_if true Stolen hs ks x = record { alternates = λ o a. x.alternates o a; same = λ o. x.same o }

alike_hoist : (b : Bool) (hs ks : List Happening) → Alike hs ks → Alike (happen_if b Hoisted hs) ks
alike_hoist false hs ks x = x
alike_hoist true hs ks x = record { alternates = λ o a. x.alternates o a; same = λ o. x.same o }

alike_kept : (x : ℕ) (e : Event) (es fs : List Event) → Alike (happenings x es) (happenings x fs) → Alike (happenings x (e ∷ es)) (happenings x (e ∷ fs))
alike_kept x e es fs a =
    subst (λ (z : List Happening). Alike z (happenings x (e ∷ fs))) (sym (happen_cons x e es))
    (subst (λ (z : List Happening). Alike (happen_if (item_in e == x) (happening_of e) (happenings x es)) z) (sym (happen_cons x e fs))
    (alike_if (item_in e == x) (happening_of e) (happenings x es) (happenings x fs) a))

without_alike : (x : ℕ) (es : List Event) → Alike (happenings x es) (happenings x (without_hoists es))
without_alike x [] = record { alternates = λ o a. a; same = λ o. refl }
without_alike x (Send y ∷ es) = alike_kept x (Send y) es (without_hoists es) (without_alike x es)
without_alike x (Recv y ∷ es) = alike_kept x (Recv y) es (without_hoists es) (without_alike x es)
without_alike x (Take y ∷ es) = alike_kept x (Take y) es (without_hoists es) (without_alike x es)
without_alike x (Steal y ∷ es) = alike_kept x (Steal y) es (without_hoists es) (without_alike x es)
without_alike x (Hoist y ∷ es) =
    subst (λ (z : List Happening). Alike z (happenings x (without_hoists es))) (sym (happen_cons x (Hoist y) es))
    (alike_hoist (y.0 == x) (happenings x es) (happenings x (without_hoists es)) (without_alike x es))

-- ---- items that there aren't

abbrev IsOutside : ℕ → ℕ → ℕ → Type 0
IsOutside x a n = (x < a) ⊎ (a + n ≤ x)

outside_next : (x a n : ℕ) → IsOutside x a (suc n) → IsOutside x (a + 1) n
outside_next x a n (inl l) = inl (omega (arith, l))
outside_next x a n (inr l) = inr (omega (arith, l))

outside_first : (x a n : ℕ) → IsOutside x a (suc n) → a ≡ x → ⊥
outside_first x a n (inl l) e = omega (arith, l, e)
outside_first x a n (inr l) e = omega (arith, l, e)

abbrev made : (ItemNo → Event) → ℕ → Event
made make y = make (record { 0 = y })

none_from : (make : ItemNo → Event) → ((y : ItemNo) → item_in (make y) ≡ y.0) → (marked : ℕ → Bool) (x a n : ℕ) → IsOutside x a n → happenings x (map (made make) (filter marked (range_with_len a n))) ≡ []
none_from make h marked x a zero out = refl
none_from make h marked x a (suc n) out = elim (cases_Bool (marked a)) [
  | inr f ↦ rw f (none_from make h marked x (a + 1) n (outside_next x a n out))
  | inl t ↦ (
      let off : (item_in (made make a) == x) ≡ false = ap (λ z. z == x) (h (record { 0 = a })) ∙ ne_eqb a x (outside_first x a n out) in
      rw t (happen_cons x (made make a) (map (made make) (filter marked (range_with_len (a + 1) n)))
      ∙ ap (λ b. happen_if b (happening_of (made make a)) (happenings x (map (made make) (filter marked (range_with_len (a + 1) n))))) off
      ∙ none_from make h marked x (a + 1) n (outside_next x a n out)))
]

none_both : (x : ℕ) (es fs : List Event) → happenings x es ≡ [] → happenings x fs ≡ [] → happenings x (es ++ fs) ≡ []
none_both x es fs e f = happen_append x es fs ∙ ap₂ (λ hs ks. hs ++ ks) e f

none_operations : (x items : ℕ) (s r : ℕ → Bool) → IsOutside x 1 items → happenings x (operations items s r) ≡ []
none_operations x items s r out =
    none_both x (for_each Send items s) (for_each Recv items r) (none_from (λ y. Send y) (λ y. refl) s x 1 items out) (none_from (λ y. Recv y) (λ y. refl) r x 1 items out)

none_arriving : (p : Plan) (n x : ℕ) → IsOutside x 1 p.items → happenings x (at_arrival p n) ≡ []
none_arriving p n x out =
    let hoist = for_each Hoist p.items (λ x. p.places.hoists n x && taken_inside p.graph p.uses.take n x) in
    let steal = for_each Steal p.items (p.uses.steal n) in
    let take = for_each Take p.items (p.uses.take n) in
    none_both x (operations p.items (p.places.send_in n) (p.places.recv_in n)) (take ++ (hoist ++ steal)) (none_operations x p.items (p.places.send_in n) (p.places.recv_in n) out)
    (none_both x take (hoist ++ steal) (none_from (λ y. Take y) (λ y. refl) (p.uses.take n) x 1 p.items out)
    (none_both x hoist steal (none_from (λ y. Hoist y) (λ y. refl) (λ x. p.places.hoists n x && taken_inside p.graph p.uses.take n x) x 1 p.items out) (none_from (λ y. Steal y) (λ y. refl) (p.uses.steal n) x 1 p.items out)))

none_on_path : (p : Plan) (ns : List ℕ) (n : ℕ) (es : List Event) → IsPath p ns n es → (x : ℕ) → IsOutside x 1 p.items → happenings x es ≡ []
none_on_path p ns n es start x out = none_arriving p 0 x out
none_on_path p ns n es (forward {ns = before} {n = m} {es = passed} s t e) x out =
    none_both x passed (at_leaving p m ++ at_arrival p s) (none_on_path p before m passed t x out)
    (none_both x (at_leaving p m) (at_arrival p s) (none_operations x p.items (p.places.send_out m) (p.places.recv_out m) out) (none_arriving p s x out))
none_on_path p ns n es (entry {ns = before} {l = l} {es = passed} t e) x out = none_both x passed (at_arrival p (suc l)) (none_on_path p before l passed t x out) (none_arriving p (suc l) x out)
none_on_path p ns n es (cycle {ns = before} {n = m} {es = passed} l t e f) x out = none_on_path p before m passed t x out

-- ---- paths of a good placement

inside_or : (x items : ℕ) → ((1 ≤ x) × (x ≤ items)) ⊎ IsOutside x 1 items
inside_or x items = elim (cases_lt x 1) [
  | inl l ↦ inr (inl l)
  | inr g ↦ elim (cases_lt items x) [ inl h ↦ inr (inr (omega (arith, h))) | inr k ↦ inl (omega (arith, g), omega (arith, k)) ]
]

path_alternates : (p : Plan) (last : ℕ) → IsGoodPlan p last → (ns : List ℕ) (n : ℕ) (es : List Event) → IsPath p ns n es → (x : ℕ) → Alternates false (happenings x es)
path_alternates p last good ns n es path x = elim (inside_or x p.items) [
  | inl i ↦ balanced_alternates (happenings x es) (good ns n es path x i.0 i.1).balanced
  | inr o ↦ subst (λ (hs : List Happening). Alternates false hs) (sym (none_on_path p ns n es path x o)) tt
]

path_closes : (p : Plan) (last : ℕ) → IsGoodPlan p last → (ns : List ℕ) (n : ℕ) (es : List Event) → IsPath p ns n es → n ≡ last → (x : ℕ) → after false (happenings x es) ≡ false
path_closes p last good ns n es path e x = elim (inside_or x p.items) [
  | inl i ↦ balanced_closes (happenings x es) (good ns n es path x i.0 i.1).balanced e
  | inr o ↦ ap (after false) (none_on_path p ns n es path x o)
]

-- so it is with what a trail passes, which leaves hoists out
pub trail_alternates : (p : Plan) (last : ℕ) → IsGoodPlan p last → (ns : List ℕ) (n : ℕ) (es : List Event) → IsPath p ns n es → (fs : List Event) → fs ≡ without_hoists es → (x : ℕ) → Alternates false (happenings x fs)
trail_alternates p last good ns n es path fs e x =
    subst (λ (z : List Event). Alternates false (happenings x z)) (sym e) ((without_alike x es).alternates false (path_alternates p last good ns n es path x))

pub trail_closes : (p : Plan) (last : ℕ) → IsGoodPlan p last → (ns : List ℕ) (n : ℕ) (es : List Event) → IsPath p ns n es → n ≡ last → (fs : List Event) → fs ≡ without_hoists es → (x : ℕ) → after false (happenings x fs) ≡ false
trail_closes p last good ns n es path end fs e x =
    ap (λ z. after false (happenings x z)) e ∙ (without_alike x es).same false ∙ path_closes p last good ns n es path end x
