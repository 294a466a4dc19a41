-- The texts of the items of a line, one after another.
use Rattle.std.proofs.Common.{◌≡◌, ℕ, Bool, All, subst, ◌+◌, ◌<◌, List, [], ◌∷◌, ◌++◌, map, length, take, drop, get_or, nat_eq, Result, Ok, Err, refl, ap, ◌∙◌, sym, append_assoc, arith, suc, add-one, drop-cons}
use Rattle.std.proofs.lemmas.List.{take_more, length-map, map-append, take-append-drop}
use Rattle.std.proofs.Math.ListN.{get_or-map}
use Rattle.std.specs.List.{join_with_byte}
use Rattle.fd_base.specs.declared.numbers.FaultKind.{FaultKind}
use Rattle.fd_prog.specs.Outcomes.{and_then}
use Rattle.fd_prog.specs.Statements.{PrintItem}
use Rattle.fd_prog.specs.Values.{Readings}
use Rattle.fd_prog.specs.Sequence.{item_text, item_texts}
use Rattle.seq_meaning.specs.Stored.{map_ok}
use Rattle.seq_meaning.specs.Text.{separated}

-- both parts were found
pub and_then-ok : {A B E : Type 0} (r : Result A E) (f : A → Result B E) (y : B) → and_then r f ≡ Ok y → (a : A) × (r ≡ Ok a) × (f a ≡ Ok y)
and_then-ok (Ok x) f y h = (x, refl, h)
and_then-ok (Err kind) f y h = absurd (cc)

-- the parts of the texts of some items
pub item_texts-cons : (r : Readings) (i : PrintItem) (is : List PrintItem) (xs : List (List ℕ)) → item_texts r (i ∷ is) ≡ Ok xs
    → (x : List ℕ) × (ys : List (List ℕ)) × (item_text r i ≡ Ok x) × (item_texts r is ≡ Ok ys) × (xs ≡ x ∷ ys)
item_texts-cons r i is xs h =
    let first = and_then-ok (item_text r i) (λ x. and_then (item_texts r is) (λ xs'. Ok (x ∷ xs'))) xs h in
    let rest = and_then-ok (item_texts r is) (λ xs'. Ok (first.0 ∷ xs')) xs first.2 in
    (first.0, rest.0, first.1, rest.1, cc (rest.2))

-- one more item with a text
pub item_texts-push : (r : Readings) (is : List PrintItem) (i : PrintItem) (xs : List (List ℕ)) (x : List ℕ) → item_texts r is ≡ Ok xs → item_text r i ≡ Ok x → item_texts r (is ++ i ∷ []) ≡ Ok (xs ++ x ∷ [])
item_texts-push r [] i xs x all one = let none : [] ≡ xs = cc in rw (one, ← none) refl
item_texts-push r (j ∷ is) i xs x all one =
    let parts = item_texts-cons r j is xs all in
    let more = item_texts-push r is i parts.1 x parts.3 one in
    rw (parts.2, more) (ap (λ l. Ok (l ++ x ∷ [])) (sym parts.4))

-- the first item with a fault
pub item_texts-fault : (r : Readings) (is js : List PrintItem) (i : PrintItem) (xs : List (List ℕ)) (kind : FaultKind) → item_texts r is ≡ Ok xs → item_text r i ≡ Err kind → item_texts r (is ++ i ∷ js) ≡ Err kind
item_texts-fault r [] js i xs kind all one = rw one refl
item_texts-fault r (j ∷ is) js i xs kind all one =
    let parts = item_texts-cons r j is xs all in
    let more = item_texts-fault r is js i parts.1 kind parts.3 one in
    rw (parts.2, more) refl

-- one more text behind the others
pub join-push : (xs : List (List ℕ)) (x : List ℕ) → join_with_byte 32 (xs ++ x ∷ []) ≡ join_with_byte 32 xs ++ separated (nat_eq (length xs) 0) x
join-push [] x = refl
join-push (y ∷ []) x = refl
join-push (y ∷ z ∷ xs) x =
    let same : nat_eq (length (z ∷ xs)) 0 ≡ nat_eq (length (y ∷ z ∷ xs)) 0 = grind arith in
    rw (join-push (z ∷ xs) x, append_assoc) (ap (λ b. y ++ (32 ∷ (join_with_byte 32 (z ∷ xs) ++ separated b x))) same)

-- ---- by the index of a loop

-- what is left at an index begins with the item there
pub drop-item : {X : Type 0} (xs : List X) (i : ℕ) (item : X) → i < length xs → item ≡ get_or xs i item → drop i xs ≡ item ∷ drop (i + 1) xs
drop-item xs i item within is = rw (add-one, drop-cons xs i item) (ap (λ y. y ∷ drop (suc i) xs) (sym is))

-- the items before an index, and one more
pub item_texts-take_more : {X : Type 0} (r : Readings) (f : X → PrintItem) (items : List X) (i : ℕ) (item : X) (xs : List (List ℕ)) (x : List ℕ) → i < length items → item ≡ get_or items i item
    → item_texts r (map f (take i items)) ≡ Ok xs → item_text r (f item) ≡ Ok x → item_texts r (map f (take (i + 1) items)) ≡ Ok (xs ++ x ∷ [])
item_texts-take_more r f items i item xs x within is all one =
    let split : map f (take (i + 1) items) ≡ map f (take i items) ++ f item ∷ [] = ap (map f) (take_more items i item within) ∙ map-append f (take i items) (get_or items i item ∷ []) ∙ ap (λ y. map f (take i items) ++ f y ∷ []) (sym is) in
    rw split (item_texts-push r (map f (take i items)) (f item) xs x all one)

-- the items before an index, and one with a fault
pub item_texts-take_fault : {X : Type 0} (r : Readings) (f : X → PrintItem) (items : List X) (i : ℕ) (item : X) (xs : List (List ℕ)) (kind : FaultKind) → i < length items → item ≡ get_or items i item
    → item_texts r (map f (take i items)) ≡ Ok xs → item_text r (f item) ≡ Err kind → item_texts r (map f items) ≡ Err kind
item_texts-take_fault r f items i item xs kind within is all one =
    let split : map f items ≡ map f (take i items) ++ f item ∷ map f (drop (i + 1) items) =
    ap (map f) (sym (take-append-drop i items)) ∙ map-append f (take i items) (drop i items) ∙ ap (λ l. map f (take i items) ++ map f l) (drop-item items i item within is) in
    rw split (item_texts-fault r (map f (take i items)) (map f (drop (i + 1) items)) (f item) xs kind all one)

-- what holds of each item's view, at an item
pub All-item : {X Y : Type 0} (P : Y → Type 0) (f : X → Y) (items : List X) (i : ℕ) (item : X) → i < length items → item ≡ get_or items i item → All P (map f items) → P (f item)
All-item P f items i item within is all =
    subst P (get_or-map f items i item ∙ ap f (sym is)) (all i (f item) (rw length-map within))

-- an item without a text
pub appended-fault : {U : Type 0} (old new : List ℕ) (b : Bool) (x : Result (List ℕ) FaultKind) (r : Result U FaultKind) (kind : FaultKind) → map_ok (λ text. old ++ separated b text) x ≡ map_ok (λ _. new) r → r ≡ Err kind → x ≡ Err kind
appended-fault old new b (Ok t) (Ok u) kind e h = absurd (cc)
appended-fault old new b (Ok t) (Err k) kind e h = absurd (cc)
appended-fault old new b (Err k) r kind e h = e ∙ ap (map_ok (λ _. new)) h

-- an item with a text, which stands behind the line now
pub appended-text : {U : Type 0} (old new : List ℕ) (b : Bool) (x : Result (List ℕ) FaultKind) (r : Result U FaultKind) (u : U) → map_ok (λ text. old ++ separated b text) x ≡ map_ok (λ _. new) r → r ≡ Ok u
    → (t : List ℕ) × (x ≡ Ok t) × (new ≡ old ++ separated b t)
appended-text old new b (Ok t) r u e h = (t, refl, cc (e ∙ ap (map_ok (λ _. new)) h))
appended-text old new b (Err k) r u e h = absurd (cc (ap (map_ok (λ _. new)) h))
