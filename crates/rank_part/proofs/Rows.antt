-- What a rank has of an array, and an element put there.
use Rattle.std.proofs.Common.{◌≡◌, ◌≢◌, ℕ, ◌<◌, ◌==◌, ℤ, pos, Bool, true, false, cond, List, [], ◌∷◌, length, map, get_or, set, slice_set, Contains, Some, None, IfSome, unwrap_or, refl, sym, ◌∙◌, ap, arith, length-set}
use Rattle.std.proofs.lemmas.Bool.{eqb-true, eq-eqb}
use Rattle.std.proofs.lemmas.List.{get_or-set_same, get_or-set_other}
use Rattle.std.proofs.lemmas.Map.Made.{Contains-tail}
use Rattle.fd_base.specs.Places.{Place, Whole, Unset, Split, owner_in, local_in, count_in}
use Rattle.fd_base.proofs.Places.{local-lt-count, same_from_local}
use Rattle.rank_part.specs.Parts.{number_among, own_number, IsPartOfRow, is_own, put_by}

-- ---- what came

-- what came with an element is found
pub number-came : (f : ℕ → ℤ) (xs : List ℕ) (e : ℕ) → Contains xs e → number_among xs (map f xs) e ≡ f e
number-came f [] e h = absurd (omega (arith, h.1))
number-came f (x ∷ xs) e h = by (x == e) refl (λ other. number-came f xs e (Contains-tail x xs e other h))
  where
    by : (b : Bool) → (x == e) ≡ b → ((x ≡ e → ⊥) → number_among xs (map f xs) e ≡ f e) → cond b (f x) (number_among xs (map f xs) e) ≡ f e
    by true same rest = ap f (eqb-true x e same)
    by false differs rest = rest (λ same. absurd (cc (eq-eqb x e same, differs)))

-- ---- an element put

-- the numbers of a list with another at a place, seen at a place
put-same : (xs : List ℤ) (n m : ℕ) (x : ℤ) → n < length xs → m ≡ n → get_or (set xs n x) m (pos 0) ≡ x
put-same xs n m x h e = ap (λ k. get_or (set xs n x) k (pos 0)) e ∙ get_or-set_same xs n x (pos 0) h

-- two lists that agree at two places do so when both get one number at two places, where those are the same in the one exactly where they are in the other
alike-set : (own whole : List ℤ) (i j m n : ℕ) (x : ℤ) → j < length own → n < length whole → (m ≡ n → i ≡ j) → (m ≢ n → i ≢ j)
    → get_or own i (pos 0) ≡ get_or whole m (pos 0) → get_or (set own j x) i (pos 0) ≡ get_or (set whole n x) m (pos 0)
alike-set own whole i j m n x hj hn same other e = by (m == n) refl
  where
    by : (b : Bool) → (m == n) ≡ b → get_or (set own j x) i (pos 0) ≡ get_or (set whole n x) m (pos 0)
    by true h = put-same own j i x hj (same (eqb-true m n h)) ∙ sym (put-same whole n m x hn (eqb-true m n h))
    by false h =
        let differs : m ≢ n = λ (k : m ≡ n). absurd (cc (eq-eqb m n k, h)) in
        get_or-set_other own j i x (pos 0) (other differs) ∙ e ∙ sym (get_or-set_other whole n m x (pos 0) differs)

some_if : (b : Bool) (x y : ℤ) → b ≡ true → IfSome (cond b (Some x) None) (λ z. z ≡ y) → x ≡ y
some_if true x y e h = h
some_if false x y e h = absurd (cc)

if_some : (b : Bool) (x y : ℤ) → (b ≡ true → x ≡ y) → IfSome (cond b (Some x) None) (λ z. z ≡ y)
if_some true x y h = h refl
if_some false x y h = tt

-- the number of an own element
pub own-number : (owners : List ℕ) (rank : ℕ) (own whole : List ℤ) (m : ℕ) → IsPartOfRow (Split owners) rank own whole → m < length whole → owner_in owners m ≡ rank
    → get_or own (local_in owners m) (pos 0) ≡ get_or whole m (pos 0)
own-number owners rank own whole m h l e =
    some_if (owner_in owners m == rank) (get_or own (local_in owners m) (pos 0)) (get_or whole m (pos 0)) (eq-eqb (owner_in owners m) rank e) (h.numbers m l)

-- a rank's row and the whole row with another number of an element
pub put_row : (place : Place) (rank : ℕ) (own whole : List ℤ) (n : ℕ) (x : ℤ) → IsPartOfRow place rank own whole → n < length whole
    → IsPartOfRow place rank (put_by place rank n x own) (slice_set whole n x)
put_row Whole rank own whole n x h k = record {
  room = length-set own n x ∙ h.room ∙ sym (length-set whole n x);
  numbers = λ m l. alike-set own whole m n m n x (omega (arith, h.room)) k (λ e. e) (λ e. e) (h.numbers m (omega (arith, length-set whole n x)));
}
put_row Unset rank own whole n x h k = record { room = tt; numbers = λ m l. tt }
put_row (Split owners) rank own whole n x h k = by (owner_in owners n == rank) refl
  where
    room : (h : IsPartOfRow (Split owners) rank own whole) → (length own ≡ count_in owners rank) × (length owners ≡ length (set whole n x))
    room h = (h.room.0, h.room.1 ∙ sym (length-set whole n x))

    inside : (m : ℕ) → m < length (set whole n x) → m < length whole
    inside m l = omega (arith, length-set whole n x)

    at : (m : ℕ) → m < length whole → owner_in owners n ≡ rank → owner_in owners m ≡ rank → get_or (set own (local_in owners n) x) (local_in owners m) (pos 0) ≡ get_or (set whole n x) m (pos 0)
    at m l e f =
        let small : local_in owners n < count_in owners (owner_in owners n) = local-lt-count owners n (omega (arith, h.room.1)) in
        let below : local_in owners n < length own = omega (arith, h.room.0, ap (count_in owners) e) in
        alike-set own whole (local_in owners m) (local_in owners n) m n x below k (λ i. ap (local_in owners) i)
        (λ differs same. differs (same_from_local owners m n (omega (arith, h.room.1)) (omega (arith, h.room.1)) (f ∙ sym e) same)) (own-number owners rank own whole m h l f)

    past : (m : ℕ) → m < length whole → (owner_in owners n == rank) ≡ false → owner_in owners m ≡ rank → get_or own (local_in owners m) (pos 0) ≡ get_or (set whole n x) m (pos 0)
    past m l e f =
        own-number owners rank own whole m h l f
        ∙ sym (get_or-set_other whole n m x (pos 0) (λ same. absurd (cc (eq-eqb (owner_in owners n) rank (ap (owner_in owners) (sym same) ∙ f), e))))

    by : (b : Bool) → (owner_in owners n == rank) ≡ b → IsPartOfRow (Split owners) rank (cond b (set own (local_in owners n) x) own) (set whole n x)
    by true e = record {
      room = (length-set own (local_in owners n) x ∙ h.room.0, (room h).1);
      numbers = λ m l. if_some (owner_in owners m == rank) (get_or (set own (local_in owners n) x) (local_in owners m) (pos 0)) (get_or (set whole n x) m (pos 0)) (λ f. at m (inside m l) (eqb-true (owner_in owners n) rank e) (eqb-true (owner_in owners m) rank f));
    }
    by false e = record {
      room = room h;
      numbers = λ m l. if_some (owner_in owners m == rank) (get_or own (local_in owners m) (pos 0)) (get_or (set whole n x) m (pos 0)) (λ f. past m (inside m l) e (eqb-true (owner_in owners m) rank f));
    }

-- an own element has one number
pub own-reads : (place : Place) (rank : ℕ) (own whole : List ℤ) (n : ℕ) (other : ℤ) → IsPartOfRow place rank own whole → n < length whole → is_own place n rank ≡ true
    → unwrap_or (own_number place rank own n) other ≡ get_or whole n (pos 0)
own-reads Whole rank own whole n other h k e = h.numbers n k
own-reads Unset rank own whole n other h k e = absurd (cc)
own-reads (Split owners) rank own whole n other h k e =
    rw e (own-number owners rank own whole n h k (eqb-true (owner_in owners n) rank e))

-- of an element that isn't a rank's own it reads the other number
pub other-reads : (place : Place) (rank : ℕ) (own : List ℤ) (n : ℕ) (other : ℤ) → is_own place n rank ≡ false → unwrap_or (own_number place rank own n) other ≡ other
other-reads Whole rank own n other e = absurd (cc)
other-reads Unset rank own n other e = refl
other-reads (Split owners) rank own n other e = rw e refl
