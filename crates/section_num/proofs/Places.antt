-- The first place in a list that passes a test, part by part.
use Rattle.std.proofs.Common.{◌≡◌, ℕ, zero, suc, ◌+◌, ◌<◌, ◌≤◌, Bool, true, false, cond, not, ltb, ◌||◌, List, [], ◌∷◌, ◌++◌, length, Option, Some, None, refl, sym, ap, ◌∙◌, ◌⊎◌, inl, inr, arith}
use Rattle.std.specs.Prelude.{map, option_map}
use Rattle.std.specs.List.{list_any, position, position_or_len}
use Rattle.std.proofs.lemmas.Bool.{lt-ltb, le-ltb, cases_lt}

-- the first is the place
pub place_here : {A : Type 0} (p : A → Bool) (x : A) (xs : List A) → p x ≡ true → position p (x ∷ xs) ≡ Some 0
place_here p x xs h =
    let start : position_or_len p (x ∷ xs) ≡ 0 = ap (λ b. cond (not b) (1 + position_or_len p xs) 0) h in
    let within : ltb 0 (length (x ∷ xs)) ≡ true = lt-ltb 0 (length (x ∷ xs)) (omega arith) in
    ap (λ k. cond (ltb k (length (x ∷ xs))) (Some k) None) start ∙ ap (λ b. cond b (Some 0) None) within

later : (k n m : ℕ) → m ≡ n + 1 → (k < n) ⊎ (n ≤ k) → cond (ltb (1 + k) m) (Some (1 + k)) None ≡ option_map suc (cond (ltb k n) (Some k) None)
later k n m e (inl h) =
    let more : 1 + k ≡ suc k = omega arith in
    ap (λ b. cond b (Some (1 + k)) None) (lt-ltb (1 + k) m (omega arith)) ∙ (ap (λ i. Some i) more ∙ sym (ap (λ b. option_map suc (cond b (Some k) None)) (lt-ltb k n h)))
later k n m e (inr h) = ap (λ b. cond b (Some (1 + k)) None) (le-ltb (1 + k) m (omega arith)) ∙ sym (ap (λ b. option_map suc (cond b (Some k) None)) (le-ltb k n h))

-- the first is not the place
pub place_behind : {A : Type 0} (p : A → Bool) (x : A) (xs : List A) → p x ≡ false → position p (x ∷ xs) ≡ option_map suc (position p xs)
place_behind p x xs h =
    let start : position_or_len p (x ∷ xs) ≡ 1 + position_or_len p xs = ap (λ b. cond (not b) (1 + position_or_len p xs) 0) h in
    let longer : length (x ∷ xs) ≡ length xs + 1 = omega arith in
    ap (λ k. cond (ltb k (length (x ∷ xs))) (Some k) None) start ∙ later (position_or_len p xs) (length xs) (length (x ∷ xs)) longer (cases_lt (position_or_len p xs) (length xs))

place_by : {A : Type 0} (p : A → Bool) (x : A) (xs : List A) (b : Bool) → p x ≡ b → position p (x ∷ xs) ≡ cond b (Some 0) (option_map suc (position p xs))
place_by p x xs true h = place_here p x xs h
place_by p x xs false h = place_behind p x xs h

-- a place by the first and the rest
pub position-cons : {A : Type 0} (p : A → Bool) (x : A) (xs : List A) → position p (x ∷ xs) ≡ cond (p x) (Some 0) (option_map suc (position p xs))
position-cons p x xs = place_by p x xs (p x) refl

-- ---- longer lists

kept : (b : Bool) (r s : Option ℕ) (k : ℕ) → ((i : ℕ) → r ≡ Some i → s ≡ Some i) → cond b (Some 0) (option_map suc r) ≡ Some k → cond b (Some 0) (option_map suc s) ≡ Some k
kept true r s k h e = e
kept false None s k h e = absurd cc
kept false (Some i) s k h e = ap (option_map suc) (h i refl) ∙ e

-- a place stays where more follows
pub place_kept : {A : Type 0} (p : A → Bool) (xs ys : List A) (k : ℕ) → position p xs ≡ Some k → position p (xs ++ ys) ≡ Some k
place_kept p [] ys k h = absurd cc
place_kept p (x ∷ xs) ys k h =
    position-cons p x (xs ++ ys) ∙ kept (p x) (position p xs) (position p (xs ++ ys)) k (λ i e. place_kept p xs ys i e) (sym (position-cons p x xs) ∙ h)

none_behind : (b : Bool) (r : Option ℕ) → cond b (Some 0) (option_map suc r) ≡ None → (b ≡ false) × (r ≡ None)
none_behind true r h = absurd cc
none_behind false None h = (refl, refl)
none_behind false (Some i) h = absurd cc

-- behind all that don't pass comes the first that does
pub place_pushed : {A : Type 0} (p : A → Bool) (xs : List A) (y : A) (ys : List A) → position p xs ≡ None → p y ≡ true → position p (xs ++ y ∷ ys) ≡ Some (length xs)
place_pushed p [] y ys h e = place_here p y ys e
place_pushed p (x ∷ xs) y ys h e =
    let both = none_behind (p x) (position p xs) (sym (position-cons p x xs) ∙ h) in
    place_behind p x (xs ++ y ∷ ys) both.0 ∙ ap (option_map suc) (place_pushed p xs y ys both.1 e)

-- nothing passes
pub none_passes : {A : Type 0} (p : A → Bool) (xs : List A) → position p xs ≡ None → list_any p xs ≡ false
none_passes p [] h = refl
none_passes p (x ∷ xs) h =
    let both = none_behind (p x) (position p xs) (sym (position-cons p x xs) ∙ h) in
    ap (λ b. b || list_any p xs) both.0 ∙ none_passes p xs both.1

any_behind : (b : Bool) (r : Option ℕ) (k : ℕ) (rest : Bool) → ((i : ℕ) → r ≡ Some i → rest ≡ true) → cond b (Some 0) (option_map suc r) ≡ Some k → (b || rest) ≡ true
any_behind true r k rest h e = refl
any_behind false None k rest h e = absurd cc
any_behind false (Some i) k rest h e = h i refl

-- one passes
pub one_passes : {A : Type 0} (p : A → Bool) (xs : List A) (k : ℕ) → position p xs ≡ Some k → list_any p xs ≡ true
one_passes p [] k h = absurd cc
one_passes p (x ∷ xs) k h = any_behind (p x) (position p xs) k (list_any p xs) (λ i e. one_passes p xs i e) (sym (position-cons p x xs) ∙ h)

-- two tests that agree have one place, in lists of which the one is the other seen otherwise
pub place_same : {A B : Type 0} (p : A → Bool) (q : B → Bool) (f : A → B) (xs : List A) → ((x : A) → p x ≡ q (f x)) → position p xs ≡ position q (map f xs)
place_same p q f [] h = refl
place_same p q f (x ∷ xs) h =
    position-cons p x xs ∙ (ap (λ b. cond b (Some 0) (option_map suc (position p xs))) (h x)
    ∙ (ap (λ r. cond (q (f x)) (Some 0) (option_map suc r)) (place_same p q f xs h) ∙ sym (position-cons q (f x) (map f xs))))
