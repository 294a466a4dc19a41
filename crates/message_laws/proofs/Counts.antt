-- How many messages are posted and taken before a place, by configurations.
use Rattle.std.proofs.Common.{◌≡◌, ℕ, zero, suc, ◌+◌, ◌<◌, ◌≤◌, ◌==◌, Bool, true, false, ◌&&◌, ◌||◌, List, [], ◌∷◌, length, ◌⊎◌, inl, inr, refl, sym, ◌∙◌, ap, subst, arith}
use Rattle.std.proofs.lemmas.Bool.{ne_eqb}
use Rattle.std.specs.Prelude.{Option, Some, None, count_by, ◌≢◌}
use Rattle.mailbox_book.specs.declared.message.Message.{Message}
use Rattle.message_laws.specs.Behaviour.{Behaviour, Action, posted_by, taken_by, of_tag, posts, takes, is_take, is_past_half}
use Rattle.message_laws.proofs.Basics.{posts_more, takes_more}
use Rattle.message_laws.specs.Traces.{Trace, nth, behaviour_of, sent, got, sent_before, got_before, front, TakesNothing}
use Rattle.message_laws.proofs.Ways.{nth_some, start, start_suc, action_at, configuration_at, Place, inside, behind, place_of, before_next}

abbrev posted_in : Option Action → ℕ → List Message
posted_in None r = []
posted_in (Some a) r = posted_by a r

abbrev taken_in : Option Action → ℕ → List ℕ
taken_in None q = []
taken_in (Some a) q = taken_by a q

sent_front : (r tag k : ℕ) (xs : List Action) (a : Action) → nth xs k ≡ Some a → sent r tag (front (suc k) xs) ≡ sent r tag (front k xs) + of_tag tag (posted_by a r)
sent_front r tag k [] a e = absurd (none_some e)
  where
    none_some : None ≡ Some a → ⊥
    none_some e = absurd (cc)
sent_front r tag zero (x ∷ xs) a e = let s = ap (λ (o : Option Action). of_tag tag (posted_in o r)) e in omega (arith, s)
sent_front r tag (suc k) (x ∷ xs) a e = let s = sent_front r tag k xs a e in omega (arith, s)

pub got_front : (q tag k : ℕ) (xs : List Action) (a : Action) → nth xs k ≡ Some a → got q tag (front (suc k) xs) ≡ got q tag (front k xs) + count_by (λ o. o == tag) (taken_by a q)
got_front q tag k [] a e = absurd (none_some e)
  where
    none_some : None ≡ Some a → ⊥
    none_some e = absurd (cc)
got_front q tag zero (x ∷ xs) a e = let s = ap (λ (o : Option Action). count_by (λ o. o == tag) (taken_in o q)) e in omega (arith, s)
got_front q tag (suc k) (x ∷ xs) a e = let s = got_front q tag k xs a e in omega (arith, s)

front_all : (xs : List Action) → front (length xs) xs ≡ xs
front_all [] = refl
front_all (x ∷ xs) = ap (λ (z : List Action). x ∷ z) (front_all xs)

-- ---- posts and takes before a place

posts_in : (t : Trace) (q r tag n k : ℕ) → n < t.count → k ≤ length (t.actions n q) → posts (behaviour_of t) q r tag (start t q n + k) ≡ posts (behaviour_of t) q r tag (start t q n) + sent r tag (front k (t.actions n q))
posts_in t q r tag n zero lt le = ap (posts (behaviour_of t) q r tag) (zero_off (start t q n)) ∙ omega arith
  where
    zero_off : (m : ℕ) → m + 0 ≡ m
    zero_off m = omega arith
posts_in t q r tag n (suc k) lt le =
    let b = behaviour_of t in
    let x = nth_some (t.actions n q) k (omega (arith, le)) in
    let at : b.action q (start t q n + k) ≡ x.element = action_at t q n k x.element lt x.is in
    let rec = posts_in t q r tag n k lt (omega (arith, le)) in
    let more = posts_more b q r tag (start t q n + k) in
    let same : of_tag tag (posted_by (b.action q (start t q n + k)) r) ≡ of_tag tag (posted_by x.element r) = ap (λ (a : Action). of_tag tag (posted_by a r)) at in
    let f = sent_front r tag k (t.actions n q) x.element x.is in
    ap (posts b q r tag) (suc_off (start t q n) k) ∙ omega (arith, rec, more, same, f)
  where
    suc_off : (m k : ℕ) → m + suc k ≡ suc (m + k)
    suc_off m k = omega arith

takes_in : (t : Trace) (q r tag n k : ℕ) → n < t.count → k ≤ length (t.actions n r) → takes (behaviour_of t) q r tag (start t r n + k) ≡ takes (behaviour_of t) q r tag (start t r n) + got q tag (front k (t.actions n r))
takes_in t q r tag n zero lt le = ap (takes (behaviour_of t) q r tag) (zero_off (start t r n)) ∙ omega arith
  where
    zero_off : (m : ℕ) → m + 0 ≡ m
    zero_off m = omega arith
takes_in t q r tag n (suc k) lt le =
    let b = behaviour_of t in
    let x = nth_some (t.actions n r) k (omega (arith, le)) in
    let at : b.action r (start t r n + k) ≡ x.element = action_at t r n k x.element lt x.is in
    let rec = takes_in t q r tag n k lt (omega (arith, le)) in
    let more = takes_more b q r tag (start t r n + k) in
    let same : count_by (λ o. o == tag) (taken_by (b.action r (start t r n + k)) q) ≡ count_by (λ o. o == tag) (taken_by x.element q) = ap (λ (a : Action). count_by (λ o. o == tag) (taken_by a q)) at in
    let f = got_front q tag k (t.actions n r) x.element x.is in
    ap (takes b q r tag) (suc_off (start t r n) k) ∙ omega (arith, rec, more, same, f)
  where
    suc_off : (m k : ℕ) → m + suc k ≡ suc (m + k)
    suc_off m k = omega arith

pub posts_before : (t : Trace) (q r tag n : ℕ) → n ≤ t.count → posts (behaviour_of t) q r tag (start t q n) ≡ sent_before t q r tag n
posts_before t q r tag zero le = refl
posts_before t q r tag (suc n) le =
    let rec = posts_before t q r tag n (omega (arith, le)) in
    let m = posts_in t q r tag n (length (t.actions n q)) le (omega arith) in
    let f = ap (sent r tag) (front_all (t.actions n q)) in
    ap (posts (behaviour_of t) q r tag) (start_suc t q n) ∙ omega (arith, rec, m, f)

pub takes_before : (t : Trace) (q r tag n : ℕ) → n ≤ t.count → takes (behaviour_of t) q r tag (start t r n) ≡ got_before t q r tag n
takes_before t q r tag zero le = refl
takes_before t q r tag (suc n) le =
    let rec = takes_before t q r tag n (omega (arith, le)) in
    let m = takes_in t q r tag n (length (t.actions n r)) le (omega arith) in
    let f = ap (got q tag) (front_all (t.actions n r)) in
    ap (takes (behaviour_of t) q r tag) (start_suc t r n) ∙ omega (arith, rec, m, f)

pub posts_at : (t : Trace) (q r tag n k : ℕ) → n < t.count → k ≤ length (t.actions n q) → posts (behaviour_of t) q r tag (start t q n + k) ≡ sent_before t q r tag n + sent r tag (front k (t.actions n q))
posts_at t q r tag n k lt le = let x = posts_in t q r tag n k lt le in let y = posts_before t q r tag n (omega (arith, lt)) in omega (arith, x, y)

pub takes_at : (t : Trace) (q r tag n k : ℕ) → n < t.count → k ≤ length (t.actions n r) → takes (behaviour_of t) q r tag (start t r n + k) ≡ got_before t q r tag n + got q tag (front k (t.actions n r))
takes_at t q r tag n k lt le = let x = takes_in t q r tag n k lt le in let y = takes_before t q r tag n (omega (arith, lt)) in omega (arith, x, y)

-- ---- the first half

front_nth : (xs : List Action) (k j : ℕ) (a : Action) → j < k → nth xs j ≡ Some a → nth (front k xs) j ≡ Some a
front_nth xs zero j a lt e = absurd (omega (arith, lt))
front_nth [] (suc k) j a lt e = e
front_nth (x ∷ xs) (suc k) zero a lt e = e
front_nth (x ∷ xs) (suc k) (suc j) a lt e = front_nth xs k j a (omega (arith, lt)) e

both_false : (a c h : Bool) → a ≡ false → (c ≡ false) ⊎ (h ≡ false) → (a || (c && h)) ≡ false
both_false false false h e d = refl
both_false false true h e d = elim d [ inl x ↦ absurd_test x | inr x ↦ x ]
  where
    absurd_test : true ≡ false → h ≡ false
    absurd_test x = absurd (cc)
both_false true c h e d = absurd (cc)

half_step : (b : Behaviour) (r p : ℕ) → is_take (b.action r (suc p)) ≡ false → (b.configuration r p ≢ b.configuration r (suc p)) ⊎ (is_past_half b r p ≡ false) → is_past_half b r (suc p) ≡ false
half_step b r p e d = both_false (is_take (b.action r (suc p))) (b.configuration r p == b.configuration r (suc p)) (is_past_half b r p) e (elim d [ inl ne ↦ inl (ne_eqb (b.configuration r p) (b.configuration r (suc p)) ne) | inr x ↦ inr x ])

half_begin : (b : Behaviour) (r p : ℕ) → is_take (b.action r p) ≡ false → ((m : ℕ) → suc m ≡ p → b.configuration r m ≢ b.configuration r p) → is_past_half b r p ≡ false
half_begin b r zero e h = e
half_begin b r (suc p) e h = half_step b r p e (inl (h p refl))

-- the place before a configuration begins is of another
before_begin : (t : Trace) (r n m : ℕ) (a : Action) → n < t.count → nth (t.actions n r) 0 ≡ Some a → suc m ≡ start t r n + 0 → Place t r m → (behaviour_of t).configuration r m ≢ n
before_begin t r n m a lt here e (inside n2 k2 a2 lt2 at here2 is is2) same =
    let x = before_next t r n2 k2 m a2 at here2 in
    let eq : n2 ≡ n = sym is2 ∙ same in
    let s : start t r n2 ≡ start t r n = ap (start t r) eq in
    omega (arith, e, at, s)
before_begin t r n m a lt here e (behind le is is2) same = let x = is2 in omega (arith, lt, x, same)

pub first_half : (t : Trace) (r n k : ℕ) → n < t.count → k < length (t.actions n r) → ((j : ℕ) (a : Action) → j ≤ k → nth (t.actions n r) j ≡ Some a → is_take a ≡ false) → is_past_half (behaviour_of t) r (start t r n + k) ≡ false
first_half t r n zero lt le h =
    let b = behaviour_of t in
    let x = nth_some (t.actions n r) 0 le in
    half_begin b r (start t r n + 0) (ap is_take (action_at t r n 0 x.element lt x.is) ∙ h 0 x.element (omega arith) x.is)
    (λ m e same. before_begin t r n m x.element lt x.is e (place_of t r m) (same ∙ configuration_at t r n 0 x.element lt x.is))
first_half t r n (suc k) lt le h =
    let b = behaviour_of t in
    let x = nth_some (t.actions n r) (suc k) le in
    let p : start t r n + suc k ≡ suc (start t r n + k) = omega arith in
    let act : is_take (b.action r (start t r n + suc k)) ≡ false = ap is_take (action_at t r n (suc k) x.element lt x.is) ∙ h (suc k) x.element (omega arith) x.is in
    let rec = first_half t r n k lt (omega (arith, le)) (λ j a m e. h j a (omega (arith, m)) e) in
    subst (λ (z : ℕ). is_past_half b r z ≡ false) (sym p) (half_step b r (start t r n + k) (subst (λ (z : ℕ). is_take (b.action r z) ≡ false) p act) (inr rec))

pub first_half_of : (t : Trace) (r n k : ℕ) → n < t.count → k < length (t.actions n r) → TakesNothing (front (suc k) (t.actions n r)) → is_past_half (behaviour_of t) r (start t r n + k) ≡ false
first_half_of t r n k lt le h = first_half t r n k lt le (λ j a m e. h j a (front_nth (t.actions n r) (suc k) j a (omega (arith, m)) e))
