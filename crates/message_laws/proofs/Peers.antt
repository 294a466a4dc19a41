-- Counts over what is done for each other rank.
use Rattle.std.proofs.Common.{◌≡◌, ℕ, zero, suc, ◌+◌, ◌<◌, ◌≤◌, ◌==◌, Bool, List, [], ◌∷◌, ◌++◌, length, ◌⊎◌, inl, inr, refl, sym, ◌∙◌, ap, arith, if◌then◌else◌}
use Rattle.std.proofs.lemmas.Bool.{cases_eq, eq-eqb, ne_eqb}
use Rattle.std.specs.Prelude.{Some, ◌≢◌}
use Rattle.mailbox_book.specs.declared.message.Message.{Message}
use Rattle.message_laws.specs.Behaviour.{Action, Act, Post, Take, Fail, End, posted_by, of_tag, tag_in}
use Rattle.message_laws.specs.Traces.{nth, sent, got, front}
use Rattle.message_laws.specs.Protocol.{each}
use Rattle.message_laws.proofs.Ways.{some_not_none}

-- a count of actions: sent or got
pub record Count : Type 0 where
  pub of : List Action → ℕ
  pub none : of [] ≡ 0
  pub join : (xs ys : List Action) → of (xs ++ ys) ≡ of xs + of ys

pub sent_append : (r tag : ℕ) (xs ys : List Action) → sent r tag (xs ++ ys) ≡ sent r tag xs + sent r tag ys
sent_append r tag [] ys = omega arith
sent_append r tag (x ∷ xs) ys = let e = sent_append r tag xs ys in omega (arith, e)

pub got_append : (q tag : ℕ) (xs ys : List Action) → got q tag (xs ++ ys) ≡ got q tag xs + got q tag ys
got_append q tag [] ys = omega arith
got_append q tag (x ∷ xs) ys = let e = got_append q tag xs ys in omega (arith, e)

abbrev pub count_sent : ℕ → ℕ → Count
count_sent r tag = record { of = sent r tag; none = refl; join = sent_append r tag }

abbrev pub count_got : ℕ → ℕ → Count
count_got q tag = record { of = got q tag; none = refl; join = got_append q tag }

-- where only what is done for rank r counts, it counts once, if r is one of the others
each_none : (c : Count) (q n r : ℕ) (f : ℕ → List Action) → ((p : ℕ) → p ≢ r → c.of (f p) ≡ 0) → (n ≤ r) ⊎ (r ≡ q) → c.of (each q n f) ≡ 0
each_none c q zero r f h d = c.none
each_none c q (suc n) r f h d =
    let rec = each_none c q n r f h (elim d [ inl le ↦ inl (omega (arith, le)) | inr e ↦ inr e ]) in
    let step : c.of (if n == q then [] else f n) ≡ 0 = elim (cases_eq n q) [
      | inl e ↦ ap (λ (t : Bool). c.of (if t then [] else f n)) (eq-eqb n q e) ∙ c.none
      | inr ne ↦ ap (λ (t : Bool). c.of (if t then [] else f n)) (ne_eqb n q ne) ∙ h n (other d ne)
    ] in
    let j = c.join (each q n f) (if n == q then [] else f n) in
    omega (arith, rec, step, j)
  where
    other : (suc n ≤ r) ⊎ (r ≡ q) → n ≢ q → n ≢ r
    other d ne e = elim d [ inl le ↦ absurd (omega (arith, le, e)) | inr z ↦ ne (e ∙ z) ]

pub each_self : (c : Count) (q n : ℕ) (f : ℕ → List Action) → ((p : ℕ) → p ≢ q → c.of (f p) ≡ 0) → c.of (each q n f) ≡ 0
each_self c q n f h = each_none c q n q f h (inr refl)

pub each_other : (c : Count) (q n r : ℕ) (f : ℕ → List Action) → ((p : ℕ) → p ≢ r → c.of (f p) ≡ 0) → r < n → r ≢ q → c.of (each q n f) ≡ c.of (f r)
each_other c q zero r f h lt ne = absurd (omega (arith, lt))
each_other c q (suc n) r f h lt ne =
    let j = c.join (each q n f) (if n == q then [] else f n) in
    elim (cases_eq n r) [
      | inl same ↦ (
          let rest = each_none c q n r f h (inl (omega (arith, same))) in
          let off : n ≢ q = λ e. ne (sym same ∙ e) in
          let here : c.of (if n == q then [] else f n) ≡ c.of (f r) = ap (λ (t : Bool). c.of (if t then [] else f n)) (ne_eqb n q off) ∙ ap (λ (z : ℕ). c.of (f z)) same in
          omega (arith, j, rest, here))
      | inr far ↦ (
          let rec = each_other c q n r f h (omega (arith, lt, far)) ne in
          let here : c.of (if n == q then [] else f n) ≡ 0 = elim (cases_eq n q) [
            | inl e ↦ ap (λ (t : Bool). c.of (if t then [] else f n)) (eq-eqb n q e) ∙ c.none
            | inr nq ↦ ap (λ (t : Bool). c.of (if t then [] else f n)) (ne_eqb n q nq) ∙ h n far
          ] in
          omega (arith, j, rec, here))
    ]

-- an action that is done for each other rank is done for one of them
pub record OfPeer (q n : ℕ) (f : ℕ → List Action) (a : Action) : Type 0 where
  pub peer : ℕ
  pub below : peer < n
  pub other : peer ≢ q
  pub index : ℕ
  pub is : nth (f peer) index ≡ Some a

-- an element of a joined list is of one of the two
pub record Split (xs ys : List Action) (k : ℕ) (a : Action) : Type 0 where
  pub either : ((k < length xs) × (nth xs k ≡ Some a)) ⊎ ((j : ℕ) × (nth ys j ≡ Some a))

pub split : (xs ys : List Action) (k : ℕ) (a : Action) → nth (xs ++ ys) k ≡ Some a → Split xs ys k a
split [] ys k a e = record { either = inr (k, e) }
split (x ∷ xs) ys zero a e = record { either = inl (omega arith, e) }
split (x ∷ xs) ys (suc k) a e = elim (split xs ys k a e).either [
  | inl z ↦ record { either = inl ((let lt = z.0 in omega (arith, lt)), z.1) }
  | inr z ↦ record { either = inr z }
]

pub of_peer : (q n k : ℕ) (f : ℕ → List Action) (a : Action) → nth (each q n f) k ≡ Some a → OfPeer q n f a
of_peer q zero k f a e = absurd (some_not_none (sym e))
of_peer q (suc n) k f a e = elim (split (each q n f) (if n == q then [] else f n) k a e).either [
  | inl z ↦ (let p = of_peer q n k f a z.1 in let lt = p.below in record { peer = p.peer; below = omega (arith, lt); other = p.other; index = p.index; is = p.is })
  | inr z ↦ elim (cases_eq n q) [
    | inl same ↦ absurd (some_not_none (sym z.1 ∙ ap (λ (t : Bool). nth (if t then [] else f n) z.0) (eq-eqb n q same)))
    | inr ne ↦ record { peer = n; below = omega arith; other = ne; index = z.0; is = ap (λ (t : Bool). nth (if t then [] else f n) z.0) (sym (ne_eqb n q ne)) ∙ z.1 }
  ]
]

-- ---- the first of its kind

sent_front_le : (r tag k : ℕ) (xs : List Action) → sent r tag (front k xs) ≤ sent r tag xs
sent_front_le r tag zero xs = omega arith
sent_front_le r tag (suc k) [] = omega arith
sent_front_le r tag (suc k) (x ∷ xs) = let e = sent_front_le r tag k xs in omega (arith, e)

pub got_front_le : (q tag k : ℕ) (xs : List Action) → got q tag (front k xs) ≤ got q tag xs
got_front_le q tag zero xs = omega arith
got_front_le q tag (suc k) [] = omega arith
got_front_le q tag (suc k) (x ∷ xs) = let e = got_front_le q tag k xs in omega (arith, e)

-- where some actions post once, there is the post, and none before it
pub record FirstPost (r tag : ℕ) (xs : List Action) : Type 0 where
  pub index : ℕ
  pub message : Message
  pub is : nth xs index ≡ Some (Post r message)
  pub tagged : tag_in message ≡ tag
  pub none : sent r tag (front index xs) ≡ 0

post_or : (r tag : ℕ) (a : Action) → (of_tag tag (posted_by a r) ≡ 0) ⊎ ((m : Message) × (a ≡ Post r m) × ((tag_in m) ≡ tag))
post_or r tag (Act lines) = inl refl
post_or r tag (Take from g) = inl refl
post_or r tag (Fail f) = inl refl
post_or r tag End = inl refl
post_or r tag (Post to m) = elim (cases_eq to r) [
  | inr ne ↦ inl (rw (ne_eqb to r ne) refl)
  | inl e ↦ elim (cases_eq (tag_in m) tag) [
    | inl g ↦ inr (m, ap (λ (z : ℕ). Post z m) e, g)
    | inr ne ↦ inl (rw (eq-eqb to r e, ne_eqb (tag_in m) tag ne) refl)
  ]
]

pub first_post : (r tag : ℕ) (xs : List Action) → 0 < sent r tag xs → FirstPost r tag xs
first_post r tag [] lt = absurd (omega (arith, lt))
first_post r tag (x ∷ xs) lt = elim (post_or r tag x) [
  | inr p ↦ record { index = 0; message = p.0; is = ap Some p.1; tagged = p.2; none = refl }
  | inl z ↦ (
      let f = first_post r tag xs (omega (arith, lt, z)) in
      let n = f.none in
      record { index = suc f.index; message = f.message; is = f.is; tagged = f.tagged; none = omega (arith, z, n) })
]
