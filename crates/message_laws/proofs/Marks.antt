-- A box after a post and after a take.
use Rattle.std.proofs.Common.{◌≡◌, ℕ, zero, suc, ◌-◌, ◌<◌, ◌≤◌, ◌==◌, ℤ, Bool, true, false, ◌&&◌, List, [], ◌∷◌, ◌++◌, length, map, inl, inr, refl, sym, ◌∙◌, ap, subst, arith, cond, if◌then◌else◌, ap₂}
use Rattle.std.proofs.lemmas.Bool.{cases_eq, cases_lt, eq-eqb, ne_eqb, lt-ltb, le-ltb}
use Rattle.std.proofs.lemmas.List.{append-nil}
use Rattle.std.proofs.lemmas.List.Sums.{sum_by-cons}
use Rattle.std.specs.Prelude.{Some, None, is_some, nat_lt, count_by}
use Rattle.mailbox_book.specs.declared.message.Header.{Header}
use Rattle.mailbox_book.specs.declared.message.Message.{Message}
use Rattle.message_laws.specs.Behaviour.{Behaviour, Action, Post, Take, posted, posted_by, posts, taken, taken_by, takes, of_tag, tag_in}
use Rattle.mailbox_book.specs.Boxes.{Entry, header_of, headers_of, tag_of, spent, is_fresh, without_first, first_of}
use Rattle.message_laws.specs.Boxes.{new_entry, entry_at, one_less, marked, message_at, box_of, Fits}
use Rattle.message_laws.proofs.Basics.{takes_one, takes_else}

abbrev one_more : ℕ → (ℕ → ℕ) → ℕ → ℕ
one_more tag left x = if x == tag then suc (left x) else left x

marked_same : (l k : ℕ → ℕ) (ms : List Message) → ((t : ℕ) → l t ≡ k t) → marked l ms ≡ marked k ms
marked_same l k ms h = ap (λ (f : ℕ → ℕ). marked f ms) (λ i t. h t i)

less_at : (t : ℕ) (l : ℕ → ℕ) → one_less t l t ≡ l t - 1
less_at t l = rw (eq-eqb t t refl) refl

less_off : (t x : ℕ) (l : ℕ → ℕ) → (x ≡ t → ⊥) → one_less t l x ≡ l x
less_off t x l ne = rw (ne_eqb x t ne) refl

more_at : (t : ℕ) (l : ℕ → ℕ) → one_more t l t ≡ suc (l t)
more_at t l = rw (eq-eqb t t refl) refl

more_off : (t x : ℕ) (l : ℕ → ℕ) → (x ≡ t → ⊥) → one_more t l x ≡ l x
more_off t x l ne = rw (ne_eqb x t ne) refl

-- the counts after one more was taken and passed
less_more : (t x : ℕ) (l : ℕ → ℕ) → one_less t (one_more t l) x ≡ l x
less_more t x l = elim (cases_eq x t) [
  | inl e ↦ subst (λ (z : ℕ). one_less t (one_more t l) z ≡ l z) (sym e) (let a = less_at t (one_more t l) in let c = more_at t l in omega (arith, a, c))
  | inr ne ↦ less_off t x (one_more t l) ne ∙ more_off t x l ne
]

-- counts of two tags don't meet
less_more_off : (t u x : ℕ) (l : ℕ → ℕ) → (u ≡ t → ⊥) → one_less u (one_more t l) x ≡ one_more t (one_less u l) x
less_more_off t u x l ne = elim (cases_eq x t) [
  | inl e ↦ subst (λ (z : ℕ). one_less u (one_more t l) z ≡ one_more t (one_less u l) z) (sym e)
      (less_off u t (one_more t l) (λ z. ne (sym z)) ∙ (more_at t l ∙ sym (more_at t (one_less u l) ∙ ap suc (less_off u t l (λ z. ne (sym z))))))
  | inr off ↦ sym (more_off t x (one_less u l) off ∙ elim (cases_eq x u) [
    | inl e ↦ subst (λ (z : ℕ). one_less u l z ≡ one_less u (one_more t l) z) (sym e) (less_at u l ∙ sym (less_at u (one_more t l) ∙ ap (λ (n : ℕ). n - 1) (more_off t u l ne)))
    | inr far ↦ less_off u x l far ∙ sym (less_off u x (one_more t l) far ∙ more_off t x l off)
  ])
]

less_zero : (t x : ℕ) (l : ℕ → ℕ) → l t ≡ 0 → one_less t l x ≡ l x
less_zero t x l e = elim (cases_eq x t) [
  | inl z ↦ subst (λ (y : ℕ). one_less t l y ≡ l y) (sym z) (let a = less_at t l in omega (arith, a, e))
  | inr ne ↦ less_off t x l ne
]

more_less : (t x n : ℕ) (l : ℕ → ℕ) → l t ≡ suc n → one_more t (one_less t l) x ≡ l x
more_less t x n l e = elim (cases_eq x t) [
  | inl z ↦ subst (λ (y : ℕ). one_more t (one_less t l) y ≡ l y) (sym z) (let a = more_at t (one_less t l) in let c = less_at t l in omega (arith, a, c, e))
  | inr ne ↦ more_off t x (one_less t l) ne ∙ less_off t x l ne
]

-- ---- one more message

of_tag_at : (x : Message) (ms : List Message) (t : ℕ) → (tag_in x) ≡ t → of_tag t (x ∷ ms) ≡ suc (of_tag t ms)
of_tag_at x ms t e = sum_by-cons (λ (m : Message). cond ((tag_in m) == t) 1 0) x ms ∙ rw (eq-eqb (tag_in x) t e) (omega arith)

of_tag_off : (x : Message) (ms : List Message) (t : ℕ) → ((tag_in x) ≡ t → ⊥) → of_tag t (x ∷ ms) ≡ of_tag t ms
of_tag_off x ms t ne = rw (ne_eqb (tag_in x) t ne) (omega arith)

passed_few : (x m : Message) (ms : List Message) (left : ℕ → ℕ) → left (tag_in m) ≤ of_tag (tag_in m) (x ∷ ms) → one_less (tag_in x) left (tag_in m) ≤ of_tag (tag_in m) ms
passed_few x m ms left le = elim (cases_eq (tag_in x) (tag_in m)) [
  | inl e ↦ (
      let a = of_tag_at x ms (tag_in m) e in
      let c : one_less (tag_in x) left (tag_in m) ≡ left (tag_in m) - 1 = subst (λ (z : ℕ). one_less z left (tag_in m) ≡ left (tag_in m) - 1) (sym e) (less_at (tag_in m) left) in
      omega (arith, a, c, le))
  | inr ne ↦ (let a = of_tag_off x ms (tag_in m) ne in let c = less_off (tag_in x) (tag_in m) left (λ z. ne (sym z)) in omega (arith, a, c, le))
]

-- a message that is posted isn't taken
marked_post : (left : ℕ → ℕ) (ms : List Message) (m : Message) → left (tag_in m) ≤ of_tag (tag_in m) ms → marked left (ms ++ m ∷ []) ≡ marked left ms ++ new_entry m ∷ []
marked_post left [] m le = ap (λ (n : ℕ). entry_at n m ∷ []) (zero_of le)
  where
    zero_of : {n : ℕ} → n ≤ 0 → n ≡ 0
    zero_of le = omega (arith, le)
marked_post left (x ∷ ms) m le = ap (λ (ss : List Entry). entry_at (left (tag_in x)) x ∷ ss) (marked_post (one_less (tag_in x) left) ms m (passed_few x m ms left le))

-- ---- one more taken

entry_tag : (n : ℕ) (m : Message) → (entry_at n m).tag ≡ (tag_in m)
entry_tag zero m = refl
entry_tag (suc n) m = refl

fresh_off : (t n : ℕ) (x : Message) → ((tag_in x) ≡ t → ⊥) → is_fresh t (entry_at n x) ≡ false
fresh_off t n x ne = ap (λ (b : Bool). b && is_some (entry_at n x).numbers) (ap (λ (z : ℕ). z == t) (entry_tag n x) ∙ ne_eqb (tag_in x) t ne)

fresh_at : (t : ℕ) (x : Message) → (tag_in x) ≡ t → is_fresh t (entry_at 0 x) ≡ true
fresh_at t x e = ap (λ (b : Bool). b && true) (eq-eqb (tag_in x) t e)

spent_at : (t n : ℕ) (x : Message) → is_fresh t (entry_at (suc n) x) ≡ false
spent_at t n x = off ((tag_in x) == t)
  where
    off : (b : Bool) → (b && false) ≡ false
    off true = refl
    off false = refl

first_step : (t : ℕ) (s : Entry) (ss : List Entry) → is_fresh t s ≡ true → without_first t (s ∷ ss) ≡ spent s ∷ ss
first_step t s ss e = rw e refl

later_step : (t : ℕ) (s : Entry) (ss : List Entry) → is_fresh t s ≡ false → without_first t (s ∷ ss) ≡ s ∷ without_first t ss
later_step t s ss e = rw e refl

abbrev Taken : ℕ → (ℕ → ℕ) → List Message → Type 0
Taken t left ms = left t < of_tag t ms → marked (one_more t left) ms ≡ without_first t (marked left ms)

take_off : (t : ℕ) (left : ℕ → ℕ) (x : Message) (ms : List Message) → ((tag_in x) ≡ t → ⊥) → Taken t (one_less (tag_in x) left) ms → Taken t left (x ∷ ms)
take_off t left x ms ne rec lt =
    let a = of_tag_off x ms t ne in
    let c = less_off (tag_in x) t left (λ z. ne (sym z)) in
    let tail : marked (one_less (tag_in x) (one_more t left)) ms ≡ without_first t (marked (one_less (tag_in x) left) ms) =
    marked_same (one_less (tag_in x) (one_more t left)) (one_more t (one_less (tag_in x) left)) ms (λ y. less_more_off t (tag_in x) y left ne) ∙ rec (omega (arith, a, c, lt)) in
    let head : entry_at (one_more t left (tag_in x)) x ≡ entry_at (left (tag_in x)) x = ap (λ (n : ℕ). entry_at n x) (more_off t (tag_in x) left ne) in
    ap (λ (s : Entry). s ∷ marked (one_less (tag_in x) (one_more t left)) ms) head
    ∙ (ap (λ (ss : List Entry). entry_at (left (tag_in x)) x ∷ ss) tail
    ∙ sym (later_step t (entry_at (left (tag_in x)) x) (marked (one_less (tag_in x) left) ms) (fresh_off t (left (tag_in x)) x ne)))

take_at_tag : (left : ℕ → ℕ) (x : Message) (ms : List Message) (n : ℕ) → left (tag_in x) ≡ n → Taken (tag_in x) (one_less (tag_in x) left) ms → Taken (tag_in x) left (x ∷ ms)
take_at_tag left x ms zero e rec lt =
    let t = (tag_in x) in
    let head : entry_at (one_more t left t) x ≡ spent (new_entry x) = ap (λ (n : ℕ). entry_at n x) (more_at t left) in
    let tail : marked (one_less t (one_more t left)) ms ≡ marked (one_less t left) ms = marked_same _ _ ms (λ y. less_more t y left ∙ sym (less_zero t y left e)) in
    let was : entry_at (left t) x ≡ new_entry x = ap (λ (n : ℕ). entry_at n x) e in
    ap (λ (s : Entry). s ∷ marked (one_less t (one_more t left)) ms) head
    ∙ (ap (λ (ss : List Entry). spent (new_entry x) ∷ ss) tail
    ∙ (sym (first_step t (new_entry x) (marked (one_less t left) ms) (fresh_at t x refl))
    ∙ ap (λ (s : Entry). without_first t (s ∷ marked (one_less t left) ms)) (sym was)))
take_at_tag left x ms (suc n) e rec lt =
    let t = (tag_in x) in
    let a = of_tag_at x ms t refl in
    let c = less_at t left in
    let head : entry_at (one_more t left t) x ≡ spent (new_entry x) = ap (λ (n : ℕ). entry_at n x) (more_at t left) in
    let tail : marked (one_less t (one_more t left)) ms ≡ without_first t (marked (one_less t left) ms) =
    marked_same _ (one_more t (one_less t left)) ms (λ y. less_more t y left ∙ sym (more_less t y n left e)) ∙ rec (omega (arith, a, c, e, lt)) in
    let was : entry_at (left t) x ≡ spent (new_entry x) = ap (λ (n : ℕ). entry_at n x) e in
    ap (λ (s : Entry). s ∷ marked (one_less t (one_more t left)) ms) head
    ∙ (ap (λ (ss : List Entry). spent (new_entry x) ∷ ss) tail
    ∙ (sym (later_step t (spent (new_entry x)) (marked (one_less t left) ms) (spent_at t n x))
    ∙ ap (λ (s : Entry). without_first t (s ∷ marked (one_less t left) ms)) (sym was)))

marked_take : (t : ℕ) (left : ℕ → ℕ) (ms : List Message) → left t < of_tag t ms → marked (one_more t left) ms ≡ without_first t (marked left ms)
marked_take t left [] lt = absurd (omega (arith, lt))
marked_take t left (x ∷ ms) lt = elim (cases_eq (tag_in x) t) [
  | inr ne ↦ take_off t left x ms ne (marked_take t (one_less (tag_in x) left) ms) lt
  | inl e ↦ subst (λ (z : ℕ). left z < of_tag z (x ∷ ms) → marked (one_more z left) (x ∷ ms) ≡ without_first z (marked left (x ∷ ms))) e
      (take_at_tag left x ms (left (tag_in x)) refl (subst (λ (z : ℕ). Taken z (one_less (tag_in x) left) ms) (sym e) (marked_take t (one_less (tag_in x) left) ms))) lt
]

-- ---- the first message that isn't taken

at_skip : (t n : ℕ) (x : Message) (ms : List Message) → ((tag_in x) ≡ t → ⊥) → message_at t n (x ∷ ms) ≡ message_at t n ms
at_skip t zero x ms ne = rw (ne_eqb (tag_in x) t ne) refl
at_skip t (suc n) x ms ne = rw (ne_eqb (tag_in x) t ne) refl

at_zero : (t : ℕ) (x : Message) (ms : List Message) → (tag_in x) ≡ t → message_at t 0 (x ∷ ms) ≡ Some x.numbers
at_zero t x ms e = rw (eq-eqb (tag_in x) t e) refl

at_suc : (t n : ℕ) (x : Message) (ms : List Message) → (tag_in x) ≡ t → message_at t (suc n) (x ∷ ms) ≡ message_at t n ms
at_suc t n x ms e = rw (eq-eqb (tag_in x) t e) refl

first_here : (t : ℕ) (s : Entry) (ss : List Entry) → is_fresh t s ≡ true → first_of t (s ∷ ss) ≡ s.numbers
first_here t s ss e = rw e refl

first_later : (t : ℕ) (s : Entry) (ss : List Entry) → is_fresh t s ≡ false → first_of t (s ∷ ss) ≡ first_of t ss
first_later t s ss e = rw e refl

first_tag : (left : ℕ → ℕ) (x : Message) (ms : List Message) (n : ℕ) → left (tag_in x) ≡ n → first_of (tag_in x) (marked (one_less (tag_in x) left) ms) ≡ message_at (tag_in x) (one_less (tag_in x) left (tag_in x)) ms → first_of (tag_in x) (entry_at n x ∷ marked (one_less (tag_in x) left) ms) ≡ message_at (tag_in x) n (x ∷ ms)
first_tag left x ms zero e rec = first_here (tag_in x) (new_entry x) (marked (one_less (tag_in x) left) ms) (fresh_at (tag_in x) x refl) ∙ sym (at_zero (tag_in x) x ms refl)
first_tag left x ms (suc n) e rec =
    let c = less_at (tag_in x) left in
    let d : one_less (tag_in x) left (tag_in x) ≡ n = omega (arith, c, e) in
    first_later (tag_in x) (spent (new_entry x)) (marked (one_less (tag_in x) left) ms) (spent_at (tag_in x) n x) ∙ (rec ∙ (ap (λ (z : ℕ). message_at (tag_in x) z ms) d ∙ sym (at_suc (tag_in x) n x ms refl)))

-- the earliest message of a tag that isn't taken is the one behind those taken
pub first_marked : (t : ℕ) (left : ℕ → ℕ) (ms : List Message) → first_of t (marked left ms) ≡ message_at t (left t) ms
first_marked t left [] = refl
first_marked t left (x ∷ ms) = elim (cases_eq (tag_in x) t) [
  | inr ne ↦ first_later t (entry_at (left (tag_in x)) x) (marked (one_less (tag_in x) left) ms) (fresh_off t (left (tag_in x)) x ne)
      ∙ (first_marked t (one_less (tag_in x) left) ms ∙ (ap (λ (z : ℕ). message_at t z ms) (less_off (tag_in x) t left (λ z. ne (sym z))) ∙ sym (at_skip t (left t) x ms ne)))
  | inl e ↦ subst (λ (z : ℕ). first_of z (marked left (x ∷ ms)) ≡ message_at z (left z) (x ∷ ms)) e
      (first_tag left x ms (left (tag_in x)) refl (subst (λ (z : ℕ). first_of z (marked (one_less (tag_in x) left) ms) ≡ message_at z (one_less (tag_in x) left z) ms) (sym e) (first_marked t (one_less (tag_in x) left) ms)))
]

lt_suc : (n k : ℕ) → nat_lt n k ≡ nat_lt (suc n) (suc k)
lt_suc n k = elim (cases_lt n k) [
  | inl lt ↦ lt-ltb n k lt ∙ sym (lt-ltb (suc n) (suc k) (omega (arith, lt)))
  | inr le ↦ le-ltb n k le ∙ sym (le-ltb (suc n) (suc k) (omega (arith, le)))
]

some_here : (t n : ℕ) (x : Message) (ms : List Message) → (tag_in x) ≡ t → ((k : ℕ) → is_some (message_at t k ms) ≡ nat_lt k (of_tag t ms)) → is_some (message_at t n (x ∷ ms)) ≡ nat_lt n (of_tag t (x ∷ ms))
some_here t zero x ms e rec = ap is_some (at_zero t x ms e) ∙ sym (lt-ltb 0 (of_tag t (x ∷ ms)) (let a = of_tag_at x ms t e in omega (arith, a)))
some_here t (suc n) x ms e rec = ap is_some (at_suc t n x ms e) ∙ (rec n ∙ (lt_suc n (of_tag t ms) ∙ ap (nat_lt (suc n)) (sym (of_tag_at x ms t e))))

-- a message of a number is there exactly where there are more of its tag
pub some_at : (t n : ℕ) (ms : List Message) → is_some (message_at t n ms) ≡ nat_lt n (of_tag t ms)
some_at t n [] = sym (le-ltb n 0 (omega arith))
some_at t n (x ∷ ms) = elim (cases_eq (tag_in x) t) [
  | inr ne ↦ ap is_some (at_skip t n x ms ne) ∙ (some_at t n ms ∙ ap (nat_lt n) (sym (of_tag_off x ms t ne)))
  | inl e ↦ some_here t n x ms e (λ k. some_at t k ms)
]

-- ---- which message

-- the message behind some is the one of their number
at_next : (ms : List Message) (m : Message) → message_at (tag_in m) (of_tag (tag_in m) ms) (ms ++ m ∷ []) ≡ Some m.numbers
at_next [] m = at_zero (tag_in m) m [] refl
at_next (x ∷ ms) m = elim (cases_eq (tag_in x) (tag_in m)) [
  | inr ne ↦ ap (λ (n : ℕ). message_at (tag_in m) n (x ∷ (ms ++ m ∷ []))) (of_tag_off x ms (tag_in m) ne) ∙ (at_skip (tag_in m) (of_tag (tag_in m) ms) x (ms ++ m ∷ []) ne ∙ at_next ms m)
  | inl e ↦ ap (λ (n : ℕ). message_at (tag_in m) n (x ∷ (ms ++ m ∷ []))) (of_tag_at x ms (tag_in m) e) ∙ (at_suc (tag_in m) (of_tag (tag_in m) ms) x (ms ++ m ∷ []) e ∙ at_next ms m)
]

stays_at : (t n : ℕ) (x : Message) (ms more : List Message) (v : List ℤ) → (tag_in x) ≡ t → ((k : ℕ) → message_at t k ms ≡ Some v → message_at t k (ms ++ more) ≡ Some v) → message_at t n (x ∷ ms) ≡ Some v → message_at t n (x ∷ (ms ++ more)) ≡ Some v
stays_at t zero x ms more v e rec h = at_zero t x (ms ++ more) e ∙ (sym (at_zero t x ms e) ∙ h)
stays_at t (suc n) x ms more v e rec h = at_suc t n x (ms ++ more) e ∙ rec n (sym (at_suc t n x ms e) ∙ h)

-- more messages behind leave it
at_stays : (t n : ℕ) (ms more : List Message) (v : List ℤ) → message_at t n ms ≡ Some v → message_at t n (ms ++ more) ≡ Some v
at_stays t n [] more v h = absurd (none_some h)
  where
    none_some : None ≡ Some v → ⊥
    none_some e = let z : false ≡ true = ap is_some e in absurd (cc)
at_stays t n (x ∷ ms) more v h = elim (cases_eq (tag_in x) t) [
  | inr ne ↦ at_skip t n x (ms ++ more) ne ∙ at_stays t n ms more v (sym (at_skip t n x ms ne) ∙ h)
  | inl e ↦ stays_at t n x ms more v e (λ k. at_stays t k ms more v) h
]

posted_here : (b : Behaviour) (q r p : ℕ) (m : Message) → b.action q p ≡ Post r m → posted b q r (suc p) ≡ posted b q r p ++ m ∷ []
posted_here b q r p m e = ap (λ (a : Action). posted b q r p ++ posted_by a r) e ∙ ap (λ (ms : List Message). posted b q r p ++ ms) (rw (eq-eqb r r refl) refl)

posted_number : (b : Behaviour) (q r p : ℕ) (m : Message) → b.action q p ≡ Post r m → (k : ℕ) → p < k → message_at (tag_in m) (posts b q r (tag_in m) p) (posted b q r k) ≡ Some m.numbers
posted_number b q r p m e zero lt = absurd (omega (arith, lt))
posted_number b q r p m e (suc k) lt = elim (cases_eq p k) [
  | inl same ↦ subst (λ (z : ℕ). message_at (tag_in m) (posts b q r (tag_in m) p) (posted b q r (suc z)) ≡ Some m.numbers) same
      (ap (message_at (tag_in m) (posts b q r (tag_in m) p)) (posted_here b q r p m e) ∙ at_next (posted b q r p) m)
  | inr ne ↦ at_stays (tag_in m) (posts b q r (tag_in m) p) (posted b q r k) (posted_by (b.action q k) r) m.numbers (posted_number b q r p m e k (omega (arith, lt, ne)))
]

-- ---- the box of two ranks, after a step of one of them

pub box_post : (b : Behaviour) (q r i j : ℕ) (m : Message) → b.action q i ≡ Post r m → Fits b q r i j → box_of b q r (suc i) j ≡ box_of b q r i j ++ new_entry m ∷ []
box_post b q r i j m e f = ap (marked (λ t. takes b q r t j)) (posted_here b q r i m e) ∙ marked_post (λ t. takes b q r t j) (posted b q r i) m (f (tag_in m))

pub box_no_post : (b : Behaviour) (q r i j : ℕ) → posted_by (b.action q i) r ≡ [] → box_of b q r (suc i) j ≡ box_of b q r i j
box_no_post b q r i j e = ap (λ (ms : List Message). marked (λ t. takes b q r t j) (posted b q r i ++ ms)) e ∙ ap (marked (λ t. takes b q r t j)) (append-nil (posted b q r i))

takes_next : (b : Behaviour) (q r t j x : ℕ) → b.action r j ≡ Take q t → takes b q r x (suc j) ≡ one_more t (λ y. takes b q r y j) x
takes_next b q r t j x e = elim (cases_eq t x) [
  | inl same ↦ subst (λ (z : ℕ). takes b q r z (suc j) ≡ one_more t (λ y. takes b q r y j) z) same (takes_one b q r t j e ∙ sym (more_at t (λ y. takes b q r y j)))
  | inr ne ↦ takes_else b q r t x j e ne ∙ sym (more_off t x (λ y. takes b q r y j) (λ z. ne (sym z)))
]

pub box_take : (b : Behaviour) (q r i j t : ℕ) → b.action r j ≡ Take q t → takes b q r t j < posts b q r t i → box_of b q r i (suc j) ≡ without_first t (box_of b q r i j)
box_take b q r i j t e lt = marked_same (λ x. takes b q r x (suc j)) (one_more t (λ x. takes b q r x j)) (posted b q r i) (λ x. takes_next b q r t j x e) ∙ marked_take t (λ x. takes b q r x j) (posted b q r i) lt

pub box_no_take : (b : Behaviour) (q r i j : ℕ) → taken_by (b.action r j) q ≡ [] → box_of b q r i (suc j) ≡ box_of b q r i j
box_no_take b q r i j e = marked_same (λ x. takes b q r x (suc j)) (λ x. takes b q r x j) (posted b q r i) (λ x. ap (λ (ts : List ℕ). count_by (λ o. o == x) (taken b q r j ++ ts)) e ∙ ap (λ (ts : List ℕ). count_by (λ o. o == x) ts) (append-nil (taken b q r j)))

-- a message of the tag is in the box exactly where more were posted than taken
pub box_has : (b : Behaviour) (q r i j t : ℕ) → is_some (first_of t (box_of b q r i j)) ≡ nat_lt (takes b q r t j) (posts b q r t i)
box_has b q r i j t = ap is_some (first_marked t (λ x. takes b q r x j) (posted b q r i)) ∙ some_at t (takes b q r t j) (posted b q r i)

-- and it is the message that was posted with that number
pub box_gives : (b : Behaviour) (q r i j p t : ℕ) (m : Message) → b.action q p ≡ Post r m → (tag_in m) ≡ t → posts b q r t p ≡ takes b q r t j → p < i → first_of t (box_of b q r i j) ≡ Some m.numbers
box_gives b q r i j p t m e tagged number lt =
    first_marked t (λ x. takes b q r x j) (posted b q r i)
    ∙ (ap (λ (n : ℕ). message_at t n (posted b q r i)) (sym number)
    ∙ subst (λ (z : ℕ). message_at z (posts b q r z p) (posted b q r i) ≡ Some m.numbers) tagged (posted_number b q r p m e i lt))

-- ---- headers

entry_count : (n : ℕ) (m : Message) → (entry_at n m).count ≡ length m.numbers
entry_count zero m = refl
entry_count (suc n) m = refl

-- a box lists every message ever posted
abbrev the_header : ℕ → ℕ → Header
the_header tag count = record { tag = tag_of tag; count = count }

pub box_headers : (left : ℕ → ℕ) (ms : List Message) → headers_of (marked left ms) ≡ map (λ (m : Message). header_of (new_entry m)) ms
box_headers left [] = refl
box_headers left (x ∷ ms) =
    let h : header_of (entry_at (left (tag_in x)) x) ≡ header_of (new_entry x) = ap₂ (λ (t : ℕ) (n : ℕ). the_header t n) (entry_tag (left (tag_in x)) x) (entry_count (left (tag_in x)) x) in
    ap₂ (λ (s : Header) (ss : List Header). s ∷ ss) h (box_headers (one_less (tag_in x) left) ms)
