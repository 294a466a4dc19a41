-- Facts on actions, statuses and sequences that rise.
use Rattle.std.proofs.Common.{◌≡◌, ℕ, zero, suc, ◌+◌, ◌<◌, ◌≤◌, ◌==◌, List, [], ◌∷◌, ◌⊎◌, inl, inr, refl, sym, ◌∙◌, ap, subst, arith, cond}
use Rattle.std.proofs.lemmas.Bool.{cases_eq, eq-eqb, ne_eqb}
use Rattle.std.proofs.lemmas.List.Sums.{sum_by-append}
use Rattle.std.specs.Prelude.{min, count_by, Option, Some, None}
use Rattle.mailbox_book.specs.declared.message.Message.{Message}
use Rattle.fd_prog.specs.declared.run.Printed.{Printed}
use Rattle.message_laws.specs.Behaviour.{Behaviour, Failure, Action, Act, Post, Take, Fail, End, taken, taken_by, takes, posted, posted_by, posts, of_tag, tag_in}
use Rattle.message_laws.specs.System.{Status, Running, Ended, Faulted, Cut}

-- what an action is
pub data Kind (a : Action) : Type 0 where
  acts : (lines : List Printed) → (a ≡ Act lines) → Kind a
  posts_to : (to : ℕ) → (m : Message) → (a ≡ Post to m) → Kind a
  takes_from : (from tag : ℕ) → (a ≡ Take from tag) → Kind a
  fails : (f : Failure) → (a ≡ Fail f) → Kind a
  ends : (a ≡ End) → Kind a

pub kind_of : (a : Action) → Kind a
kind_of (Act lines) = acts lines refl
kind_of (Post to m) = posts_to to m refl
kind_of (Take from tag) = takes_from from tag refl
kind_of (Fail f) = fails f refl
kind_of End = ends refl

abbrev pub number_of : Action → ℕ
number_of (Act lines) = 0
number_of (Post to m) = 1
number_of (Take from tag) = 2
number_of (Fail f) = 3
number_of End = 4

-- actions of two kinds differ
pub differ : {a c d : Action} → a ≡ c → a ≡ d → number_of c < number_of d ⊎ number_of d < number_of c → ⊥
differ {a} {c} {d} e f h =
    let same : number_of c ≡ number_of d = ap number_of (sym e ∙ f) in
    elim h [ inl x ↦ (let y : number_of c < number_of d = x in absurd {A = ⊥} (omega (arith, same, y))) | inr x ↦ (let y : number_of d < number_of c = x in absurd {A = ⊥} (omega (arith, same, y))) ]

abbrev pub fault_of : Action → Option Failure
fault_of (Fail f) = Some f
fault_of (Act lines) = None
fault_of (Post to m) = None
fault_of (Take from tag) = None
fault_of End = None

-- what rises at each step rises
pub rises : (f : ℕ → ℕ) → ((n : ℕ) → f n ≤ f (suc n)) → (m n : ℕ) → m ≤ n → f m ≤ f n
rises f h m zero le = let e : m ≡ zero = omega (arith, le) in subst (λ (x : ℕ). f x ≤ f zero) (sym e) (omega arith)
rises f h m (suc n) le = elim (cases_eq m (suc n)) [
  | inl e ↦ subst (λ (x : ℕ). f x ≤ f (suc n)) (sym e) (omega arith)
  | inr ne ↦ (let a : f m ≤ f n = rises f h m n (omega (arith, le, ne)) in let c : f n ≤ f (suc n) = h n in omega (arith, a, c))
]

abbrev pub code : Status → ℕ
code Running = 0
code Ended = 1
code Faulted = 2
code Cut = 3

pub apart : {s t : Status} → s ≡ t → code s < code t ⊎ code t < code s → ⊥
apart {s} {t} e h =
    let same : code s ≡ code t = ap code e in
    elim h [ inl x ↦ (let y : code s < code t = x in absurd {A = ⊥} (omega (arith, same, y))) | inr x ↦ (let y : code t < code s = x in absurd {A = ⊥} (omega (arith, same, y))) ]

-- the least and the other
pub min_left : (a b : ℕ) → a ≤ b → min a b ≡ a
min_left a b h = omega (arith, h)

pub min_right : (a b : ℕ) → b ≤ a → min a b ≡ b
min_right a b h = omega (arith, h)

-- ---- counts of posts and takes

pub takes_more : (b : Behaviour) (q r t p : ℕ) → takes b q r t (suc p) ≡ takes b q r t p + count_by (λ o. o == t) (taken_by (b.action r p) q)
takes_more b q r t p = sum_by-append (λ o. cond (o == t) 1 0) (taken b q r p) (taken_by (b.action r p) q)

pub posts_more : (b : Behaviour) (q r t p : ℕ) → posts b q r t (suc p) ≡ posts b q r t p + of_tag t (posted_by (b.action q p) r)
posts_more b q r t p = sum_by-append (λ (m : Message). cond ((tag_in m) == t) 1 0) (posted b q r p) (posted_by (b.action q p) r)

pub posts_rise : (b : Behaviour) (q r t m n : ℕ) → m ≤ n → posts b q r t m ≤ posts b q r t n
posts_rise b q r t m n le = rises (posts b q r t) (λ n. let e = posts_more b q r t n in omega (arith, e)) m n le

pub takes_rise : (b : Behaviour) (q r t m n : ℕ) → m ≤ n → takes b q r t m ≤ takes b q r t n
takes_rise b q r t m n le = rises (takes b q r t) (λ n. let e = takes_more b q r t n in omega (arith, e)) m n le

pub takes_same : (b : Behaviour) (q r t p : ℕ) (a : Action) → b.action r p ≡ a → taken_by a q ≡ [] → takes b q r t (suc p) ≡ takes b q r t p
takes_same b q r t p a e n = let m = takes_more b q r t p in let z : taken_by (b.action r p) q ≡ [] = ap (λ (x : Action). taken_by x q) e ∙ n in m ∙ ap (λ (x : List ℕ). takes b q r t p + count_by (λ o. o == t) x) z ∙ omega arith

-- a take takes one message of its tag, and none of another
pub takes_one : (b : Behaviour) (q r t p : ℕ) → b.action r p ≡ Take q t → takes b q r t (suc p) ≡ suc (takes b q r t p)
takes_one b q r t p e =
    let z : taken_by (b.action r p) q ≡ t ∷ [] = ap (λ (x : Action). taken_by x q) e ∙ rw (eq-eqb q q refl) refl in
    takes_more b q r t p ∙ ap (λ (x : List ℕ). takes b q r t p + count_by (λ o. o == t) x) z ∙ rw (eq-eqb t t refl) (omega arith)

pub takes_else : (b : Behaviour) (q r tag t p : ℕ) → b.action r p ≡ Take q tag → (tag ≡ t → ⊥) → takes b q r t (suc p) ≡ takes b q r t p
takes_else b q r tag t p e ne =
    let z : taken_by (b.action r p) q ≡ tag ∷ [] = ap (λ (x : Action). taken_by x q) e ∙ rw (eq-eqb q q refl) refl in
    takes_more b q r t p ∙ ap (λ (x : List ℕ). takes b q r t p + count_by (λ o. o == t) x) z ∙ rw (ne_eqb tag t ne) (omega arith)

pub takes_apart : (b : Behaviour) (q from r tag t p : ℕ) → b.action r p ≡ Take from tag → (from ≡ q → ⊥) → takes b q r t (suc p) ≡ takes b q r t p
takes_apart b q from r tag t p e ne = takes_same b q r t p (Take from tag) e (rw (ne_eqb from q ne) refl)

-- a post posts one message of its tag
pub posts_one : (b : Behaviour) (q r p : ℕ) (m : Message) → b.action q p ≡ Post r m → posts b q r (tag_in m) (suc p) ≡ suc (posts b q r (tag_in m) p)
posts_one b q r p m e =
    let z : posted_by (b.action q p) r ≡ m ∷ [] = ap (λ (x : Action). posted_by x r) e ∙ rw (eq-eqb r r refl) refl in
    posts_more b q r (tag_in m) p ∙ ap (λ (x : List Message). posts b q r (tag_in m) p + of_tag (tag_in m) x) z ∙ rw (eq-eqb (tag_in m) (tag_in m) refl) (omega arith)
