-- The refusal that is left is the first of all.
use Rattle.std.proofs.Common.{◌≡◌, ℕ, Bool, true, false, cond, List, [], ◌∷◌, refl, Some, None, ◌+◌, ◌≤◌, ◌<◌, inl, inr, arith, nat_eq, nat_lt, ◌||◌, ◌&&◌, subst, ◌⊎◌, sym, ap, ◌∙◌}
use Rattle.std.proofs.lemmas.Bool.Decides.{nat_tests}
use Rattle.fd_base.specs.declared.numbering.Line.{Line}
use Rattle.fd_base.specs.declared.limit.Limit.{Limit}
use Rattle.fd_base.specs.declared.limit.Limit.TheVariants as limits
use Rattle.fd_names.specs.declared.refusal.Cause.{Cause}
use Rattle.fd_names.specs.declared.refusal.Cause.TheVariants.{NotDeclared, DeclaredTwice, WrongShape, NotConstant, BadBounds, DoVarAssigned, AlignBad, DistributeBad, IndexNotLocal, TooMany, LeftOut}
use Rattle.fd_names.specs.declared.refusal.Refusal.{Refusal}
use Rattle.fd_names.specs.declared.refusal.NameRefusal.{NameRefusal}
use Rattle.fd_names.specs.First.{rank_of, place_of, is_before, met, answer_for, AnswersFirst, IsNoLater, IsFirst, IsAmong}

-- the two tests of `is_before`, over numbers
before_cases : (a b i j : ℕ) → (nat_lt a b || (nat_eq a b && nat_lt i j)) ≡ true → (a < b) ⊎ ((a ≡ b) × (i ≤ j))
before_cases a b i j h = grind (arith, nat_tests)

after_cases : (a b i j : ℕ) → (nat_lt a b || (nat_eq a b && nat_lt i j)) ≡ false → (b < a) ⊎ ((b ≡ a) × (j ≤ i))
after_cases a b i j h = grind (arith, nat_tests)

-- lines with one number are one
same_line : (l m : Line) → l.0 ≡ m.0 → l ≡ m
same_line l m e = λ i. record { 0 = e i }

no_later : (r w : Refusal) → is_before r w ≡ true → IsNoLater r w
no_later r w h = elim (before_cases r.line.0 w.line.0 (rank_of r.cause) (rank_of w.cause) h) [ inl a ↦ inl a | inr b ↦ inr (same_line r.line w.line b.0, b.1) ]

later : (r w : Refusal) → is_before r w ≡ false → IsNoLater w r
later r w h = elim (after_cases r.line.0 w.line.0 (rank_of r.cause) (rank_of w.cause) h) [ inl a ↦ inl a | inr b ↦ inr (same_line w.line r.line b.0, b.1) ]

below_same : (a b : ℕ) (l m : Line) → a < l.0 → l ≡ m → a < m.0
below_same a b l m h e = let P : Line → Type 0 = λ x. a < x.0 in subst P e h

same_below : (b : ℕ) (l m : Line) → l ≡ m → m.0 < b → l.0 < b
same_below b l m e h = let k : l.0 ≡ m.0 = ap (λ x. x.0) e in omega arith

no_later-trans : (a b c : Refusal) → IsNoLater a b → IsNoLater b c → IsNoLater a c
no_later-trans a b c (inl h) (inl k) = inl (omega arith)
no_later-trans a b c (inl h) (inr k) = inl (below_same a.line.0 0 b.line c.line h k.0)
no_later-trans a b c (inr h) (inl k) = inl (same_below c.line.0 a.line b.line h.0 k)
no_later-trans a b c (inr h) (inr k) = let p = h.1 in let q = k.1 in inr (h.0 ∙ k.0, omega arith)

no_later-refl : (a : Refusal) → IsNoLater a a
no_later-refl a = inr (refl, omega arith)

record Kept (rs : List Refusal) (w r : Refusal) : Type 0 where
  before : IsNoLater r w
  all : (s : Refusal) → IsAmong s rs → IsNoLater r s
  among : (w ≡ r) ⊎ IsAmong r rs

kept_step : (rs : List Refusal) (x w r : Refusal) → ((v : Refusal) → met rs (Some v) ≡ Some r → Kept rs v r) → (b : Bool) → is_before x w ≡ b → met rs (cond b (Some x) (Some w)) ≡ Some r → Kept (x ∷ rs) w r
kept_step rs x w r rest true t h =
    let k = rest x h in
    record {
      before = no_later-trans r x w k.before (no_later x w t);
      all = λ s m. elim m [ inl e ↦ subst (λ y. IsNoLater r y) e k.before | inr n ↦ k.all s n ];
      among = inr k.among;
    }
kept_step rs x w r rest false t h =
    let k = rest w h in
    record {
      before = k.before;
      all = λ s m. elim m [ inl e ↦ subst (λ y. IsNoLater r y) e (no_later-trans r w x k.before (later x w t)) | inr n ↦ k.all s n ];
      among = elim k.among [ inl e ↦ inl e | inr n ↦ inr (inr n) ];
    }

kept : (rs : List Refusal) (w r : Refusal) → met rs (Some w) ≡ Some r → Kept rs w r
kept [] w r h = let e : w ≡ r = cc in record { before = subst (λ x. IsNoLater x w) e (no_later-refl w); all = λ s m. absurd m; among = inl e }
kept (x ∷ rs) w r h = kept_step rs x w r (λ v. kept rs v r) (is_before x w) refl h

pub first_is : (rs : List Refusal) (r : Refusal) → met rs None ≡ Some r → IsFirst rs r
first_is [] r h = absurd cc
first_is (x ∷ rs) r h =
    let k = kept rs x r h in
    record { among = k.among; first = λ s m. elim m [ inl e ↦ subst (λ y. IsNoLater r y) e k.before | inr n ↦ k.all s n ] }

-- what was noted stays
some_stays_step : (rs : List Refusal) (x w : Refusal) → ((v : Refusal) → met rs (Some v) ≡ None → ⊥) → (b : Bool) → met rs (cond b (Some x) (Some w)) ≡ None → ⊥
some_stays_step rs x w rest true h = rest x h
some_stays_step rs x w rest false h = rest w h

some_stays : (rs : List Refusal) (w : Refusal) → met rs (Some w) ≡ None → ⊥
some_stays [] w h = cc
some_stays (x ∷ rs) w h = some_stays_step rs x w (λ v. some_stays rs v) (is_before x w) h

pub none_is : (rs : List Refusal) → met rs None ≡ None → rs ≡ []
none_is [] h = refl
none_is (x ∷ rs) h = absurd (some_stays rs x h)

-- ---- the answer

answers_by : (rs : List Refusal) (r : Refusal) (l : Line) (c : Cause) → IsFirst rs r → answer_for r.line r.cause ≡ answer_for l c → AnswersFirst rs (answer_for l c)
answers_by rs r l NotDeclared f e = (r, f, e)
answers_by rs r l DeclaredTwice f e = (r, f, e)
answers_by rs r l WrongShape f e = (r, f, e)
answers_by rs r l NotConstant f e = (r, f, e)
answers_by rs r l BadBounds f e = (r, f, e)
answers_by rs r l DoVarAssigned f e = (r, f, e)
answers_by rs r l AlignBad f e = (r, f, e)
answers_by rs r l DistributeBad f e = (r, f, e)
answers_by rs r l IndexNotLocal f e = (r, f, e)
answers_by rs r l (TooMany limit) f e = (r, f, e)
answers_by rs r l LeftOut f e = (r, f, e)

pub answers_first : (rs : List Refusal) (r : Refusal) (a : NameRefusal) → met rs None ≡ Some r → a ≡ answer_for r.line r.cause → AnswersFirst rs a
answers_first rs r a h e = rw e (answers_by rs r r.line r.cause (first_is rs r h) refl)

-- ---- one alone is the first

place_small : (l : Limit) → place_of l < 8
place_small limits.Statements = omega arith
place_small limits.Arrays = omega arith
place_small limits.Names = omega arith
place_small limits.Distributed = omega arith
place_small limits.Replicated = omega arith
place_small limits.Terms = omega arith
place_small limits.Coefficient = omega arith
place_small limits.Items = omega arith

place_same : (l m : Limit) → place_of l ≡ place_of m → l ≡ m
place_same limits.Statements limits.Statements h = refl
place_same limits.Statements _ h = absurd (omega arith)
place_same limits.Arrays limits.Arrays h = refl
place_same limits.Arrays _ h = absurd (omega arith)
place_same limits.Names limits.Names h = refl
place_same limits.Names _ h = absurd (omega arith)
place_same limits.Distributed limits.Distributed h = refl
place_same limits.Distributed _ h = absurd (omega arith)
place_same limits.Replicated limits.Replicated h = refl
place_same limits.Replicated _ h = absurd (omega arith)
place_same limits.Terms limits.Terms h = refl
place_same limits.Terms _ h = absurd (omega arith)
place_same limits.Coefficient limits.Coefficient h = refl
place_same limits.Coefficient _ h = absurd (omega arith)
place_same limits.Items limits.Items h = refl
place_same limits.Items _ h = absurd (omega arith)

-- no limit has the rank of another cause
no_limit : (l : Limit) (n : ℕ) → 160 + place_of l ≡ n → (n < 160) ⊎ (168 ≤ n) → ⊥
no_limit l n h (inl k) = let p = place_small l in omega arith
no_limit l n h (inr k) = let p = place_small l in omega arith

rank_same : (a b : Cause) → rank_of a ≡ rank_of b → a ≡ b
rank_same NotDeclared NotDeclared h = refl
rank_same NotDeclared (TooMany m) h = absurd (no_limit m 60 (sym h) (inl (omega arith)))
rank_same NotDeclared _ h = absurd (omega arith)
rank_same DeclaredTwice DeclaredTwice h = refl
rank_same DeclaredTwice (TooMany m) h = absurd (no_limit m 70 (sym h) (inl (omega arith)))
rank_same DeclaredTwice _ h = absurd (omega arith)
rank_same WrongShape WrongShape h = refl
rank_same WrongShape (TooMany m) h = absurd (no_limit m 80 (sym h) (inl (omega arith)))
rank_same WrongShape _ h = absurd (omega arith)
rank_same NotConstant NotConstant h = refl
rank_same NotConstant (TooMany m) h = absurd (no_limit m 90 (sym h) (inl (omega arith)))
rank_same NotConstant _ h = absurd (omega arith)
rank_same BadBounds BadBounds h = refl
rank_same BadBounds (TooMany m) h = absurd (no_limit m 100 (sym h) (inl (omega arith)))
rank_same BadBounds _ h = absurd (omega arith)
rank_same DoVarAssigned DoVarAssigned h = refl
rank_same DoVarAssigned (TooMany m) h = absurd (no_limit m 110 (sym h) (inl (omega arith)))
rank_same DoVarAssigned _ h = absurd (omega arith)
rank_same AlignBad AlignBad h = refl
rank_same AlignBad (TooMany m) h = absurd (no_limit m 120 (sym h) (inl (omega arith)))
rank_same AlignBad _ h = absurd (omega arith)
rank_same DistributeBad DistributeBad h = refl
rank_same DistributeBad (TooMany m) h = absurd (no_limit m 130 (sym h) (inl (omega arith)))
rank_same DistributeBad _ h = absurd (omega arith)
rank_same IndexNotLocal IndexNotLocal h = refl
rank_same IndexNotLocal (TooMany m) h = absurd (no_limit m 140 (sym h) (inl (omega arith)))
rank_same IndexNotLocal _ h = absurd (omega arith)
rank_same LeftOut LeftOut h = refl
rank_same LeftOut (TooMany m) h = absurd (no_limit m 180 (sym h) (inr (omega arith)))
rank_same LeftOut _ h = absurd (omega arith)
rank_same (TooMany l) (TooMany m) h = ap TooMany (place_same l m (omega (arith, h)))
rank_same (TooMany l) NotDeclared h = absurd (no_limit l 60 h (inl (omega arith)))
rank_same (TooMany l) DeclaredTwice h = absurd (no_limit l 70 h (inl (omega arith)))
rank_same (TooMany l) WrongShape h = absurd (no_limit l 80 h (inl (omega arith)))
rank_same (TooMany l) NotConstant h = absurd (no_limit l 90 h (inl (omega arith)))
rank_same (TooMany l) BadBounds h = absurd (no_limit l 100 h (inl (omega arith)))
rank_same (TooMany l) DoVarAssigned h = absurd (no_limit l 110 h (inl (omega arith)))
rank_same (TooMany l) AlignBad h = absurd (no_limit l 120 h (inl (omega arith)))
rank_same (TooMany l) DistributeBad h = absurd (no_limit l 130 h (inl (omega arith)))
rank_same (TooMany l) IndexNotLocal h = absurd (no_limit l 140 h (inl (omega arith)))
rank_same (TooMany l) LeftOut h = absurd (no_limit l 180 h (inr (omega arith)))

same_parts : (r s : Refusal) → r.line ≡ s.line → r.cause ≡ s.cause → r ≡ s
same_parts r s e f = λ i. record { line = e i; cause = f i }

apart : (l m : Line) → l ≡ m → m.0 < l.0 → ⊥
apart l m e h = let k : l.0 ≡ m.0 = ap (λ x. x.0) e in omega arith

one_first_by : (r s : Refusal) → IsNoLater r s → IsNoLater s r → r ≡ s
one_first_by r s (inl h) (inl k) = absurd (omega arith)
one_first_by r s (inl h) (inr k) = absurd (apart s.line r.line k.0 h)
one_first_by r s (inr h) (inl k) = absurd (apart r.line s.line h.0 k)
one_first_by r s (inr h) (inr k) = let p = h.1 in let q = k.1 in same_parts r s h.0 (rank_same r.cause s.cause (omega arith))

pub one_first : (rs : List Refusal) (r s : Refusal) → IsFirst rs r → IsFirst rs s → r ≡ s
one_first rs r s f g = one_first_by r s (f.first s g.among) (g.first r f.among)
