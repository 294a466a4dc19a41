-- A placement has one verdict.
use Rattle.std.proofs.Common.{◌≡◌, ℕ, ◌<◌, ◌≤◌, inl, inr, List, [], ◌∷◌, length, refl, sym, ◌∙◌, ap, ap₂, subst, arith}
use Rattle.std.proofs.lemmas.Bool.{cases_lt}
use Rattle.fd_base.specs.declared.numbering.ItemNo.{ItemNo}
use Rattle.fd_base.specs.declared.numbering.NodeNo.{NodeNo}
use Rattle.fd_prog.specs.Paths.{Plan, Happening}
use Rattle.fd_prog.specs.PathConditions.{IsKept, IsGoodPlan}
use Rattle.place_check.specs.declared.verdict.Condition.{Condition}
use Rattle.place_check.specs.declared.verdict.Condition.TheVariants.{Balanced, Covered, Used}
use Rattle.place_check.specs.declared.verdict.Verdict.{Verdict}
use Rattle.place_check.specs.declared.verdict.Verdict.TheVariants.{Good, Bad}
use Rattle.place_check.specs.Verdicts.{Keeps, place_of, IsAtMost, IsShown, IsFirstBroken, IsVerdict, numbers_of}

pub kept_keeps : (c : Condition) (at_end : Type 0) (hs : List Happening) → IsKept at_end hs → Keeps c at_end hs
kept_keeps Balanced at_end hs k = k.balanced
kept_keeps Covered at_end hs k = k.covered
kept_keeps Used at_end hs k = k.used

not_both : (p : Plan) (last : ℕ) (c : Condition) (x : ℕ) (ns : List ℕ) → IsGoodPlan p last → IsFirstBroken p last c x ns → ⊥
not_both p last c x ns good bad =
    let b = bad.shown.broken in
    b.broken (kept_keeps c _ _ (good ns b.node b.events b.path x bad.low bad.high))

-- ---- one condition, one item

not_before : (p : Plan) (last : ℕ) (c d : Condition) (x y : ℕ) (ns ms : List ℕ) → IsFirstBroken p last c x ns → IsFirstBroken p last d y ms → place_of c < place_of d → ⊥
not_before p last c d x y ns ms v w less = w.conditions c less x v.low v.high ns v.shown.broken

same_place : (c d : Condition) → place_of c ≡ place_of d → c ≡ d
same_place Balanced Balanced e = refl
same_place Balanced Covered e = absurd (omega (arith, e))
same_place Balanced Used e = absurd (omega (arith, e))
same_place Covered Balanced e = absurd (omega (arith, e))
same_place Covered Covered e = refl
same_place Covered Used e = absurd (omega (arith, e))
same_place Used Balanced e = absurd (omega (arith, e))
same_place Used Covered e = absurd (omega (arith, e))
same_place Used Used e = refl

equal_by : (a b : ℕ) → (a < b → ⊥) → (b < a → ⊥) → a ≡ b
equal_by a b h k = elim (cases_lt a b) [
  | inl lt ↦ absurd (h lt)
  | inr ge ↦ elim (cases_lt b a) [
    | inl lt ↦ absurd (k lt)
    | inr le ↦ omega arith
  ]
]

same_condition : (p : Plan) (last : ℕ) (c d : Condition) (x y : ℕ) (ns ms : List ℕ) → IsFirstBroken p last c x ns → IsFirstBroken p last d y ms → c ≡ d
same_condition p last c d x y ns ms v w =
    same_place c d (equal_by (place_of c) (place_of d) (not_before p last c d x y ns ms v w) (not_before p last d c y x ms ns w v))

same_item : (p : Plan) (last : ℕ) (c : Condition) (x y : ℕ) (ns ms : List ℕ) → IsFirstBroken p last c x ns → IsFirstBroken p last c y ms → x ≡ y
same_item p last c x y ns ms v w = equal_by x y (λ lt. w.items x v.low lt ns v.shown.broken) (λ lt. v.items y w.low lt ms w.shown.broken)

-- ---- one path

at_most_twice : (ns ms : List ℕ) → length ns ≡ length ms → IsAtMost ns ms → IsAtMost ms ns → ns ≡ ms
at_most_twice [] [] e a b = refl
at_most_twice [] (m ∷ ms) e a b = absurd (omega (arith, e))
at_most_twice (n ∷ ns) [] e a b = absurd a
at_most_twice (n ∷ ns) (m ∷ ms) e (inl a) (inl b) = absurd (omega (arith, a, b))
at_most_twice (n ∷ ns) (m ∷ ms) e (inl a) (inr b) = absurd (let q : m ≡ n = b.0 in omega (arith, a, q))
at_most_twice (n ∷ ns) (m ∷ ms) e (inr a) (inl b) = absurd (let q : n ≡ m = a.0 in omega (arith, b, q))
at_most_twice (n ∷ ns) (m ∷ ms) e (inr a) (inr b) = ap₂ (λ (k : ℕ) (ks : List ℕ). k ∷ ks) a.0 (at_most_twice ns ms (omega (arith, e)) a.1 b.1)

same_path : (p : Plan) (last : ℕ) (c : Condition) (x : ℕ) (ns ms : List ℕ) → IsShown p last c x ns → IsShown p last c x ms → ns ≡ ms
same_path p last c x ns ms v w =
    let a : length ns ≤ length ms = v.fewest ms w.broken in
    let b : length ms ≤ length ns = w.fewest ns v.broken in
    let e : length ns ≡ length ms = omega arith in
    at_most_twice ns ms e (v.least ms w.broken (sym e)) (w.least ns v.broken e)

same_heads : (a b : ℕ) (xs ys : List ℕ) → ◌≡◌ {A = List ℕ} (a ∷ xs) (b ∷ ys) → (a ≡ b) × (xs ≡ ys)
same_heads a b xs ys e = (cc, cc)

same_nodes : (ns ms : List NodeNo) → numbers_of ns ≡ numbers_of ms → ns ≡ ms
same_nodes [] [] e = refl
same_nodes [] (m ∷ ms) e = absurd cc
same_nodes (n ∷ ns) [] e = absurd cc
same_nodes (n ∷ ns) (m ∷ ms) e =
    let h = same_heads n.0 m.0 (numbers_of ns) (numbers_of ms) e in
    ap₂ (λ (k : ℕ) (ks : List NodeNo). record { 0 = k } ∷ ks) h.0 (same_nodes ns ms h.1)

-- ---- one verdict

both_bad : (p : Plan) (last : ℕ) (c d : Condition) (x y : ItemNo) (ns ms : List NodeNo) → IsVerdict p last (Bad c x ns) → IsVerdict p last (Bad d y ms) → Bad c x ns ≡ Bad d y ms
both_bad p last c d x y ns ms v w =
    let e : c ≡ d = same_condition p last c d x.0 y.0 (numbers_of ns) (numbers_of ms) v w in
    let v2 : IsVerdict p last (Bad d x ns) = subst (λ (z : Condition). IsFirstBroken p last z x.0 (numbers_of ns)) e v in
    let f : x.0 ≡ y.0 = same_item p last d x.0 y.0 (numbers_of ns) (numbers_of ms) v2 w in
    let shown : IsShown p last d y.0 (numbers_of ns) = subst (λ (z : ℕ). IsShown p last d z (numbers_of ns)) f v2.shown in
    let g : ns ≡ ms = same_nodes ns ms (same_path p last d y.0 (numbers_of ns) (numbers_of ms) shown w.shown) in
    ap (λ (z : Condition). Bad z x ns) e ∙ (ap (λ (z : ℕ). Bad d (record { 0 = z }) ns) f ∙ ap (λ (l : List NodeNo). Bad d y l) g)

pub one : (p : Plan) (last : ℕ) (v w : Verdict) → IsVerdict p last v → IsVerdict p last w → v ≡ w
one p last Good Good v w = refl
one p last Good (Bad d y ms) v w = absurd (not_both p last d y.0 (numbers_of ms) v w)
one p last (Bad c x ns) Good v w = absurd (not_both p last c x.0 (numbers_of ns) w v)
one p last (Bad c x ns) (Bad d y ms) v w = both_bad p last c d x y ns ms v w
