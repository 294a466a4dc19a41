-- What the equations give at each node, whatever path leads there.
use Rattle.std.proofs.Common.{◌≡◌, ℕ, zero, suc, ◌+◌, ◌<◌, ◌≤◌, Bool, true, false, not, ◌||◌, IsTrue, IsFalse, ◌↔◌, ◌⊎◌, inl, inr, refl, sym, ◌∙◌, subst, arith}
use Rattle.std.proofs.lemmas.Bool.{both_ways, not-true, cases_Bool, and_parts, and_from, or_cases, cases_eq}
use Rattle.fd_prog.specs.Flow.{FlowGraph, Within}
use Rattle.interval_graph.specs.Structure.{IsFlow}
use Rattle.gnt_solver.specs.Equations.{Had, IsHad, Wants, Solution, Solves}

-- a flow graph, an item of it, and a solution of its equations
pub record World : Type 0 where
  pub f : FlowGraph
  pub i : Wants
  pub s : Solution
  pub flow : IsFlow f
  pub any : (n : ℕ) → IsTrue (i.any n) ↔ ((m : ℕ) × Within f n m × IsTrue (i.take m))
  pub solved : Solves f i s

-- ---- tests

pub or_left : {a : Bool} (b : Bool) → IsTrue a → IsTrue (a || b)
or_left b e = rw e refl

pub or_right : (a : Bool) {b : Bool} → IsTrue b → IsTrue (a || b)
or_right true e = refl
or_right false e = e

pub not_from : {b : Bool} → IsFalse b → IsTrue (not b)
not_from e = rw e refl

pub from_not : {b : Bool} → (IsTrue b → ⊥) → IsFalse b
from_not {b = true} h = absurd (h refl)
from_not {b = false} h = refl

pub so_true : {b : Bool} → (IsFalse b → ⊥) → IsTrue b
so_true {b = true} h = refl
so_true {b = false} h = absurd (h refl)

pub clash : {b : Bool} → IsTrue b → IsFalse b → ⊥
clash {b = b} x y = both_ways b y x

-- ---- bodies

pub within_within : (w : World) (l m n : ℕ) → Within w.f l m → Within w.f m n → Within w.f l n
within_within w l m n a b =
    let k : w.f.latch m < w.f.latch l = w.flow.nests l m a b.is_loop in
    record { is_loop = a.is_loop; above = omega arith; below = omega arith }

pub within_top : (w : World) (l : ℕ) → IsTrue (w.f.is_loop l) → Within w.f l (suc l)
within_top w l h =
    let k : l < w.f.latch l = w.flow.far l h in
    record { is_loop = h; above = omega arith; below = omega arith }

pub within_latch : (w : World) (l : ℕ) → IsTrue (w.f.is_loop l) → Within w.f l (w.f.latch l)
within_latch w l h =
    let k : l < w.f.latch l = w.flow.far l h in
    record { is_loop = h; above = omega arith; below = omega arith }

pub top_within : (w : World) (l m : ℕ) → Within w.f l (suc m) → (l ≡ m → ⊥) → Within w.f l m
top_within w l m h ne =
    let a : l < suc m = h.above in
    let b : suc m ≤ w.f.latch l = h.below in
    record { is_loop = h.is_loop; above = omega arith; below = omega arith }

-- ---- the sets of a node

pub st_in : (w : World) (l n : ℕ) → Within w.f l n → IsTrue (w.s.st n) → IsTrue (w.s.st l)
st_in w l n h e = (w.solved.st l).1 (inr (n, h, e))

pub st_out : (w : World) (l n : ℕ) → Within w.f l n → IsFalse (w.s.st l) → IsFalse (w.s.st n)
st_out w l n h e = from_not (λ x. clash (st_in w l n h x) e)

pub ti_from_t : (w : World) (n : ℕ) → IsTrue (w.s.t n) → IsTrue (w.s.ti n)
ti_from_t w n e = w.solved.ti n ∙ or_left _ e

pub ti_from_to : (w : World) (n : ℕ) → IsTrue (w.s.to n) → IsFalse (w.s.st n) → IsTrue (w.s.ti n)
ti_from_to w n e h = w.solved.ti n ∙ or_right _ (and_from _ _ e (not_from h))

pub ti_parts : (w : World) (n : ℕ) → IsTrue (w.s.ti n) → IsTrue (w.s.t n) ⊎ (IsTrue (w.s.to n) × IsFalse (w.s.st n))
ti_parts w n e = elim (or_cases _ _ (sym (w.solved.ti n) ∙ e)) [
  | inl x ↦ inl x
  | inr x ↦ let y = and_parts _ _ x in inr (y.0, not-true _ y.1)
]

-- why an item is in T
pub data IsNeeded (w : World) (n : ℕ) : Type 0 where
  taken : IsTrue (w.i.take n) → IsNeeded w n
  inside : IsTrue (w.f.is_loop n) → IsTrue (w.s.ti (suc n)) → IsFalse (w.s.st n) → IsNeeded w n
  later : IsTrue (w.s.to n) → IsTrue (w.i.any n) → IsFalse (w.s.st n) → IsNeeded w n

pub t_parts : (w : World) (n : ℕ) → IsTrue (w.s.t n) → IsNeeded w n
t_parts w n e = elim (cases_Bool (w.f.is_loop n)) [
  | inr p ↦ taken (sym (w.solved.t_plain n p) ∙ e)
  | inl p ↦ elim (or_cases _ _ (sym (w.solved.t_loop n p) ∙ e)) [
    | inl x ↦ taken x
    | inr x ↦ elim (or_cases _ _ x) [
      | inl y ↦ let z = and_parts _ _ y in inside p z.0 (not-true _ z.1)
      | inr y ↦ let z = and_parts _ _ y in let u = and_parts _ _ z.0 in later u.0 u.1 (not-true _ z.1)
    ]
  ]
]

pub t_from_take : (w : World) (n : ℕ) → IsTrue (w.i.take n) → IsTrue (w.s.t n)
t_from_take w n e = elim (cases_Bool (w.f.is_loop n)) [
  | inr p ↦ w.solved.t_plain n p ∙ e
  | inl p ↦ w.solved.t_loop n p ∙ or_left _ e
]

pub t_from_later : (w : World) (n : ℕ) → IsTrue (w.f.is_loop n) → IsTrue (w.s.to n) → IsTrue (w.i.any n) → IsFalse (w.s.st n) → IsTrue (w.s.t n)
t_from_later w n p a b c = w.solved.t_loop n p ∙ or_right _ (or_right _ (and_from _ _ (and_from _ _ a b) (not_from c)))

-- ---- what is wanted inside a loop is taken there

uses : (w : World) (l k n : ℕ) → w.f.latch l < k + n → Within w.f l n → IsTrue (w.s.ti n) → IsTrue (w.i.any l)
uses w l zero n lt h e = let b : n ≤ w.f.latch l = h.below in absurd (omega arith)
uses w l (suc k) n lt h e = elim (ti_parts w n e) [
  | inl x ↦ elim (t_parts w n x) [
    | taken y ↦ (w.any l).1 (n, h, y)
    | inside p y q ↦ uses w l k (suc n) (omega arith) (within_within w l n (suc n) h (within_top w n p)) y
    | later a y q ↦ let z = (w.any n).0 y in (w.any l).1 (z.0, within_within w l n z.0 h z.1, z.2)
  ]
  | inr x ↦ let z = (w.solved.to n).0 x.0 in
      let r = z.0.0 in
      let up : n < r = w.flow.up n r z.0.1 in
      uses w l k r (omega arith) (w.flow.stays n r l z.0.1 h) (z.1 r z.0.1)
]

pub used_inside : (w : World) (l n : ℕ) → Within w.f l n → IsTrue (w.s.ti n) → IsTrue (w.i.any l)
used_inside w l n h e = uses w l (suc (w.f.latch l)) n (omega arith) h e

-- ---- the sets of a solution

pub go_parts : (f : FlowGraph) (st ti x : ℕ → Bool) (v : Had) → IsHad f st ti x v → (n : ℕ) → IsTrue (v.go n) → (IsTrue (v.gi n) ⊎ IsTrue (x n)) × IsFalse (st n)
go_parts f st ti x v h n e = let y = and_parts _ _ (sym (h.go n) ∙ e) in (or_cases _ _ (sym (h.g n) ∙ y.0), not-true _ y.1)

pub go_from : (f : FlowGraph) (st ti x : ℕ → Bool) (v : Had) → IsHad f st ti x v → (n : ℕ) → (IsTrue (v.gi n) ⊎ IsTrue (x n)) → IsFalse (st n) → IsTrue (v.go n)
go_from f st ti x v h n e s = h.go n ∙ and_from _ _ (h.g n ∙ elim e [ inl a ↦ or_left _ a | inr a ↦ or_right _ a ]) (not_from s)

pub top_go : (f : FlowGraph) (st ti x : ℕ → Bool) (v : Had) → IsHad f st ti x v → (l : ℕ) → IsTrue (f.is_loop l) → v.gi (suc l) ≡ v.go l
top_go f st ti x v h l p = h.top l p ∙ sym (h.go l)

pub go_e-parts : (w : World) (n : ℕ) → IsTrue (w.s.eager.go n) → (IsTrue (w.s.eager.gi n) ⊎ IsTrue (w.s.ti n)) × IsFalse (w.s.st n)
go_e-parts w = go_parts _ _ _ _ _ w.solved.eager

pub go_l-parts : (w : World) (n : ℕ) → IsTrue (w.s.lazy.go n) → (IsTrue (w.s.lazy.gi n) ⊎ IsTrue (w.s.t n)) × IsFalse (w.s.st n)
go_l-parts w = go_parts _ _ _ _ _ w.solved.lazy

pub go_e-from : (w : World) (n : ℕ) → (IsTrue (w.s.eager.gi n) ⊎ IsTrue (w.s.ti n)) → IsFalse (w.s.st n) → IsTrue (w.s.eager.go n)
go_e-from w = go_from _ _ _ _ _ w.solved.eager

pub go_l-from : (w : World) (n : ℕ) → (IsTrue (w.s.lazy.gi n) ⊎ IsTrue (w.s.t n)) → IsFalse (w.s.st n) → IsTrue (w.s.lazy.go n)
go_l-from w = go_from _ _ _ _ _ w.solved.lazy

pub top_e : (w : World) (l : ℕ) → IsTrue (w.f.is_loop l) → w.s.eager.gi (suc l) ≡ w.s.eager.go l
top_e w = top_go _ _ _ _ _ w.solved.eager

pub top_l : (w : World) (l : ℕ) → IsTrue (w.f.is_loop l) → w.s.lazy.gi (suc l) ≡ w.s.lazy.go l
top_l w = top_go _ _ _ _ _ w.solved.lazy

-- ---- the lazy sets are part of the eager ones

go_grows : (w : World) (n : ℕ) → (IsTrue (w.s.lazy.gi n) → IsTrue (w.s.eager.gi n)) → IsTrue (w.s.lazy.go n) → IsTrue (w.s.eager.go n)
go_grows w n h e = let p = go_l-parts w n e in
    go_e-from w n (elim p.0 [ inl a ↦ inl (h a) | inr a ↦ inr (ti_from_t w n a) ]) p.1

grows : (w : World) (k n : ℕ) → n < k → IsTrue (w.s.lazy.gi n) → IsTrue (w.s.eager.gi n)
grows w zero n lt e = absurd (omega arith)
grows w (suc k) zero lt e = absurd (clash e w.solved.lazy.start)
grows w (suc k) (suc m) lt e = elim (cases_Bool (w.f.is_loop m)) [
  | inl p ↦ top_e w m p ∙ go_grows w m (grows w k m (omega arith)) (sym (top_l w m p) ∙ e)
  | inr p ↦ (w.solved.eager.met m p).1 (elim ((w.solved.lazy.met m p).0 e) [
    | inl a ↦ inl (a.0, λ q h. let up : q < suc m = w.flow.up q (suc m) h in go_grows w q (grows w k q (omega arith)) (a.1 q h))
    | inr a ↦ inr (a.0, (let q = a.1.0 in let up : q < suc m = w.flow.up q (suc m) a.1.1 in (q, a.1.1, go_grows w q (grows w k q (omega arith)) a.1.2)))
  ])
]

pub gi_grows : (w : World) (n : ℕ) → IsTrue (w.s.lazy.gi n) → IsTrue (w.s.eager.gi n)
gi_grows w n = grows w (suc n) n (omega arith)

pub go_e-has : (w : World) (n : ℕ) → IsTrue (w.s.lazy.go n) → IsTrue (w.s.eager.go n)
go_e-has w n = go_grows w n (gi_grows w n)

-- ---- what is open without being wanted was open at a loop around

pub record IsOpenAt (w : World) (l n : ℕ) : Type 0 where
  pub within : Within w.f l n
  pub has : IsTrue (w.s.eager.go l)
  pub lacks : IsFalse (w.s.lazy.go l)

abbrev pub IsOpened : World → ℕ → Type 0
IsOpened w n = (l : ℕ) × IsOpenAt w l n

pub go_closes : (w : World) (n : ℕ) → (IsFalse (w.s.ti n) → IsTrue (w.s.eager.gi n) → IsTrue (w.s.lazy.gi n))
    → (IsTrue (w.s.to n) → IsFalse (w.s.st n) → IsTrue (w.s.t n)) → IsTrue (w.s.eager.go n) → IsTrue (w.s.lazy.go n)
go_closes w n rec no_to e = let p = go_e-parts w n e in elim (cases_Bool (w.s.t n)) [
  | inl x ↦ go_l-from w n (inr x) p.1
  | inr x ↦
      let no_ti : IsTrue (w.s.ti n) → ⊥ = λ y. elim (ti_parts w n y) [ inl z ↦ clash z x | inr z ↦ clash (no_to z.0 z.1) x ] in
      go_l-from w n (elim p.0 [ inl a ↦ inl (rec (from_not no_ti) a) | inr a ↦ absurd (no_ti a) ]) p.1
]

closes : (w : World) (k n : ℕ) → n < k → (IsOpened w n → ⊥) → IsFalse (w.s.ti n) → IsTrue (w.s.eager.gi n) → IsTrue (w.s.lazy.gi n)
closes w zero n lt shut no_ti e = absurd (omega arith)
closes w (suc k) zero lt shut no_ti e = absurd (clash e w.solved.eager.start)
closes w (suc k) (suc m) lt shut no_ti e = elim (cases_Bool (w.f.is_loop m)) [
  | inl p ↦ top_l w m p ∙ so_true (λ x. shut (m, record { within = within_top w m p; has = sym (top_e w m p) ∙ e; lacks = x }))
  | inr p ↦ elim ((w.solved.eager.met m p).0 e) [
    | inr a ↦ absurd (clash a.0 no_ti)
    | inl a ↦ (w.solved.lazy.met m p).1 (inl (
      a.0,
      λ q h.
          let up : q < suc m = w.flow.up q (suc m) h in
          go_closes w q
          (closes w k q (omega arith) (λ o. shut (o.0, record { within = w.flow.stays q (suc m) o.0 h o.1.within; has = o.1.has; lacks = o.1.lacks })))
          (λ t s. absurd (clash (((w.solved.to q).0 t).1 (suc m) h) no_ti))
          (a.1 q h),
    ))
  ]
]

pub gi_closes : (w : World) (n : ℕ) → (IsOpened w n → ⊥) → IsFalse (w.s.ti n) → IsTrue (w.s.eager.gi n) → IsTrue (w.s.lazy.gi n)
gi_closes w n = closes w (suc n) n (omega arith)

-- ---- a loop at which it is open neither takes nor steals it

unused : (w : World) (k l : ℕ) → l < k → IsTrue (w.f.is_loop l) → IsTrue (w.s.eager.go l) → IsFalse (w.s.lazy.go l) → IsTrue (w.i.any l) → ⊥
unused w zero l lt p e n a = omega arith
unused w (suc k) l lt p e n a = clash (go_closes w l
    (gi_closes w l (λ o. let z = (w.any l).0 a in let lt' : o.0 < l = o.1.within.above in
    unused w k o.0 (omega arith) o.1.within.is_loop o.1.has o.1.lacks
    ((w.any o.0).1 (z.0, within_within w o.0 l z.0 o.1.within z.1, z.2))))
    (λ t s. t_from_later w l p t a s) e) n

-- ---- so nothing happens to it inside

pub record IsQuiet (w : World) (n : ℕ) : Type 0 where
  pub st : IsFalse (w.s.st n)
  pub ti : IsFalse (w.s.ti n)
  pub t : IsFalse (w.s.t n)
  pub gi_e : IsTrue (w.s.eager.gi n)
  pub gi_l : IsFalse (w.s.lazy.gi n)
  pub go_e : IsTrue (w.s.eager.go n)
  pub go_l : IsFalse (w.s.lazy.go n)

quiet_from : (w : World) (l n : ℕ) → IsOpenAt w l n → IsTrue (w.s.eager.gi n) → IsFalse (w.s.lazy.gi n) → IsQuiet w n
quiet_from w l n o a b =
    let no_st : IsFalse (w.s.st n) = st_out w l n o.within (go_e-parts w l o.has).1 in
    let no_ti : IsFalse (w.s.ti n) = from_not (λ x. unused w (suc l) l (omega arith) o.within.is_loop o.has o.lacks (used_inside w l n o.within x)) in
    let no_t : IsFalse (w.s.t n) = from_not (λ x. clash (ti_from_t w n x) no_ti) in
    record {
      st = no_st;
      ti = no_ti;
      t = no_t;
      gi_e = a;
      gi_l = b;
      go_e = go_e-from w n (inl a) no_st;
      go_l = from_not (λ x. elim (go_l-parts w n x).0 [ inl y ↦ clash y b | inr y ↦ clash y no_t ]);
    }

quiets : (w : World) (l k n : ℕ) → n < k → IsOpenAt w l n → IsQuiet w n
quiets w l zero n lt o = absurd (omega arith)
quiets w l (suc k) zero lt o = let a : l < zero = o.within.above in absurd (omega arith)
quiets w l (suc k) (suc m) lt o = elim (cases_eq l m) [
  | inl same ↦ let p = subst (λ (x : ℕ). IsTrue (w.f.is_loop x)) same o.within.is_loop in
      quiet_from w l (suc m) o (top_e w m p ∙ subst (λ (x : ℕ). IsTrue (w.s.eager.go x)) same o.has) (top_l w m p ∙ subst (λ (x : ℕ). IsFalse (w.s.lazy.go x)) same o.lacks)
  | inr ne ↦ elim (cases_Bool (w.f.is_loop m)) [
    | inl p ↦ let r = quiets w l k m (omega arith) (record { within = top_within w l m o.within ne; has = o.has; lacks = o.lacks }) in
        quiet_from w l (suc m) o (top_e w m p ∙ r.go_e) (top_l w m p ∙ r.go_l)
    | inr p ↦
        let before = λ (q : ℕ) (h : IsTrue (w.f.forward q (suc m))). let up : q < suc m = w.flow.up q (suc m) h in
        quiets w l k q (omega arith) (record { within = w.flow.stayed q (suc m) l h o.within; has = o.has; lacks = o.lacks }) in
        let first = w.flow.reached l m p o.within in
        quiet_from w l (suc m) o
        ((w.solved.eager.met m p).1 (inl (first, λ q h. (before q h).go_e)))
        (from_not (λ x. elim ((w.solved.lazy.met m p).0 x) [
          | inl a ↦ clash (a.1 first.0 first.1) (before first.0 first.1).go_l
          | inr a ↦ clash a.1.2 (before a.1.0 a.1.1).go_l
        ]))
  ]
]

pub quiet : (w : World) (n : ℕ) → IsOpened w n → IsQuiet w n
quiet w n o = quiets w o.0 (suc n) n (omega arith) o.1
