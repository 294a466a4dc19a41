-- What holds along each path, step by step.
use Rattle.std.proofs.Common.{◌≡◌, ℕ, zero, suc, ◌<◌, ◌≤◌, Bool, true, false, not, ◌&&◌, ◌||◌, IsTrue, IsFalse, ◌↔◌, ◌⊎◌, inl, inr, List, refl, sym, ◌∙◌, ap₂, subst, arith, true≢false}
use Rattle.std.proofs.lemmas.Bool.{not-true, cases_Bool, and_parts, and_from, or_cases, cases_eq}
use Rattle.fd_prog.specs.Flow.{FlowGraph, Within}
use Rattle.interval_graph.specs.Structure.{meets, parts, IsFlow, IsLast}
use Rattle.fd_prog.specs.Paths.{Happening}
use Rattle.fd_prog.specs.PathConditions.{IsKept}
use Rattle.gnt_solver.specs.Equations.{Had, IsHad, Spots, AreOps, IsPlacement}
use Rattle.gnt_solver.proofs.OneItem.{ops, arrives, leaves, Path, start, forward, entry, cycle}
use Rattle.gnt_solver.proofs.Static.{World, or_left, or_right, not_from, from_not, so_true, clash, within_within, within_top, within_latch, top_within, st_out, ti_from_t, ti_parts, taken, inside, later, t_parts, t_from_take, used_inside, go_l-parts, top_e, top_l, gi_grows, go_e-has, IsOpened, go_closes, gi_closes, quiet}
use Rattle.gnt_solver.proofs.Runs.{State, Run, run_then, nothing, kept}
use Rattle.gnt_solver.proofs.Moves.{Move, moved, move, used, use_it}

pub record OwedAround (w : World) (n : ℕ) : Type 0 where
  pub l : ℕ
  pub within : Within w.f l n
  pub to : IsTrue (w.s.to l)
  pub st : IsFalse (w.s.st l)

-- on arrival at n, before its operations
pub record IsIn (w : World) (n : ℕ) (s : State) : Type 0 where
  pub waits : s.waits ≡ (w.s.eager.gi n && not (w.s.lazy.gi n))
  pub valid : IsTrue (w.s.lazy.gi n) → IsTrue s.valid
  pub around : (l : ℕ) → Within w.f l n → IsTrue (w.s.lazy.go l) → IsTrue s.valid
  pub owed : IsTrue s.owed → IsTrue (w.s.ti n) ⊎ OwedAround w n

-- at n after its events at `in`
pub record IsOut (w : World) (n : ℕ) (s : State) : Type 0 where
  pub waits : s.waits ≡ (w.s.eager.go n && not (w.s.lazy.go n))
  pub valid : IsTrue (w.s.lazy.go n) → IsTrue s.valid
  pub around : (l : ℕ) → Within w.f l n → IsTrue (w.s.lazy.go l) → IsTrue s.valid
  pub owed : IsTrue s.owed → (IsTrue (w.s.to n) × IsFalse (w.s.st n)) ⊎ OwedAround w n

pub record Arrived (w : World) (p : Spots) (n : ℕ) (s : State) : Type 0 where
  pub later : State
  pub run : Run (arrives w.f w.i p n) s later
  pub is : IsOut w n later

around_st : (w : World) (n : ℕ) → OwedAround w n → IsFalse (w.s.st n)
around_st w n o = st_out w o.l n o.within o.st

-- ---- on arrival

g_cases : {a b c : Bool} → a ≡ (b || c) → IsTrue a → IsTrue b ⊎ IsTrue c
g_cases e h = or_cases _ _ (sym e ∙ h)

in_move : (w : World) (n : ℕ) → Move (w.s.eager.gi n) (w.s.lazy.gi n) (w.s.eager.g n) (w.s.lazy.g n)
in_move w n = record {
  sub = gi_grows w n;
  sub2 = λ x. w.solved.eager.g n ∙ elim (g_cases (w.solved.lazy.g n) x) [ inl y ↦ or_left _ (gi_grows w n y) | inr y ↦ or_right _ (ti_from_t w n y) ];
  kept = λ x y. w.solved.eager.g n ∙ or_left _ x;
  shut = λ x y. w.solved.lazy.g n ∙ or_left _ x;
}

-- what is open after the receives isn't stolen
kept_open : (w : World) (n : ℕ) → IsTrue (w.s.eager.g n) → IsFalse (w.s.lazy.g n) → IsTrue (w.s.st n) → ⊥
kept_open w n e l s =
    let no_t : IsTrue (w.s.t n) → ⊥ = λ x. clash (w.solved.lazy.g n ∙ or_right _ x) l in
    let no_ti : IsTrue (w.s.ti n) → ⊥ = λ x. elim (ti_parts w n x) [ inl y ↦ no_t y | inr y ↦ clash s y.1 ] in
    elim (g_cases (w.solved.eager.g n) e) [
      | inr x ↦ no_ti x
      | inl x ↦ clash (w.solved.lazy.g n ∙ or_left _ (gi_closes w n (λ o. clash s (quiet w n o).st) (from_not no_ti) x)) l
    ]

-- what is stolen is in T only where it is taken
stolen_taken : (w : World) (n : ℕ) → IsTrue (w.s.st n) → IsTrue (w.s.ti n) → IsTrue (w.i.take n)
stolen_taken w n s e = elim (ti_parts w n e) [
  | inr y ↦ absurd (clash s y.1)
  | inl y ↦ elim (t_parts w n y) [ taken z ↦ z | inside p a b ↦ absurd (clash s b) | later a c b ↦ absurd (clash s b) ]
]

and_false : {a b : Bool} → IsTrue a → IsFalse (a && b) → IsFalse b
and_false {a = true} h e = e
and_false {a = false} h e = absurd (true≢false (sym h))

-- what is owed after the uses is wanted later
still_owed : (w : World) (p : Spots) (n : ℕ) → IsPlacement w.f w.i w.s p → IsTrue (w.s.ti n) → IsFalse (w.i.take n)
    → IsFalse (p.hoists n && w.i.any n) → IsTrue (w.s.to n) × IsFalse (w.s.st n)
still_owed w p n h e c k = elim (ti_parts w n e) [
  | inr y ↦ y
  | inl y ↦ elim (t_parts w n y) [
    | taken z ↦ absurd (clash z c)
    | later a x b ↦ (a, b)
    | inside q a b ↦ absurd (clash
        (and_from _ _ (h.hoists n ∙ and_from _ _ q (and_from _ _ (and_from _ _ a (not_from b)) (not_from c)))
        (used_inside w n (suc n) (within_top w n q) a)) k)
  ]
]

out_waits : {b ge gl st : Bool} → b ≡ (ge && not gl) → (IsTrue ge → IsFalse gl → IsTrue st → ⊥) → b ≡ ((ge && not st) && not (gl && not st))
out_waits {ge = true} {gl = true} {st = true} e h = e
out_waits {ge = true} {gl = true} {st = false} e h = e
out_waits {ge = true} {gl = false} {st = true} e h = absurd (h refl refl refl)
out_waits {ge = true} {gl = false} {st = false} e h = e
out_waits {ge = false} e h = e

pub arrive : (w : World) (p : Spots) (n : ℕ) (s : State) → IsPlacement w.f w.i w.s p → IsIn w n s → Arrived w p n s
arrive w p n s h a =
    let m = move (w.s.eager.gi n) (w.s.lazy.gi n) (w.s.eager.g n) (w.s.lazy.g n) s (in_move w n) a.waits in
    let s2 = moved (w.s.eager.g n && not (w.s.eager.gi n)) (w.s.lazy.g n && not (w.s.lazy.gi n)) s in
    let c = w.i.take n in
    let k = p.hoists n && w.i.any n in
    let d = w.i.steal n in
    let st_from : IsTrue d → IsTrue (w.s.st n) = λ x. (w.solved.st n).1 (inl x) in
    let owes : IsTrue s2.owed → IsTrue (w.s.ti n) ⊎ OwedAround w n = λ x. elim (m.owed x) [
      | inl y ↦ a.owed y
      | inr y ↦ elim (g_cases (w.solved.eager.g n) y.0) [ inl z ↦ absurd (clash z y.1) | inr z ↦ inl z ]
    ] in
    let u = use_it c k d s2
    (λ x. m.valid a.valid (w.solved.lazy.g n ∙ or_right _ (t_from_take w n x)))
    (λ x. from_not (λ y. let z = and_parts _ _ (sym m.waits ∙ y) in kept_open w n z.0 (not-true _ z.1) (st_from x)))
    (λ x y z v. elim (owes y) [ inl e ↦ clash (stolen_taken w n (st_from x) e) z | inr o ↦ clash (st_from x) (around_st w n o) ]) in
    record {
      later = used c k d s2;
      run = run_then (subst (λ (es : List Happening). Run es s s2) (ap₂ ops (sym (h.sends.at_in n)) (sym (h.recvs.at_in n))) m.run) u.run;
      is = record {
        waits = (u.waits ∙ out_waits m.waits (kept_open w n)) ∙ ap₂ (λ (x : Bool) (y : Bool). x && not y) (sym (w.solved.eager.go n)) (sym (w.solved.lazy.go n));
        valid = λ x. let y = and_parts _ _ (sym (w.solved.lazy.go n) ∙ x) in u.valid (from_not (λ z. clash (st_from z) (not-true _ y.1))) (m.valid a.valid y.0);
        around = λ l i x. u.valid (from_not (λ z. clash (st_from z) (st_out w l n i (go_l-parts w l x).1))) (m.stays (a.around l i x));
        owed = λ x. let y = u.owed x in elim (owes y.0) [ inl e ↦ inl (still_owed w p n h e y.1 y.2) | inr o ↦ inr o ];
      };
    }

-- ---- along a forward edge

pub record Left (w : World) (p : Spots) (n r : ℕ) (s : State) : Type 0 where
  pub later : State
  pub run : Run (leaves p n) s later
  pub is : IsIn w r later

met_at : (f : FlowGraph) (st ti x : ℕ → Bool) (v : Had) → IsFlow f → IsHad f st ti x v → (n r : ℕ) → IsTrue (f.forward n r) → IsTrue (v.gi r) ↔
    ((((p : ℕ) × IsTrue (f.forward p r)) × ((p : ℕ) → IsTrue (f.forward p r) → IsTrue (v.go p)))
    ⊎ (IsTrue (ti r) × ((p : ℕ) × IsTrue (f.forward p r) × IsTrue (v.go p))))
met_at f st ti x v flow way n zero h = let up : n < zero = flow.up n zero h in absurd (omega arith)
met_at f st ti x v flow way n (suc k) h = way.met k (from_not (λ p. flow.top_begins k n p h))

-- from the set at r to that of its predecessor n, and back where r wants the item
gi_why : (f : FlowGraph) (st ti x : ℕ → Bool) (v : Had) → IsFlow f → IsHad f st ti x v → (n r : ℕ) → IsTrue (f.forward n r) → IsTrue (v.gi r) → IsTrue (v.go n) ⊎ IsTrue (ti r)
gi_why f st ti x v flow way n r h e = elim ((met_at f st ti x v flow way n r h).0 e) [ inl a ↦ inl (a.1 n h) | inr a ↦ inr a.0 ]

gi_wanted : (f : FlowGraph) (st ti x : ℕ → Bool) (v : Had) → IsFlow f → IsHad f st ti x v → (n r : ℕ) → IsTrue (f.forward n r) → IsTrue (ti r) → IsTrue (v.go n) → IsTrue (v.gi r)
gi_wanted f st ti x v flow way n r h t e = (met_at f st ti x v flow way n r h).1 (inr (t, (n, h, e)))

both_same : {a b : Bool} → (IsTrue a → IsTrue b) → (IsTrue b → IsTrue a) → a ≡ b
both_same {a = true} h k = sym (h refl)
both_same {a = false} {b = true} h k = k refl
both_same {a = false} {b = false} h k = refl

-- the operations at `out` of n, seen from one of its successors
out_is : (f : FlowGraph) (st ti x : ℕ → Bool) (v : Had) → IsFlow f → IsHad f st ti x v → (a b : ℕ → Bool) → AreOps f v a b
    → (n r : ℕ) → IsTrue (f.forward n r) → b n ≡ (v.gi r && not (v.go n))
out_is f st ti x v flow way a b ops n r h = both_same
    (λ e. let z = (ops.at_out n).0 e in elim (flow.parted n) [
      | meets one ↦ and_from _ _ (subst (λ (q : ℕ). IsTrue (v.gi q)) (one r z.0.0 h z.0.1) z.0.2) (not_from z.1)
      | parts one ↦ elim ((met_at f st ti x v flow way n z.0.0 z.0.1).0 z.0.2) [
        | inl c ↦ absurd (clash (c.1 n z.0.1) z.1)
        | inr c ↦ absurd (clash (subst (λ (q : ℕ). IsTrue (v.go q)) (one z.0.0 c.1.0 z.0.1 c.1.1) c.1.2) z.1)
      ]
    ])
    (λ e. let z = and_parts _ _ e in (ops.at_out n).1 ((r, h, z.0), not-true _ z.1))

opened_on : (w : World) (n r : ℕ) → IsTrue (w.f.forward n r) → IsOpened w n → IsOpened w r
opened_on w n r h o = (o.0, record { within = w.flow.stays n r o.0 h o.1.within; has = o.1.has; lacks = o.1.lacks })

opened_back : (w : World) (n r : ℕ) → IsTrue (w.f.forward n r) → IsOpened w r → IsOpened w n
opened_back w n r h o = (o.0, record { within = w.flow.stayed n r o.0 h o.1.within; has = o.1.has; lacks = o.1.lacks })

out_move : (w : World) (n r : ℕ) → IsTrue (w.f.forward n r) → Move (w.s.eager.go n) (w.s.lazy.go n) (w.s.eager.gi r) (w.s.lazy.gi r)
out_move w n r h = record {
  sub = go_e-has w n;
  sub2 = gi_grows w r;
  kept = λ e l. so_true (λ x. clash (go_closes w n
      (gi_closes w n (λ o. clash (quiet w r (opened_on w n r h o)).gi_e x))
      (λ t s. absurd (clash (gi_wanted _ _ _ _ _ w.flow w.solved.eager n r h (((w.solved.to n).0 t).1 r h) e) x)) e) l);
  shut = λ l e. elim (cases_Bool (w.s.ti r)) [
    | inl t ↦ gi_wanted _ _ _ _ _ w.flow w.solved.lazy n r h t l
    | inr t ↦ gi_closes w r (λ o. clash l (quiet w n (opened_back w n r h o)).go_l) t e
  ];
}

pub leave : (w : World) (p : Spots) (n r : ℕ) (s : State) → IsPlacement w.f w.i w.s p → IsTrue (w.f.forward n r) → IsOut w n s → Left w p n r s
leave w p n r s h k a =
    let m = move (w.s.eager.go n) (w.s.lazy.go n) (w.s.eager.gi r) (w.s.lazy.gi r) s (out_move w n r k) a.waits in
    let s2 = moved (w.s.eager.gi r && not (w.s.eager.go n)) (w.s.lazy.gi r && not (w.s.lazy.go n)) s in
    record {
      later = s2;
      run = subst (λ (es : List Happening). Run es s s2) (ap₂ ops (sym (out_is _ _ _ _ _ w.flow w.solved.eager _ _ h.sends n r k)) (sym (out_is _ _ _ _ _ w.flow w.solved.lazy _ _ h.recvs n r k))) m.run;
      is = record {
        waits = m.waits;
        valid = m.valid a.valid;
        around = λ l i x. m.stays (a.around l (w.flow.stayed n r l k i) x);
        owed = λ x. elim (m.owed x) [
          | inr y ↦ elim (gi_why _ _ _ _ _ w.flow w.solved.eager n r k y.0) [ inl z ↦ absurd (clash z y.1) | inr z ↦ inl z ]
          | inl y ↦ elim (a.owed y) [
            | inl z ↦ inl (((w.solved.to n).0 z.0).1 r k)
            | inr o ↦ inr (record { l = o.l; within = w.flow.stays n r o.l k o.within; to = o.to; st = o.st })
          ]
        ];
      };
    }

-- ---- into a loop

pub enter : (w : World) (l : ℕ) (s : State) → IsTrue (w.f.is_loop l) → IsOut w l s → IsIn w (suc l) s
enter w l s p a = record {
  waits = a.waits ∙ ap₂ (λ (x : Bool) (y : Bool). x && not y) (sym (top_e w l p)) (sym (top_l w l p));
  valid = λ x. a.valid (sym (top_l w l p) ∙ x);
  around = λ m i x. elim (cases_eq m l) [
    | inl same ↦ a.valid (subst (λ (q : ℕ). IsTrue (w.s.lazy.go q)) same x)
    | inr ne ↦ a.around m (top_within w m l i ne) x
  ];
  owed = λ x. elim (a.owed x) [
    | inl y ↦ inr (record { l = l; within = within_top w l p; to = y.0; st = y.1 })
    | inr o ↦ inr (record { l = o.l; within = within_within w o.l l (suc l) o.within (within_top w l p); to = o.to; st = o.st })
  ];
}

-- ---- and back to it from its latch

latch_within : (w : World) (l m : ℕ) → IsTrue (w.f.is_loop l) → Within w.f m (w.f.latch l) → (m ≡ l → ⊥) → Within w.f m l
latch_within w l m p i ne =
    let a : m < w.f.latch l = i.above in
    let b : w.f.latch l ≤ w.f.latch m = i.below in
    let c : l < w.f.latch l = w.flow.far l p in
    let d : l < m → ⊥ = λ x. let y : w.f.latch m < w.f.latch l = w.flow.nests l m (record { is_loop = p; above = x; below = omega arith }) i.is_loop in omega arith in
    record { is_loop = i.is_loop; above = omega arith; below = omega arith }

latch_waits : (w : World) (l : ℕ) → IsTrue (w.f.is_loop l)
    → (w.s.eager.go (w.f.latch l) && not (w.s.lazy.go (w.f.latch l))) ≡ (w.s.eager.go l && not (w.s.lazy.go l))
latch_waits w l p = both_same
    (λ e. let z = and_parts _ _ e in so_true (λ x. clash (go_closes w (w.f.latch l)
    (gi_closes w (w.f.latch l) (λ o. elim (cases_eq o.0 l) [
      | inl same ↦ clash (and_from _ _ (subst (λ (q : ℕ). IsTrue (w.s.eager.go q)) same o.1.has) (not_from (subst (λ (q : ℕ). IsFalse (w.s.lazy.go q)) same o.1.lacks))) x
      | inr ne ↦ let q = quiet w l (o.0, record { within = latch_within w l o.0 p o.1.within ne; has = o.1.has; lacks = o.1.lacks }) in
          clash (and_from _ _ q.go_e (not_from q.go_l)) x
    ]))
    (λ t s. absurd (w.flow.latch_ends l _ p ((w.solved.to (w.f.latch l)).0 t).0.1)) z.0) (not-true _ z.1)))
    (λ e. let z = and_parts _ _ e in
    let q = quiet w (w.f.latch l) (l, record { within = within_latch w l p; has = z.0; lacks = not-true _ z.1 }) in
    and_from _ _ q.go_e (not_from q.go_l))

pub turn : (w : World) (l : ℕ) (s : State) → IsTrue (w.f.is_loop l) → IsOut w (w.f.latch l) s → IsOut w l s
turn w l s p a = record {
  waits = a.waits ∙ latch_waits w l p;
  valid = λ x. a.around l (within_latch w l p) x;
  around = λ m i x. a.around m (within_within w m l (w.f.latch l) i (within_latch w l p)) x;
  owed = λ x. elim (a.owed x) [
    | inl y ↦ absurd (w.flow.latch_ends l _ p ((w.solved.to (w.f.latch l)).0 y.0).0.1)
    | inr o ↦ elim (cases_eq o.l l) [
      | inl same ↦ inl (subst (λ (q : ℕ). IsTrue (w.s.to q)) same o.to, subst (λ (q : ℕ). IsFalse (w.s.st q)) same o.st)
      | inr ne ↦ inr (record { l = o.l; within = latch_within w l o.l p o.within ne; to = o.to; st = o.st })
    ]
  ];
}

-- ---- all paths

pub record Stands (w : World) (n : ℕ) (es : List Happening) : Type 0 where
  pub state : State
  pub run : Run es nothing state
  pub is : IsOut w n state

no_body : (w : World) (l : ℕ) → Within w.f l 0 → ⊥
no_body w l i = let a : l < 0 = i.above in omega arith

begin : (w : World) → IsIn w 0 nothing
begin w = record {
  waits = ap₂ (λ (x : Bool) (y : Bool). x && not y) (sym w.solved.eager.start) (sym w.solved.lazy.start);
  valid = λ x. absurd (clash x w.solved.lazy.start);
  around = λ l i x. absurd (no_body w l i);
  owed = λ x. absurd (true≢false (sym x));
}

pub stands : (w : World) (p : Spots) (ns : List ℕ) (n : ℕ) (es : List Happening) → IsPlacement w.f w.i w.s p → Path w.f w.i p ns n es → Stands w n es
stands w p ns n es h start = let a = arrive w p 0 nothing h (begin w) in record { state = a.later; run = a.run; is = a.is }
stands w p ns n es h (forward {ns = ms} {n = m} {es = fs} r path k) =
    let b = stands w p ms m fs h path in
    let c = leave w p m r b.state h k b.is in
    let a = arrive w p r c.later h c.is in
    record { state = a.later; run = run_then b.run (run_then c.run a.run); is = a.is }
stands w p ns n es h (entry {ns = ms} {l = l} {es = fs} path k) =
    let b = stands w p ms l fs h path in
    let a = arrive w p (suc l) b.state h (enter w l b.state k b.is) in
    record { state = a.later; run = run_then b.run a.run; is = a.is }
stands w p ns n es h (cycle {ns = ms} {n = m} {es = fs} l path k at) =
    let b = stands w p ms m fs h path in
    record { state = b.state; run = b.run; is = turn w l b.state k (subst (λ (q : ℕ). IsOut w q b.state) at b.is) }

pub all_kept : (w : World) (p : Spots) (last : ℕ) (ns : List ℕ) (n : ℕ) (es : List Happening) → IsPlacement w.f w.i w.s p → IsLast w.f last → Path w.f w.i p ns n es → IsKept (n ≡ last) es
all_kept w p last ns n es h ends path =
    let b = stands w p ns n es h path in
    kept (n ≡ last) es b.state b.run (λ same.
    let no_to : IsTrue (w.s.to n) → ⊥ = λ t. let z = (w.solved.to n).0 t in let lt : n < last = ends.no_edge n z.0.0 z.0.1 in absurd (omega arith) in
    let outside : (l : ℕ) → Within w.f l n → ⊥ = λ l i. let lt : w.f.latch l < last = ends.no_loop l i.is_loop in let le : n ≤ w.f.latch l = i.below in absurd (omega arith) in (
      from_not (λ x. let z = and_parts _ _ (sym b.is.waits ∙ x) in
          clash (go_closes w n (gi_closes w n (λ o. outside o.0 o.1.within)) (λ t s. absurd (no_to t)) z.0) (not-true _ z.1)),
      from_not (λ x. elim (b.is.owed x) [ inl y ↦ no_to y.0 | inr o ↦ outside o.l o.within ]),
    ))
