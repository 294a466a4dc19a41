-- The passes together solve the equations, and the operations are those of the solution.
use Rattle.std.proofs.Common.{◌≡◌, ℕ, suc, ◌<◌, ◌≤◌, Bool, true, false, not, ◌&&◌, ◌||◌, IsTrue, IsFalse, ◌↔◌, inl, inr, List, length, refl, sym, ◌∙◌, ap, ap₂, subst, arith, true≢false, eqb-true, eq-eqb, ◌==◌}
use Rattle.std.proofs.lemmas.Bool.{cases_lt, and_parts, and_from, or_cases, not-true}
use Rattle.std.proofs.lemmas.List.{get_or_past}
use Rattle.fd_prog.specs.Flow.{Way, Next, Fork, Jump, Around, Back, Nowhere, leads, is_around}
use Rattle.interval_graph.specs.declared.node.Row.{Row}
use Rattle.interval_graph.specs.Rows.{leads_at, flow_of, AreRows}
use Rattle.gnt_solver.specs.Columns.{at}
use Rattle.gnt_solver.specs.Equations.{Wants, Had, IsHad, Solution, Solves, AreOps, IsPlacement}
use Rattle.gnt_solver.specs.Passes.{IsSt, IsTi, IsT, to_of, some_of, t_of, ArePassed, AreSet, hoist_of}
use Rattle.gnt_solver.proofs.Static.{or_left, or_right, clash, not_from}
use Rattle.gnt_solver.proofs.Rows.{edge_in, loop_in, some_rows}

all_ends : (ti : ℕ → Bool) (m s : ℕ) → IsTrue (ti m) → IsTrue (s == m) → IsTrue (ti s)
all_ends ti m s h e = subst (λ (x : ℕ). IsTrue (ti x)) (sym (eqb-true s m e)) h

to_iff : (w : Way) (n : ℕ) (ti : ℕ → Bool) → IsTrue (to_of w n ti) ↔ (((s : ℕ) × IsTrue (leads w n s)) × ((s : ℕ) → IsTrue (leads w n s) → IsTrue (ti s)))
to_iff Next n ti = (λ h. ((suc n, eq-eqb (suc n) (suc n) refl), λ s e. all_ends ti (suc n) s h e), λ h. h.1 (suc n) (eq-eqb (suc n) (suc n) refl))
to_iff (Fork m) n ti = (
  λ h. let z = and_parts _ _ h in ((m, or_right _ (eq-eqb m m refl)), λ s e. elim (or_cases _ _ e) [ inl x ↦ all_ends ti (suc n) s z.0 x | inr x ↦ all_ends ti m s z.1 x ]),
  λ h. and_from _ _ (h.1 (suc n) (or_left _ (eq-eqb (suc n) (suc n) refl))) (h.1 m (or_right _ (eq-eqb m m refl))),
)
to_iff (Jump m) n ti = (λ h. ((m, eq-eqb m m refl), λ s e. all_ends ti m s h e), λ h. h.1 m (eq-eqb m m refl))
to_iff (Around m) n ti = (λ h. ((suc m, eq-eqb (suc m) (suc m) refl), λ s e. all_ends ti (suc m) s h e), λ h. h.1 (suc m) (eq-eqb (suc m) (suc m) refl))
to_iff (Back l) n ti = (λ h. absurd (true≢false (sym h)), λ h. absurd (true≢false (sym h.0.1)))
to_iff Nowhere n ti = (λ h. absurd (true≢false (sym h)), λ h. absurd (true≢false (sym h.0.1)))

some_iff : (w : Way) (n : ℕ) (gi : ℕ → Bool) → IsTrue (some_of w n gi) ↔ ((s : ℕ) × IsTrue (leads w n s) × IsTrue (gi s))
some_iff Next n gi = (λ h. (suc n, eq-eqb (suc n) (suc n) refl, h), λ h. subst (λ (x : ℕ). IsTrue (gi x)) (eqb-true h.0 (suc n) h.1) h.2)
some_iff (Fork m) n gi = (
  λ h. elim (or_cases _ _ h) [ inl x ↦ (suc n, or_left _ (eq-eqb (suc n) (suc n) refl), x) | inr x ↦ (m, or_right _ (eq-eqb m m refl), x) ],
  λ h. elim (or_cases _ _ h.1) [ inl x ↦ or_left _ (subst (λ (y : ℕ). IsTrue (gi y)) (eqb-true h.0 (suc n) x) h.2) | inr x ↦ or_right _ (subst (λ (y : ℕ). IsTrue (gi y)) (eqb-true h.0 m x) h.2) ],
)
some_iff (Jump m) n gi = (λ h. (m, eq-eqb m m refl, h), λ h. subst (λ (x : ℕ). IsTrue (gi x)) (eqb-true h.0 m h.1) h.2)
some_iff (Around m) n gi = (λ h. (suc m, eq-eqb (suc m) (suc m) refl, h), λ h. subst (λ (x : ℕ). IsTrue (gi x)) (eqb-true h.0 (suc m) h.1) h.2)
some_iff (Back l) n gi = (λ h. absurd (true≢false (sym h)), λ h. absurd (true≢false (sym h.1)))
some_iff Nowhere n gi = (λ h. absurd (true≢false (sym h)), λ h. absurd (true≢false (sym h.1)))

past : (xs : List Bool) (len n : ℕ) → length xs ≡ len → len ≤ n → at xs n ≡ false
past xs len n e h = get_or_past xs n false (omega arith)

-- behind the last node nothing leads on
ended : (rows : List Row) (n : ℕ) → length rows ≤ n → leads_at rows n ≡ Nowhere
ended rows n h = rw (get_or_past rows n _ h) refl

-- the latch of a loop
data WayOf (rows : List Row) (n : ℕ) : Type 0 where
  found : (c : ℕ) → leads_at rows n ≡ Around c → WayOf rows n

way_by : (rows : List Row) (n : ℕ) (w : Way) → leads_at rows n ≡ w → IsTrue (is_around w) → WayOf rows n
way_by rows n (Around c) e p = found c e
way_by rows n Next e p = absurd (true≢false (sym p))
way_by rows n (Fork m) e p = absurd (true≢false (sym p))
way_by rows n (Jump m) e p = absurd (true≢false (sym p))
way_by rows n (Back l) e p = absurd (true≢false (sym p))
way_by rows n Nowhere e p = absurd (true≢false (sym p))

way_of : (rows : List Row) (n : ℕ) → IsTrue (is_around (leads_at rows n)) → WayOf rows n
way_of rows n p = way_by rows n (leads_at rows n) refl p

-- the marks of one pass
pub record Marks : Type 0 where
  pub gi : List Bool
  pub g : List Bool
  pub go : List Bool

pub record AreLong (n : ℕ) (w : Marks) : Type 0 where
  pub gi : length w.gi ≡ n
  pub g : length w.g ≡ n
  pub go : length w.go ≡ n

abbrev pub had_of : Marks → Had
had_of w = record { gi = at w.gi; g = at w.g; go = at w.go }

had_by : (rows : List Row) (st ti x : List Bool) (w : Marks) → AreRows rows → length x ≡ length rows → AreLong (length rows) w
    → ArePassed rows st ti x w.gi w.g w.go (length rows) → IsHad (flow_of rows) (at st) (at ti) (at x) (had_of w)
had_by rows st ti x w are lx long h = record {
  start = h.entered 0 (some_rows rows are);
  top = λ l p. elim (way_of rows l p) [
    | found c e ↦
        let k = loop_in rows l c are e in
        let far : l < c = k.far in
        let inside : suc c < length rows = k.inside in
        (h.entered (suc l) (omega arith)).0 p ∙ h.goes l (omega arith)
  ];
  met = λ k p. elim (cases_lt (suc k) (length rows)) [
    | inl lt ↦ (h.entered (suc k) lt).1 p
    | inr ge ↦
        let none = λ (q : ℕ) (e : IsTrue (leads (leads_at rows q) q (suc k))). let i = edge_in rows q (suc k) are e in let j : suc k < length rows = i.1 in absurd {A = ⊥} (omega arith) in (
          λ y. absurd (clash y (past w.gi (length rows) (suc k) long.gi ge)),
          λ y. absurd (elim y [ inl z ↦ none z.0.0 z.0.1 | inr z ↦ none z.1.0 z.1.1 ]),
        )
  ];
  g = λ n. elim (cases_lt n (length rows)) [
    | inl lt ↦ h.has n lt
    | inr ge ↦ past w.g (length rows) n long.g ge ∙ ap₂ (λ (a : Bool) (b : Bool). a || b) (sym (past w.gi (length rows) n long.gi ge)) (sym (past x (length rows) n lx ge))
  ];
  go = λ n. elim (cases_lt n (length rows)) [
    | inl lt ↦ h.goes n lt
    | inr ge ↦ past w.go (length rows) n long.go ge ∙ ap (λ (a : Bool). a && not (at st n)) (sym (past w.g (length rows) n long.g ge))
  ];
}

t_all : (rows : List Row) (take st any ti t : List Bool) → length take ≡ length rows → length t ≡ length rows
    → IsT rows (at take) (at st) (at any) (at ti) (at t) (length rows) → (n : ℕ) → at t n ≡ t_of rows (at take) (at st) (at any) (at ti) n
t_all rows take st any ti t lk lt h n = elim (cases_lt n (length rows)) [
  | inl k ↦ h n k
  | inr ge ↦ past t (length rows) n lt ge ∙ sym (rw (past take (length rows) n lk ge, ended rows n ge) refl)
]

no_more : (a b c : Bool) → IsFalse b → (a || (b && c)) ≡ a
no_more true b c e = refl
no_more false true c e = absurd (true≢false e)
no_more false false c e = refl

as_loop : (a b c : Bool) → IsTrue b → (a || (b && c)) ≡ (a || c)
as_loop a true c e = refl
as_loop a false c e = absurd (true≢false (sym e))

-- the marks of one item
pub record Found : Type 0 where
  pub take : List Bool
  pub steal : List Bool
  pub any : List Bool
  pub st : List Bool
  pub ti : List Bool
  pub t : List Bool
  pub eager : Marks
  pub lazy : Marks

abbrev pub solution_of : List Row → Found → Solution
solution_of rows s = record {
  st = at s.st;
  to = λ n. to_of (leads_at rows n) n (at s.ti);
  t = at s.t;
  ti = at s.ti;
  eager = had_of s.eager;
  lazy = had_of s.lazy;
}

-- what the passes give for one item
pub record IsFound (rows : List Row) (s : Found) : Type 0 where
  pub long_take : length s.take ≡ length rows
  pub long_ti : length s.ti ≡ length rows
  pub long_t : length s.t ≡ length rows
  pub long_eager : AreLong (length rows) s.eager
  pub long_lazy : AreLong (length rows) s.lazy
  pub st : IsSt rows s.steal s.st 0
  pub ti : IsTi rows (at s.take) (at s.st) (at s.any) (at s.ti) 0
  pub t : IsT rows (at s.take) (at s.st) (at s.any) (at s.ti) (at s.t) (length rows)
  pub eager : ArePassed rows s.st s.ti s.ti s.eager.gi s.eager.g s.eager.go (length rows)
  pub lazy : ArePassed rows s.st s.ti s.t s.lazy.gi s.lazy.g s.lazy.go (length rows)

-- `any` is only looked at in loops, where the marks and the definition agree
t_same : (rows : List Row) (take st any any2 ti : ℕ → Bool) → ((n : ℕ) → any n ≡ any2 n) → (n : ℕ) → t_of rows take st any ti n ≡ t_of rows take st any2 ti n
t_same rows take st any any2 ti e n =
    ap (λ (b : Bool). take n || (is_around (leads_at rows n) && ((ti (suc n) && not (st n)) || ((to_of (leads_at rows n) n ti && b) && not (st n))))) (e n)

pub solves_by : (rows : List Row) (s : Found) (i : Wants) → AreRows rows → IsFound rows s → ((n : ℕ) → i.take n ≡ at s.take n) → ((n : ℕ) → i.steal n ≡ at s.steal n) → ((n : ℕ) → at s.any n ≡ i.any n)
    → Solves (flow_of rows) (record { take = at s.take; steal = at s.steal; any = i.any }) (solution_of rows s)
solves_by rows s i are h p q r =
    let all = λ (n : ℕ). t_all rows s.take s.st s.any s.ti s.t h.long_take h.long_t h.t n ∙ t_same rows (at s.take) (at s.st) (at s.any) i.any (at s.ti) r n in
    record {
      st = λ n. h.st n (omega arith);
      to = λ n. to_iff (leads_at rows n) n (at s.ti);
      t_plain = λ n p. all n ∙ no_more (at s.take n) (is_around (leads_at rows n)) _ p;
      t_loop = λ n p. all n ∙ as_loop (at s.take n) (is_around (leads_at rows n)) _ p;
      ti = λ n. h.ti n (omega arith) ∙ ap (λ (x : Bool). x || (to_of (leads_at rows n) n (at s.ti) && not (at s.st n))) (sym (t_all rows s.take s.st s.any s.ti s.t h.long_take h.long_t h.t n));
      eager = had_by rows s.st s.ti s.ti s.eager are h.long_ti h.long_eager h.eager;
      lazy = had_by rows s.st s.ti s.t s.lazy are h.long_t h.long_lazy h.lazy;
    }

-- ---- the operations

ops_by : (rows : List Row) (w : Marks) (a b : List Bool) → AreLong (length rows) w → length a ≡ length rows → length b ≡ length rows
    → AreSet rows w.gi w.g w.go a b (length rows) → AreOps (flow_of rows) (had_of w) (at a) (at b)
ops_by rows w a b long la lb h =
    let out : (n : ℕ) → at b n ≡ (some_of (leads_at rows n) n (at w.gi) && not (at w.go n)) = λ n. elim (cases_lt n (length rows)) [
      | inl lt ↦ h.at_out n lt
      | inr ge ↦ past b (length rows) n lb ge ∙ ap (λ (x : Way). some_of x n (at w.gi) && not (at w.go n)) (sym (ended rows n ge))
    ] in
    record {
      at_in = λ n. elim (cases_lt n (length rows)) [
        | inl lt ↦ h.at_in n lt
        | inr ge ↦ past a (length rows) n la ge ∙ ap (λ (x : Bool). x && not (at w.gi n)) (sym (past w.g (length rows) n long.g ge))
      ];
      at_out = λ n. (
        λ x. let z = and_parts _ _ (sym (out n) ∙ x) in ((some_iff (leads_at rows n) n (at w.gi)).0 z.0, not-true _ z.1),
        λ x. out n ∙ and_from _ _ ((some_iff (leads_at rows n) n (at w.gi)).1 x.0) (not_from x.1),
      );
    }

-- the marks of an item's places
pub record Put : Type 0 where
  pub send_in : List Bool
  pub send_out : List Bool
  pub recv_in : List Bool
  pub recv_out : List Bool
  pub hoists : List Bool

pub record IsPut (rows : List Row) (s : Found) (p : Put) : Type 0 where
  pub long_send_in : length p.send_in ≡ length rows
  pub long_send_out : length p.send_out ≡ length rows
  pub long_recv_in : length p.recv_in ≡ length rows
  pub long_recv_out : length p.recv_out ≡ length rows
  pub long_hoists : length p.hoists ≡ length rows
  pub sends : AreSet rows s.eager.gi s.eager.g s.eager.go p.send_in p.send_out (length rows)
  pub recvs : AreSet rows s.lazy.gi s.lazy.g s.lazy.go p.recv_in p.recv_out (length rows)
  pub hoists : (n : ℕ) → n < length rows → at p.hoists n ≡ hoist_of rows (at s.take) (at s.st) (at s.ti) n

pub placed_by : (rows : List Row) (s : Found) (any : ℕ → Bool) (p : Put) → IsFound rows s → IsPut rows s p
    → IsPlacement (flow_of rows) (record { take = at s.take; steal = at s.steal; any = any }) (solution_of rows s)
    (record { send_in = at p.send_in; send_out = at p.send_out; recv_in = at p.recv_in; recv_out = at p.recv_out; hoists = at p.hoists })
placed_by rows s any p f h = record {
  sends = ops_by rows s.eager p.send_in p.send_out f.long_eager h.long_send_in h.long_send_out h.sends;
  recvs = ops_by rows s.lazy p.recv_in p.recv_out f.long_lazy h.long_recv_in h.long_recv_out h.recvs;
  hoists = λ n. elim (cases_lt n (length rows)) [
    | inl lt ↦ h.hoists n lt
    | inr ge ↦ past p.hoists (length rows) n h.long_hoists ge
        ∙ ap (λ (w : Way). is_around w && ((at s.ti (suc n) && not (at s.st n)) && not (at s.take n))) (sym (ended rows n ge))
  ];
}
