-- Items that two placements place alike.
use Rattle.std.proofs.Common.{◌≡◌, ℕ, ◌+◌, ◌-◌, ◌<◌, ◌≤◌, ◌==◌, Bool, true, false, not, ◌&&◌, ◌||◌, inl, inr, List, length, None, refl, sym, ◌∙◌, ap, subst, arith, true≢false}
use Rattle.std.proofs.lemmas.Bool.{cases_eq, cases_lt}
use Rattle.std.proofs.lemmas.List.{get_or_past}
use Rattle.fd_sets.specs.Sets.{Subset}
use Rattle.fd_prog.specs.Paths.{taken_inside}
use Rattle.fd_prog.specs.PathConditions.{IsGoodPlan}
use Rattle.interval_graph.specs.declared.node.Row.{Row}
use Rattle.interval_graph.specs.Rows.{flow_of, AreRows}
use Rattle.gnt_solver.specs.declared.solving.Placement.{Placement}
use Rattle.gnt_solver.specs.Columns.{at, col}
use Rattle.gnt_solver.proofs.Marks.{long_col}
use Rattle.gnt_solver.proofs.Rows.{flow, last}
use Rattle.place_check.specs.declared.marks.Doings.{Doings}
use Rattle.place_check.specs.declared.verdict.Condition.{Condition}
use Rattle.place_check.specs.Marks.{after, ended, arrival, departure}
use Rattle.place_check.specs.Verdicts.{IsHeld}
use Rattle.place_check.specs.Columns.{plan_of, doings_of}
use Rattle.place_check.proofs.Paths.{machine, walk_breaks, held_by}
use Rattle.place_check.proofs.Judged.{AreAlike, walk_alike}
use Rattle.place_check.proofs.One.{kept_keeps}
use Rattle.place_check.proofs.Taking.{same_doings}

-- two tables have an item in the sets of the same nodes
abbrev pub IsAlike : List Subset → List Subset → ℕ → Type 0
IsAlike t u x = (n : ℕ) → at (col t x) n ≡ at (col u x) n

-- two placements place an item alike
pub record ArePlacedAlike (p q : Placement) (x : ℕ) : Type 0 where
  pub send_in : IsAlike p.send_in q.send_in x
  pub send_out : IsAlike p.send_out q.send_out x
  pub recv_in : IsAlike p.recv_in q.recv_in x
  pub recv_out : IsAlike p.recv_out q.recv_out x
  pub hoists : IsAlike p.hoists q.hoists x

-- the same happens to it at each node
alike_doings : (rows : List Row) (take steal : List Subset) (p q : Placement) (x : ℕ) → ArePlacedAlike p q x → (n : ℕ) → doings_of (plan_of rows take steal q) x n ≡ doings_of (plan_of rows take steal p) x n
alike_doings rows take steal p q x h n =
    let inside : Bool = taken_inside (flow_of rows) (λ (m : ℕ) (y : ℕ). at (col take y) m) n x in
    same_doings (sym (h.send_in n)) (sym (h.recv_in n)) refl (ap (λ (b : Bool). b && inside) (sym (h.hoists n))) refl (sym (h.send_out n)) (sym (h.recv_out n))

-- an item that a good placement places alike keeps each condition
pub held_alike : (rows : List Row) (take steal : List Subset) (p q : Placement) (x : ℕ) (c : Condition) → AreRows rows → 1 ≤ x → x ≤ (plan_of rows take steal q).items
    → IsGoodPlan (plan_of rows take steal p) (length rows - 1) → ArePlacedAlike p q x → IsHeld (plan_of rows take steal q) (length rows - 1) c x
held_alike rows take steal p q x c h low high good alike =
    let v = plan_of rows take steal p in
    let w = plan_of rows take steal q in
    let end : ℕ = length rows - 1 in
    let d = alike_doings rows take steal p q x alike in
    let same : AreAlike (machine w end c x) (machine v end c x) = record {
      arriving = λ n mark. ap (λ (z : Doings). ended c (n == end) (after c (arrival z) mark)) (d n);
      leaving = λ n mark. ap (λ (z : Doings). after c (departure z) mark) (d n);
    } in
    held_by w end c x (record { low = low; high = high }) (flow rows h) (last rows h) (λ ns n walk.
    let b = walk_breaks v end c x (record { low = low; high = high }) (flow rows h) (last rows h) ns n (walk_alike (flow_of rows) (machine w end c x) (machine v end c x) same ns n None walk) in
    b.broken (kept_keeps c _ _ (good _ b.node b.events b.path x low high)))

-- ---- sets that differ

unlike : (d a b : Bool) → ((d || (a && not b)) || (b && not a)) ≡ false → (d ≡ false) × (a ≡ b)
unlike true a b h = absurd (true≢false h)
unlike false true true h = (refl, refl)
unlike false true false h = absurd (true≢false h)
unlike false false true h = absurd (true≢false h)
unlike false false false h = (refl, refl)

-- an item is out of a set, and two tables have it at the same nodes below n
abbrev pub IsOut : Bool → Bool → List Subset → List Subset → ℕ → ℕ → Type 0
IsOut old new t u x n = new ≡ false → (old ≡ false) × ((m : ℕ) → m < n → at (col t x) m ≡ at (col u x) m)

pub out_start : (old : Bool) (t u : List Subset) (x : ℕ) → IsOut old old t u x 0
out_start old t u x h = (h, λ m lt. absurd (omega (arith, lt)))

-- one node more
pub out_more : (old d e f a b : Bool) (t u : List Subset) (x n : ℕ) → e ≡ (d || (a && not b)) → f ≡ (e || (b && not a)) → a ≡ at (col t x) n → b ≡ at (col u x) n
    → IsOut old d t u x n → IsOut old f t u x (n + 1)
out_more old d e f a b t u x n he hf ha hb known h =
    let r = unlike d a b (sym (hf ∙ ap (λ (z : Bool). z || (b && not a)) he) ∙ h) in
    let k = known r.0 in (
      k.0,
      λ m lt. elim (cases_eq n m) [
        | inl same ↦ subst (λ (z : ℕ). at (col t x) z ≡ at (col u x) z) same (sym ha ∙ (r.1 ∙ hb))
        | inr ne ↦ k.1 m (omega (arith, lt, ne))
      ],
    )

-- behind the last node neither has it
pub out_all : (old new : Bool) (t u : List Subset) (x n : ℕ) → length t ≡ n → length u ≡ n → IsOut old new t u x n → new ≡ false → (old ≡ false) × IsAlike t u x
out_all old new t u x n lt lu known h =
    let k = known h in (
      k.0,
      λ m. elim (cases_lt m n) [
        | inl less ↦ k.1 m less
        | inr ge ↦ get_or_past (col t x) m false (omega (arith, long_col t x, lt, ge)) ∙ sym (get_or_past (col u x) m false (omega (arith, long_col u x, lu, ge)))
      ],
    )
