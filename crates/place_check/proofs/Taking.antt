-- What happens to an item at the nodes, from the last node down.
use Rattle.std.proofs.Common.{◌≡◌, ℕ, ◌+◌, ◌-◌, ◌<◌, ◌≤◌, Bool, true, false, ◌&&◌, if◌then◌else◌, IsTrue, ◌↔◌, inl, inr, List, length, set, refl, sym, ◌∙◌, subst, arith, true≢false, get_or-set_other, get_or-set_same}
use Rattle.std.specs.Prelude.{nat_le}
use Rattle.std.proofs.lemmas.Bool.{cases_lt, cases_eq, and_parts, and_from, leb-true, le-leb}
use Rattle.std.proofs.lemmas.List.{get_or_past}
use Rattle.fd_sets.specs.Sets.{Subset}
use Rattle.fd_prog.specs.Flow.{Within, is_around, latch_in}
use Rattle.fd_prog.specs.Paths.{Marks, taken_inside}
use Rattle.interval_graph.specs.declared.node.Row.{Row}
use Rattle.interval_graph.specs.Rows.{leads_at, flow_of, AreRows}
use Rattle.gnt_solver.specs.declared.solving.Placement.{Placement}
use Rattle.gnt_solver.specs.Columns.{at, col}
use Rattle.gnt_solver.proofs.Marks.{long_col}
use Rattle.gnt_solver.proofs.Rows.{last}
use Rattle.gnt_solver.proofs.Items.{any_within}
use Rattle.place_check.specs.declared.marks.Doings.{Doings}
use Rattle.place_check.specs.Marks.{quiet, doings_at}
use Rattle.place_check.specs.Columns.{plan_of, doings_of, HaveNodes, IsNearest}

-- two tests of one fact are equal
same_test : (a b : Bool) (P : Type 0) → (IsTrue a ↔ P) → (IsTrue b ↔ P) → a ≡ b
same_test true true P h k = refl
same_test true false P h k = sym (k.1 (h.0 refl))
same_test false true P h k = h.1 (k.0 refl)
same_test false false P h k = refl

-- a body takes the item where the nearest node that takes it is in it
near_inside : (rows : List Row) (take : Marks) (x n nearest : ℕ) → AreRows rows → IsNearest (length rows) (λ m. take m x) (n + 1) nearest
    → IsTrue (is_around (leads_at rows n) && nat_le nearest (latch_in (leads_at rows n))) ↔ ((m : ℕ) × Within (flow_of rows) n m × IsTrue (take m x))
near_inside rows take x n nearest h near = (
  (λ t.
      let parts = and_parts _ _ t in
      let le : nearest ≤ latch_in (leads_at rows n) = leb-true nearest (latch_in (leads_at rows n)) parts.1 in
      let end : latch_in (leads_at rows n) < length rows - 1 = (last rows h).no_loop n parts.0 in
      let low : n + 1 ≤ nearest = near.low in
      (nearest, record { is_loop = parts.0; above = omega arith; below = le }, near.here (omega arith))),
  (λ t.
      let up : n < t.0 = t.1.above in
      let down : t.0 ≤ latch_in (leads_at rows n) = t.1.below in
      let le : nearest ≤ t.0 = (elim (cases_lt t.0 nearest) [
        | inl lt ↦ absurd (true≢false (sym t.2 ∙ near.none t.0 (omega arith) lt))
        | inr ge ↦ ge
      ]) in
      and_from _ _ t.1.is_loop (le-leb nearest (latch_in (leads_at rows n)) (omega arith))),
)

pub near_takes : (rows : List Row) (take : Marks) (x n nearest : ℕ) → AreRows rows → IsNearest (length rows) (λ m. take m x) (n + 1) nearest
    → (is_around (leads_at rows n) && nat_le nearest (latch_in (leads_at rows n))) ≡ taken_inside (flow_of rows) take n x
near_takes rows take x n nearest h near = same_test _ _ _ (near_inside rows take x n nearest h near) (any_within (flow_of rows) take x n)

pub nearest_start : (count : ℕ) (marked : ℕ → Bool) → IsNearest count marked count count
nearest_start count marked = record { low = omega arith; high = omega arith; none = λ m lo hi. absurd (omega (arith, lo, hi)); here = λ lt. absurd (omega (arith, lt)) }

pub nearest_step : (count : ℕ) (marked : ℕ → Bool) (n nearest : ℕ) (b : Bool) → b ≡ marked n → n < count → IsNearest count marked (n + 1) nearest → IsNearest count marked n (if b then n else nearest)
nearest_step count marked n nearest true e lt near = record { low = omega arith; high = omega (arith, lt); none = λ m lo hi. absurd (omega (arith, lo, hi)); here = λ q. sym e }
nearest_step count marked n nearest false e lt near =
    let lo : n + 1 ≤ nearest = near.low in
    record {
      low = omega arith;
      high = near.high;
      none = λ m a b. elim (cases_eq n m) [
        | inl q ↦ subst (λ (z : ℕ). marked z ≡ false) q (sym e)
        | inr q ↦ near.none m (omega (arith, a, q)) b
      ];
      here = near.here;
    }

-- one node more
pub doings_step : (ds : List Doings) (i : ℕ) (here : Doings) (all : ℕ → Doings) → i < length ds → here ≡ all i → ((m : ℕ) → i + 1 ≤ m → doings_at ds m ≡ all m)
    → (m : ℕ) → i ≤ m → doings_at (set ds i here) m ≡ all m
doings_step ds i here all lt e old m le = elim (cases_eq i m) [
  | inl q ↦ subst (λ (z : ℕ). doings_at (set ds i here) z ≡ all z) q (get_or-set_same ds i here quiet lt ∙ e)
  | inr q ↦ get_or-set_other ds i m here quiet (λ z. q (sym z)) ∙ old m (omega (arith, le, q))
]

-- behind the last node nothing happens
past : (t : List Subset) (x n count : ℕ) → length t ≡ count → count ≤ n → at (col t x) n ≡ false
past t x n count e h = get_or_past (col t x) n false (omega (arith, long_col t x, e, h))

pub quiet_behind : (rows : List Row) (take steal : List Subset) (p : Placement) (x m : ℕ) → HaveNodes (length rows) take steal p → length rows ≤ m
    → quiet ≡ doings_of (plan_of rows take steal p) x m
quiet_behind rows take steal p x m h le =
    rw (
      past p.send_in x m (length rows) h.sends_in le,
      past p.recv_in x m (length rows) h.recvs_in le,
      past take x m (length rows) h.takes le,
      past p.hoists x m (length rows) h.hoists le,
      past steal x m (length rows) h.steals le,
      past p.send_out x m (length rows) h.sends_out le,
      past p.recv_out x m (length rows) h.recvs_out le,
    ) refl

pub same_doings : {a b c d e f g a2 b2 c2 d2 e2 f2 g2 : Bool} → a ≡ a2 → b ≡ b2 → c ≡ c2 → d ≡ d2 → e ≡ e2 → f ≡ f2 → g ≡ g2
    → ◌≡◌ {A = Doings} (record { sent_in = a; received_in = b; taken = c; hoisted = d; stolen = e; sent_out = f; received_out = g })
    (record { sent_in = a2; received_in = b2; taken = c2; hoisted = d2; stolen = e2; sent_out = f2; received_out = g2 })
same_doings p q r s t u v = λ i. record { sent_in = p i; received_in = q i; taken = r i; hoisted = s i; stolen = t i; sent_out = u i; received_out = v i }
