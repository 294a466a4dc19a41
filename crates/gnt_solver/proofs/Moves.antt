-- Two short runs over states: Sent and Received that lead from one pair of sets to another, and the uses.
use Rattle.std.proofs.Common.{◌≡◌, Bool, true, false, not, ◌&&◌, IsTrue, IsFalse, ◌⊎◌, inl, inr, ◌++◌, refl, sym, true≢false}
use Rattle.fd_prog.specs.Paths.{Sent, Received, Taken, Hoisted, Stolen}
use Rattle.gnt_solver.proofs.OneItem.{if_so, ops}
use Rattle.gnt_solver.proofs.Runs.{State, Run, over, more, perhaps}

-- from e and l to e2 and l2
pub record Move (e l e2 l2 : Bool) : Type 0 where
  pub sub : IsTrue l → IsTrue e
  pub sub2 : IsTrue l2 → IsTrue e2
  pub kept : IsTrue e → IsFalse l → IsTrue e2
  pub shut : IsTrue l → IsTrue e2 → IsTrue l2

abbrev pub moved : Bool → Bool → State → State
moved a b s = perhaps b Received (perhaps a Sent s)

pub record Moved (e l e2 l2 : Bool) (s : State) : Type 0 where
  pub run : Run (ops (e2 && not e) (l2 && not l)) s (moved (e2 && not e) (l2 && not l) s)
  pub waits : (moved (e2 && not e) (l2 && not l) s).waits ≡ (e2 && not l2)
  pub valid : (IsTrue l → IsTrue s.valid) → IsTrue l2 → IsTrue (moved (e2 && not e) (l2 && not l) s).valid
  pub stays : IsTrue s.valid → IsTrue (moved (e2 && not e) (l2 && not l) s).valid
  pub owed : IsTrue (moved (e2 && not e) (l2 && not l) s).owed → IsTrue s.owed ⊎ (IsTrue e2 × IsFalse e)

pub move : (e l e2 l2 : Bool) (s : State) → Move e l e2 l2 → s.waits ≡ (e && not l) → Moved e l e2 l2 s
move false true e2 l2 s m h = absurd (true≢false (sym (m.sub refl)))
move e l false true s m h = absurd (true≢false (sym (m.sub2 refl)))
move true true true false s m h = absurd (true≢false (sym (m.shut refl refl)))
move true false false false s m h = absurd (true≢false (sym (m.kept refl refl)))
move true true true true s m h = record { run = over; waits = h; valid = λ v x. v refl; stays = λ x. x; owed = λ x. inl x }
move true true false false s m h = record { run = over; waits = h; valid = λ v x. absurd (true≢false (sym x)); stays = λ x. x; owed = λ x. inl x }
move true false true true s m h = record { run = more h over; waits = refl; valid = λ v x. refl; stays = λ x. refl; owed = λ x. inl x }
move true false true false s m h = record { run = over; waits = h; valid = λ v x. absurd (true≢false (sym x)); stays = λ x. x; owed = λ x. inl x }
move false false true true s m h = record { run = more h (more refl over); waits = refl; valid = λ v x. refl; stays = λ x. refl; owed = λ x. inr (refl, refl) }
move false false true false s m h = record { run = more h over; waits = refl; valid = λ v x. absurd (true≢false (sym x)); stays = λ x. x; owed = λ x. inr (refl, refl) }
move false false false false s m h = record { run = over; waits = h; valid = λ v x. absurd (true≢false (sym x)); stays = λ x. x; owed = λ x. inl x }

abbrev pub used : Bool → Bool → Bool → State → State
used c h d s = perhaps d Stolen (perhaps h Hoisted (perhaps c Taken s))

pub record Used (c h d : Bool) (s : State) : Type 0 where
  pub run : Run (if_so c Taken ++ (if_so h Hoisted ++ if_so d Stolen)) s (used c h d s)
  pub waits : (used c h d s).waits ≡ s.waits
  pub valid : IsFalse d → IsTrue s.valid → IsTrue (used c h d s).valid
  pub owed : IsTrue (used c h d s).owed → IsTrue s.owed × IsFalse c × IsFalse h

clear : (b : Bool) → (IsTrue b → ⊥) → IsFalse b
clear true h = absurd (h refl)
clear false h = refl

pub use_it : (c h d : Bool) (s : State) → (IsTrue c → IsTrue s.valid) → (IsTrue d → IsFalse s.waits)
    → (IsTrue d → IsTrue s.owed → IsFalse c → IsFalse h → ⊥) → Used c h d s
use_it false false false s v o p = record { run = over; waits = refl; valid = λ x y. y; owed = λ x. (x, refl, refl) }
use_it false false true s v o p = record { run = more (o refl, clear s.owed (λ x. p refl x refl refl)) over; waits = refl; valid = λ x. absurd (true≢false x); owed = λ x. (x, refl, refl) }
use_it false true false s v o p = record { run = more tt over; waits = refl; valid = λ x y. y; owed = λ x. absurd (true≢false (sym x)) }
use_it false true true s v o p = record { run = more tt (more (o refl, refl) over); waits = refl; valid = λ x. absurd (true≢false x); owed = λ x. absurd (true≢false (sym x)) }
use_it true false false s v o p = record { run = more (v refl) over; waits = refl; valid = λ x y. y; owed = λ x. absurd (true≢false (sym x)) }
use_it true false true s v o p = record { run = more (v refl) (more (o refl, refl) over); waits = refl; valid = λ x. absurd (true≢false x); owed = λ x. absurd (true≢false (sym x)) }
use_it true true false s v o p = record { run = more (v refl) (more tt over); waits = refl; valid = λ x y. y; owed = λ x. absurd (true≢false (sym x)) }
use_it true true true s v o p = record { run = more (v refl) (more tt (more (o refl, refl) over)); waits = refl; valid = λ x. absurd (true≢false x); owed = λ x. absurd (true≢false (sym x)) }
