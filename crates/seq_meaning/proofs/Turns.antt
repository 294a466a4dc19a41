-- One turn of a loop, and the ends of a run on the way.
use Rattle.std.proofs.Common.{◌≡◌, ℕ, zero, suc, ℤ, ◌-◌, ◌<◌, Bool, true, false, Result, Ok, Err, refl, ap, ◌∙◌, arith}
use Rattle.fd_base.specs.declared.numbering.Line.{Line}
use Rattle.fd_prog.specs.Outcomes.{and_then}
use Rattle.fd_prog.specs.Conditions.{Condition}
use Rattle.fd_prog.specs.Statements.{Statements, While}
use Rattle.fd_prog.specs.Values.{truth_of}
use Rattle.fd_prog.specs.Stores.{readings_of}
use Rattle.fd_prog.specs.Sequence as sequence
use Rattle.fd_prog.specs.Sequence.{Onward, Task, chosen, after, after_all, iterations, step, store_step, gained}
use Rattle.fd_prog.proofs.Runs.{after-While}
use Rattle.seq_meaning.specs.declared.progress.Progress.{Progress}
use Rattle.seq_meaning.specs.declared.progress.Stop.{Stop}
use Rattle.seq_meaning.specs.declared.progress.Stop.TheVariants.{Ended, Memory}
use Rattle.seq_meaning.specs.Going.{Continues}

-- what a call ended with is what its caller ends with
pub Continues-exit : {A B : Type 0} (onward other : Onward) (go : A → Onward) (further : B → Onward) (new : Progress) (stop : Stop) (result : Result B Stop) → result ≡ Err stop → other ≡ onward
    → Continues onward go new (Err stop) → Continues other further new result
Continues-exit onward other go further new Ended result is same ends = rw is (same ∙ ends)
Continues-exit onward other go further new Memory result is same ends = rw is tt

-- what a part of a run ended with is what the whole ends with
pub Continues-then : {A B : Type 0} (onward : Onward) (go : A → Onward) (f : sequence.Progress → Onward) (further : B → Onward) (new : Progress) (stop : Stop)
    → Continues onward go new (Err stop) → Continues (and_then onward f) further new (Err stop)
Continues-then onward go f further new Ended ends = ap (λ r. and_then r f) ends
Continues-then onward go f further new Memory ends = tt

-- what comes behind the test of a DO WHILE
abbrev pub turn : Task → Line → Condition → Statements → Bool → sequence.Progress → Onward
turn t line c body b next = chosen b (λ inside. and_then (after_all t body inside) (after t (While line c body))) (λ outside. Ok outside) next

-- where the test holds, the loop goes on behind the body
pub while_again : (t : Task) (line : Line) (c : Condition) (body : Statements) (x mid y : sequence.Progress) (b : Bool)
    → step t.limit line x (truth_of (readings_of t.program x.store) c) (turn t line c body) ≡ turn t line c body b mid → b ≡ true → after_all t body mid ≡ Ok y
    → after t (While line c body) x ≡ after t (While line c body) y
while_again t line c body x mid y b tested holds ran =
    after-While t line c body x ∙ tested ∙ ap (λ v. turn t line c body v mid) holds ∙ ap (λ r. and_then r (after t (While line c body))) ran

-- where the body has an end, that is the loop's
pub while_ends : (t : Task) (line : Line) (c : Condition) (body : Statements) (x mid : sequence.Progress) (b : Bool)
    → step t.limit line x (truth_of (readings_of t.program x.store) c) (turn t line c body) ≡ turn t line c body b mid → b ≡ true
    → after t (While line c body) x ≡ and_then (after_all t body mid) (after t (While line c body))
while_ends t line c body x mid b tested holds = after-While t line c body x ∙ tested ∙ ap (λ v. turn t line c body v mid) holds

-- where the test doesn't hold, the loop is over
pub while_over : (t : Task) (line : Line) (c : Condition) (body : Statements) (x mid : sequence.Progress) (b : Bool)
    → step t.limit line x (truth_of (readings_of t.program x.store) c) (turn t line c body) ≡ turn t line c body b mid → b ≡ false → after t (While line c body) x ≡ Ok mid
while_over t line c body x mid b tested fails = after-While t line c body x ∙ tested ∙ ap (λ v. turn t line c body v mid) fails

-- one iteration of a DO, where its body goes on
pub iterations-next : (limit : ℕ) (line : Line) (var : ℕ) (by : ℤ) (body : sequence.Progress → Onward) (n : ℕ) (x y : sequence.Progress) → 0 < n → body x ≡ Ok y
    → iterations limit line var by body n x ≡ store_step limit line y (gained var by y.store) (iterations limit line var by body (n - 1))
iterations-next limit line var by body zero x y some ran = absurd (omega arith)
iterations-next limit line var by body (suc n) x y some ran =
    let less : suc n - 1 ≡ n = omega arith in
    rw (ran, less) refl
