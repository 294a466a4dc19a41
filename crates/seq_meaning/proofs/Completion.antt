-- A step that the limit allows goes on with what it gives, or ends the run by its fault.
use Rattle.std.proofs.Common.{◌≡◌, ℕ, nat_lt, true, Result, Ok, Err, refl, ap, ◌∙◌, sym, subst}
use Rattle.fd_base.specs.declared.numbering.Line.{Line}
use Rattle.fd_base.specs.declared.numbers.FaultKind.{FaultKind}
use Rattle.fd_prog.specs.Stores.{Store}
use Rattle.fd_prog.specs.Sequence as sequence
use Rattle.fd_prog.specs.Sequence.{Onward, allowed, completed, step, store_step}
use Rattle.seq_meaning.specs.declared.progress.Progress.{Progress}
use Rattle.seq_meaning.specs.declared.progress.Stop.{Stop}
use Rattle.seq_meaning.specs.Stored.{store_of, map_ok}
use Rattle.seq_meaning.specs.Going.{progress_of, Continues}

-- what is seen of the result goes on as the result does
pub completed-seen : {A B : Type 0} (view : A → B) (line : Line) (now : sequence.Progress) (given : Result A FaultKind) (go : B → sequence.Progress → Onward)
    → completed line now (map_ok view given) go ≡ completed line now given (λ x next. go (view x) next)
completed-seen view line now (Ok x) go = refl
completed-seen view line now (Err kind) go = refl

-- a new store is there before the step is counted as well as behind it
pub completed-stored : {A : Type 0} (line : Line) (now : sequence.Progress) (store : Store) (given : Result A FaultKind) (go : sequence.Progress → Onward)
    → completed line now (map_ok (λ _. store) given) (λ s next. go (record next { store = s })) ≡ completed line (record now { store = store }) given (λ _ next. go next)
completed-stored line now store (Ok x) go = refl
completed-stored line now store (Err kind) go = refl

-- a step that only reads the store
pub Continues-step : {A B : Type 0} (limit : ℕ) (line : Line) (old begun : Progress) (value : Store → Result A FaultKind) (given : Result A FaultKind) (go : A → sequence.Progress → Onward)
    (further : B → Onward) (new : Progress) (result : Result B Stop) → nat_lt old.steps limit ≡ true → begun ≡ old → value (store_of begun.store) ≡ given
    → Continues (completed line (progress_of begun) given go) further new result → Continues (step limit line (progress_of old) (value (store_of old.store)) go) further new result
Continues-step limit line old begun value given go further new result below same found ends =
    let P : Progress → Type 0 = λ p. Continues (step limit line (progress_of p) (value (store_of p.store)) go) further new result in
    let Q : Onward → Type 0 = λ onward. Continues onward further new result in
    let Within : Progress → Type 0 = λ p. nat_lt p.steps limit ≡ true in
    let within : nat_lt begun.steps limit ≡ true = subst Within (sym same) below in
    let one : step limit line (progress_of begun) (value (store_of begun.store)) go ≡ completed line (progress_of begun) given go =
    ap (λ b. allowed b line (progress_of begun) (value (store_of begun.store)) go) within ∙ ap (λ r. completed line (progress_of begun) r go) found in
    subst P same (subst Q (sym one) ends)

-- a step that changes the store
pub Continues-store_step : {A B : Type 0} (limit : ℕ) (line : Line) (old begun : Progress) (change : Store → Result Store FaultKind) (store : Store) (given : Result A FaultKind) (go : sequence.Progress → Onward)
    (further : B → Onward) (new : Progress) (result : Result B Stop) → nat_lt old.steps limit ≡ true → begun ≡ old → change (store_of begun.store) ≡ map_ok (λ _. store) given
    → Continues (completed line (record (progress_of begun) { store = store }) given (λ _ next. go next)) further new result → Continues (store_step limit line (progress_of old) (change (store_of old.store)) go) further new result
Continues-store_step limit line old begun change store given go further new result below same found ends =
    let Q : Onward → Type 0 = λ onward. Continues onward further new result in
    let stored : Store → sequence.Progress → Onward = λ s next. go (record next { store = s }) in
    Continues-step limit line old begun change (map_ok (λ _. store) given) stored further new result below same found
    (subst Q (sym (completed-stored line (progress_of begun) store given go)) ends)
