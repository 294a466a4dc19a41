-- What is read by the numbers of an input keeps the rules of its bytes.
use Rattle.std.proofs.Common.{ℕ, ℤ, List, Result, Ok, Err}
use Rattle.std.specs.Prelude.{IfOk, IfErr}
use Rattle.fd_input.specs.declared.refusal.InputRefusal.{InputRefusal}
use Rattle.fd_input.specs.declared.refusal.InputRefusal.TheVariants.{Bad, Memory}
use Rattle.fd_input.specs.Bad.{IsBadAt, IsToldBad}
use Rattle.fd_input.specs.Text.{input_numbers, IsRead}
use Rattle.fd_input.proofs.Firsts.{bad_is_first, read_has_none}

pub told_bad : (bytes : List ℕ) (r : Result (List ℤ) InputRefusal) → IsRead (input_numbers bytes) r → IfErr r (IsToldBad bytes)
told_bad bytes (Ok xs) h = tt
told_bad bytes (Err (Bad k)) h = bad_is_first bytes k h
told_bad bytes (Err Memory) h = tt

pub read_good : (bytes : List ℕ) (r : Result (List ℤ) InputRefusal) → IsRead (input_numbers bytes) r → IfOk r (λ _. (k : ℕ) → IsBadAt bytes k → ⊥)
read_good bytes (Ok xs) h = read_has_none bytes xs h
read_good bytes (Err e) h = tt
