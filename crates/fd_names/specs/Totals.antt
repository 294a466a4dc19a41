-- The rules on sums over all arrays, which are judged once the whole program is known.
use Rattle.std.specs.Prelude.{ℕ, ◌+◌, ◌++◌, Bool, true, false, nat_lt, List, [], ◌∷◌}
use Rattle.fd_base.specs.declared.limit.Limit.TheVariants as limits
use Rattle.fd_names.specs.declared.declarations.Size.{Size}
use Rattle.fd_names.specs.declared.totals.Total.{Total}
use Rattle.fd_names.specs.declared.refusal.Cause.{Cause}
use Rattle.fd_names.specs.declared.refusal.Cause.TheVariants.{TooMany}
use Rattle.fd_names.specs.declared.refusal.Refusal.{Refusal}
use Rattle.fd_names.specs.First.{at_line, given}

abbrev pub most_replicated : ℕ
most_replicated = 65536

abbrev pub most_distributed : ℕ
most_distributed = 262144

-- with so many elements more, of a distributed array or a replicated one
abbrev pub added : Bool → ℕ → Total → Total
added true n t = record t { distributed = t.distributed + n }
added false n t = record t { replicated = t.replicated + n }

abbrev pub total_causes : Bool → Total → List Cause
total_causes true t = given (nat_lt most_distributed t.distributed) (TooMany limits.Distributed)
total_causes false t = given (nat_lt most_replicated t.replicated) (TooMany limits.Replicated)

-- each array with which the elements of its kind so far are past their limit, in order of declaration
abbrev pub total_refusals : List Size → List Bool → Total → List Refusal
total_refusals [] ds t = []
total_refusals (a ∷ more) [] t = at_line a.line (total_causes false (added false a.elements t)) ++ total_refusals more [] (added false a.elements t)
total_refusals (a ∷ more) (d ∷ ds) t = at_line a.line (total_causes d (added d a.elements t)) ++ total_refusals more ds (added d a.elements t)
