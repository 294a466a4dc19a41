use Rattle.std.proofs.Common.{◌≡◌, ◌<◌, ◌^◌, take}
use Rattle.fd_base.specs.Digits.{decimal_value}
use Rattle.fd_base.proofs.decimals.decimal_number.Given as goal

abbrev pub invariant-loop-b : goal.invariant-loop-b
invariant-loop-b l = record { value_is : l.value ≡ decimal_value (take l.b-index l.digits); within : l.value < 2 ^ 64 }
