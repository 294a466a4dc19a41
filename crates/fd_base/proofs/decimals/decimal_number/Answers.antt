use Rattle.std.proofs.Common.{arith}
use Rattle.fd_base.proofs.Digits.{decimal_value-past}
use Rattle.fd_base.proofs.decimals.decimal_number.Goals as goal

pub returns-then-value-digit : goal.returns-then-value-digit
returns-then-value-digit c =
    decimal_value-past c.args.digits.now c.loop-b.b-index c.loop-b.value (omega arith) c.loop-b.invariant.value_is (omega (arith, c.from-digit.ensures))
