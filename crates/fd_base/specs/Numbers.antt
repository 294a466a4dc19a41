-- Exact arithmetic on 64-bit signed integers, and its faults.
use Rattle.std.specs.Prelude.{ℕ, ◌^◌, Bool, false, ℤ, pos, negsuc, ◌+ℤ◌, ◌-ℤ◌, ◌*ℤ◌, int_div, nat_eq, nat_lt, if◌then◌else◌, Result, Ok, Err}
use Rattle.fd_base.specs.declared.numbers.FaultKind.{FaultKind}
use Rattle.fd_base.specs.declared.numbers.FaultKind.TheVariants.{Overflow, ZeroDivide, ZeroStep}

-- the number is from -2^63 to 2^63 - 1; `negsuc n` is -(n + 1)
abbrev pub fits_i64 : ℤ → Bool
fits_i64 (pos n) = nat_lt n (2 ^ 63)
fits_i64 (negsuc n) = nat_lt n (2 ^ 63)

-- the number itself where it fits 64 bits, and else the fault Overflow
abbrev pub exact : ℤ → Result ℤ FaultKind
exact z = if fits_i64 z then Ok z else Err Overflow

-- the number is 0
abbrev pub is_zero : ℤ → Bool
is_zero (pos n) = nat_eq n 0
is_zero (negsuc n) = false

-- the quotient rounded toward zero, which `int_div` is, where the divisor isn't 0 and the quotient fits 64 bits
abbrev pub exact_quotient : ℤ → ℤ → Result ℤ FaultKind
exact_quotient a b = if is_zero b then Err ZeroDivide else exact (int_div a b)

-- MOD(a, b) is a less b times that quotient, also where the quotient itself doesn't fit (ANSI X3.9-1978, table 5)
abbrev pub exact_remainder : ℤ → ℤ → Result ℤ FaultKind
exact_remainder a b = if is_zero b then Err ZeroDivide else Ok (a -ℤ int_div a b *ℤ b)

-- the number, or 0 where it is below 0
abbrev pub at_least_zero : ℤ → ℕ
at_least_zero (pos n) = n
at_least_zero (negsuc n) = 0

-- the iteration count of a DO, MAX(INT((m2 - m1 + m3) / m3), 0) (ANSI X3.9-1978, 11.10.3)
abbrev pub exact_trip_count : ℤ → ℤ → ℤ → Result ℕ FaultKind
exact_trip_count first last step =
    if is_zero step then Err ZeroStep else Ok (at_least_zero (int_div (last -ℤ first +ℤ step) step))
