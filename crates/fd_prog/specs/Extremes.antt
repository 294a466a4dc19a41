-- The least or the greatest of some numbers, by which of the two is wanted.
use Rattle.std.specs.Prelude.{ℤ, List}
use Rattle.std.specs.Int.{int_min, int_max}
use Rattle.fd_prog.specs.declared.constants.Extreme.{Extreme}
use Rattle.fd_prog.specs.declared.constants.Extreme.TheVariants.{Least, Greatest}
use Rattle.fd_prog.specs.Values.{least, greatest}

-- the lesser or the greater of two
abbrev pub extreme_of_two : Extreme → ℤ → ℤ → ℤ
extreme_of_two Least = int_min
extreme_of_two Greatest = int_max

-- the least or the greatest of all
abbrev pub extreme : Extreme → List ℤ → ℤ
extreme Least = least
extreme Greatest = greatest
