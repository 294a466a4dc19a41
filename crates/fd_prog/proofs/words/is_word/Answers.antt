use Rattle.std.proofs.Common.{◌≡◌, ℤ, pos, negsuc, true, FitsSigned, w64, arith}
use Rattle.std.proofs.lemmas.Bool.Decides.{nat_tests}
use Rattle.std.proofs.lemmas.Int.{ints}
use Rattle.fd_base.specs.Numbers.{fits_i64}
use Rattle.fd_prog.proofs.words.is_word.Goals as goal

fits : (z : ℤ) → FitsSigned w64 z → fits_i64 z ≡ true
fits (pos n) h = grind (arith, ints, nat_tests)
fits (negsuc n) h = grind (arith, ints, nat_tests)

pub returns : goal.returns
returns c = fits c.args.number c.ranges.number
