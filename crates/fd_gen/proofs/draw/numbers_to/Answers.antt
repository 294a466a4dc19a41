use Rattle.std.proofs.Common.{◌+◌, Ok, refl, arith}
use Rattle.std.proofs.lemmas.Iterator.{YieldsList-from_range, items_from_collect}
use Rattle.fd_gen.proofs.draw.numbers_to.Goals as goal

pub returns : goal.returns
returns c =
    items_from_collect {E = Unit {0}} (Ok c.in_ok-numbers.numbers) c.in_ok-numbers.ensures.ran
    (YieldsList-from_range 1 (c.from.result + 1) c.args.size refl (omega (arith, c.from.ensures)))
