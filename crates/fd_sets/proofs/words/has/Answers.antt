use Rattle.std.proofs.Common.{◌∙◌, sym, arith}
use Rattle.std.proofs.lemmas.Bool.{le-ltb}
use Rattle.fd_sets.proofs.Bits.{in_at, in_past}
use Rattle.fd_sets.proofs.words.has.Goals as goal

pub returns-then-place-words : goal.returns-then-place-words
returns-then-place-words c = in_at c.args.words.now c.args.item c.from-place.result c.from-place.ensures

pub returns-else-place-words : goal.returns-else-place-words
returns-else-place-words c =
    le-ltb _ _ (omega arith) ∙ sym (in_past c.args.words.now c.args.item (omega (arith, c.from-place.ensures)))
