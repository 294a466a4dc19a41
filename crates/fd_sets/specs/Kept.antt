-- Where the words of a set stand.
use Rattle.std.specs.Prelude.{ℕ, List}
use Rattle.std.specs.Borrow.{Lends, MutBor, Fml, Array, u64}
use Rattle.std.specs.Vec.{with_items}
use Rattle.fd_sets.specs.declared.kept.Words.{Words}
use Rattle.fd_sets.specs.declared.kept.Words.TheVariants.{Few, Many}
use Rattle.fd_sets.specs.contracts.kept.Words as kept

-- the words, wherever they stand
abbrev pub words_of : Words → List ℕ
words_of (Few words) = words
words_of (Many words) = words.items

-- they stand where they stood, and are others
abbrev pub with_words : Words → List ℕ → Words
with_words (Few _) new = Few new
with_words (Many words) new = Many (with_items words new)

-- they end as what was left in the slice
abbrev pub LendsWords : MutBor Words → MutBor (List ℕ) → Fml
LendsWords w s = Lends kept.the_row (Array u64 0) w s (with_words w.now)
