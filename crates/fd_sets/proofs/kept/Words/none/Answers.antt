use Rattle.std.proofs.Common.{List, ℕ, ap, ◌∙◌}
use Rattle.fd_sets.specs.Sets.{in_words}
use Rattle.fd_sets.proofs.Bits.{in_none}
use Rattle.fd_sets.proofs.kept.Words.none.Goals as goal

pub returns-then-items-lt576-clause-none : goal.returns-then-items-lt576-clause-none
returns-then-items-lt576-clause-none c = in_none 9

pub returns-clause-none : goal.returns-clause-none
returns-clause-none c q =
    ap (λ (xs : List ℕ). in_words xs q) (c.in_ok-words.ensures.items_if_clones_equal (λ y e. e)) ∙ in_none _ q
