use Rattle.std.proofs.Common.{◌≡◌, ◌/◌, ◌%◌, max, sym, ap, ◌∙◌}
use Rattle.std.specs.Int.{div_ceil}
use Rattle.decomp_map.proofs.Regular.{block_owner}
use Rattle.decomp_map.proofs.map.block_of.Goals as goal

pub returns-in-Block-clause-owners : goal.returns-in-Block-clause-owners
returns-in-Block-clause-owners c =
    let m : max (div_ceil c.args.extent c.args.ranks) 1 ≡ c.max.result = ap (λ b. max b 1) (sym (c.div_ceil.ensures ∙ ap (div_ceil c.args.extent) c.from.ensures)) ∙ sym c.max.ensures in
    rw c.in-Block.is (λ position h. block_owner c.args.extent c.args.ranks position c.requires.ranks h ∙ ap (λ b. position / b % c.args.ranks) m)
