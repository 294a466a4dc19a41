use Rattle.std.proofs.Common.{ap, ◌∙◌}
use Rattle.std.specs.FinSet as finite
use Rattle.std.specs.Ordering.{nat_cmp}
use Rattle.fd_sets.specs.Sets.{Subset}
use Rattle.section_num.proofs.Filled.{one_more}
use Rattle.section_num.proofs.tables.set_of.Goals as goal

pub loop-number-init : goal.loop-number-init
loop-number-init c = record {
  size = ap (λ (s : Subset). s.size) c.in_ok-members.ensures;
  has = λ x. ap (λ (s : Subset). finite.contains s.members x) c.in_ok-members.ensures ∙ finite.contains-empty nat_cmp x;
}

pub loop-number-preserved : goal.loop-number-preserved
loop-number-preserved c = record {
  size = c.insert.ensures.size ∙ c.loop-number.invariant.size;
  has = λ x. one_more c.loop-number.members.members c.insert.new.self.members c.args.numbers.now c.loop-number.number-index _ x c.loop-number-test.true c.insert.ensures.members (c.loop-number.invariant.has x);
}
