use Rattle.std.proofs.Common.{◌≡◌, ◌≤◌, length}
use Rattle.smallvec.specs.SmallVec.{small_vec_len}
use Rattle.fd_parser.specs.Open.{inside_of, choice_ended_at, resumed}
use Rattle.fd_parser.proofs.blocks.OpenBlocks.end_choice.Given as goal

abbrev pub invariant-loop-chained : goal.invariant-loop-chained
invariant-loop-chained l = record {
  step : resumed l.chained (inside_of l.self) ≡ choice_ended_at (inside_of l.initial.self).places (inside_of l.initial.self).done;
  fewer : length (inside_of l.self).places ≤ length (inside_of l.initial.self).places;
}

abbrev pub decreases-loop-chained : goal.decreases-loop-chained
decreases-loop-chained l = small_vec_len l.self.«open»
