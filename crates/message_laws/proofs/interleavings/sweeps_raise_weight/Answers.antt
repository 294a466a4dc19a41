use Rattle.std.proofs.Common.{inl, inr}
use Rattle.message_laws.proofs.Whole.{goes_on}
use Rattle.message_laws.proofs.Weights.{sweep_moves}
use Rattle.message_laws.proofs.interleavings.sweeps_raise_weight.Goals as goal

pub returns : goal.returns
returns c = λ b h s k. elim (goes_on b h s k) [ inl x ↦ inl x | inr m ↦ inr (sweep_moves b s m) ]
