use Rattle.std.proofs.Common.{ap, arith}
use Rattle.fd_sets.specs.Kept.{words_of}
use Rattle.fd_sets.proofs.Members.{members-none}
use Rattle.fd_sets.proofs.sets.ItemSet.new.Goals as goal

pub invariant_of-result : goal.invariant_of-result
invariant_of-result c =
    record {
      small = omega arith;
      count = c.in_ok-words.ensures.count;
      within = λ q h. c.in_ok-words.ensures.none q;
    }

pub returns : goal.returns
returns c =
    ap (λ m. record { size = c.args.items; members = m }) (members-none (words_of c.in_ok-words.words) c.in_ok-words.ensures.none)
