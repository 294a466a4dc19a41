use Rattle.std.proofs.Common.{sym, ap, ◌∙◌}
use Rattle.std.specs.FinSet as set
use Rattle.fd_sets.specs.Sets.{in_words}
use Rattle.fd_sets.specs.Kept.{words_of}
use Rattle.fd_sets.proofs.Members.{contains-members}
use Rattle.fd_sets.proofs.sets.ItemSet.has.Goals as goal

pub returns : goal.returns
returns c =
    c.has.ensures ∙ (ap (λ xs. in_words xs c.args.item.0) c.as_slice.ensures ∙ (sym (contains-members (words_of c.self.inside.words) c.args.item.0) ∙ ap (λ s. set.contains s.members c.args.item.0) c.self.view_is))
