use Rattle.std.proofs.Common.{ℕ, ◌||◌, eqb, List, length, ap, ◌∙◌}
use Rattle.std.specs.FinSet as set
use Rattle.fd_sets.specs.Sets.{in_words}
use Rattle.fd_sets.specs.Kept.{words_of}
use Rattle.fd_sets.proofs.Members.{members-insert, written}
use Rattle.fd_sets.proofs.sets.ItemSet.insert.Goals as goal

pub returns-clause-members : goal.returns-clause-members
returns-clause-members c =
    let s = c.self.inside.words in
    let item = c.args.item.0 in
    let made = λ (q : ℕ). c.put.ensures.members q ∙ ap (λ (xs : List ℕ). eqb item q || in_words xs q) c.as_mut_slice.ensures.value in
    rw (written s c.put.new.words (c.put.ensures.count ∙ ap length c.as_mut_slice.ensures.value)) (members-insert c.put.new.words (words_of s) item made ∙ ap (λ v. set.insert v.members item) c.self.view_is)
