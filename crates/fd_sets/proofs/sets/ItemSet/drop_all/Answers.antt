use Rattle.std.proofs.Common.{ℕ, ◌&&◌, not, List, length, ap, ap₂, ◌∙◌}
use Rattle.std.specs.FinSet as set
use Rattle.fd_sets.specs.Sets.{in_words}
use Rattle.fd_sets.specs.Kept.{words_of}
use Rattle.fd_sets.proofs.Members.{members-drop, written}
use Rattle.fd_sets.proofs.sets.ItemSet.drop_all.Goals as goal

pub returns-clause-members : goal.returns-clause-members
returns-clause-members c =
    let s = c.self.inside.words in
    let o = c.other.inside.words in
    let new = c.drop_all.new.words in
    let made = λ (q : ℕ). c.drop_all.ensures.members q ∙ ap₂ (λ (xs ys : List ℕ). in_words xs q && not (in_words ys q)) c.as_mut_slice.ensures.value c.as_slice.ensures in
    rw (written s new (c.drop_all.ensures.count ∙ ap length c.as_mut_slice.ensures.value)) (members-drop new (words_of s) (words_of o) made ∙ ap₂ set.difference (ap (λ v. v.members) c.self.view_is) (ap (λ v. v.members) c.other.view_is))
