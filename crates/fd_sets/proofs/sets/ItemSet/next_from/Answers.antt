use Rattle.std.proofs.Common.{ℕ, ◌≡◌, length, sym, ap, ◌∙◌, arith}
use Rattle.std.specs.FinSet as set
use Rattle.fd_sets.specs.Sets.{in_words}
use Rattle.fd_sets.specs.Kept.{words_of}
use Rattle.fd_sets.proofs.Members.{contains-members}
use Rattle.fd_sets.proofs.sets.ItemSet.next_from.Goals as goal

pub least_from-requires : goal.least_from-requires
least_from-requires c = omega (arith, ap length c.as_slice.ensures, c.self.invariant.count, c.self.invariant.small)

pub returns-in_err-next-clause-none : goal.returns-in_err-next-clause-none
returns-in_err-next-clause-none c =
    let has : (q : ℕ) → set.contains c.args.self.now.members q ≡ in_words c.as_slice.result.now q = λ q. sym (ap (λ v. set.contains v.members q) c.self.view_is) ∙ (contains-members (words_of c.self.inside.words) q ∙ sym (ap (λ xs. in_words xs q) c.as_slice.ensures)) in
    rw c.from_residual.ensures (λ other h. has other ∙ c.in_err-next.ensures.none other h)

pub returns-clause-some : goal.returns-clause-some
returns-clause-some c =
    let has : (q : ℕ) → set.contains c.args.self.now.members q ≡ in_words c.as_slice.result.now q = λ q. sym (ap (λ v. set.contains v.members q) c.self.view_is) ∙ (contains-members (words_of c.self.inside.words) q ∙ sym (ap (λ xs. in_words xs q) c.as_slice.ensures)) in
    let m = c.in_ok-next.ensures.some in
    (m.0, has c.in_ok-next.next ∙ m.1, λ other h k. m.2 other h (sym (has other) ∙ k))
