use Rattle.std.proofs.Common.{rules, ◌≡◌, FitsSigned, w64, ◌*ℤ◌, ◌^◌, lit<}
use Rattle.std.proofs.lemmas.Int.{to_z-of_z, fits_signed_mul}
use Rattle.fd_prog.specs.Forms.{linear_atom_of, linear_terms_of, Term}
use Rattle.fd_prog.specs.FormOf.{scaled_terms}
use Rattle.fd_prog.proofs.Weights.{small-abs, small-first}
use Rattle.fd_prog.proofs.sums.+scale_terms.Goals as goal

pub returns-in_ok-rest-in-More : goal.returns-in_ok-rest-in-More
returns-in_ok-rest-in-More t c =
    let times = c.args.times in
    let coef = c.into_inner-coef.result.coef in
    let rest = linear_terms_of c.into_inner.result in
    let whole : linear_terms_of c.args.terms ≡ Term coef (linear_atom_of c.into_inner-coef.result.atom) rest = search rules in
    let made : linear_terms_of c.in_ok-rest-in-More.rest ≡ scaled_terms times rest = search rules in
    let small = rw whole at c.requires.small in
    let fit_coef : FitsSigned w64 coef = search rules in
    let fit : FitsSigned w64 (times *ℤ coef) = fits_signed_mul w64 times coef (2 ^ 31) (2 ^ 31) (small-abs times c.requires.times) (small-abs coef (small-first coef rest small)) (lit< tt) in
    let fit_times : FitsSigned w64 times = c.ranges.times in
    let found = simp (to_z-of_z, made) at c.keep.ensures in
    rw whole found
