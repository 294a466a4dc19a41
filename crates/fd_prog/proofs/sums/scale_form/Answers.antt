use Rattle.std.proofs.Common.{rules, ◌≡◌, refl, FitsSigned, w64, ◌*ℤ◌, ◌^◌, lit<}
use Rattle.std.proofs.lemmas.Int.{to_z-of_z, fits_signed_mul}
use Rattle.fd_prog.specs.Forms.{linear_terms_of}
use Rattle.fd_prog.specs.FormOf.{scaled_terms}
use Rattle.fd_prog.proofs.Weights.{small-abs}
use Rattle.fd_prog.proofs.sums.scale_form.Goals as goal

pub returns : goal.returns
returns c =
    let times = c.args.times in
    let number = c.args.f.constant in
    let fit_number : FitsSigned w64 number = search rules in
    let fit_times : FitsSigned w64 times = c.ranges.times in
    let fit : FitsSigned w64 (times *ℤ number) = fits_signed_mul w64 times number (2 ^ 31) (2 ^ 31) (small-abs times c.requires.times) (small-abs number c.requires.keeps.2) (lit< tt) in
    let made : linear_terms_of c.in_ok-terms.terms ≡ scaled_terms times (linear_terms_of c.args.f.terms) = search rules in
    simp (to_z-of_z, made) refl
