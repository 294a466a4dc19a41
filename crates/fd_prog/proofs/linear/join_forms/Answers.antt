use Rattle.std.proofs.Common.{rules, ◌≡◌, ap, arith}
use Rattle.fd_prog.specs.Forms.{linear_form_of}
use Rattle.fd_prog.specs.FormOf.{form_weight, minus_one, scaled}
use Rattle.fd_prog.proofs.Weights.{weight-keeps, weight-negative}
use Rattle.fd_prog.proofs.linear.join_forms.Goals as goal

pub add_forms-requires : goal.add_forms-requires
add_forms-requires c = omega (arith, weight-keeps (linear_form_of c.args.f) c.requires.left, weight-keeps (linear_form_of c.args.g) c.requires.right)

pub add_forms-requires-in-Sub : goal.add_forms-requires-in-Sub
add_forms-requires-in-Sub c =
    let negative = linear_form_of c.in_ok-negative-in-Sub.negative in
    let made : negative ≡ scaled minus_one (linear_form_of c.args.g) = search rules in
    let same : form_weight negative ≡ form_weight (scaled minus_one (linear_form_of c.args.g)) = ap form_weight made in
    omega (arith, same, weight-negative (linear_form_of c.args.g), weight-keeps (linear_form_of c.args.f) c.requires.left, weight-keeps (linear_form_of c.args.g) c.requires.right)
