use Rattle.std.proofs.Common.{◌≡◌, [], sym, subst, ◌∙◌}
use Rattle.fd_prog.specs.declared.expression.Expr.{Expr}
use Rattle.section_num.specs.Bounds.{forms_of}
use Rattle.section_num.proofs.Unnamed.{forms_same}
use Rattle.section_num.proofs.bounds.Bounds.names_some.Goals as goal

pub returns : goal.returns
returns c = λ h.
    let s = c.self.inside in
    subst (λ (e : Expr × (Expr × Expr)). forms_of c.args.scalars.now e ≡ forms_of [] e) c.self.view_is
    (forms_same c.args.scalars.now s.scalars (s.first, (s.last, s.step)) c.self.invariant.scalars (sym c.has_scalar.ensures ∙ h))
