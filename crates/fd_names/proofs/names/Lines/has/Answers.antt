use Rattle.std.proofs.Common.{◌∙◌, sym}
use Rattle.fd_names.proofs.Made.{has_line, has_no_line}
use Rattle.fd_names.proofs.names.Lines.has.Goals as goal

pub returns-in-Some : goal.returns-in-Some
returns-in-Some c = c.contains.ensures ∙ has_line (λ k. k.items) (λ s. s.keys) _ _ _ c.args.line c.in-Some.lines.now c.self.view_is (sym c.in-Some.ensures.value)

pub returns-in-None : goal.returns-in-None
returns-in-None c = has_no_line (λ k. k.items) (λ s. s.keys) _ _ _ c.args.line c.self.view_is (sym c.in-None.ensures.value)
