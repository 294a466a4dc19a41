use Rattle.std.proofs.Common.{refl, sym, ◌∙◌}
use Rattle.fd_parser.specs.TakenLine.{parentheses, nested, left_out, no_form, no_place, no_memory}
use Rattle.fd_parser.proofs.parsing.take_line.Goals as goal

pub returns-then-is_too_deep-clause-stopped : goal.returns-then-is_too_deep-clause-stopped
returns-then-is_too_deep-clause-stopped c = parentheses (sym c.is_too_deep.ensures ∙ c.if-is_too_deep.true)

pub returns-then-is_left_out-clause-stopped : goal.returns-then-is_left_out-clause-stopped
returns-then-is_left_out-clause-stopped c = left_out (sym c.is_too_deep.ensures ∙ c.if-is_too_deep.false) (sym c.is_left_out.ensures ∙ c.if-is_left_out.true)

pub returns-in-Err-Syntax-take-clause-stopped : goal.returns-in-Err-Syntax-take-clause-stopped
returns-in-Err-Syntax-take-clause-stopped c = no_place (sym c.is_too_deep.ensures ∙ c.if-is_too_deep.false) (sym c.is_left_out.ensures ∙ c.if-is_left_out.false) c.in-Ok.ensures.found (rw c.in-Err-Syntax-take.field-0-is at c.in-Err-Syntax-take.ensures.step)

pub returns-in-Err-TooDeep-clause-stopped : goal.returns-in-Err-TooDeep-clause-stopped
returns-in-Err-TooDeep-clause-stopped c = nested (sym c.is_too_deep.ensures ∙ c.if-is_too_deep.false) (sym c.is_left_out.ensures ∙ c.if-is_left_out.false) c.in-Ok.ensures.found (c.in-Err-TooDeep.ensures.too_deep (rw c.in-Err-TooDeep.field-0-is refl))

pub returns-in-Err-Memory-take-clause-stopped : goal.returns-in-Err-Memory-take-clause-stopped
returns-in-Err-Memory-take-clause-stopped c = no_memory

pub returns-in-Err-Syntax-clause-stopped : goal.returns-in-Err-Syntax-clause-stopped
returns-in-Err-Syntax-clause-stopped c = no_form (sym c.is_too_deep.ensures ∙ c.if-is_too_deep.false) (sym c.is_left_out.ensures ∙ c.if-is_left_out.false) (λ f d. rw c.in-Err-Syntax.field-0-is at (c.in-Err-Syntax.ensures.only f d))

pub returns-in-Err-Memory-clause-stopped : goal.returns-in-Err-Memory-clause-stopped
returns-in-Err-Memory-clause-stopped c = no_memory
