use Rattle.std.proofs.Common.{ℕ, ap, take, ◌∙◌}
use Rattle.fd_lexer.proofs.Physicals.{content_on, content_last}
use Rattle.fd_lexer.proofs.physical.content.Goals as goal

pub returns-then-continued-clause-value : goal.returns-then-continued-clause-value
returns-then-continued-clause-value c = content_on c.args.line.now _ _ c.code_end-end.ensures.value c.if-continued.ensures (c.split_at.ensures.front ∙ ap (λ (n : ℕ). take n c.args.line.now) c.saturating_sub.ensures)

pub returns-clause-value : goal.returns-clause-value
returns-clause-value c = content_last c.args.line.now _ _ c.code_end-end.ensures.value c.if-continued.ensures c.split_at-2.ensures.front
