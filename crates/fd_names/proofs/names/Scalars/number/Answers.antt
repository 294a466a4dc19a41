use Rattle.std.proofs.Common.{◌∙◌, ap}
use Rattle.fd_names.specs.Names.{capped}
use Rattle.fd_names.proofs.Maps.{added_is, place_is}
use Rattle.fd_names.proofs.names.Scalars.number.Goals as goal

pub returns-clause-names : goal.returns-clause-names
returns-clause-names c = added_is (λ k. k.items) _ _ _ c.in_ok-key.key _ c.self.view_is c.in_ok-key.ensures.items c.in_ok-index.ensures.keys

pub returns-clause-number : goal.returns-clause-number
returns-clause-number c = c.min.ensures ∙ ap capped (c.in_ok-index.ensures.index ∙ place_is (λ k. k.items) _ _ c.in_ok-key.key _ c.self.view_is c.in_ok-key.ensures.items)
