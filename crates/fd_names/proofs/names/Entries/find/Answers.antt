use Rattle.std.proofs.Common.{◌∙◌}
use Rattle.fd_names.proofs.Maps.{found_is}
use Rattle.fd_names.proofs.names.Entries.find.Goals as goal

pub returns : goal.returns
returns c = c.copied.ensures ∙ (c.get.ensures.value ∙ found_is (λ k. k.items) _ _ _ c.self.view_is)
