use Rattle.fd_names.proofs.Maps.{put_is}
use Rattle.fd_names.proofs.names.Entries.put.Goals as goal

pub returns : goal.returns
returns c = put_is (λ k. k.items) _ _ _ c.in_ok-key.key _ _ c.self.view_is c.in_ok-key.ensures.items c.in_ok-insert.ensures.entries
