use Rattle.std.proofs.Common.{◌∙◌, ap, nat_eq}
use Rattle.indexmap.specs.IndexSet.{insert_key}
use Rattle.fd_names.proofs.Made.{put_is}
use Rattle.fd_names.proofs.names.Lines.put.Goals as goal

pub returns : goal.returns
returns c = put_is (λ k. k.items) (λ s. s.keys) _ _ _ c.in_ok-key.key _ _ _ c.self.view_is c.in_ok-key.ensures.items (c.in_ok-insert.ensures.keys ∙ ap (λ ks. insert_key nat_eq ks c.args.line.0) c.new-lines.ensures.empty) c.in_ok-insert-2.ensures.entries
