use Rattle.std.proofs.Common.{◌∙◌, ap, ◌-◌, take}
use Rattle.fd_names.proofs.Maps.{left_is}
use Rattle.fd_names.proofs.names.Around.leave.Goals as goal

pub returns : goal.returns
returns c = λ around name was. left_is c.self.inside.names.items c.pop.new.self.items around name (c.pop.ensures.rest ∙ ap (λ m. take (m - 1) c.self.inside.names.items) c.self.inside.names.ok.0) (c.self.view_is ∙ was)
