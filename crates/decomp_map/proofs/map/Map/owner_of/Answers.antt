use Rattle.std.proofs.Common.{sym, ap, ◌∙◌}
use Rattle.fd_base.specs.Places.{owner_in}
use Rattle.decomp_map.proofs.Elements.{below_size, rows_not_empty, owner_at_spot}
use Rattle.decomp_map.proofs.map.Map.owner_of.Goals as goal

pub spot_of-spot-requires : goal.spot_of-spot-requires
spot_of-spot-requires c =
    let m = c.self.inside in
    let h = rows_not_empty m.inner m.width m.outer c.args.element (below_size m.inner m.width m.outer m.positions c.args.self.now c.args.element c.self.view_is c.requires) in
    record { inner = h.0; width = h.1 }

pub returns : goal.returns
returns c =
    let m = c.self.inside in
    let s = c.spot_of-spot in
    let h = below_size m.inner m.width m.outer m.positions c.args.self.now c.args.element c.self.view_is c.requires in
    let o = owner_at_spot m.inner m.width m.outer m.positions c.args.element s.result.turn s.result.index s.result.rest s.ensures.whole s.ensures.index s.ensures.rest h in
    c.owner.ensures.value ∙ (sym o ∙ ap (λ owners. owner_in owners c.args.element) c.self.view_is)
