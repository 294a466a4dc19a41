use Rattle.std.proofs.Common.{All, Option, unwrap_or, sym, subst}
use Rattle.fd_base.specs.Places.{Place, Whole}
use Rattle.owner_part.specs.Placed.{HasElement}
use Rattle.inspector.proofs.rows.all_needs.Goals as goal

pub schedule-requires : goal.schedule-requires
schedule-requires c =
    subst (λ (o : Option Place). All (HasElement (unwrap_or o Whole)) c.in_ok-elements.elements) (sym c.in-Some.ensures) c.in_ok-elements.ensures.elements
