use Rattle.std.proofs.Common.{rules}
use Rattle.std.specs.Prelude.{map, slice_get}
use Rattle.std.proofs.lemmas.Fn.{always_returns_same}
use Rattle.fd_prog.specs.Items.{item_order, linear_item_of}
use Rattle.section_num.specs.Ordered.{item_in, stands}
use Rattle.section_num.proofs.firsts.search.Goals as goal

pub returns-clause-found : goal.returns-clause-found
returns-clause-found c =
    c.binary_search_by.ensures.position (λ place. stands item_order (linear_item_of c.args.item.now) (slice_get (map item_in c.args.uses.now) place)) (always_returns_same _ _ _ (λ a r f called. search rules))
