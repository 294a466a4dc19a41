use Rattle.std.proofs.Common.{◌≡◌, ◌∙◌, ◌+◌, ◌-◌, length, ap, arith, rules}
use Rattle.fd_links.proofs.Calls.{leaves_new, none_in}
use Rattle.fd_links.proofs.links.Links.new.Goals as goal

pub invariant_of-result : goal.invariant_of-result
invariant_of-result c =
    let e : length c.loop-head.nodes.items ≡ c.args.chains + 1 = search rules in
    (leaves_new (c.args.chains + 1) c.loop-head.nodes.items (omega arith) (omega (arith, c.ranges.chains.fits)) e c.loop-head.invariant.1).kept

pub returns : goal.returns
returns c =
    let e : length c.loop-head.nodes.items ≡ c.args.chains + 1 = search rules in
    let one : c.args.chains + 1 - 1 ≡ c.args.chains = omega arith in
    (leaves_new (c.args.chains + 1) c.loop-head.nodes.items (omega arith) (omega (arith, c.ranges.chains.fits)) e c.loop-head.invariant.1).value_is ∙ ap none_in one
