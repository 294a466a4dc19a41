use Rattle.std.proofs.Common.{◌≡◌, ◌∙◌, ◌-◌, length, sym, ap, rules}
use Rattle.fd_links.specs.Chains.{slots_of}
use Rattle.fd_links.proofs.Added.{adds_at}
use Rattle.fd_links.proofs.Calls.{leaves_added, plus}
use Rattle.fd_links.proofs.links.Links.add_node.Goals as goal

pub invariant_of-self-2 : goal.invariant_of-self-2
invariant_of-self-2 c =
    let s = c.self.inside in
    let place : c.len-place.result ≡ length s.nodes.items = search rules in
    (leaves_added s.heads s.nodes.items c.append.new.nodes.items c.self.invariant (rw (sym c.self.view_is) at c.requires) (adds_at s.nodes.items c.push.new.self.items c.append.new.nodes.items (s.heads - 1) c.len-place.result place c.in_ok-push.ensures.items c.append.ensures.len c.append.ensures.links c.append.ensures.back)).kept

pub returns-clause-number : goal.returns-clause-number
returns-clause-number c =
    let s = c.self.inside in
    let place : c.len-place.result ≡ length s.nodes.items = search rules in
    let more = leaves_added s.heads s.nodes.items c.append.new.nodes.items c.self.invariant (rw (sym c.self.view_is) at c.requires) (adds_at s.nodes.items c.push.new.self.items c.append.new.nodes.items (s.heads - 1) c.len-place.result place c.in_ok-push.ensures.items c.append.ensures.len c.append.ensures.links c.append.ensures.back) in
    ap (λ n. n - s.heads) place ∙ (sym more.number ∙ ap (λ v. length (slots_of v)) c.self.view_is)

pub returns-clause-ok : goal.returns-clause-ok
returns-clause-ok c =
    let s = c.self.inside in
    let place : c.len-place.result ≡ length s.nodes.items = search rules in
    let more = leaves_added s.heads s.nodes.items c.append.new.nodes.items c.self.invariant (rw (sym c.self.view_is) at c.requires) (adds_at s.nodes.items c.push.new.self.items c.append.new.nodes.items (s.heads - 1) c.len-place.result place c.in_ok-push.ensures.items c.append.ensures.len c.append.ensures.links c.append.ensures.back) in
    rw (sym place) at more.value_is ∙ ap (λ v. plus v (c.len-place.result - s.heads)) c.self.view_is

pub returns-clause-slots : goal.returns-clause-slots
returns-clause-slots c =
    let s = c.self.inside in
    let place : c.len-place.result ≡ length s.nodes.items = search rules in
    let more = leaves_added s.heads s.nodes.items c.append.new.nodes.items c.self.invariant (rw (sym c.self.view_is) at c.requires) (adds_at s.nodes.items c.push.new.self.items c.append.new.nodes.items (s.heads - 1) c.len-place.result place c.in_ok-push.ensures.items c.append.ensures.len c.append.ensures.links c.append.ensures.back) in
    rw (sym place) at more.slots
