use Rattle.std.proofs.Common.{◌≡◌, ℕ, length}
use Rattle.fd_links.specs.Rings.{node_at}
use Rattle.fd_links.proofs.links.Links.new.Given as goal

abbrev pub invariant-loop-head : goal.invariant-loop-head
invariant-loop-head l = (length l.nodes.items ≡ l.head) × ((x : ℕ) → node_at l.nodes.items x ≡ record { before = x; behind = x })
