use Rattle.std.proofs.Common.{◌≡◌, map, take}
use Rattle.fd_names.proofs.names.copied.Given as goal

abbrev pub invariant-loop-name : goal.invariant-loop-name
invariant-loop-name l = l.made ≡ map (λ k. k.items) (take l.name-index l.names)
