-- The operations that the tables of a placement tell for each node.
use Rattle.std.specs.Prelude.{◌≡◌, ℕ, suc, ◌+◌, ◌-◌, ◌<◌, ◌≤◌, Bool, true, false, List, [], ◌∷◌, map, filter}
use Rattle.std.specs.List.{range_with_len}
use Rattle.fd_base.specs.declared.numbering.ItemNo.{ItemNo}
use Rattle.fd_prog.specs.Paths.{Places}
use Rattle.executor_gen.specs.declared.operations.Operations.{Operations}

abbrev pub numbered : ℕ → ItemNo
numbered x = record { 0 = x }

-- the items from one on that are marked, up to so many
abbrev pub marked_from : (ℕ → Bool) → ℕ → ℕ → List ItemNo
marked_from marked from items = map numbered (filter marked (range_with_len from (items + 1 - from)))

-- all items that are marked, of so many
abbrev pub items_marked : ℕ → (ℕ → Bool) → List ItemNo
items_marked items marked = map numbered (filter marked (range_with_len 1 items))

-- of so many items, this is the first from one on that is marked
pub record IsNext (marked : ℕ → Bool) (from items next : ℕ) : Type 0 where
  pub up : from ≤ next
  pub within : next ≤ items
  pub has : marked next ≡ true
  pub none : (k : ℕ) → from ≤ k → k < next → marked k ≡ false

-- none of so many items is marked from one on
abbrev pub AreNone : (ℕ → Bool) → ℕ → ℕ → Type 0
AreNone marked from items = (k : ℕ) → from ≤ k → k ≤ items → marked k ≡ false

-- the operations of a node, with so many items
pub record IsToldAt (p : Places) (items n : ℕ) (o : Operations) : Type 0 where
  pub send_in : o.send_in.items ≡ items_marked items (p.send_in n)
  pub recv_in : o.recv_in.items ≡ items_marked items (p.recv_in n)
  pub send_out : o.send_out.items ≡ items_marked items (p.send_out n)
  pub recv_out : o.recv_out.items ≡ items_marked items (p.recv_out n)

-- those of nodes, the first of which has the number a
abbrev pub AreTold : Places → ℕ → ℕ → List Operations → Type 0
AreTold p items a [] = Unit {0}
AreTold p items a (o ∷ os) = IsToldAt p items a o × AreTold p items (suc a) os
