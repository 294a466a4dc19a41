-- How nodes keep chains: each chain is a ring that begins and ends at a node of its own, its head.
use Rattle.std.specs.Prelude.{◌≡◌, ℕ, zero, suc, ◌-◌, ◌^◌, ◌<◌, ◌≤◌, ◌==◌, nat_lt, List, [], ◌∷◌, length, get_or, take, map, if◌then◌else◌, Option, Some, None, count_by, sum_by}
use Rattle.std.specs.List.{range_with_len}
use Rattle.fd_links.specs.declared.links.Node.{Node}
use Rattle.fd_links.specs.Chains.{Chains}

-- the node at a place; past the end of the list a place is a ring by itself
abbrev pub node_at : List Node → ℕ → Node
node_at nodes i = get_or nodes i (record { before = i; behind = i })

-- the place behind another, and the place before it
abbrev pub behind_of : List Node → ℕ → ℕ
behind_of nodes i = (node_at nodes i).behind

abbrev pub before_of : List Node → ℕ → ℕ
before_of nodes i = (node_at nodes i).before

-- the nodes from one on up to the head, at most so many
abbrev pub walk : List Node → ℕ → ℕ → ℕ → List ℕ
walk nodes head zero i = []
walk nodes head (suc n) i = if i == head then [] else i ∷ walk nodes head n (behind_of nodes i)

-- the nodes of the ring of a head
abbrev pub ring : List Node → ℕ → List ℕ
ring nodes head = walk nodes head (length nodes) (behind_of nodes head)

-- a function leads from a number over others to a number
abbrev pub Follows : (ℕ → ℕ) → ℕ → List ℕ → ℕ → Type 0
Follows f from [] to = f from ≡ to
Follows f from (x ∷ xs) to = (f from ≡ x) × Follows f x xs to

-- the links lead from a node over others to a node
abbrev pub IsPath : List Node → ℕ → List ℕ → ℕ → Type 0
IsPath nodes = Follows (behind_of nodes)

-- a function with another value at one number
abbrev pub put : (ℕ → ℕ) → ℕ → ℕ → ℕ → ℕ
put f at value x = if x == at then value else f x

-- two functions undo each other
pub record AreInverse (f b : ℕ → ℕ) : Type 0 where
  pub back : (x : ℕ) → b (f x) ≡ x
  pub forth : (x : ℕ) → f (b x) ≡ x

-- every number of a list is from `low` to below `high`
abbrev pub AreWithin : ℕ → ℕ → List ℕ → Type 0
AreWithin low high [] = Unit {0}
AreWithin low high (x ∷ xs) = (low ≤ x) × (x < high) × AreWithin low high xs

-- the rings of the heads, in order, have each other node once
pub record AreRings (heads : ℕ) (nodes : List Node) (rings : List (List ℕ)) : Type 0 where
  pub heads_inside : (0 < heads) × (heads ≤ length nodes)
  pub inverse : AreInverse (behind_of nodes) (before_of nodes)
  pub within : (i : ℕ) → i < length nodes → (behind_of nodes i < length nodes) × (before_of nodes i < length nodes)
  pub each_head : length rings ≡ heads
  pub paths : (head : ℕ) → head < heads → IsPath nodes head (get_or rings head []) head
  pub total : sum_by length rings ≡ length nodes - heads
  pub once : (i : ℕ) → heads ≤ i → i < length nodes → sum_by (count_by (λ other. other == i)) rings ≡ 1
  pub inside : (head : ℕ) → head < heads → AreWithin heads (length nodes) (get_or rings head [])

-- the rings as the nodes tell them
abbrev pub rings_of : ℕ → List Node → List (List ℕ)
rings_of heads nodes = map (ring nodes) (range_with_len 0 heads)

-- the slots of a ring: the nodes behind the heads, numbered from 0
abbrev pub as_slots : ℕ → List ℕ → List ℕ
as_slots heads nodes = map (λ i. i - heads) nodes

-- the chains that rings are: the last is the free chain
abbrev pub told : ℕ → List (List ℕ) → Chains
told heads rings = record { chains = map (as_slots heads) (take (heads - 1) rings); free = as_slots heads (get_or rings (heads - 1) []) }

-- the chains that nodes keep
abbrev pub chains_of : ℕ → List Node → Chains
chains_of heads nodes = told heads (rings_of heads nodes)

-- the nodes keep chains: there is a head for each, and no more slots than have numbers
pub record IsKept (heads : ℕ) (nodes : List Node) : Type 0 where
  pub rings : AreRings heads nodes (rings_of heads nodes)
  pub few_heads : heads ≤ 2 ^ 32
  pub few_slots : length nodes - heads < 2 ^ 32

-- the slot at a place; None where a head stands there
abbrev pub slot_of : ℕ → ℕ → Option ℕ
slot_of heads place = if nat_lt place heads then None else Some (place - heads)

-- ---- a place moved

-- where links lead after s was moved before t
abbrev pub moved : (ℕ → ℕ) → (ℕ → ℕ) → ℕ → ℕ → ℕ → ℕ
moved f b s t = let f' = put f (b s) (f s) in let b' = put b (f s) (b s) in put (put f' (b' t) s) s t

-- where links back lead after s was moved before t
abbrev pub moved_back : (ℕ → ℕ) → (ℕ → ℕ) → ℕ → ℕ → ℕ → ℕ
moved_back f b s t = let b' = put b (f s) (b s) in put (put b' s (b' t)) t s

-- the nodes after s was moved before t
pub record Moves (nodes after : List Node) (s t : ℕ) : Type 0 where
  pub len : length after ≡ length nodes
  pub links : (x : ℕ) → behind_of after x ≡ moved (behind_of nodes) (before_of nodes) s t x
  pub back : (x : ℕ) → before_of after x ≡ moved_back (behind_of nodes) (before_of nodes) s t x

-- no link leads outside
abbrev pub StaysInside : List Node → Type 0
StaysInside nodes = (i : ℕ) → i < length nodes → (behind_of nodes i < length nodes) × (before_of nodes i < length nodes)
