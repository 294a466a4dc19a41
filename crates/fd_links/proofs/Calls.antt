-- What each call finds and leaves, as nodes and as chains.
use Rattle.std.proofs.Common.{◌≡◌, ℕ, ◌+◌, ◌-◌, ◌^◌, ◌<◌, ◌≤◌, List, [], ◌∷◌, ◌++◌, length, get_or, replicate, sym, ap, ◌∙◌, arith}
use Rattle.std.specs.Prelude.{Contains, slice_get}
use Rattle.fd_links.specs.declared.links.Node.{Node}
use Rattle.fd_links.specs.Chains.{Chains, HasSlots, InChain, next_in, pushed, slots_of, unlinked}
use Rattle.fd_links.specs.Rings.{IsKept, Moves, behind_of, chains_of, node_at, rings_of, slot_of, told}
use Rattle.fd_links.proofs.Added.{Adds, AreRings-added, AreRings-new, alone}
use Rattle.fd_links.proofs.Kept.{AreRings-moved, kept-moved, rings_are}
use Rattle.fd_links.proofs.Nodes.{read_is}
use Rattle.fd_links.proofs.Values.{chain_at, chains_length, first_of, has_slots, in_chain, in_free, next_of, place_below, told-added, told-new, told-pushed, told-unlinked}

-- ---- a place moved

IsKept-moved : (heads : ℕ) (nodes after : List Node) (s t : ℕ) → IsKept heads nodes → Moves nodes after s t → heads ≤ s → s < length nodes → t < heads → IsKept heads after
IsKept-moved heads nodes after s t k m l h u =
    record {
      rings = rw (kept-moved heads nodes after s t k.rings m l h u) at (AreRings-moved heads nodes after (rings_of heads nodes) s t k.rings m l h u);
      few_heads = k.few_heads;
      few_slots = omega (arith, k.few_slots, m.len);
    }

slots-moved : (heads : ℕ) (nodes after : List Node) → IsKept heads nodes → IsKept heads after → length after ≡ length nodes → HasSlots (chains_of heads after) (length (slots_of (chains_of heads nodes)))
slots-moved heads nodes after k j l =
    let e : length after - heads ≡ length (slots_of (chains_of heads nodes)) = omega (arith, l, (has_slots heads nodes (rings_of heads nodes) k.rings).0) in
    let h = has_slots heads after (rings_of heads after) j.rings in
    (h.0 ∙ e, λ slot i. h.1 slot (omega (arith, i, e)))

pub free_place : (heads : ℕ) (nodes : List Node) (slot : ℕ) → IsKept heads nodes → Contains (chains_of heads nodes).free slot → heads + slot < length nodes
free_place heads nodes slot k m =
    let u : heads - 1 < heads = omega (arith, k.rings.heads_inside.0) in
    place_below heads (length nodes) (heads + slot) (get_or (rings_of heads nodes) (heads - 1) []) (k.rings.inside (heads - 1) u) (in_free heads nodes (rings_of heads nodes) slot k.rings m)

pub chain_below : (heads : ℕ) (nodes : List Node) (chain : ℕ) → IsKept heads nodes → chain < length (chains_of heads nodes).chains → chain < heads - 1
chain_below heads nodes chain k l = omega (arith, l, chains_length heads nodes (rings_of heads nodes) k.rings)

pub chain_place : (heads : ℕ) (nodes : List Node) (slot : ℕ) → IsKept heads nodes → InChain (chains_of heads nodes) slot → heads + slot < length nodes
chain_place heads nodes slot k m =
    let l = chain_below heads nodes m.0 k m.1 in
    place_below heads (length nodes) (heads + slot) (get_or (rings_of heads nodes) m.0 []) (k.rings.inside m.0 (omega (arith, l))) (in_chain heads nodes (rings_of heads nodes) m.0 slot k.rings l m.2)

-- what a call leaves
pub record Leaves (heads : ℕ) (nodes after : List Node) (value : Chains) : Type 0 where
  pub kept : IsKept heads after
  pub value_is : chains_of heads after ≡ value
  pub slots : HasSlots (chains_of heads after) (length (slots_of (chains_of heads nodes)))

pub leaves_pushed : (heads : ℕ) (nodes after : List Node) (chain slot : ℕ) → IsKept heads nodes → chain < length (chains_of heads nodes).chains → Contains (chains_of heads nodes).free slot → Moves nodes after (heads + slot) chain → Leaves heads nodes after (pushed (chains_of heads nodes) chain slot)
leaves_pushed heads nodes after chain slot k l f m =
    let s = heads + slot in
    let below = chain_below heads nodes chain k l in
    let low : heads ≤ s = omega arith in
    let u : chain < heads = omega (arith, below) in
    let h = free_place heads nodes slot k f in
    let j = IsKept-moved heads nodes after s chain k m low h u in
    record {
      kept = j;
      value_is = ap (told heads) (sym (kept-moved heads nodes after s chain k.rings m low h u)) ∙ told-pushed heads nodes (rings_of heads nodes) chain slot k.rings below (in_free heads nodes (rings_of heads nodes) slot k.rings f);
      slots = slots-moved heads nodes after k j m.len;
    }

pub leaves_unlinked : (heads : ℕ) (nodes after : List Node) (slot : ℕ) → IsKept heads nodes → InChain (chains_of heads nodes) slot → Moves nodes after (heads + slot) (heads - 1) → Leaves heads nodes after (unlinked (chains_of heads nodes) slot)
leaves_unlinked heads nodes after slot k f m =
    let s = heads + slot in
    let below = chain_below heads nodes f.0 k f.1 in
    let low : heads ≤ s = omega arith in
    let u : heads - 1 < heads = omega (arith, below) in
    let h = chain_place heads nodes slot k f in
    let j = IsKept-moved heads nodes after s (heads - 1) k m low h u in
    record {
      kept = j;
      value_is = ap (told heads) (sym (kept-moved heads nodes after s (heads - 1) k.rings m low h u)) ∙ told-unlinked heads nodes (rings_of heads nodes) f.0 slot k.rings below (in_chain heads nodes (rings_of heads nodes) f.0 slot k.rings below f.2);
      slots = slots-moved heads nodes after k j m.len;
    }

-- ---- a place added

-- a slot more at the end of the free chain
abbrev pub plus : Chains → ℕ → Chains
plus c slot = record { chains = c.chains; free = c.free ++ slot ∷ [] }

pub record LeavesMore (heads : ℕ) (nodes after : List Node) : Type 0 where
  pub kept : IsKept heads after
  pub number : length (slots_of (chains_of heads nodes)) ≡ length nodes - heads
  pub value_is : chains_of heads after ≡ plus (chains_of heads nodes) (length nodes - heads)
  pub slots : HasSlots (chains_of heads after) (length nodes - heads + 1)

pub leaves_added : (heads : ℕ) (nodes after : List Node) → IsKept heads nodes → length (slots_of (chains_of heads nodes)) < 2 ^ 32 - 1 → Adds nodes after (heads - 1) → LeavesMore heads nodes after
leaves_added heads nodes after k l m =
    let rings = rings_of heads nodes in
    let n = heads - 1 in
    let slot = length nodes - heads in
    let inside = k.rings.heads_inside in
    let place : heads + slot ≡ length nodes = omega (arith, inside.1) in
    let more = AreRings-added heads nodes after rings k.rings m in
    let same = rings_are heads after _ more in
    let number = (has_slots heads nodes rings k.rings).0 in
    let added = told-added heads rings slot (omega (arith, inside.0, k.rings.each_head)) in
    let j : IsKept heads after = record {
      rings = rw same at more;
      few_heads = k.few_heads;
      few_slots = omega (arith, l, number, m.len, inside.1);
    } in
    let e : length after - heads ≡ slot + 1 = omega (arith, m.len, inside.1) in
    let h = has_slots heads after (rings_of heads after) j.rings in
    record {
      kept = j;
      number = number;
      value_is = ap (told heads) (sym same) ∙ rw place at added;
      slots = (h.0 ∙ e, λ i b. h.1 i (omega (arith, b, e)));
    }

-- ---- new nodes

-- so many chains without slots
abbrev pub none_in : ℕ → Chains
none_in chains = record { chains = replicate chains []; free = [] }

pub record LeavesNew (heads : ℕ) (nodes : List Node) : Type 0 where
  pub kept : IsKept heads nodes
  pub value_is : chains_of heads nodes ≡ none_in (heads - 1)

pub leaves_new : (heads : ℕ) (nodes : List Node) → 0 < heads → heads ≤ 2 ^ 32 → length nodes ≡ heads → ((x : ℕ) → node_at nodes x ≡ alone x) → LeavesNew heads nodes
leaves_new heads nodes p few len h =
    let new = AreRings-new heads nodes p len h in
    let same = rings_are heads nodes (replicate heads []) new in
    record {
      kept = record { rings = rw same at new; few_heads = few; few_slots = omega (arith, len) };
      value_is = ap (told heads) (sym same) ∙ told-new heads p;
    }

-- ---- the first slot, and the next

pub first_is : (heads : ℕ) (nodes : List Node) (chain : ℕ) → IsKept heads nodes → chain < length (chains_of heads nodes).chains → slot_of heads (behind_of nodes chain) ≡ slice_get (get_or (chains_of heads nodes).chains chain []) 0
first_is heads nodes chain k l =
    let rings = rings_of heads nodes in
    let below = chain_below heads nodes chain k l in
    let u : chain < heads = omega (arith, below) in
    first_of heads (length nodes) (behind_of nodes) chain (get_or rings chain []) chain u (k.rings.inside chain u) (k.rings.paths chain u) ∙ ap (λ c. slice_get c 0) (sym (chain_at heads rings (heads - 1) chain (omega (arith, k.rings.each_head)) below))

pub free_is : (heads : ℕ) (nodes : List Node) → IsKept heads nodes → slot_of heads (behind_of nodes (heads - 1)) ≡ slice_get (chains_of heads nodes).free 0
free_is heads nodes k =
    let u : heads - 1 < heads = omega (arith, k.rings.heads_inside.0) in
    first_of heads (length nodes) (behind_of nodes) (heads - 1) (get_or (rings_of heads nodes) (heads - 1) []) (heads - 1) u (k.rings.inside (heads - 1) u) (k.rings.paths (heads - 1) u)

pub next_is : (heads : ℕ) (nodes : List Node) (chain slot : ℕ) → IsKept heads nodes → chain < length (chains_of heads nodes).chains → Contains (get_or (chains_of heads nodes).chains chain []) slot → slot_of heads (behind_of nodes (heads + slot)) ≡ next_in (get_or (chains_of heads nodes).chains chain []) slot
next_is heads nodes chain slot k l m =
    let rings = rings_of heads nodes in
    let below = chain_below heads nodes chain k l in
    let u : chain < heads = omega (arith, below) in
    next_of heads (length nodes) (behind_of nodes) slot chain (get_or rings chain []) chain u (k.rings.inside chain u) (k.rings.paths chain u) (in_chain heads nodes rings chain slot k.rings below m) ∙ ap (λ c. next_in c slot) (sym (chain_at heads rings (heads - 1) chain (omega (arith, k.rings.each_head)) below))

pub next_free : (heads : ℕ) (nodes : List Node) (slot : ℕ) → IsKept heads nodes → Contains (chains_of heads nodes).free slot → slot_of heads (behind_of nodes (heads + slot)) ≡ next_in (chains_of heads nodes).free slot
next_free heads nodes slot k m =
    let u : heads - 1 < heads = omega (arith, k.rings.heads_inside.0) in
    next_of heads (length nodes) (behind_of nodes) slot (heads - 1) (get_or (rings_of heads nodes) (heads - 1) []) (heads - 1) u (k.rings.inside (heads - 1) u) (k.rings.paths (heads - 1) u) (in_free heads nodes (rings_of heads nodes) slot k.rings m)

-- the place of a slot
pub slot_place : (heads : ℕ) (nodes : List Node) (slot : ℕ) → IsKept heads nodes → slot < length (slots_of (chains_of heads nodes)) → heads + slot < length nodes
slot_place heads nodes slot k l = omega (arith, l, (has_slots heads nodes (rings_of heads nodes) k.rings).0, k.rings.heads_inside.1)

-- the place behind another has a slot's number or is a head
pub read_few : (heads : ℕ) (nodes : List Node) (i : ℕ) (n : Node) → IsKept heads nodes → i < length nodes → n ≡ get_or nodes i n → n.behind - heads < 2 ^ 32
read_few heads nodes i n k l h = omega (arith, (k.rings.within i l).0, read_is nodes i n l h, k.few_slots)

pub head_place : (heads : ℕ) (nodes : List Node) (head : ℕ) → IsKept heads nodes → head < heads → head < length nodes
head_place heads nodes head k l = omega (arith, l, k.rings.heads_inside.1)

pub chain_head : (heads : ℕ) (nodes : List Node) (chain : ℕ) → IsKept heads nodes → chain < length (chains_of heads nodes).chains → chain < length nodes
chain_head heads nodes chain k l = head_place heads nodes chain k (omega (arith, chain_below heads nodes chain k l))

pub free_head : (heads : ℕ) (nodes : List Node) → IsKept heads nodes → heads - 1 < length nodes
free_head heads nodes k = head_place heads nodes (heads - 1) k (omega (arith, k.rings.heads_inside.0))
