-- Chains of slots, and the chain of those that are free.
use Rattle.std.specs.Prelude.{◌≡◌, ℕ, ◌<◌, ◌==◌, not, List, [], ◌∷◌, ◌++◌, filter, length, get_or, map, set, if◌then◌else◌, Option, None, slice_get, Contains, count_by, refl}
use Rattle.std.specs.Coded.{Coded, code_by, coded×, coded_list, coded_ℕ}
use Rattle.std.specs.List.{flat_map}

-- the chains in order of their numbers, and the free chain
pub record Chains : Type 0 where
  pub chains : List (List ℕ)
  pub free : List ℕ

abbrev pub chains_code : Coded Chains
chains_code = code_by (List (List ℕ) × List ℕ) (coded× (coded_list (coded_list coded_ℕ)) (coded_list coded_ℕ)) (λ c. (c.chains, c.free)) (λ p. record { chains = p.0; free = p.1 }) (λ _. refl)

-- all slots, chain after chain
abbrev pub slots_of : Chains → List ℕ
slots_of c = flat_map (λ chain. chain) c.chains ++ c.free

-- there are so many slots, numbered from 0, and each stands in exactly one chain, once
abbrev pub HasSlots : Chains → ℕ → Type 0
HasSlots c slots = (length (slots_of c) ≡ slots) × ((slot : ℕ) → slot < slots → count_by (λ other. other == slot) (slots_of c) ≡ 1)

-- a chain without a slot
abbrev pub without : ℕ → List ℕ → List ℕ
without slot chain = filter (λ other. not (other == slot)) chain

-- a free slot at the end of a chain
abbrev pub pushed : Chains → ℕ → ℕ → Chains
pushed c chain slot = record { chains = set c.chains chain (get_or c.chains chain [] ++ slot ∷ []); free = without slot c.free }

-- a slot of a chain at the end of the free chain
abbrev pub unlinked : Chains → ℕ → Chains
unlinked c slot = record { chains = map (without slot) c.chains; free = c.free ++ slot ∷ [] }

-- what stands behind a slot in a chain
abbrev pub next_in : List ℕ → ℕ → Option ℕ
next_in [] slot = None
next_in (x ∷ chain) slot = if x == slot then slice_get chain 0 else next_in chain slot

-- a slot stands in one of the chains
abbrev pub InChain : Chains → ℕ → Type 0
InChain c slot = (chain : ℕ) × (chain < length c.chains) × Contains (get_or c.chains chain []) slot
