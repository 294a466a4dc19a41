-- Queues of numbers over one pool of slots.
use Rattle.std.specs.Prelude.{◌≡◌, ℕ, ◌^◌, ◌<◌, ◌≤◌, ℤ, List, [], length, get_or, map, sum_by, refl}
use Rattle.fd_links.specs.Chains.{Chains, HasSlots}
use Rattle.std.specs.Coded.{Coded, code_by, coded×, coded_list, coded_ℕ, coded_ℤ}

-- the numbers that wait in each queue, message after message, and how many slots there are
pub record Queues : Type 0 where
  pub queues : List (List (List ℤ))
  pub slots : ℕ

abbrev pub queues_code : Coded Queues
queues_code = code_by (List (List (List ℤ)) × ℕ) (coded× (coded_list (coded_list (coded_list coded_ℤ))) coded_ℕ) (λ q. (q.queues, q.slots)) (λ p. record { queues = p.0; slots = p.1 }) (λ _. refl)

-- the numbers in a slot
abbrev pub numbers_at : List (List ℤ) → ℕ → List ℤ
numbers_at slots slot = get_or slots slot []

-- the queue of a chain
abbrev pub queue_of : List (List ℤ) → List ℕ → List (List ℤ)
queue_of slots chain = map (numbers_at slots) chain

abbrev pub queues_of : List (List ℤ) → List (List ℕ) → List (List (List ℤ))
queues_of slots chains = map (queue_of slots) chains

-- how many messages stand in all queues
abbrev pub count_queued : List (List (List ℤ)) → ℕ
count_queued queues = sum_by length queues

-- the slots that were there hold what they held
pub record KeepsFront (before after : List (List ℤ)) : Type 0 where
  pub no_fewer : length before ≤ length after
  pub same : (slot : ℕ) → slot < length before → numbers_at after slot ≡ numbers_at before slot

-- there is a place for the numbers of each slot, and no more slots than have numbers
pub record IsPool (links : Chains) (slots : List (List ℤ)) : Type 0 where
  pub has : HasSlots links (length slots)
  pub few : length slots < 2 ^ 32
