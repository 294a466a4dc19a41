-- How headers and queues keep a box.
use Rattle.std.specs.Prelude.{◌≡◌, ℕ, suc, ◌-◌, ◌≤◌, ◌==◌, nat_lt, ℤ, List, [], ◌∷◌, length, get_or, if◌then◌else◌, Option, Some, None}
use Rattle.mailbox_book.specs.declared.message.Header.{Header}
use Rattle.mailbox_book.specs.Boxes.{Entry, count_waiting, most_tags, tag_number}
use Rattle.mailbox_book.specs.Pools.{count_queued}

-- what stands in a queue at a place that is counted from its end, from 1 on
abbrev pub from_end : List (List ℤ) → ℕ → Option (List ℤ)
from_end queue n = if nat_lt (length queue) n then None else Some (get_or queue (length queue - n) [])

-- how many headers have a tag
abbrev pub with_tag : ℕ → List Header → ℕ
with_tag tag [] = 0
with_tag tag (h ∷ hs) = if tag_number h.tag == tag then suc (with_tag tag hs) else with_tag tag hs

-- a header and the numbers of its message
abbrev pub entry : Header → Option (List ℤ) → Entry
entry h numbers = record { tag = tag_number h.tag; count = h.count; numbers = numbers }

-- the messages of these headers: of each tag the last ones wait, as many as are in its queue
abbrev pub entries_of : (ℕ → List (List ℤ)) → List Header → List Entry
entries_of queue [] = []
entries_of queue (h ∷ hs) = entry h (from_end (queue (tag_number h.tag)) (suc (with_tag (tag_number h.tag) hs))) ∷ entries_of queue hs

-- the queue of a tag
abbrev pub queue_at : List (List (List ℤ)) → ℕ → List (List ℤ)
queue_at queues tag = get_or queues tag []

-- there is a queue for each tag, each has no more than was posted, and all have as many as wait
pub record IsKept (queues : List (List (List ℤ))) (headers : List Header) : Type 0 where
  pub tags : length queues ≡ most_tags
  pub each : (tag : ℕ) → length (queue_at queues tag) ≤ with_tag tag headers
  pub all : count_waiting (entries_of (queue_at queues) headers) ≡ count_queued queues
