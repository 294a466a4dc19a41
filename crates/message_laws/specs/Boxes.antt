-- The box of two ranks, as their places tell it.
use Rattle.std.specs.Prelude.{◌≡◌, ℕ, zero, suc, ◌-◌, ◌≤◌, ◌==◌, ℤ, List, [], ◌∷◌, if◌then◌else◌, Option, Some, None}
use Rattle.mailbox_book.specs.declared.message.Message.{Message}
use Rattle.mailbox_book.specs.Boxes.{Entry, fresh, spent}
use Rattle.message_laws.specs.Behaviour.{Behaviour, tag_in, posted, posts, takes}

-- a message that was just posted
abbrev pub new_entry : Message → Entry
new_entry m = fresh (tag_in m) m.numbers

-- ---- a box by its counts

-- a message of which so many of its tag, itself among them, were taken
abbrev pub entry_at : ℕ → Message → Entry
entry_at zero m = new_entry m
entry_at (suc n) m = spent (new_entry m)

abbrev pub one_less : ℕ → (ℕ → ℕ) → ℕ → ℕ
one_less tag left x = if x == tag then left x - 1 else left x

-- the messages, of each tag the first ones taken, as many as `left` says
abbrev pub marked : (ℕ → ℕ) → List Message → List Entry
marked left [] = []
marked left (m ∷ ms) = entry_at (left (tag_in m)) m ∷ marked (one_less (tag_in m) left) ms

-- message number n of a tag
abbrev pub message_at : ℕ → ℕ → List Message → Option (List ℤ)
message_at tag n [] = None
message_at tag zero (m ∷ ms) = if tag_in m == tag then Some m.numbers else message_at tag zero ms
message_at tag (suc n) (m ∷ ms) = if tag_in m == tag then message_at tag n ms else message_at tag (suc n) ms

-- the box from q to r where q stands at place i and r at place j
abbrev pub box_of : Behaviour → ℕ → ℕ → ℕ → ℕ → List Entry
box_of b q r i j = marked (λ tag. takes b q r tag j) (posted b q r i)

-- no more was taken than posted
abbrev pub Fits : Behaviour → ℕ → ℕ → ℕ → ℕ → Type 0
Fits b q r i j = (tag : ℕ) → takes b q r tag j ≤ posts b q r tag i

-- a box is the one that the places of its two ranks stand for
pub record BoxOk (b : Behaviour) (q r : ℕ) (box : List Entry) (i j : ℕ) : Type 0 where
  pub is : box ≡ box_of b q r i j
  pub fits : Fits b q r i j
