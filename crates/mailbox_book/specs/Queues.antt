-- The queues of a box, and what comes of posts and takes in any order.
use Rattle.std.specs.Prelude.{◌≡◌, ℕ, zero, suc, ◌==◌, ℤ, List, [], ◌∷◌, ◌++◌, if◌then◌else◌, Option, Some, None}
use Rattle.mailbox_book.specs.Boxes.{Entry, fresh, spent, without_first, first_of, header_of}
use Rattle.mailbox_book.specs.declared.message.Header.{Header}

-- the numbers that an entry adds to a queue
abbrev pub list_of : Option (List ℤ) → List (List ℤ)
list_of None = []
list_of (Some numbers) = numbers ∷ []

-- the numbers of the messages of a tag that wait, in order
abbrev pub queue : ℕ → List Entry → List (List ℤ)
queue tag [] = []
queue tag (e ∷ es) = if e.tag == tag then list_of e.numbers ++ queue tag es else queue tag es

-- a call of a box
pub data Call : Type 0 where
  Post : ℕ → List ℤ → Call
  Take : ℕ → Call

-- the box after a call, and after calls in order
abbrev pub behind : Call → List Entry → List Entry
behind (Post tag numbers) es = es ++ fresh tag numbers ∷ []
behind (Take tag) es = without_first tag es

abbrev pub behind_all : List Call → List Entry → List Entry
behind_all [] es = es
behind_all (c ∷ cs) es = behind_all cs (behind c es)

-- the messages of a tag that calls post
abbrev pub posted_by : Call → ℕ → List (List ℤ)
posted_by (Post t numbers) tag = if t == tag then numbers ∷ [] else []
posted_by (Take t) tag = []

abbrev pub posted : List Call → ℕ → List (List ℤ)
posted [] tag = []
posted (c ∷ cs) tag = posted_by c tag ++ posted cs tag

-- the headers of the messages that calls post
abbrev pub posted_headers : List Call → List Header
posted_headers [] = []
posted_headers (Post tag numbers ∷ cs) = header_of (fresh tag numbers) ∷ posted_headers cs
posted_headers (Take tag ∷ cs) = posted_headers cs

-- the messages of a tag that calls take out of a box
abbrev pub taken_by : Call → List Entry → ℕ → List (List ℤ)
taken_by (Post t numbers) es tag = []
taken_by (Take t) es tag = if t == tag then list_of (first_of t es) else []

abbrev pub taken : List Call → List Entry → ℕ → List (List ℤ)
taken [] es tag = []
taken (c ∷ cs) es tag = taken_by c es tag ++ taken cs (behind c es) tag

-- the message at a place of a box
abbrev pub numbers_at : List Entry → ℕ → Option (List ℤ)
numbers_at [] place = None
numbers_at (e ∷ es) zero = e.numbers
numbers_at (e ∷ es) (suc place) = numbers_at es place

-- these are the numbers of the earliest message of a tag that waits: it stands behind others of which none of the tag waits, and a
-- take changes it alone
pub record IsEarliest (tag : ℕ) (numbers : List ℤ) (es : List Entry) : Type 0 where
  pub before : List Entry
  pub message : Entry
  pub after : List Entry
  pub are : es ≡ before ++ message ∷ after
  pub tagged : message.tag ≡ tag
  pub numbers_are : message.numbers ≡ Some numbers
  pub none_before : queue tag before ≡ []
  pub taken_alone : without_first tag es ≡ before ++ spent message ∷ after
