-- A box of messages from one rank to another.
use Rattle.std.specs.Prelude.{ℕ, ◌+◌, ◌*◌, ◌/◌, ◌%◌, ◌==◌, ℤ, Bool, ◌&&◌, List, [], ◌∷◌, length, map, count_by, sum_by, if◌then◌else◌, Option, Some, None, is_some, refl}
use Rattle.std.specs.Coded.{Coded, code_by, coded×, coded_list, coded_ℕ, coded_ℤ, coded_option}
use Rattle.mailbox_book.specs.declared.message.MsgKind.{MsgKind}
use Rattle.mailbox_book.specs.declared.message.MsgKind.TheVariants.{Request, Reply}
use Rattle.mailbox_book.specs.declared.message.Tag.{Tag}
use Rattle.mailbox_book.specs.declared.message.Header.{Header}
use Rattle.mailbox_book.specs.declared.message.Message.{Message}
use Rattle.mailbox_book.specs.declared.counting.Counts.{Counts}

-- A box is seen as one list of all that was ever posted. The other form, a queue for each tag, is a law about that list
-- (specs/Queues): the list alone tells in which order messages of different tags came, and laws about ranks that post and take
-- in any order speak of it as it stands.

-- ---- tags

-- the number of a tag: 2*x for Requests of item x, and 2*x + 1 for Replies
abbrev pub kind_number : MsgKind → ℕ
kind_number Request = 0
kind_number Reply = 1

abbrev pub tag_number : Tag → ℕ
tag_number t = 2 * t.item.0 + kind_number t.kind

-- there are items from 0 to 512
abbrev pub most_tags : ℕ
most_tags = 1026

-- the tag that has a number
abbrev pub tag_of : ℕ → Tag
tag_of n = record { item = record { 0 = n / 2 }; kind = if n % 2 == 0 then Request else Reply }

-- ---- the box

-- a message that was posted: the number of its tag, how many numbers it carried, and these while it isn't taken
pub record Entry : Type 0 where
  pub tag : ℕ
  pub count : ℕ
  pub numbers : Option (List ℤ)

-- all messages ever posted, in order, and the most that ever waited at one time
pub record Box : Type 0 where
  pub entries : List Entry
  pub slots : ℕ

abbrev pub entry_code : Coded Entry
entry_code = code_by (ℕ × (ℕ × Option (List ℤ))) (coded× coded_ℕ (coded× coded_ℕ (coded_option (coded_list coded_ℤ)))) (λ e. (e.tag, (e.count, e.numbers))) (λ p. record { tag = p.0; count = p.1.0; numbers = p.1.1 }) (λ _. refl)

abbrev pub box_code : Coded Box
box_code = code_by (List Entry × ℕ) (coded× (coded_list entry_code) coded_ℕ) (λ b. (b.entries, b.slots)) (λ p. record { entries = p.0; slots = p.1 }) (λ _. refl)

-- a message that was just posted
abbrev pub fresh : ℕ → List ℤ → Entry
fresh tag numbers = record { tag = tag; count = length numbers; numbers = Some numbers }

-- a message that was taken
abbrev pub spent : Entry → Entry
spent e = record { tag = e.tag; count = e.count; numbers = None }

-- a message waits, one of this tag
abbrev pub is_waiting : Entry → Bool
is_waiting e = is_some e.numbers

abbrev pub is_fresh : ℕ → Entry → Bool
is_fresh tag e = (e.tag == tag) && is_waiting e

-- the messages after the earliest that waits of a tag was taken
abbrev pub without_first : ℕ → List Entry → List Entry
without_first tag [] = []
without_first tag (e ∷ es) = if is_fresh tag e then spent e ∷ es else e ∷ without_first tag es

-- the numbers of the earliest message of a tag that waits
abbrev pub first_of : ℕ → List Entry → Option (List ℤ)
first_of tag [] = None
first_of tag (e ∷ es) = if is_fresh tag e then e.numbers else first_of tag es

-- how many messages wait
abbrev pub count_waiting : List Entry → ℕ
count_waiting es = count_by is_waiting es

abbrev pub message : Tag → List ℤ → Message
message tag numbers = record { tag = tag; numbers = numbers }

-- ---- headers

abbrev pub header : Tag → ℕ → Header
header tag count = record { tag = tag; count = count }

abbrev pub header_of : Entry → Header
header_of e = header (tag_of e.tag) e.count

abbrev pub headers_of : List Entry → List Header
headers_of es = map header_of es

abbrev pub is_request : Header → Bool
is_request h = kind_number h.tag.kind == 0

abbrev pub is_reply : Header → Bool
is_reply h = kind_number h.tag.kind == 1

-- the values that a Reply carried
abbrev pub values_by : MsgKind → ℕ → ℕ
values_by Request count = 0
values_by Reply count = count

abbrev pub values_in : Header → ℕ
values_in h = values_by h.tag.kind h.count

-- how many Requests and Replies there are, and how many values the Replies carried
abbrev pub counts_of : List Header → Counts
counts_of headers = record { requests = count_by is_request headers; replies = count_by is_reply headers; values = sum_by values_in headers }
