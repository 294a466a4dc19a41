-- Send and Recv: what each rank does at them, and when the items of a trace are balanced.
use Rattle.std.specs.Prelude.{◌≡◌, ℕ, zero, suc, ◌+◌, ◌*◌, ◌<◌, ◌==◌, ℤ, List, [], ◌∷◌, ◌++◌, Some, None, if◌then◌else◌}
use Rattle.fd_base.specs.declared.numbering.ItemNo.{ItemNo}
use Rattle.mailbox_book.specs.declared.message.Message.{Message}
use Rattle.mailbox_book.specs.declared.message.MsgKind.{MsgKind}
use Rattle.mailbox_book.specs.declared.message.MsgKind.TheVariants.{Request, Reply}
use Rattle.mailbox_book.specs.declared.message.Tag.{Tag}
use Rattle.mailbox_book.specs.Boxes.{message, tag_number}
use Rattle.message_laws.specs.Behaviour.{Action, Post, Take}
use Rattle.message_laws.specs.Traces.{Trace, nth}

-- a configuration sends an item, receives one, or does neither
pub data Event : Type 0 where
  Local : Event
  Send : (item : ℕ) → Event
  Recv : (item : ℕ) → Event

-- what a protocol needs of a job: the event of each configuration, and the numbers that go from rank to rank there
pub record Exchange : Type 0 where
  pub event : ℕ → Event
  pub requested : ℕ → ℕ → ℕ → List ℤ
  pub replied : ℕ → ℕ → ℕ → List ℤ

-- the tag of an item's Requests or Replies, and its number
abbrev pub tag_for : MsgKind → ℕ → Tag
tag_for kind item = record { item = record { 0 = item }; kind = kind }

abbrev pub request_tag : ℕ → ℕ
request_tag item = tag_number (tag_for Request item)

abbrev pub reply_tag : ℕ → ℕ
reply_tag item = tag_number (tag_for Reply item)

-- what is done for each rank below n but q, in ascending order
abbrev pub each : ℕ → ℕ → (ℕ → List Action) → List Action
each q zero f = []
each q (suc n) f = each q n f ++ (if n == q then [] else f n)

-- posts Request to a rank
abbrev pub request_to : Exchange → ℕ → ℕ → ℕ → ℕ → List Action
request_to x c item q r = Post r (message (tag_for Request item) (x.requested c q r)) ∷ []

-- takes its Request and posts Reply to it
abbrev pub reply_to : Exchange → ℕ → ℕ → ℕ → ℕ → List Action
reply_to x c item q r = Take r (request_tag item) ∷ Post r (message (tag_for Reply item) (x.replied c q r)) ∷ []

-- takes its Reply
abbrev pub receive_from : ℕ → ℕ → List Action
receive_from item r = Take r (reply_tag item) ∷ []

-- what rank q of n does at configuration c
abbrev pub message_steps : Exchange → ℕ → ℕ → Event → ℕ → List Action
message_steps x n c Local q = []
message_steps x n c (Send item) q = each q n (request_to x c item q) ++ each q n (reply_to x c item q)
message_steps x n c (Recv item) q = each q n (receive_from item)

-- ---- balance

abbrev pub is_send : ℕ → Event → ℕ
is_send item (Send other) = if other == item then 1 else 0
is_send item (Recv other) = 0
is_send item Local = 0

abbrev pub is_recv : ℕ → Event → ℕ
is_recv item (Recv other) = if other == item then 1 else 0
is_recv item (Send other) = 0
is_recv item Local = 0

-- how often the first n configurations send an item, and receive it
abbrev pub sends : Exchange → ℕ → ℕ → ℕ
sends x item zero = 0
sends x item (suc n) = sends x item n + is_send item (x.event n)

abbrev pub recvs : Exchange → ℕ → ℕ → ℕ
recvs x item zero = 0
recvs x item (suc n) = recvs x item n + is_recv item (x.event n)

-- an item is received only while a Send of it is open; where no fault is noted, none is open at the end
pub record IsMatched (t : Trace) (x : Exchange) : Type 0 where
  pub open_before : (c item : ℕ) → c < t.count → x.event c ≡ Recv item → recvs x item c < sends x item c
  pub closed : ((c : ℕ) → t.noted c ≡ None) → (item : ℕ) → recvs x item t.count ≡ sends x item t.count

-- at Send and Recv each rank does its message steps, and elsewhere none
pub record HasExchange (t : Trace) (x : Exchange) : Type 0 where
  pub messages : (c q : ℕ) → c < t.count → q < t.ranks → (x.event c ≡ Local → ⊥) → t.actions c q ≡ message_steps x t.ranks c (x.event c) q
  pub local : (c q k to : ℕ) (m : Message) → c < t.count → q < t.ranks → x.event c ≡ Local → nth (t.actions c q) k ≡ Some (Post to m) → ⊥
  pub quiet : (c q k from tag : ℕ) → c < t.count → q < t.ranks → x.event c ≡ Local → nth (t.actions c q) k ≡ Some (Take from tag) → ⊥
