-- What each rank does, one action after the other, read off one trace of configurations.
use Rattle.std.specs.Prelude.{◌≡◌, ℕ, zero, suc, ◌-◌, ◌^◌, ◌<◌, ◌≤◌, ◌==◌, Bool, true, false, ◌&&◌, ◌||◌, IsTrue, List, [], ◌∷◌, ◌++◌, if◌then◌else◌, Option, Some, None, count_by, ◌⊎◌}
use Rattle.fd_base.specs.declared.numbering.Line.{Line}
use Rattle.fd_base.specs.declared.numbers.FaultKind.{FaultKind}
use Rattle.fd_prog.specs.declared.run.Printed.{Printed}
use Rattle.mailbox_book.specs.declared.message.Message.{Message}
use Rattle.mailbox_book.specs.Boxes.{tag_number}

-- a fault of a step: the line that the step began on, and the kind
pub record Failure : Type 0 where
  pub line : Line
  pub kind : FaultKind

-- one step of a rank
pub data Action : Type 0 where
  -- a step without messages, and what it prints
  Act : (lines : List Printed) → Action
  Post : (to : ℕ) → (message : Message) → Action
  -- takes the earliest message of a tag that was posted by a rank
  Take : (from : ℕ) → (tag : ℕ) → Action
  Fail : (fault : Failure) → Action
  End : Action

-- the behaviour of all ranks: the action of each rank at each of its places, and the trace that these are read off
pub record Behaviour : Type 0 where
  pub ranks : ℕ
  pub action : ℕ → ℕ → Action
  -- the number of the configuration in which a rank stands at a place
  pub configuration : ℕ → ℕ → ℕ
  -- the completed steps of a configuration
  pub completed : ℕ → ℕ
  -- the fault that the trace notes at a configuration
  pub noted : ℕ → Option Failure
  -- the last place of a rank
  pub last : ℕ → ℕ

-- the completed steps of a rank at a place
abbrev pub steps : Behaviour → ℕ → ℕ → ℕ
steps b r p = b.completed (b.configuration r p)

-- ---- messages

-- the number of a message's tag
abbrev pub tag_in : Message → ℕ
tag_in m = tag_number m.tag

abbrev pub posted_by : Action → ℕ → List Message
posted_by (Post to m) r = if to == r then m ∷ [] else []
posted_by (Act lines) r = []
posted_by (Take from tag) r = []
posted_by (Fail fault) r = []
posted_by End r = []

-- the messages that q posts to r before its place p
abbrev pub posted : Behaviour → ℕ → ℕ → ℕ → List Message
posted b q r zero = []
posted b q r (suc p) = posted b q r p ++ posted_by (b.action q p) r

abbrev pub taken_by : Action → ℕ → List ℕ
taken_by (Take from tag) q = if from == q then tag ∷ [] else []
taken_by (Act lines) q = []
taken_by (Post to m) q = []
taken_by (Fail fault) q = []
taken_by End q = []

-- the tags of the messages that r takes from q before its place p
abbrev pub taken : Behaviour → ℕ → ℕ → ℕ → List ℕ
taken b q r zero = []
taken b q r (suc p) = taken b q r p ++ taken_by (b.action r p) q

-- the messages of a tag among some
abbrev pub of_tag : ℕ → List Message → ℕ
of_tag tag ms = count_by (λ m. tag_in m == tag) ms

-- how many messages of a tag q posts to r before its place p
abbrev pub posts : Behaviour → ℕ → ℕ → ℕ → ℕ → ℕ
posts b q r tag p = of_tag tag (posted b q r p)

-- how many messages of a tag r takes from q before its place p
abbrev pub takes : Behaviour → ℕ → ℕ → ℕ → ℕ → ℕ
takes b q r tag p = count_by (λ other. other == tag) (taken b q r p)

-- ---- the halves of a configuration

abbrev pub is_take : Action → Bool
is_take (Take from tag) = true
is_take (Act lines) = false
is_take (Post to m) = false
is_take (Fail fault) = false
is_take End = false

-- a rank at this place is behind its first half: a take stands here, or at an earlier place of the same configuration
abbrev pub is_past_half : Behaviour → ℕ → ℕ → Bool
is_past_half b r zero = is_take (b.action r zero)
is_past_half b r (suc p) = is_take (b.action r (suc p)) || ((b.configuration r p == b.configuration r (suc p)) && is_past_half b r p)

-- q's place k is at an earlier configuration than r's place p, or at the same one in q's first half
abbrev pub IsEarlier : Behaviour → ℕ → ℕ → ℕ → ℕ → Type 0
IsEarlier b q k r p = (b.configuration q k < b.configuration r p) ⊎ ((b.configuration q k ≡ b.configuration r p) × (is_past_half b q k ≡ false))

-- the message of the take of r at place p: it has the number of that take among those of its tag, and is posted earlier
pub record IsPosted (b : Behaviour) (q r tag p : ℕ) : Type 0 where
  pub at : ℕ
  pub message : Message
  pub is : b.action q at ≡ Post r message
  pub tagged : tag_in message ≡ tag
  pub number : posts b q r tag at ≡ takes b q r tag p
  pub earlier : IsEarlier b q at r p

-- ---- lines

abbrev pub printed_by : Action → List Printed
printed_by (Act lines) = lines
printed_by (Post to m) = []
printed_by (Take from tag) = []
printed_by (Fail fault) = []
printed_by End = []

-- the lines that a rank prints before its place p
abbrev pub printed : Behaviour → ℕ → ℕ → List Printed
printed b r zero = []
printed b r (suc p) = printed b r p ++ printed_by (b.action r p)

-- all lines have this step
abbrev pub HaveStep : ℕ → List Printed → Type 0
HaveStep n [] = Unit {0}
HaveStep n (l ∷ ls) = (l.step ≡ n) × HaveStep n ls

-- ---- the laws of a behaviour

-- the stop word where no rank is faulted
abbrev pub no_stop : ℕ
no_stop = 2 ^ 64 - 1

abbrev pub is_last : Action → Bool
is_last (Fail fault) = true
is_last End = true
is_last (Act lines) = false
is_last (Post to m) = false
is_last (Take from tag) = false

-- what the trace of a sound job gives
pub record IsLawful (b : Behaviour) : Type 0 where
  -- a rank goes through the trace in order
  pub in_order : (r p : ℕ) → b.configuration r p ≤ b.configuration r (suc p)
  pub steps_rise : (c : ℕ) → b.completed c ≤ b.completed (suc c)
  pub steps_few : (c : ℕ) → b.completed c < no_stop
  -- a fault is of a step, and of one noted fault at each rank that executes it; behind it a rank does nothing at that configuration
  pub fault_counts : (c : ℕ) (f : Failure) → b.noted c ≡ Some f → b.completed c < b.completed (suc c)
  pub fail_noted : (r p : ℕ) (f : Failure) → b.action r p ≡ Fail f → b.noted (b.configuration r p) ≡ Some f
  pub fail_alone : (r p : ℕ) (f : Failure) → b.action r p ≡ Fail f → b.configuration r p < b.configuration r (suc p)
  pub executed : (c : ℕ) (f : Failure) → b.noted c ≡ Some f → (r : ℕ) × (p : ℕ) × (r < b.ranks) × (b.configuration r p ≡ c) × (b.action r p ≡ Fail f)
  -- a rank ends behind every fault, and stays there
  pub end_behind : (r p c : ℕ) (f : Failure) → b.action r p ≡ End → b.noted c ≡ Some f → c < b.configuration r p
  pub end_stays : (r p k : ℕ) → b.action r p ≡ End → p ≤ k → b.action r k ≡ End
  pub is_last : (r : ℕ) → r < b.ranks → IsTrue (is_last (b.action r (b.last r)))
  -- a line has the step that prints it
  pub line_steps : (r p : ℕ) (lines : List Printed) → b.action r p ≡ Act lines → HaveStep (suc (steps b r p)) lines
  -- the law of messages
  pub peers : (r p q tag : ℕ) → r < b.ranks → b.action r p ≡ Take q tag → q < b.ranks
  pub messages : (r p q tag : ℕ) → r < b.ranks → b.action r p ≡ Take q tag → IsPosted b q r tag p
  pub all_taken : ((c : ℕ) → b.noted c ≡ None) → (q r tag : ℕ) → q < b.ranks → r < b.ranks → takes b q r tag (b.last r) ≡ posts b q r tag (b.last q)
