-- A trace of configurations, what each rank does at each of them, and the behaviour that this gives.
use Rattle.std.specs.Prelude.{◌≡◌, ℕ, zero, suc, ◌+◌, ◌-◌, ◌<◌, ◌≤◌, IsTrue, false, List, [], ◌∷◌, ◌++◌, length, Option, Some, None, count_by, ◌==◌, ◌⊎◌}
use Rattle.fd_prog.specs.declared.run.Printed.{Printed}
use Rattle.mailbox_book.specs.declared.message.Message.{Message}
use Rattle.message_laws.specs.Behaviour.{Behaviour, Failure, Action, Act, Post, Take, Fail, End, tag_in, posted_by, taken_by, of_tag, HaveStep, is_last, is_take, no_stop}

pub record Trace : Type 0 where
  pub ranks : ℕ
  -- how many configurations there are
  pub count : ℕ
  -- what a rank does at a configuration, in order
  pub actions : ℕ → ℕ → List Action
  pub completed : ℕ → ℕ
  pub noted : ℕ → Option Failure

-- an action, and the number of its configuration
pub record Entry : Type 0 where
  pub configuration : ℕ
  pub action : Action

abbrev pub numbered : ℕ → List Action → List Entry
numbered c [] = []
numbered c (a ∷ xs) = record { configuration = c; action = a } ∷ numbered c xs

-- what a rank does at the first n configurations
abbrev pub way : Trace → ℕ → ℕ → List Entry
way t r zero = []
way t r (suc n) = way t r n ++ numbered n (t.actions n r)

abbrev pub nth : {X : Type 0} → List X → ℕ → Option X
nth [] p = None
nth (x ∷ xs) zero = Some x
nth (x ∷ xs) (suc p) = nth xs p

abbrev pub action_in : Option Entry → Action
action_in None = End
action_in (Some e) = e.action

abbrev pub configuration_in : ℕ → Option Entry → ℕ
configuration_in n None = n
configuration_in n (Some e) = e.configuration

-- the behaviour of the ranks along a trace
abbrev pub behaviour_of : Trace → Behaviour
behaviour_of t = record {
  ranks = t.ranks;
  action = λ r p. action_in (nth (way t r t.count) p);
  configuration = λ r p. configuration_in t.count (nth (way t r t.count) p);
  completed = t.completed;
  noted = t.noted;
  last = λ r. length (way t r t.count) - 1;
}

-- ---- messages, by configurations

-- how many messages of a tag these actions post to a rank
abbrev pub sent : ℕ → ℕ → List Action → ℕ
sent r tag [] = 0
sent r tag (a ∷ xs) = of_tag tag (posted_by a r) + sent r tag xs

-- how many messages of a tag they take from a rank
abbrev pub got : ℕ → ℕ → List Action → ℕ
got q tag [] = 0
got q tag (a ∷ xs) = count_by (λ other. other == tag) (taken_by a q) + got q tag xs

-- how many messages of a tag q posts to r at the first n configurations
abbrev pub sent_before : Trace → ℕ → ℕ → ℕ → ℕ → ℕ
sent_before t q r tag zero = 0
sent_before t q r tag (suc n) = sent_before t q r tag n + sent r tag (t.actions n q)

-- how many r takes from q
abbrev pub got_before : Trace → ℕ → ℕ → ℕ → ℕ → ℕ
got_before t q r tag zero = 0
got_before t q r tag (suc n) = got_before t q r tag n + got q tag (t.actions n r)

abbrev pub front : {X : Type 0} → ℕ → List X → List X
front zero xs = []
front (suc k) [] = []
front (suc k) (x ∷ xs) = x ∷ front k xs

-- none of these actions is a take
abbrev pub TakesNothing : List Action → Type 0
TakesNothing xs = (k : ℕ) (a : Action) → nth xs k ≡ Some a → is_take a ≡ false

-- the message of the take that r makes as action k of configuration c: it is posted at an earlier configuration, or at the same one in the sender's first half
pub record IsSent (t : Trace) (q r tag c k : ℕ) : Type 0 where
  pub at : ℕ
  pub index : ℕ
  pub message : Message
  pub inside : at < t.count
  pub is : nth (t.actions at q) index ≡ Some (Post r message)
  pub tagged : tag_in message ≡ tag
  pub number : sent_before t q r tag at + sent r tag (front index (t.actions at q)) ≡ got_before t q r tag c + got q tag (front k (t.actions c r))
  pub earlier : (at < c) ⊎ ((at ≡ c) × TakesNothing (front (suc index) (t.actions at q)))

-- what a sound job gives of its trace
pub record IsSound (t : Trace) : Type 0 where
  pub steps_rise : (c : ℕ) → t.completed c ≤ t.completed (suc c)
  pub steps_few : (c : ℕ) → t.completed c < no_stop
  pub noted_inside : (c : ℕ) (f : Failure) → t.noted c ≡ Some f → c < t.count
  pub fault_counts : (c : ℕ) (f : Failure) → t.noted c ≡ Some f → t.completed c < t.completed (suc c)
  -- a rank that executes the noted fault does nothing behind it at that configuration
  pub fails : (c r k : ℕ) (f : Failure) → c < t.count → nth (t.actions c r) k ≡ Some (Fail f) → (t.noted c ≡ Some f) × (suc k ≡ length (t.actions c r))
  pub executed : (c : ℕ) (f : Failure) → t.noted c ≡ Some f → (r : ℕ) × (k : ℕ) × (r < t.ranks) × (nth (t.actions c r) k ≡ Some (Fail f))
  -- an end stands only as the last action of the last configuration, where no fault is noted
  pub ends : (c r k : ℕ) → c < t.count → nth (t.actions c r) k ≡ Some End → (suc c ≡ t.count) × (suc k ≡ length (t.actions c r)) × (t.noted c ≡ None)
  -- at the last configuration each rank ends, or executes the fault there
  pub last : (r : ℕ) → r < t.ranks → (c : ℕ) × (k : ℕ) × (a : Action) × (suc c ≡ t.count) × (nth (t.actions c r) k ≡ Some a) × (suc k ≡ length (t.actions c r)) × IsTrue (is_last a)
  pub line_steps : (c r k : ℕ) (lines : List Printed) → c < t.count → nth (t.actions c r) k ≡ Some (Act lines) → HaveStep (suc (t.completed c)) lines
  pub peers : (c r k q tag : ℕ) → c < t.count → r < t.ranks → nth (t.actions c r) k ≡ Some (Take q tag) → q < t.ranks
  pub messages : (c r k q tag : ℕ) → c < t.count → r < t.ranks → nth (t.actions c r) k ≡ Some (Take q tag) → IsSent t q r tag c k
  pub all_taken : ((c : ℕ) → t.noted c ≡ None) → (q r tag : ℕ) → q < t.ranks → r < t.ranks → got_before t q r tag t.count ≡ sent_before t q r tag t.count
