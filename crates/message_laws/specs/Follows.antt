-- What one step of a rank does to the rank, to the boxes and to the stop word: the contract of its code.
use Rattle.std.specs.Prelude.{◌≡◌, ℕ, ◌<◌, ◌==◌, Bool, false, ◌&&◌, List, [], ◌∷◌, ◌++◌, if◌then◌else◌, is_some}
use Rattle.message_laws.specs.Behaviour.{Behaviour, Action, Act, Post, Take, Fail, End}
use Rattle.mailbox_book.specs.Boxes.{Entry, without_first, first_of}
use Rattle.message_laws.specs.Boxes.{new_entry, box_of}
use Rattle.message_laws.specs.System.{Status, Running, Ended, Faulted, Cut, Standing, State, stepped, stop_after, places_of, put}

-- the box from one rank to another
abbrev pub Boxes : Type 0
Boxes = ℕ → ℕ → List Entry

-- the box of a take has a message of its tag
abbrev pub has_message : ℕ → Action → Boxes → Bool
has_message r (Take from tag) boxes = is_some (first_of tag (boxes from r))
has_message r (Act lines) boxes = false
has_message r (Post to m) boxes = false
has_message r (Fail f) boxes = false
has_message r End boxes = false

-- the box from q to x after an action of rank r
abbrev pub box_after : ℕ → Action → ℕ → ℕ → List Entry → List Entry
box_after r (Post to m) q x box = if (q == r) && (x == to) then box ++ new_entry m ∷ [] else box
box_after r (Take from tag) q x box = if (q == from) && (x == r) then without_first tag box else box
box_after r (Act lines) q x box = box
box_after r (Fail f) q x box = box
box_after r End q x box = box

-- the same of a rank with a status: only a running rank acts
abbrev pub box_behind : ℕ → Status → Action → ℕ → ℕ → List Entry → List Entry
box_behind r Running a q x box = box_after r a q x box
box_behind r Ended a q x box = box
box_behind r Faulted a q x box = box
box_behind r Cut a q x box = box

-- rank r went from one standing to another, and left boxes and stop word so
pub record Follows (b : Behaviour) (r : ℕ) (old new : Standing) (before after : Boxes) (word left : ℕ) : Type 0 where
  pub standing : new ≡ stepped b r old (has_message r (b.action r old.place) before) word
  pub boxes : (q x : ℕ) → q < b.ranks → x < b.ranks → after q x ≡ box_behind r old.status (b.action r old.place) q x (before q x)
  pub stop : left ≡ stop_after b r old word

-- these are the boxes that the places of a state stand for
abbrev pub AreBoxesOf : Behaviour → State → Boxes → Type 0
AreBoxesOf b s boxes = (q x : ℕ) → q < b.ranks → x < b.ranks → boxes q x ≡ box_of b q x (places_of s q) (places_of s x)

-- a state where one rank went on
abbrev pub state_behind : State → ℕ → Standing → ℕ → State
state_behind s r new left = record { at = put s.at r new; stop = left }
