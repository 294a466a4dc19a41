-- What a good placement keeps on every path: each send has one receive, what is taken has come, and what is sent is used.
use Rattle.std.specs.Prelude.{◌≡◌, ◌≢◌, ℕ, ◌≤◌, Bool, true, false, List, [], ◌∷◌, ◌++◌, Option, Some, None}
use Rattle.fd_prog.specs.declared.item.Event.{Event}
use Rattle.fd_prog.specs.Paths.{Plan, IsPath, Happening, Sent, Received, Taken, Hoisted, Stolen, happenings}

abbrev pub is_operation : Happening → Bool
is_operation Sent = true
is_operation Received = true
is_operation Taken = false
is_operation Hoisted = false
is_operation Stolen = false

abbrev pub is_gain_or_loss : Happening → Bool
is_gain_or_loss Sent = false
is_gain_or_loss Received = true
is_gain_or_loss Taken = false
is_gain_or_loss Hoisted = false
is_gain_or_loss Stolen = true

abbrev pub is_use_or_loss : Happening → Bool
is_use_or_loss Sent = false
is_use_or_loss Received = false
is_use_or_loss Taken = true
is_use_or_loss Hoisted = true
is_use_or_loss Stolen = true

-- what was found behind, or else this one where it is of the kind
abbrev pub or_else : Option Happening → Bool → Happening → Option Happening
or_else (Some d) b h = Some d
or_else None true h = Some h
or_else None false h = None

-- the latest of a kind
abbrev pub latest : (Happening → Bool) → List Happening → Option Happening
latest kind [] = None
latest kind (h ∷ hs) = or_else (latest kind hs) (kind h) h

abbrev pub first_is : Bool → Happening → Option Happening → Option Happening
first_is true h found = Some h
first_is false h found = found

-- the first of a kind
abbrev pub first : (Happening → Bool) → List Happening → Option Happening
first kind [] = None
first kind (h ∷ hs) = first_is (kind h) h (first kind hs)

-- a send wasn't received yet
abbrev pub IsOpen : List Happening → Type 0
IsOpen hs = latest is_operation hs ≡ Some Sent

-- a send comes only while none is open, a receive only while one is, and the item is stolen only while none is
abbrev pub MayCome : Happening → List Happening → Type 0
MayCome Sent before = IsOpen before → ⊥
MayCome Received before = IsOpen before
MayCome Taken before = Unit {0}
MayCome Hoisted before = Unit {0}
MayCome Stolen before = IsOpen before → ⊥

-- on a path on which this happens, each send has exactly one receive; where the path ends at End, none is open
pub record IsBalanced (at_end : Type 0) (hs : List Happening) : Type 0 where
  pub along : (xs ys : List Happening) (h : Happening) → hs ≡ xs ++ (h ∷ ys) → MayCome h xs
  pub closed : at_end → IsOpen hs → ⊥

-- before it is taken, the item has come and wasn't stolen since
pub record IsCovered (hs : List Happening) : Type 0 where
  pub along : (xs ys : List Happening) → hs ≡ xs ++ (Taken ∷ ys) → latest is_gain_or_loss xs ≡ Some Received

-- what is sent is taken, or hoisted out of a loop that takes it, before it is stolen; where the path ends at End, it is one of these
pub record IsUsed (at_end : Type 0) (hs : List Happening) : Type 0 where
  pub along : (xs ys : List Happening) → hs ≡ xs ++ (Sent ∷ ys) → first is_use_or_loss ys ≢ Some Stolen
  pub comes : at_end → (xs ys : List Happening) → hs ≡ xs ++ (Sent ∷ ys) → first is_use_or_loss ys ≢ None

-- the three conditions, in the order in which a judge names them
pub record IsKept (at_end : Type 0) (hs : List Happening) : Type 0 where
  pub balanced : IsBalanced at_end hs
  pub covered : IsCovered hs
  pub used : IsUsed at_end hs

-- a placement is good where every path keeps the conditions for every item; `last` is the number of End
abbrev pub IsGoodPlan : Plan → ℕ → Type 0
IsGoodPlan p last = (ns : List ℕ) (n : ℕ) (es : List Event) → IsPath p ns n es → (x : ℕ) → 1 ≤ x → x ≤ p.items → IsKept (n ≡ last) (happenings x es)
