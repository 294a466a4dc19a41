-- The verdict on a placement: that it is good, or the first condition that is broken, with the item and the path that show it.
use Rattle.std.specs.Prelude.{◌≡◌, ℕ, ◌<◌, ◌≤◌, ◌⊎◌, Bool, true, false, List, [], ◌∷◌, map, length, Option, Some, None}
use Rattle.fd_base.specs.declared.numbering.NodeNo.{NodeNo}
use Rattle.fd_sets.specs.Sets.{Subset}
use Rattle.fd_prog.specs.declared.item.Event.{Event}
use Rattle.fd_prog.specs.Paths.{Plan, IsPath, Happening, happenings}
use Rattle.fd_prog.specs.PathConditions.{IsBalanced, IsCovered, IsUsed, IsGoodPlan}
use Rattle.gnt_solver.specs.Columns.{held}
use Rattle.place_check.specs.declared.verdict.Condition.{Condition}
use Rattle.place_check.specs.declared.verdict.Condition.TheVariants.{Balanced, Covered, Used}
use Rattle.place_check.specs.declared.verdict.Verdict.{Verdict}
use Rattle.place_check.specs.declared.verdict.Verdict.TheVariants.{Good, Bad}

-- what a condition asks of what happens to an item on a path
abbrev pub Keeps : Condition → Type 0 → List Happening → Type 0
Keeps Balanced at_end hs = IsBalanced at_end hs
Keeps Covered at_end hs = IsCovered hs
Keeps Used at_end hs = IsUsed at_end hs

-- the place of a condition in the order in which they are named
abbrev pub place_of : Condition → ℕ
place_of Balanced = 0
place_of Covered = 1
place_of Used = 2

-- a path from Start, by its nodes, on which an item doesn't keep a condition; `last` is the number of End
pub record IsBroken (p : Plan) (last : ℕ) (c : Condition) (x : ℕ) (ns : List ℕ) : Type 0 where
  pub node : ℕ
  pub events : List Event
  pub path : IsPath p ns node events
  pub broken : Keeps c (node ≡ last) (happenings x events) → ⊥

-- an item keeps a condition on every path
abbrev pub IsHeld : Plan → ℕ → Condition → ℕ → Type 0
IsHeld p last c x = (ns : List ℕ) → IsBroken p last c x ns → ⊥

-- the items that aren't in a set keep each condition on every path
abbrev pub OthersAreHeld : Plan → ℕ → Subset → Type 0
OthersAreHeld p last items = (x : ℕ) → 1 ≤ x → x ≤ p.items → held items x ≡ false → (c : Condition) → IsHeld p last c x

-- where two lists of one length first differ, this one has the lesser number
abbrev pub IsAtMost : List ℕ → List ℕ → Type 0
IsAtMost [] ms = Unit {0}
IsAtMost (n ∷ ns) [] = ⊥
IsAtMost (n ∷ ns) (m ∷ ms) = (n < m) ⊎ ((n ≡ m) × IsAtMost ns ms)

-- the path that shows it: no path that breaks the condition for the item has fewer nodes, and of those with as many it has the least numbers
pub record IsShown (p : Plan) (last : ℕ) (c : Condition) (x : ℕ) (ns : List ℕ) : Type 0 where
  pub broken : IsBroken p last c x ns
  pub fewest : (ms : List ℕ) → IsBroken p last c x ms → length ns ≤ length ms
  pub least : (ms : List ℕ) → IsBroken p last c x ms → length ms ≡ length ns → IsAtMost ns ms

-- the conditions before this one are kept by all items, and this one by all items before this item
pub record IsFirstBroken (p : Plan) (last : ℕ) (c : Condition) (x : ℕ) (ns : List ℕ) : Type 0 where
  pub low : 1 ≤ x
  pub high : x ≤ p.items
  pub shown : IsShown p last c x ns
  pub conditions : (d : Condition) → place_of d < place_of c → (y : ℕ) → 1 ≤ y → y ≤ p.items → IsHeld p last d y
  pub items : (y : ℕ) → 1 ≤ y → y < x → IsHeld p last c y

-- the numbers of nodes
abbrev pub numbers_of : List NodeNo → List ℕ
numbers_of ns = map (λ (n : NodeNo). n.0) ns

-- the verdict on a placement
abbrev pub IsVerdict : Plan → ℕ → Verdict → Type 0
IsVerdict p last Good = IsGoodPlan p last
IsVerdict p last (Bad c x ns) = IsFirstBroken p last c x.0 (numbers_of ns)

-- the path that shows that an item breaks a condition, where it does
abbrev pub IsShownAt : Plan → ℕ → Condition → ℕ → Option (List NodeNo) → Type 0
IsShownAt p last c x None = IsHeld p last c x
IsShownAt p last c x (Some ns) = IsShown p last c x (numbers_of ns)

-- all items keep a condition, or this is the first that breaks it
abbrev pub IsNamed : Plan → ℕ → Condition → Verdict → Type 0
IsNamed p last c Good = (x : ℕ) → 1 ≤ x → x ≤ p.items → IsHeld p last c x
IsNamed p last c (Bad d x ns) = (d ≡ c) × (1 ≤ x.0) × (x.0 ≤ p.items) × IsShown p last c x.0 (numbers_of ns) × ((y : ℕ) → 1 ≤ y → y < x.0 → IsHeld p last c y)

-- a verdict names a broken condition
abbrev pub is_bad : Verdict → Bool
is_bad Good = false
is_bad (Bad c x ns) = true
