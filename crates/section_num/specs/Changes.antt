-- What the nodes of a program change, in order of the nodes, and the items that have it among their names.
use Rattle.std.specs.Prelude.{ℕ, ◌+◌, List, [], ◌∷◌, ◌++◌, Option, Some, None, if◌then◌else◌}
use Rattle.fd_prog.specs.Statements.{Statement, Assign, If, Do, While, Read, Print, Continue, Distribute, Statements, Empty, Then}
use Rattle.fd_prog.specs.Programs.{CheckedProgram}
use Rattle.fd_prog.specs.Items.{Name, ScalarName, DecompName, is_among, target_name}

-- what changes between two pads of an IF
abbrev pub side_changes : List (Option Name) → List (Option Name)
side_changes inside = None ∷ (inside ++ (None ∷ []))

-- what changes in a loop that changes its variable, if it has one, at its beginning and at its latch
abbrev pub loop_changes : Option Name → List (Option Name) → List (Option Name)
loop_changes var inside = var ∷ (None ∷ (inside ++ (var ∷ [])))

abbrev mutual
  -- what the nodes of a statement change
  pub changes_in : Statement → List (Option Name)
  changes_in (Assign line target e) = Some (target_name target) ∷ []
  changes_in (If line c so otherwise) = None ∷ (side_changes (changes_among so) ++ (side_changes (changes_among otherwise) ++ (None ∷ [])))
  changes_in (Do line var first last by body) = loop_changes (Some (ScalarName var)) (changes_among body)
  changes_in (While line c body) = loop_changes None (changes_among body)
  changes_in (Read line target) = Some (target_name target) ∷ []
  changes_in (Print line items) = None ∷ []
  changes_in (Continue line) = None ∷ []
  changes_in (Distribute line decomp given) = Some (DecompName decomp) ∷ []

  pub changes_among : Statements → List (Option Name)
  changes_among Empty = []
  changes_among (Then s ss) = changes_in s ++ changes_among ss

-- what the nodes of a program change
abbrev pub changes_of : CheckedProgram → List (Option Name)
changes_of p = None ∷ (changes_among p.body ++ (None ∷ []))

-- the numbers of the items that have a name, by the names of each, where the first has this number
abbrev pub numbers_from : ℕ → List (List Name) → Name → List ℕ
numbers_from k [] name = []
numbers_from k (own ∷ names) name = if is_among own name then k ∷ numbers_from (k + 1) names name else numbers_from (k + 1) names name

-- the numbers of the items that have what a node changes among their names
abbrev pub numbers_with : List (List Name) → Option Name → List ℕ
numbers_with names None = []
numbers_with names (Some name) = numbers_from 1 names name
