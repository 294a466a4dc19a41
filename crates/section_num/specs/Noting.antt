-- What is noted of a program's uses, one after the other.
use Rattle.std.specs.Prelude.{ℕ, ◌+◌, ◌==◌, Bool, true, false, nat_lt, List, [], ◌∷◌, ◌++◌, map, length, replicate, slice_get, slice_set, Option, Some, None, if◌then◌else◌}
use Rattle.std.specs.List.{position}
use Rattle.fd_base.specs.declared.numbering.Line.{Line}
use Rattle.fd_prog.specs.Items.{is_same_item}
use Rattle.fd_prog.specs.Uses.{Use}

-- the first use of each item, the number of the item of each reference, the numbers that the node at hand takes, those that the nodes before it take,
-- and the line of the first item past the limit
pub record Noted : Type 0 where
  pub firsts : List Use
  pub sites : List ℕ
  pub row : List ℕ
  pub rows : List (List ℕ)
  pub over : Option Line

abbrev pub is_zero : Option ℕ → Bool
is_zero None = false
is_zero (Some k) = k == 0

-- there is such a reference, and it has no number yet
abbrev pub is_free : List ℕ → ℕ → Bool
is_free sites site = is_zero (slice_get sites site)

-- a reference keeps the first number that it gets
abbrev pub with_site : ℕ → ℕ → List ℕ → List ℕ
with_site number site sites = if is_free sites site then slice_set sites site number else sites

abbrev pub with_number : ℕ → ℕ → Noted → Noted
with_number number site n = record n { sites = with_site number site n.sites; row = n.row ++ number ∷ [] }

-- the line that was noted before, or else this one
abbrev pub first_line : Option Line → Line → Option Line
first_line None line = Some line
first_line (Some earlier) line = Some earlier

-- a use of an item that has no number yet: it gets the next one, where the limit allows it
abbrev pub noted_new : Bool → Use → Noted → Noted
noted_new true u n = with_number (length n.firsts + 1) u.site (record n { firsts = n.firsts ++ u ∷ [] })
noted_new false u n = record n { over = first_line n.over u.line }

abbrev pub noted_at : Option ℕ → Use → Noted → Noted
noted_at (Some k) u n = with_number (k + 1) u.site n
noted_at None u n = noted_new (nat_lt (length n.firsts) 512) u n

abbrev pub noted : Use → Noted → Noted
noted u n = noted_at (position (λ (v : Use). is_same_item v.item u.item) n.firsts) u n

abbrev pub all_noted : List Use → Noted → Noted
all_noted [] n = n
all_noted (u ∷ us) n = all_noted us (noted u n)

-- the node at hand takes no more
abbrev pub closed : Noted → Noted
closed n = record n { row = []; rows = n.rows ++ n.row ∷ [] }

abbrev pub nodes_noted : List (List Use) → Noted → Noted
nodes_noted [] n = n
nodes_noted (us ∷ uss) n = nodes_noted uss (closed (all_noted us n))

-- nothing is noted; so many references have no number
abbrev pub at_start : ℕ → Noted
at_start sites = record { firsts = []; sites = replicate sites 0; row = []; rows = []; over = None }
