-- The numbers of a program's items, and the first item past the limit.
use Rattle.std.specs.Prelude.{◌≡◌, ℕ, ◌==◌, List, find, slice_get, Option, Some, None, option_map}
use Rattle.fd_base.specs.declared.limit.Limit.{Limit}
use Rattle.fd_base.specs.declared.limit.Limit.TheVariants.{Items}
use Rattle.fd_base.specs.declared.numbering.Line.{Line}
use Rattle.fd_prog.specs.Needs.{Sight, needs}
use Rattle.fd_prog.specs.Programs.{CheckedProgram}
use Rattle.fd_prog.specs.Uses.{Use, firsts_of, items_of, number_in, uses_of}
use Rattle.section_num.specs.declared.numbering.NumberRefusal.{NumberRefusal}
use Rattle.section_num.specs.declared.numbering.NumberRefusal.TheVariants as refused

-- the number of a use's item in a program
abbrev pub number_of_use : CheckedProgram → Use → ℕ
number_of_use p u = number_in (items_of p) u.item

-- the line of a program's 513th item, by its first use, if there are so many
abbrev pub line_past_limit : CheckedProgram → Option Line
line_past_limit p = option_map (λ (u : Use). u.line) (slice_get (firsts_of p) 512)

-- a refusal names the limit on items and the line of the 513th
abbrev pub IsPast : CheckedProgram → NumberRefusal → Type 0
IsPast p (refused.TooMany line limit) = (line_past_limit p ≡ Some line) × (limit ≡ Items)
IsPast p refused.Memory = ⊥

-- references that have one number, whatever that is, have equal needs: in every store, wherever the arrays are placed, on every rank, and up to every limit
-- on iterations
abbrev pub AreAlike : CheckedProgram → List ℕ → Type 0
AreAlike p numbers =
    (i j k : ℕ) (u v : Use) → slice_get numbers i ≡ Some k → slice_get numbers j ≡ Some k → find (λ (w : Use). w.site == i) (uses_of p) ≡ Some u → find (λ (w : Use). w.site == j) (uses_of p) ≡ Some v
    → (s : Sight) (rank limit : ℕ) → needs s u.item rank limit ≡ needs s v.item rank limit
