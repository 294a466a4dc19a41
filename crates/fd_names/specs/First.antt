-- Which of the refusals of a tree comes first.
use Rattle.std.specs.Prelude.{◌≡◌, ℕ, ◌+◌, ◌<◌, ◌≤◌, ◌⊎◌, Bool, ◌||◌, ◌&&◌, nat_eq, nat_lt, if◌then◌else◌, List, [], ◌∷◌, Option, None, Some}
use Rattle.fd_base.specs.declared.numbering.Line.{Line}
use Rattle.fd_base.specs.declared.limit.Limit.{Limit}
use Rattle.fd_base.specs.declared.limit.Limit.TheVariants as limits
use Rattle.fd_names.specs.declared.refusal.Cause.{Cause}
use Rattle.fd_names.specs.declared.refusal.Cause.TheVariants.{NotDeclared, DeclaredTwice, WrongShape, NotConstant, BadBounds, DoVarAssigned, AlignBad, DistributeBad, IndexNotLocal, TooMany, LeftOut}
use Rattle.fd_names.specs.declared.refusal.Refusal.{Refusal}
use Rattle.fd_names.specs.declared.refusal.NameRefusal.{NameRefusal}
use Rattle.fd_names.specs.declared.refusal.NameRefusal.TheVariants as refused

-- the place of a limit among all limits
abbrev pub place_of : Limit → ℕ
place_of limits.Statements = 0
place_of limits.Arrays = 1
place_of limits.Names = 2
place_of limits.Distributed = 3
place_of limits.Replicated = 4
place_of limits.Terms = 5
place_of limits.Coefficient = 6
place_of limits.Items = 7

-- the place of a cause among those of one line: by its number, and limits in their order
abbrev pub rank_of : Cause → ℕ
rank_of NotDeclared = 60
rank_of DeclaredTwice = 70
rank_of WrongShape = 80
rank_of NotConstant = 90
rank_of BadBounds = 100
rank_of DoVarAssigned = 110
rank_of AlignBad = 120
rank_of DistributeBad = 130
rank_of IndexNotLocal = 140
rank_of (TooMany limit) = 160 + place_of limit
rank_of LeftOut = 180

-- a smaller line, or the same line and a smaller place
abbrev pub is_before : Refusal → Refusal → Bool
is_before r w = nat_lt r.line.0 w.line.0 || (nat_eq r.line.0 w.line.0 && nat_lt (rank_of r.cause) (rank_of w.cause))

-- the first of what was refused so far and one more refusal
abbrev pub worse : Option Refusal → Refusal → Option Refusal
worse None r = Some r
worse (Some w) r = if is_before r w then Some r else Some w

-- what is first, once these refusals are met
abbrev pub met : List Refusal → Option Refusal → Option Refusal
met [] w = w
met (r ∷ rs) w = met rs (worse w r)

-- what is first, once these causes are met on a line
abbrev pub noted : Line → List Cause → Option Refusal → Option Refusal
noted l [] w = w
noted l (c ∷ cs) w = noted l cs (worse w (record { line = l; cause = c }))

-- these causes, on a line
abbrev pub at_line : Line → List Cause → List Refusal
at_line l [] = []
at_line l (c ∷ cs) = record { line = l; cause = c } ∷ at_line l cs

-- a cause, where something is wrong
abbrev pub given : Bool → Cause → List Cause
given wrong c = if wrong then c ∷ [] else []

-- ---- the first of a list

-- a smaller line, or the same line and no larger place
abbrev pub IsNoLater : Refusal → Refusal → Type 0
IsNoLater r s = (r.line.0 < s.line.0) ⊎ ((r.line ≡ s.line) × (rank_of r.cause ≤ rank_of s.cause))

abbrev pub IsAmong : Refusal → List Refusal → Type 0
IsAmong r [] = ⊥
IsAmong r (s ∷ rs) = (s ≡ r) ⊎ IsAmong r rs

-- one of these refusals, and no later than any
pub record IsFirst (rs : List Refusal) (r : Refusal) : Type 0 where
  pub among : IsAmong r rs
  pub first : (s : Refusal) → IsAmong s rs → IsNoLater r s

-- how a cause on a line is answered
abbrev pub answer_for : Line → Cause → NameRefusal
answer_for l NotDeclared = refused.At l 6
answer_for l DeclaredTwice = refused.At l 7
answer_for l WrongShape = refused.At l 8
answer_for l NotConstant = refused.At l 9
answer_for l BadBounds = refused.At l 10
answer_for l DoVarAssigned = refused.At l 11
answer_for l AlignBad = refused.At l 12
answer_for l DistributeBad = refused.At l 13
answer_for l IndexNotLocal = refused.At l 14
answer_for l (TooMany limit) = refused.TooMany l limit
answer_for l LeftOut = refused.At l 18

-- the answer is the first of these refusals, or want of memory
abbrev pub AnswersFirst : List Refusal → NameRefusal → Type 0
AnswersFirst rs (refused.At l n) = (r : Refusal) × IsFirst rs r × (answer_for r.line r.cause ≡ refused.At l n)
AnswersFirst rs (refused.TooMany l limit) = (r : Refusal) × IsFirst rs r × (answer_for r.line r.cause ≡ refused.TooMany l limit)
AnswersFirst rs refused.Memory = Unit {0}
