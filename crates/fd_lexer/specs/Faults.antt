-- What the lexer sees of a logical line.
use Rattle.std.specs.Prelude.{◌≡◌, ℕ, ◌+◌, ◌<◌, ◌≤◌, Bool, ◌||◌, ◌↔◌, IsTrue, nat_lt, List, [], ◌∷◌, ◌++◌, length, Option, Some, None, MatchOption, if◌then◌else◌}
use Rattle.fd_base.specs.declared.numbering.Line.{Line}
use Rattle.fd_lexer.specs.declared.token.Token.{Token}
use Rattle.fd_lexer.specs.declared.cause.Cause.{Cause}
use Rattle.fd_lexer.specs.declared.cause.Cause.TheVariants.{BadByte, LineTooLong, BadToken, NumberTooLarge}
use Rattle.fd_lexer.specs.declared.lexeme.Taken.{Taken}
use Rattle.fd_lexer.specs.declared.lexeme.Taken.TheVariants.{All, Large, Bad}
use Rattle.fd_lexer.specs.declared.faults.Faults.{Faults}
use Rattle.fd_lexer.specs.declared.faults.LogicalLine.{LogicalLine}
use Rattle.fd_lexer.specs.declared.place.Place.{Place}
use Rattle.fd_lexer.specs.declared.place.PhysicalLine.{PhysicalLine}
use Rattle.fd_lexer.specs.Tokens.{IsTokens}
use Rattle.fd_lexer.specs.Physical.{Physical, content, HasBadByte}
use Rattle.fd_lexer.specs.Logical.{groups, number_of, end_of, next_of, HasTokens, IsFine, IsLeast}
use Rattle.fd_lexer.specs.Segment.{IsTaken, worse}
use Rattle.fd_lexer.specs.Place.{counted_of}

abbrev pub taken_cause : Taken → Option Cause
taken_cause All = None
taken_cause Large = Some NumberTooLarge
taken_cause Bad = Some BadToken

-- the first of what is wrong
abbrev pub cause_of : Faults → Option Cause
cause_of f = if f.bad_byte then Some BadByte else (if nat_lt 4096 f.size then Some LineTooLong else taken_cause f.taken)

-- what was seen after one more physical line
pub record SeesMore (line : Line) (f : Faults) (l : PhysicalLine) (old new : List Token) (g : Faults) : Type 0 where
  pub bad : Bool
  pub bad_is : IsTrue bad ↔ HasBadByte l.bytes.now
  pub bytes : g.bad_byte ≡ f.bad_byte || bad
  pub size : g.size ≡ f.size + length l.bytes.now
  pub part : Taken
  pub part_is : IsTaken (IsTokens line l.start (content l.bytes.now)) old new part
  pub taken : g.taken ≡ worse f.taken part

-- the lines lie one behind the other between the two offsets
abbrev pub IsChain : ℕ → List Physical → ℕ → Type 0
IsChain from [] to = from ≤ to
IsChain from (p ∷ ps) to = (from ≤ p.start) × (p.start + length p.bytes ≤ p.next) × IsChain p.next ps to

-- the first logical line from a place on, its tokens where nothing is wrong with it, and the place behind it
pub record IsLogical (p : Place) (old new : List Token) (l : LogicalLine) (q : Place) : Type 0 where
  pub line : List Physical
  pub is : groups (counted_of p) ≡ line ∷ groups (counted_of q)
  pub number_is : l.number ≡ number_of line
  pub end_is : l.end ≡ end_of line
  pub next_is : l.next ≡ next_of line
  pub cause : MatchOption l.cause (IsFine line × ((ts : List Token) × HasTokens line ts × (new ≡ old ++ ts))) (λ c. IsLeast c line)
  pub chain : IsChain p.at line q.at
  pub ends : (p.at ≤ l.end) × (l.end ≤ l.next) × (l.next ≤ q.at)
  pub all : q.at + length q.rest.now ≡ p.at + length p.rest.now
  pub shorter : length q.rest.now < length p.rest.now
  pub numbers : q.number ≤ q.at + 1

abbrev pub IsLogicalOrNone : Place → List Token → List Token → Option (LogicalLine × Place) → Type 0
IsLogicalOrNone p old new r = MatchOption r ((counted_of p ≡ []) × (new ≡ old)) (λ x. IsLogical p old new x.0 x.1)
