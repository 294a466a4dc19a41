-- What became of one line, behind the part of the source before it.
use Rattle.std.specs.Prelude.{◌≡◌, ◌≤◌, true, false, List, Some, None}
use Rattle.fd_base.specs.declared.numbering.Line.{Line}
use Rattle.fd_lexer.specs.View.{Tok}
use Rattle.fd_parser.specs.declared.refusal.ParseRefusal.{ParseRefusal}
use Rattle.fd_parser.specs.declared.refusal.ParseRefusal.TheVariants as refusals
use Rattle.fd_parser.specs.Forms.{LineForm, IsForm}
use Rattle.fd_parser.specs.Scans.{is_too_deep, is_left_out}
use Rattle.fd_parser.specs.Sections.{Here, taken, level_here, Overflows}

-- the line was taken
pub record IsTaken (h : Here) (l : Line) (ts : List Tok) (g : Here) : Type 0 where
  pub shallow : is_too_deep ts ≡ false
  pub in_language : is_left_out ts ≡ false
  pub form : LineForm
  pub is : IsForm l ts form
  pub made : taken l form h ≡ Some g
  pub level : level_here form g ≤ 32

-- it was not
pub data IsStopped (h : Here) (l : Line) (ts : List Tok) : ParseRefusal → Type 0 where
  parentheses : is_too_deep ts ≡ true → IsStopped h l ts (refusals.At l 15)
  nested : {f : LineForm} → is_too_deep ts ≡ false → is_left_out ts ≡ false → IsForm l ts f → Overflows f (taken l f h) → IsStopped h l ts (refusals.At l 15)
  left_out : is_too_deep ts ≡ false → is_left_out ts ≡ true → IsStopped h l ts (refusals.At l 18)
  no_form : is_too_deep ts ≡ false → is_left_out ts ≡ false → ((f : LineForm) → IsForm l ts f → ⊥) → IsStopped h l ts (refusals.At l 5)
  no_place : {f : LineForm} → is_too_deep ts ≡ false → is_left_out ts ≡ false → IsForm l ts f → taken l f h ≡ None → IsStopped h l ts (refusals.At l 5)
  no_memory : IsStopped h l ts refusals.Memory
