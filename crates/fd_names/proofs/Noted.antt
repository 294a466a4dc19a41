-- What is noted in parts.
use Rattle.std.proofs.Common.{◌≡◌, List, [], ◌∷◌, ◌++◌, refl, Option}
use Rattle.fd_base.specs.declared.numbering.Line.{Line}
use Rattle.fd_names.specs.declared.refusal.Cause.{Cause}
use Rattle.fd_names.specs.declared.refusal.Refusal.{Refusal}
use Rattle.fd_names.specs.First.{noted, worse, at_line, met}

pub noted-append : (l : Line) (xs ys : List Cause) (w : Option Refusal) → noted l (xs ++ ys) w ≡ noted l ys (noted l xs w)
noted-append l [] ys w = refl
noted-append l (x ∷ xs) ys w = noted-append l xs ys (worse w (record { line = l; cause = x }))

pub met-append : (xs ys : List Refusal) (w : Option Refusal) → met (xs ++ ys) w ≡ met ys (met xs w)
met-append [] ys w = refl
met-append (x ∷ xs) ys w = met-append xs ys (worse w x)

pub met-at : (l : Line) (cs : List Cause) (w : Option Refusal) → met (at_line l cs) w ≡ noted l cs w
met-at l [] w = refl
met-at l (c ∷ cs) w = met-at l cs (worse w (record { line = l; cause = c }))

pub ruleset noting = (noted-append, met-append, met-at)
