-- Walks over the items of a PRINT, from the front.
use Rattle.std.proofs.Common.{◌≡◌, List, ◌∷◌, ap, ◌∙◌, Option}
use Rattle.fd_base.specs.declared.numbering.Line.{Line}
use Rattle.fd_prog.specs.Statements.{PrintItem}
use Rattle.fd_names.specs.declared.refusal.Refusal.{Refusal}
use Rattle.fd_names.specs.First.{noted}
use Rattle.fd_names.specs.Locality.{Dealt, index_in_item, index_in_items}
use Rattle.fd_names.proofs.Noted.{noted-append}

pub indexed_one : (ds : Dealt) (l : Line) (rest more : List PrintItem) (x : PrintItem) (v w u : Option Refusal) → v ≡ noted l (index_in_items ds rest) w → rest ≡ x ∷ more → u ≡ noted l (index_in_item ds x) w → v ≡ noted l (index_in_items ds more) u
indexed_one ds l rest more x v w u h e is = rw (is) (h ∙ (ap (λ r. noted l (index_in_items ds r) w) e ∙ noted-append l (index_in_item ds x) (index_in_items ds more) w))
