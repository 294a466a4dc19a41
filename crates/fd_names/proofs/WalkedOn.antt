-- The walk over the references of a program's statements.
use Rattle.std.proofs.Common.{◌≡◌, ap, ◌∙◌, Option}
use Rattle.fd_prog.specs.Statements.{Statement, Statements, Then}
use Rattle.fd_names.specs.declared.refusal.Refusal.{Refusal}
use Rattle.fd_names.specs.First.{met}
use Rattle.fd_names.specs.Locality.{Dealt, index_refusals, all_index_refusals}
use Rattle.fd_names.proofs.Noted.{met-append}

pub walked_on : (ds : Dealt) (rest more : Statements) (x : Statement) (v w u : Option Refusal) → v ≡ met (all_index_refusals ds rest) w → rest ≡ Then x more → u ≡ met (index_refusals ds x) w → v ≡ met (all_index_refusals ds more) u
walked_on ds rest more x v w u h e is = rw (is) (h ∙ (ap (λ r. met (all_index_refusals ds r) w) e ∙ met-append (index_refusals ds x) (all_index_refusals ds more) w))
