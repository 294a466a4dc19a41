-- A program of a written tree without refusals keeps what every accepted program does.
use Rattle.std.proofs.Common.{◌≡◌, ℕ, ◌<◌, ◌≤◌, ◌^◌, []}
use Rattle.fd_base.specs.declared.numbering.Line.{Line}
use Rattle.fd_ast.specs.Tree.{ProgramTree, nesting_among}
use Rattle.fd_prog.specs.Words.{SetWords}
use Rattle.program_laws.specs.Accepted.{IsAcceptedProgram}
use Rattle.fd_names.specs.Checked.{meaning_of, refusals_of}
use Rattle.fd_names.specs.Standing.{scope_of}
use Rattle.fd_names.specs.Written.{IsWritten}
use Rattle.fd_names.proofs.IndexArrays.{local_indexed}
use Rattle.fd_names.proofs.Localized.{program_local}
use Rattle.fd_names.proofs.Mapped.{program_mapped}
use Rattle.fd_names.proofs.MapsGiven.{maps_given}
use Rattle.fd_names.proofs.OwnNames.{has_own}
use Rattle.fd_names.proofs.ProgramChecked.{program_checked}
use Rattle.fd_names.proofs.ProgramNamed.{program_named}
use Rattle.fd_names.proofs.StatementsStanding.{program_stands}

pub program_accepted : (t : ProgramTree) (end_line : Line) (at : ℕ) → refusals_of t ≡ [] → IsWritten t → nesting_among t.body ≤ 32 → SetWords (meaning_of t end_line at).body → (meaning_of t end_line at).sites < 2 ^ 32
    → IsAcceptedProgram (meaning_of t end_line at)
program_accepted t end_line at ok written nested words few =
    let p = meaning_of t end_line at in
    let laid = program_mapped t end_line at ok in
    let stands = program_stands t end_line at ok in
    record {
      checked = program_checked t end_line at ok nested;
      named = program_named t end_line at written ok;
      mapped = laid.mapped;
      own = has_own p (scope_of t) t.body stands laid.mapped;
      maps = maps_given p (scope_of t) t.body stands laid.regular;
      indexed = local_indexed p (program_local t end_line at ok);
      limits = record { sites = few };
      words = words;
    }
