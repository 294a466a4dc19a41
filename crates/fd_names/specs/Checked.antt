-- A whole tree: what is wrong in it, and the program that it stands for.
use Rattle.std.specs.Prelude.{ℕ, ◌++◌, List, []}
use Rattle.fd_base.specs.declared.numbering.Line.{Line}
use Rattle.fd_ast.specs.Tree.{ProgramTree}
use Rattle.fd_prog.specs.Programs.{CheckedProgram}
use Rattle.fd_prog.specs.Statements.{Statements}
use Rattle.fd_names.specs.declared.book.Seen.{Seen}
use Rattle.fd_names.specs.declared.declarations.Base.{Base}
use Rattle.fd_names.specs.declared.refusal.Refusal.{Refusal}
use Rattle.fd_names.specs.Declarations.{declare_all, nothing_declared, see_decls, decls_refusals, dealt_arrays, finished_arrays, finished_decomps}
use Rattle.fd_names.specs.Statements.{all_refusals, see_stmts, stmts_meant}
use Rattle.fd_names.specs.Irregular.{all_remapped}
use Rattle.fd_names.specs.Locality.{all_index_refusals}
use Rattle.fd_names.specs.declared.totals.Total.{Total}
use Rattle.fd_names.specs.Totals.{total_refusals}

abbrev pub nothing_seen : Seen
nothing_seen = record { scalars = []; sites = 0; statements = 0; decomps = 0 }

-- what the declarations declare
abbrev pub base_of : ProgramTree → Base
base_of t = declare_all t.decls nothing_seen (nothing_declared t.decls)

-- what is declared, where also the decompositions are distributed that statements of the body distribute by a map array
abbrev pub mapped_base_of : ProgramTree → Base
mapped_base_of t = all_remapped t.body (base_of t)

-- what is seen in the declarations, and in all
abbrev pub seen_in_decls : ProgramTree → Seen
seen_in_decls t = see_decls t.decls nothing_seen (nothing_declared t.decls)

abbrev pub seen_in : ProgramTree → Seen
seen_in t = see_stmts (base_of t).table t.body (seen_in_decls t)

-- what the body stands for; where something is refused, what stands there is as good as any
abbrev pub body_of : ProgramTree → Statements
body_of t = stmts_meant (base_of t).table t.body (seen_in_decls t)

abbrev pub no_elements : Total
no_elements = record { distributed = 0; replicated = 0 }

-- the refusals that are judged once the whole program is known
abbrev pub whole_refusals : Base → Statements → List Refusal
whole_refusals b body = total_refusals b.sizes (dealt_arrays b) no_elements ++ all_index_refusals (dealt_arrays b) body

-- all refusals of a tree
abbrev pub refusals_of : ProgramTree → List Refusal
refusals_of t =
    decls_refusals t.decls nothing_seen (nothing_declared t.decls) ++ (all_refusals (base_of t).table [] t.body (seen_in_decls t) ++ whole_refusals (mapped_base_of t) (body_of t))

-- the program of what is declared and seen, and of a body
abbrev pub finished_program : Base → Seen → Statements → Line → ℕ → CheckedProgram
finished_program b s body end_line rest =
    record {
      scalars = s.scalars;
      arrays = finished_arrays b.spreads b.arrays b.alignments;
      decomps = finished_decomps b.decomps b.spreads;
      body = body;
      end_line = end_line;
      rest = rest;
      sites = s.sites;
    }

-- the program of a tree without refusals, where its END line stands on this line and the rest begins at this offset
abbrev pub meaning_of : ProgramTree → Line → ℕ → CheckedProgram
meaning_of t end_line rest = finished_program (base_of t) (seen_in t) (body_of t) end_line rest
