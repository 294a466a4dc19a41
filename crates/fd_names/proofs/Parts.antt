-- A tree without refusals has none in its declarations, its body, its sums and its subscripts.
use Rattle.std.proofs.Common.{◌≡◌, ℕ, [], ◌++◌, ◌∙◌, subst}
use Rattle.fd_ast.specs.Tree.{ProgramTree}
use Rattle.fd_base.specs.declared.numbering.Line.{Line}
use Rattle.fd_prog.specs.Statements.{Statements}
use Rattle.fd_names.specs.declared.book.Seen.{Seen}
use Rattle.fd_names.specs.declared.declarations.Base.{Base}
use Rattle.fd_names.specs.Checked.{nothing_seen, no_elements, base_of, mapped_base_of, body_of, seen_in, seen_in_decls, refusals_of, finished_program, meaning_of}
use Rattle.fd_names.specs.Declarations.{dealt_arrays, decls_refusals, nothing_declared}
use Rattle.fd_names.specs.Locality.{all_index_refusals}
use Rattle.fd_names.specs.Statements.{all_refusals}
use Rattle.fd_names.specs.Totals.{total_refusals}
use Rattle.fd_names.proofs.Remapped.{unmapped}
use Rattle.fd_names.proofs.Sound.{no_left, no_right}

pub record IsClean (t : ProgramTree) : Type 0 where
  pub decls : decls_refusals t.decls nothing_seen (nothing_declared t.decls) ≡ []
  pub body : all_refusals (base_of t).table [] t.body (seen_in_decls t) ≡ []
  pub totals : total_refusals (base_of t).sizes (dealt_arrays (base_of t)) no_elements ≡ []
  pub index : all_index_refusals (dealt_arrays (base_of t)) (body_of t) ≡ []

pub parted : (t : ProgramTree) → refusals_of t ≡ [] → IsClean t
parted t ok =
    let decls = decls_refusals t.decls nothing_seen (nothing_declared t.decls) in
    let body = all_refusals (base_of t).table [] t.body (seen_in_decls t) in
    let totals = total_refusals (mapped_base_of t).sizes (dealt_arrays (mapped_base_of t)) no_elements in
    let index = all_index_refusals (dealt_arrays (mapped_base_of t)) (body_of t) in
    let more = no_right decls (body ++ (totals ++ index)) ok in
    let rest = no_right body (totals ++ index) more in
    let same = unmapped t (no_left body (totals ++ index) more) in
    let Totals : Base → Type 0 = λ b. total_refusals b.sizes (dealt_arrays b) no_elements ≡ [] in
    let Index : Base → Type 0 = λ b. all_index_refusals (dealt_arrays b) (body_of t) ≡ [] in
    record {
      decls = no_left decls (body ++ (totals ++ index)) ok;
      body = no_left body (totals ++ index) more;
      totals = subst Totals same (no_left totals index rest);
      index = subst Index same (no_right totals index rest);
    }

-- so what a walk over all of it finds is the tree's program
pub finished_is : (t : ProgramTree) (b : Base) (s : Seen) (body : Statements) (end_line : Line) (rest : ℕ) → refusals_of t ≡ [] → b ≡ mapped_base_of t → s ≡ seen_in t → body ≡ body_of t → finished_program b s body end_line rest ≡ meaning_of t end_line rest
finished_is t b s body end_line rest ok eb es ey = λ i. finished_program ((eb ∙ unmapped t (parted t ok).body) i) (es i) (ey i) end_line rest
