-- The program of a tree without refusals keeps to all rules on names, shapes and limits.
use Rattle.std.proofs.Common.{◌≡◌, ℕ, ◌+◌, ◌≤◌, List, [], ◌∷◌, suc, refl, sym, ap, ◌∙◌, length, arith}
use Rattle.fd_base.specs.declared.numbering.Line.{Line}
use Rattle.fd_ast.specs.Tree.{ProgramTree, nesting_among}
use Rattle.fd_prog.specs.declared.program.Decomp.{Decomp}
use Rattle.fd_prog.specs.Checked.{IsCheckedProgram, statements_references}
use Rattle.fd_names.specs.declared.declarations.Spread.{Spread}
use Rattle.fd_names.specs.Checked.{nothing_seen, no_elements, base_of, seen_in_decls, seen_in, refusals_of, meaning_of}
use Rattle.fd_names.specs.Declarations.{finished_decomps, nothing_declared}
use Rattle.fd_names.specs.Standing.{scope_of}
use Rattle.fd_names.proofs.Counted.{few_statements, decls_same, few_arrays}
use Rattle.fd_names.proofs.DecompsCounted.{decls_counted, stmts_same}
use Rattle.fd_names.proofs.Fitting.{all_fitting, all_fitting_finished, all_apart, all_below}
use Rattle.fd_names.proofs.Loops.{stmts_keep}
use Rattle.fd_names.proofs.Numbered.{program_numbered}
use Rattle.fd_names.proofs.Parts.{parted}
use Rattle.fd_names.proofs.ProgramSound.{program_sound, finished_length}
use Rattle.fd_names.proofs.Deep.{stmts_deep}
use Rattle.fd_names.proofs.Standing.{stays}
use Rattle.fd_names.proofs.StatementsStanding.{program_stands, none_named, enough}
use Rattle.fd_names.proofs.Totalled.{all_alone, finished, few_elements, no_total}
use Rattle.fd_names.proofs.Within.{stmts_within, decls_within}

none_yet : (n m : ℕ) → n ≡ 0 → n ≤ m
none_yet n m e = omega arith

decomps_length : (xs : List Decomp) (sps : List Spread) → length (finished_decomps xs sps) ≡ length xs
decomps_length [] sps = refl
decomps_length (x ∷ xs) [] = ap suc (decomps_length xs [])
decomps_length (x ∷ xs) (sp ∷ sps) = ap suc (decomps_length xs sps)

few_names : (n m k : ℕ) → n + k ≤ 16384 → m ≡ k → n + m ≤ 16384
few_names n m k h e = omega arith

no_more : (n m k : ℕ) → n ≡ m → m ≤ k → n ≤ k
no_more n m k e h = omega arith

pub program_checked : (p : ProgramTree) (end_line : Line) (at : ℕ) → refusals_of p ≡ [] → nesting_among p.body ≤ 32 → IsCheckedProgram (meaning_of p end_line at)
program_checked p end_line at ok nested =
    let m = meaning_of p end_line at in
    let b = base_of p in
    let clean = parted p ok in
    let few = stmts_within b.table [] p.body (seen_in_decls p) clean.body (decls_within p.decls nothing_seen (nothing_declared p.decls) clean.decls none_named) in
    let numbers = program_numbered p end_line at ok in
    let alone = all_alone p.decls nothing_seen (nothing_declared p.decls) tt in
    let counts = decls_counted p.decls nothing_seen (nothing_declared p.decls) (record { decomps = refl; spreads = refl; alignments = refl }) in
    let sums = few_elements m b.spreads b.arrays b.sizes b.alignments no_elements (finished m b.decomps b.spreads refl counts.spreads) alone counts.alignments clean.totals no_total in
    record {
      sound = program_sound p end_line at ok;
      subscripts = all_fitting_finished b.spreads b.arrays b.alignments (statements_references m.body) (all_fitting (scope_of p) p.body m.body (program_stands p end_line at ok));
      apart = all_apart 0 m.sites (statements_references m.body) numbers;
      sites = all_below 0 m.sites (statements_references m.body) numbers;
      variables = stmts_keep (scope_of p) [] p.body (seen_in_decls p) clean.body (stays (seen_in p).scalars) (enough (length (seen_in p).scalars) (seen_in p).decomps few);
      statements = few_statements b.table [] p.body (seen_in_decls p) clean.body (none_yet (seen_in_decls p).statements 4096 (decls_same p.decls nothing_seen (nothing_declared p.decls)));
      nesting = rw (stmts_deep b.table p.body (seen_in_decls p)) nested;
      names = few_names (length (seen_in p).scalars) (length m.decomps) (seen_in p).decomps few (decomps_length b.decomps b.spreads ∙ sym (stmts_same b.table p.body (seen_in_decls p) ∙ counts.decomps));
      arrays = no_more (length m.arrays) (length b.arrays) 128 (finished_length b.spreads b.arrays b.alignments) (few_arrays p.decls nothing_seen (nothing_declared p.decls) clean.decls (none_yet 0 128 refl));
      replicated = sums.replicated;
      distributed = sums.distributed;
    }
