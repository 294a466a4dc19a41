use Rattle.std.proofs.Common.{arith, rules, drop, map, ap}
use Rattle.std.proofs.lemmas.Result.{err_from_is_err_and}
use Rattle.fd_lexer.specs.View.{token_lines, lines_of}
use Rattle.fd_ast.specs.Tree.{decl_tree, program_tree}
use Rattle.fd_parser.specs.Lexemes.{toks}
use Rattle.fd_parser.specs.Program.{all_stmts}
use Rattle.fd_parser.specs.Sections.{here_of}
use Rattle.fd_parser.specs.Text.{no_memory}
use Rattle.fd_parser.proofs.Parsed.{one_text}
use Rattle.fd_parser.proofs.Reached.{at_first, line_taken, line_stopped, not_ended, still_open, some_place, no_place, text_here, text_is, refused_only, not_refused}
use Rattle.fd_parser.proofs.Bytes.{read_source, source_text}
use Rattle.fd_parser.proofs.parsing.parse.Goals as goal

pub loop-source-init : goal.loop-source-init
loop-source-init c = record {
  reached = at_first c.args.lexed.now (here_of c.new-source.result) c.as_slice-text.result.now c.as_slice-tokens.result.now c.new-source.ensures c.as_slice-text.ensures c.as_slice-tokens.ensures;
  within = omega arith;
}

pub returns-in_err-line-clause-refused : goal.returns-in_err-line-clause-refused
returns-in_err-line-clause-refused c = let p = err_from_is_err_and c.from_residual.result c.from_residual.ensures.1 in rw (p.1, p.2) no_memory

pub returns-in_err-take_line-clause-refused : goal.returns-in_err-take_line-clause-refused
returns-in_err-take_line-clause-refused c =
    let p = err_from_is_err_and c.from_residual-in_err-take_line.result c.from_residual-in_err-take_line.ensures.1 in
    rw (p.1, p.2) (line_stopped (token_lines c.args.lexed.now) (lines_of c.as_slice-text.result.now (drop c.loop-source.at c.as_slice-tokens.result.now)) (here_of c.loop-source.source) c.in-Some.line (toks c.in-Some.lexemes.items) (lines_of c.as_slice-text.result.now (drop c.in-Some.next c.as_slice-tokens.result.now)) c.args.lexed.now.ended c.args.lexed.now.end_line _ (rw c.in-Some.is at c.in_ok-line.ensures.line) c.loop-source.invariant.reached (rw c.deref.ensures.value at c.in_err-take_line.ensures.stopped))

pub returns-in_err-take_line-clause-only : goal.returns-in_err-take_line-clause-only
returns-in_err-take_line-clause-only c = λ x t a y.
    let p = err_from_is_err_and c.from_residual-in_err-take_line.result c.from_residual-in_err-take_line.ensures.1 in
    refused_only program_tree (token_lines c.args.lexed.now) c.args.lexed.now.ended c.args.lexed.now.end_line c.from_residual-in_err-take_line.result p.0 x p.1 (returns-in_err-take_line-clause-refused c) t a y

pub loop-source-preserved : goal.loop-source-preserved
loop-source-preserved c = record {
  reached = line_taken (token_lines c.args.lexed.now) (lines_of c.as_slice-text.result.now (drop c.loop-source.at c.as_slice-tokens.result.now)) (here_of c.loop-source.source) (here_of c.take_line.new.source) c.in-Some.line (toks c.in-Some.lexemes.items) (lines_of c.as_slice-text.result.now (drop c.in-Some.next c.as_slice-tokens.result.now)) (rw c.in-Some.is at c.in_ok-line.ensures.line) c.loop-source.invariant.reached (rw c.deref.ensures.value at c.in_ok-take_line.ensures.taken);
  within = (rw c.in-Some.is at c.in_ok-line.ensures.next).1;
}

pub returns-then-not-lexed-clause-refused : goal.returns-then-not-lexed-clause-refused
returns-then-not-lexed-clause-refused c = not_ended (token_lines c.args.lexed.now) (lines_of c.as_slice-text.result.now (drop c.loop-source.at c.as_slice-tokens.result.now)) (here_of c.loop-source.source) c.args.lexed.now.ended c.args.lexed.now.end_line (rw c.in_default.is at c.in_ok-line.ensures.line) c.loop-source.invariant.reached (search rules)

pub returns-then-not-is_empty-clause-refused : goal.returns-then-not-is_empty-clause-refused
returns-then-not-is_empty-clause-refused c = still_open (token_lines c.args.lexed.now) (lines_of c.as_slice-text.result.now (drop c.loop-source.at c.as_slice-tokens.result.now)) (here_of c.loop-source.source) c.args.lexed.now.ended c.args.lexed.now.end_line (rw c.in_default.is at c.in_ok-line.ensures.line) c.loop-source.invariant.reached (search rules) (some_place c.loop-source.source c.is_empty.result c.is_empty.ensures (search rules))

pub returns-then-not-is_empty-clause-only : goal.returns-then-not-is_empty-clause-only
returns-then-not-is_empty-clause-only c = λ x t a y. not_refused (token_lines c.args.lexed.now) c.args.lexed.now.ended c.args.lexed.now.end_line x _ t a y (returns-then-not-is_empty-clause-refused c)

pub returns-in_err-body-clause-refused : goal.returns-in_err-body-clause-refused
returns-in_err-body-clause-refused c = let p = err_from_is_err_and c.from_residual-in_err-body.result c.from_residual-in_err-body.ensures.1 in rw (p.1, p.2) no_memory

pub returns-clause-found : goal.returns-clause-found
returns-clause-found c = (text_is (token_lines c.args.lexed.now) (record { decls = c.from_vec.result; body = c.in_ok-body.body; end_line = c.args.lexed.now.end_line; rest = c.args.lexed.now.rest }) (here_of c.loop-source.source).decls (all_stmts (here_of c.loop-source.source).inside.done) (ap (map decl_tree) c.from_vec.ensures) c.in_ok-body.ensures (text_here (token_lines c.args.lexed.now) (lines_of c.as_slice-text.result.now (drop c.loop-source.at c.as_slice-tokens.result.now)) (here_of c.loop-source.source) (rw c.in_default.is at c.in_ok-line.ensures.line) c.loop-source.invariant.reached (no_place c.loop-source.source c.is_empty.result c.is_empty.ensures (search rules))), search rules)

pub returns-clause-only : goal.returns-clause-only
returns-clause-only c = λ x t a y. one_text (token_lines c.args.lexed.now) _ x (returns-clause-found c).0 t

pub returns-clause-source : goal.returns-clause-source
returns-clause-source c = λ bytes r. let f = returns-clause-found c in read_source bytes c.args.lexed.now _ r f.1 f.0

pub returns-clause-only_source : goal.returns-clause-only_source
returns-clause-only_source c = λ bytes x k rest r s a. let p = source_text bytes c.args.lexed.now x k rest r s in returns-clause-only c x p.0 a p.1

pub returns-then-not-is_empty-clause-only_source : goal.returns-then-not-is_empty-clause-only_source
returns-then-not-is_empty-clause-only_source c = λ bytes x k rest r s a. let p = source_text bytes c.args.lexed.now x k rest r s in returns-then-not-is_empty-clause-only c x p.0 a p.1

pub returns-in_err-take_line-clause-only_source : goal.returns-in_err-take_line-clause-only_source
returns-in_err-take_line-clause-only_source c = λ bytes x k rest r s a. let p = source_text bytes c.args.lexed.now x k rest r s in returns-in_err-take_line-clause-only c x p.0 a p.1

pub returns-then-not-lexed-clause-only_source : goal.returns-then-not-lexed-clause-only_source
returns-then-not-lexed-clause-only_source c = λ bytes x k rest r s a. let p = source_text bytes c.args.lexed.now x k rest r s in not_refused (token_lines c.args.lexed.now) c.args.lexed.now.ended c.args.lexed.now.end_line x _ p.0 a p.1 (returns-then-not-lexed-clause-refused c)
