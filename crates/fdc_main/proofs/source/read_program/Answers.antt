use Rattle.fd_ast.specs.Tree.{program_tree}
use Rattle.fd_lexer.specs.View.{token_lines}
use Rattle.fd_parser.proofs.Nesting.{nesting_bound}
use Rattle.text_trees.proofs.WrittenTrees.{trees_are_written}
use Rattle.fdc_main.proofs.Refused.{grammar_refused, names_refused, names_past}
use Rattle.fdc_main.proofs.source.read_program.Goals as goal

pub returns-in-Err-At-parse-clause-refused : goal.returns-in-Err-At-parse-clause-refused
returns-in-Err-At-parse-clause-refused c =
    grammar_refused c.args.bytes.now c.in-Ok.lexed c.in-Err-At-parse.field-0 _ _ c.in-Ok.ensures.reading c.in-Err-At-parse.ensures.refused (cc)

pub returns-in-Err-At-check-clause-refused : goal.returns-in-Err-At-check-clause-refused
returns-in-Err-At-check-clause-refused c =
    let found = c.in-Ok-parse.ensures.found in
    names_refused c.args.bytes.now c.in-Ok.lexed c.in-Ok-parse.tree c.in-Err-At-check.field-0 _ _ c.in-Ok.ensures.reading found.1 found.0 c.in-Ok-parse.ensures.allowed c.in-Err-At-check.ensures.refused (cc)

pub returns-in-Err-TooMany-clause-refused : goal.returns-in-Err-TooMany-clause-refused
returns-in-Err-TooMany-clause-refused c =
    let found = c.in-Ok-parse.ensures.found in
    names_past c.args.bytes.now c.in-Ok.lexed c.in-Ok-parse.tree c.in-Err-TooMany.field-0 _ _ c.in-Ok.ensures.reading found.1 found.0 c.in-Ok-parse.ensures.allowed c.in-Err-TooMany.ensures.refused (cc)

pub returns-in-Ok-check-clause-accepted : goal.returns-in-Ok-check-clause-accepted
returns-in-Ok-check-clause-accepted c =
    let found = c.in-Ok-parse.ensures.found in
    let tree = program_tree c.in-Ok-parse.tree in
    c.in-Ok-check.ensures.kept (trees_are_written c.args.bytes.now c.in-Ok.lexed tree c.in-Ok.ensures.reading found.1 found.0) (nesting_bound (token_lines c.in-Ok.lexed) tree found.0 c.in-Ok-parse.ensures.allowed)
