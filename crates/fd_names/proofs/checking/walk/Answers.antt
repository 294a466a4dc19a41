use Rattle.std.proofs.Common.{map, ap}
use Rattle.fd_ast.specs.Tree.{decl_tree, program_tree}
use Rattle.fd_prog.specs.Statements.{statements_of}
use Rattle.fd_names.proofs.Walked.{whole_base, whole_seen, whole_body, whole_worst}
use Rattle.fd_names.proofs.checking.walk.Goals as goal

pub returns-clause-base : goal.returns-clause-base
returns-clause-base c = whole_base (program_tree c.args.tree.now) (map decl_tree c.as_slice.result.now) (map decl_tree c.as_slice-2.result.now) c.in_ok-base.base c.decls.new.base c.remap_all.new.self c.new-book.result (ap (map decl_tree) c.as_slice.ensures) (ap (map decl_tree) c.as_slice-2.ensures) c.in_ok-base.ensures c.new-book.ensures c.in_ok-decls.ensures.base c.in_ok-remap_all.ensures

pub returns-clause-seen : goal.returns-clause-seen
returns-clause-seen c = whole_seen (program_tree c.args.tree.now) (map decl_tree c.as_slice.result.now) (map decl_tree c.as_slice-2.result.now) c.in_ok-base.base c.decls.new.base c.new-book.result c.decls.new.self.seen c.stmts.new.self.seen c.whole.new.self.seen (ap (map decl_tree) c.as_slice.ensures) (ap (map decl_tree) c.as_slice-2.ensures) c.in_ok-base.ensures c.new-book.ensures c.in_ok-decls.ensures.base c.in_ok-decls.ensures.seen c.in_ok-body.ensures.seen (ap (λ b. b.seen) c.in_ok-whole.ensures)

pub returns-clause-worst : goal.returns-clause-worst
returns-clause-worst c = whole_worst (program_tree c.args.tree.now) (map decl_tree c.as_slice.result.now) (map decl_tree c.as_slice-2.result.now) c.in_ok-base.base c.decls.new.base c.remap_all.new.self c.new-book.result c.decls.new.self.around c.decls.new.self.seen c.decls.new.self.worst c.stmts.new.self.worst c.whole.new.self.worst (statements_of c.in_ok-body.body) (ap (map decl_tree) c.as_slice.ensures) (ap (map decl_tree) c.as_slice-2.ensures) c.in_ok-base.ensures c.new-book.ensures c.in_ok-decls.ensures.around c.in_ok-decls.ensures.base c.in_ok-decls.ensures.seen c.in_ok-decls.ensures.worst c.in_ok-body.ensures.worst c.in_ok-body.ensures.meant c.in_ok-remap_all.ensures (ap (λ b. b.worst) c.in_ok-whole.ensures)

pub returns-clause-body : goal.returns-clause-body
returns-clause-body c = whole_body (program_tree c.args.tree.now) (map decl_tree c.as_slice.result.now) (map decl_tree c.as_slice-2.result.now) c.in_ok-base.base c.decls.new.base c.new-book.result c.decls.new.self.seen (statements_of c.in_ok-body.body) (ap (map decl_tree) c.as_slice.ensures) (ap (map decl_tree) c.as_slice-2.ensures) c.in_ok-base.ensures c.new-book.ensures c.in_ok-decls.ensures.base c.in_ok-decls.ensures.seen c.in_ok-body.ensures.meant
