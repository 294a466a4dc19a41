use Rattle.std.proofs.Common.{◌+◌, refl, sym, ap, arith}
use Rattle.fd_prog.specs.Nodes as nodes
use Rattle.fd_prog.specs.Statements.{statement_of, statements_of}
use Rattle.fd_prog.specs.Expressions.{expression_of}
use Rattle.fd_prog.specs.Conditions.{condition_of}
use Rattle.executor_gen.specs.Blocks.{spots_in, place_at}
use Rattle.executor_gen.proofs.TreeParts.{side_adds, round_adds, do_adds, while_adds, if_adds, list_adds}
use Rattle.executor_gen.proofs.tree.+write.Goals as goal

pub write_yes-returns-clause-adds : goal.write_yes-returns-clause-adds
write_yes-returns-clause-adds t c =
    side_adds (spots_in c.args.operations.now) (place_at c.args.places.now) c.args.k c.in_ok-next.next c.args.a (c.args.a + 1) (c.args.a + 1 + c.count_all.result) c.args.line (statements_of c.args.side.now) (nodes.YesEnd c.args.join)
    c.args.instrs.now.items c.write_quiet.new.instrs.items c.write_all.new.instrs.items c.write_yes_end.new.instrs.items c.args.lines.now.items c.write_quiet.new.lines.items c.write_all.new.lines.items c.write_yes_end.new.lines.items
    refl (omega arith) (ap (λ n. c.args.a + 1 + n) (sym c.count_all.ensures)) c.in_ok-write_quiet.ensures c.in_ok-next.ensures.adds c.in_ok-write_yes_end.ensures

pub write_no-returns-clause-adds : goal.write_no-returns-clause-adds
write_no-returns-clause-adds t c =
    side_adds (spots_in c.args.operations.now) (place_at c.args.places.now) c.args.k c.in_ok-next.next c.args.a (c.args.a + 1) (c.args.a + 1 + c.count_all.result) c.args.line (statements_of c.args.side.now) nodes.Pad
    c.args.instrs.now.items c.write_quiet.new.instrs.items c.write_all.new.instrs.items c.write_quiet-2.new.instrs.items c.args.lines.now.items c.write_quiet.new.lines.items c.write_all.new.lines.items c.write_quiet-2.new.lines.items
    refl (omega arith) (ap (λ n. c.args.a + 1 + n) (sym c.count_all.ensures)) c.in_ok-write_quiet.ensures c.in_ok-next.ensures.adds c.in_ok-write_quiet-2.ensures

pub write_round-returns-clause-adds : goal.write_round-returns-clause-adds
write_round-returns-clause-adds t c =
    round_adds (spots_in c.args.operations.now) (place_at c.args.places.now) c.args.k c.in_ok-next.next c.args.a (c.args.a + 2 + c.count_all.result) c.args.offset c.args.line (statements_of c.args.body.now)
    c.args.instrs.now.items c.write_quiet.new.instrs.items c.write_all.new.instrs.items c.write_latch.new.instrs.items c.args.lines.now.items c.write_quiet.new.lines.items c.write_all.new.lines.items c.write_latch.new.lines.items
    (ap (λ n. c.args.a + 2 + n) (sym c.count_all.ensures)) c.in_ok-write_quiet.ensures c.in_ok-next.ensures.adds c.in_ok-write_latch.ensures

pub write_fork-returns-clause-adds : goal.write_fork-returns-clause-adds
write_fork-returns-clause-adds t c =
    let no_side = c.args.a + 3 + c.count_all-left.result in
    if_adds (spots_in c.args.operations.now) (place_at c.args.places.now) c.args.k c.in_ok-middle.middle c.in_ok-next.next c.args.a no_side (no_side + 2 + c.count_all-right.result) c.args.line
    (condition_of c.args.condition.now) (statements_of c.args.so.now) (statements_of c.args.otherwise.now)
    c.args.instrs.now.items c.write_branch.new.instrs.items c.write_yes.new.instrs.items c.write_no.new.instrs.items c.write_quiet.new.instrs.items
    c.args.lines.now.items c.write_branch.new.lines.items c.write_yes.new.lines.items c.write_no.new.lines.items c.write_quiet.new.lines.items
    (ap (λ n. c.args.a + 3 + n) c.count_all-left.ensures) (ap (λ n. no_side + 2 + n) c.count_all-right.ensures)
    c.in_ok-write_branch.ensures c.in_ok-middle.ensures.adds c.in_ok-next.ensures.adds c.in_ok-write_quiet.ensures

pub write-returns-in_ok-k-in-If-clause-adds : goal.write-returns-in_ok-k-in-If-clause-adds
write-returns-in_ok-k-in-If-clause-adds t c = rw c.in-If.is c.in_ok-k-in-If.ensures.adds

pub write-returns-in_ok-k-in-Do-clause-adds : goal.write-returns-in_ok-k-in-Do-clause-adds
write-returns-in_ok-k-in-Do-clause-adds t c = rw c.in-Do.is
    (do_adds (spots_in c.args.operations.now) (place_at c.args.places.now) c.args.k c.in_ok-k-in-Do.k c.args.a (c.args.a + 2 + c.count_all.result) c.in-Do.line c.in-Do.var
    (expression_of c.in-Do.first) (expression_of c.in-Do.last) (expression_of c.in-Do.step) (statements_of c.in-Do.body)
    c.args.instrs.now.items c.write_do.new.instrs.items c.write_round.new.instrs.items c.args.lines.now.items c.write_do.new.lines.items c.write_round.new.lines.items
    (ap (λ n. c.args.a + 2 + n) c.count_all.ensures) c.in_ok-write_do-in-Do.ensures c.in_ok-k-in-Do.ensures.adds)

pub write-returns-in_ok-k-in-While-clause-adds : goal.write-returns-in_ok-k-in-While-clause-adds
write-returns-in_ok-k-in-While-clause-adds t c = rw c.in-While.is
    (while_adds (spots_in c.args.operations.now) (place_at c.args.places.now) c.args.k c.in_ok-k-in-While.k c.args.a (c.args.a + 2 + c.count_all-in-While.result) c.in-While.line
    (condition_of c.in-While.c) (statements_of c.in-While.body)
    c.args.instrs.now.items c.write_while.new.instrs.items c.write_round-in-While.new.instrs.items c.args.lines.now.items c.write_while.new.lines.items c.write_round-in-While.new.lines.items
    (ap (λ n. c.args.a + 2 + n) c.count_all-in-While.ensures) c.in_ok-write_while-in-While.ensures c.in_ok-k-in-While.ensures.adds)

pub write-returns-in_ok-k-in-Assign-clause-adds : goal.write-returns-in_ok-k-in-Assign-clause-adds
write-returns-in_ok-k-in-Assign-clause-adds t c = rw c.in-Assign.is (c.in_ok-k-in-Assign.ensures.adds (place_at c.args.places.now) _ (ap statement_of c.in-Assign.is))

pub write-returns-in_ok-k-in-Read-clause-adds : goal.write-returns-in_ok-k-in-Read-clause-adds
write-returns-in_ok-k-in-Read-clause-adds t c = rw c.in-Read.is (c.in_ok-k-in-Read.ensures.adds (place_at c.args.places.now) _ (ap statement_of c.in-Read.is))

pub write-returns-in_ok-k-in-Print-clause-adds : goal.write-returns-in_ok-k-in-Print-clause-adds
write-returns-in_ok-k-in-Print-clause-adds t c = rw c.in-Print.is (c.in_ok-k-in-Print.ensures.adds (place_at c.args.places.now) _ (ap statement_of c.in-Print.is))

pub write-returns-in_ok-k-in-Skip-clause-adds : goal.write-returns-in_ok-k-in-Skip-clause-adds
write-returns-in_ok-k-in-Skip-clause-adds t c = rw c.in-Skip.is (c.in_ok-k-in-Skip.ensures.adds (place_at c.args.places.now) _ (ap statement_of c.in-Skip.is))

pub write-returns-in_ok-k-in-Remap-clause-adds : goal.write-returns-in_ok-k-in-Remap-clause-adds
write-returns-in_ok-k-in-Remap-clause-adds t c = rw c.in-Remap.is (c.in_ok-k-in-Remap.ensures.adds (place_at c.args.places.now) _ (ap statement_of c.in-Remap.is))

pub write_all-returns-in_ok-k-in-More-2-clause-adds : goal.write_all-returns-in_ok-k-in-More-2-clause-adds
write_all-returns-in_ok-k-in-More-2-clause-adds t c =
    let first = rw (c.deref-in-More.ensures) at c.in_ok-k-in-More.ensures.adds in
    let rest = rw (c.deref-in-More-2.ensures) at c.in_ok-k-in-More-2.ensures.adds in
    let size = rw (c.deref.ensures) at c.count_nodes.ensures in
    rw c.in-More.is
    (list_adds (spots_in c.args.operations.now) (place_at c.args.places.now) c.args.k c.in_ok-k-in-More.k c.in_ok-k-in-More-2.k c.args.a (c.args.a + c.count_nodes.result) (statement_of c.in-More.first.value) (statements_of c.in-More.rest.value)
    c.args.instrs.now.items c.write.new.instrs.items c.write_all.new.instrs.items c.args.lines.now.items c.write.new.lines.items c.write_all.new.lines.items (ap (λ n. c.args.a + n) size) first rest)
