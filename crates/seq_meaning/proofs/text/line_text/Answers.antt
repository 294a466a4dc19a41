use Rattle.std.proofs.Common.{◌++◌, ◌∷◌, [], nat_eq, arith, rules, length-append}
use Rattle.fd_prog.specs.Programs.{program_of}
use Rattle.fd_prog.specs.Statements.{print_item_of}
use Rattle.fd_prog.specs.Stores.{readings_of}
use Rattle.fd_prog.specs.Sequence.{item_text}
use Rattle.fd_prog.specs.WellFormed.{names_of, IsSoundItem}
use Rattle.seq_meaning.specs.Stored.{store_of}
use Rattle.seq_meaning.proofs.Lines.{All-item, appended-fault, appended-text, item_texts-take_more, item_texts-take_fault, join-push}
use Rattle.seq_meaning.proofs.text.line_text.Goals as goal

pub append_item-requires : goal.append_item-requires
append_item-requires c =
    All-item (IsSoundItem (names_of (program_of c.args.task.now.program.now))) print_item_of c.args.parts.now c.loop-index.index c.index-parts-index.result (omega arith) c.index-parts-index.is c.requires

pub returns-in-Err : goal.returns-in-Err
returns-in-Err c =
    let inv = c.loop-index.invariant in
    let item = c.index-parts-index.result in
    let r = readings_of (program_of c.args.task.now.program.now) (store_of c.args.store.now) in
    let one = appended-fault c.loop-index.line c.append_item.new.line (nat_eq c.loop-index.index 0) (item_text r (print_item_of item)) c.in_ok-append_item.field-0 c.in-Err.kind c.in_ok-append_item.ensures c.in-Err.is in
    let fault = item_texts-take_fault r print_item_of c.args.parts.now c.loop-index.index item inv.0 c.in-Err.kind (omega arith) c.index-parts-index.is inv.1 one in
    rw fault (search rules)

pub loop-index-preserved : goal.loop-index-preserved
loop-index-preserved c =
    let inv = c.loop-index.invariant in
    let item = c.index-parts-index.result in
    let r = readings_of (program_of c.args.task.now.program.now) (store_of c.args.store.now) in
    let one = appended-text c.loop-index.line c.append_item.new.line (nat_eq c.loop-index.index 0) (item_text r (print_item_of item)) c.in_ok-append_item.field-0 c.in-Ok.field-0 c.in_ok-append_item.ensures c.in-Ok.is in (
      inv.0 ++ one.0 ∷ [],
      item_texts-take_more r print_item_of c.args.parts.now c.loop-index.index item inv.0 one.0 (omega arith) c.index-parts-index.is inv.1 one.1,
      omega (arith, length-append inv.0 (one.0 ∷ []), inv.2),
      rw (join-push inv.0 one.0, inv.2, ← inv.3) one.2,
    )
