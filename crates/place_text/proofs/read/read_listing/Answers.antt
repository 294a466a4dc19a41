use Rattle.std.proofs.Common.{◌≡◌, length, map, sym, ◌∙◌, ap, subst, arith}
use Rattle.std.proofs.lemmas.Grind.{common_steps}
use Rattle.std.proofs.lemmas.List.{length-map}
use Rattle.fd_prog.specs.Items.{linear_item_of}
use Rattle.fd_prog.specs.Programs.{program_of}
use Rattle.interval_graph.specs.declared.node.Row.{Row}
use Rattle.place_text.specs.Readings.{AreFew, layout_by, lines_in, opening, size_by, size_in}
use Rattle.place_text.proofs.Listed.{accepted, read_as, read_back, tables_as, wrong_as}
use Rattle.place_text.proofs.Parts.{few_lines}
use Rattle.place_text.proofs.read.read_listing.Goals as goal

pub read_lines-requires-clause-few : goal.read_lines-requires-clause-few
read_lines-requires-clause-few c =
    let lines : c.as_slice-3.result.now ≡ lines_in c.args.bytes.now = grind (arith, common_steps) in
    subst AreFew (sym lines) (few_lines c.args.bytes.now c.requires.short)

pub read_lines-requires-clause-known : goal.read_lines-requires-clause-known
read_lines-requires-clause-known c = c.in_ok-known.ensures.known

pub returns-clause-tables : goal.returns-clause-tables
returns-clause-tables c =
    let rows = c.args.graph.now.rows.items in
    let long : length c.in_ok-known.known.lines.items ≡ length rows = ap length c.in_ok-known.ensures.lines ∙ length-map rows (λ (r : Row). r.line) in
    tables_as c.read_lines.result (size_in c.in_ok-known.known) (size_by rows c.args.items.now.items) (λ i. record { nodes = long i; items = c.in_ok-known.ensures.items i }) c.read_lines.ensures.tables

pub returns-clause-read : goal.returns-clause-read
returns-clause-read c =
    let lines : c.as_slice-3.result.now ≡ lines_in c.args.bytes.now = grind (arith, common_steps) in
    let front : c.as_slice-2.result.now ≡ opening (program_of c.args.program.now) (map linear_item_of c.args.items.now.items) = grind (arith, common_steps) in
    read_as c.read_lines.result _ _ _ _ _ _ front c.in_ok-known.ensures.layout lines c.read_lines.ensures.read

pub returns-clause-wrong : goal.returns-clause-wrong
returns-clause-wrong c =
    let lines : c.as_slice-3.result.now ≡ lines_in c.args.bytes.now = grind (arith, common_steps) in
    let front : c.as_slice-2.result.now ≡ opening (program_of c.args.program.now) (map linear_item_of c.args.items.now.items) = grind (arith, common_steps) in
    wrong_as c.read_lines.result _ _ _ _ _ _ front c.in_ok-known.ensures.layout lines c.read_lines.ensures.wrong

pub returns-clause-accepted : goal.returns-clause-accepted
returns-clause-accepted c =
    let rows = c.args.graph.now.rows.items in
    let items = c.args.items.now.items in
    let k = c.in_ok-known.known in
    let lines : c.as_slice-3.result.now ≡ lines_in c.args.bytes.now = grind (arith, common_steps) in
    let front : c.as_slice-2.result.now ≡ opening (program_of c.args.program.now) (map linear_item_of items) = grind (arith, common_steps) in
    accepted k c.in_ok-known.ensures.known rows c.in_ok-known.ensures.lines (program_of c.args.program.now) (map linear_item_of items) (length-map items linear_item_of ∙ sym c.in_ok-known.ensures.items) c.args.bytes.now c.requires.short
    (layout_by rows items c.args.items.now.take) c.in_ok-known.ensures.layout c.read_lines.result
    (wrong_as c.read_lines.result _ _ _ _ _ _ front c.in_ok-known.ensures.layout lines c.read_lines.ensures.wrong)

pub returns-clause-back : goal.returns-clause-back
returns-clause-back c =
    let rows = c.args.graph.now.rows.items in
    let items = c.args.items.now.items in
    let k = c.in_ok-known.known in
    let lines : c.as_slice-3.result.now ≡ lines_in c.args.bytes.now = grind (arith, common_steps) in
    let front : c.as_slice-2.result.now ≡ opening (program_of c.args.program.now) (map linear_item_of items) = grind (arith, common_steps) in
    read_back k c.in_ok-known.ensures.known rows c.in_ok-known.ensures.lines (program_of c.args.program.now) (map linear_item_of items) (length-map items linear_item_of ∙ sym c.in_ok-known.ensures.items) c.args.bytes.now c.requires.short
    (layout_by rows items c.args.items.now.take) c.in_ok-known.ensures.layout c.read_lines.result
    (read_as c.read_lines.result _ _ _ _ _ _ front c.in_ok-known.ensures.layout lines c.read_lines.ensures.read)
