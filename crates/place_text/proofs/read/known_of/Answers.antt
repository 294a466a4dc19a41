use Rattle.std.proofs.Common.{◌≡◌, length, sym, ◌∙◌, ap, arith}
use Rattle.std.proofs.lemmas.List.{length-map}
use Rattle.interval_graph.specs.declared.node.Row.{Row}
use Rattle.gnt_solver.proofs.Rows.{few}
use Rattle.place_text.proofs.Listed.{layout_is}
use Rattle.place_text.proofs.read.known_of.Goals as goal

pub lines_of-requires : goal.lines_of-requires
lines_of-requires c = omega (arith, few c.args.graph.now.rows.items c.requires.rows)

pub returns-clause-known : goal.returns-clause-known
returns-clause-known c =
    let long : length c.in_ok-lines.lines.items ≡ length c.args.graph.now.rows.items = ap length c.in_ok-lines.ensures.lines ∙ length-map c.args.graph.now.rows.items (λ (r : Row). r.line) in
    record {
      few = omega (arith, long, few c.args.graph.now.rows.items c.requires.rows);
      items = omega (arith, c.requires.items);
      numbers = c.in_ok-lines.ensures.numbers;
      taken = c.in_ok-taken.ensures.table.long ∙ (c.requires.takes.long ∙ sym long);
    }

pub returns-clause-layout : goal.returns-clause-layout
returns-clause-layout c = layout_is c.args.graph.now.rows.items c.args.items.now.items c.args.items.now.take c.in_ok-lines.lines.items _ c.in_ok-taken.taken c.in_ok-lines.ensures.lines (omega (arith, c.requires.items)) c.in_ok-taken.ensures.is
