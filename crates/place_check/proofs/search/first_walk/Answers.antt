use Rattle.std.proofs.Common.{ℕ, length, sym, subst, arith}
use Rattle.interval_graph.specs.Rows.{flow_of}
use Rattle.gnt_solver.proofs.Rows.{few, some_rows}
use Rattle.place_check.specs.Columns.{machine_of}
use Rattle.place_check.specs.Trails.{IsBegun}
use Rattle.place_check.proofs.Starting.{search_begins, start_breaks}
use Rattle.place_check.proofs.search.first_walk.Goals as goal

pub count-requires : goal.count-requires
count-requires c = omega (arith, few c.args.graph.now.rows.items c.requires.rows)

pub search_on-requires-clause-search : goal.search_on-requires-clause-search
search_on-requires-clause-search c =
    search_begins (flow_of c.args.graph.now.rows.items) (machine_of c.args.column.now) (length c.args.graph.now.rows.items) c.in-Some.mark
    (some_rows c.args.graph.now.rows.items c.requires.rows) (sym c.in-Some.ensures) c.in_ok-search-in-Some.search
    (subst (λ (n : ℕ). IsBegun n c.in-Some.mark c.in_ok-search-in-Some.search) c.count.ensures c.in_ok-search-in-Some.ensures)

pub returns-in_ok-path-in-None : goal.returns-in_ok-path-in-None
returns-in_ok-path-in-None c =
    start_breaks (flow_of c.args.graph.now.rows.items) (machine_of c.args.column.now) c.in_ok-path-in-None.path (sym c.in-None.ensures) c.in_ok-path-in-None.ensures
