use Rattle.std.proofs.Common.{◌∙◌}
use Rattle.fd_prog.specs.Statements.{statements_of}
use Rattle.fd_names.specs.Declarations.{finished_arrays, finished_decomps}
use Rattle.fd_names.proofs.checking.finished.Goals as goal

pub returns : goal.returns
returns c = λ i. record {
  scalars = c.in_ok-scalars.ensures i;
  arrays = (c.in_ok-arrays.ensures ∙ (λ j. finished_arrays (c.as_slice-3.ensures j) (c.as_slice.ensures j) (c.as_slice-2.ensures j))) i;
  decomps = (c.in_ok-decomps.ensures ∙ (λ j. finished_decomps (c.as_slice-4.ensures j) (c.as_slice-5.ensures j))) i;
  body = statements_of c.args.body;
  end_line = c.args.tree.now.end_line;
  rest = c.args.tree.now.rest;
  sites = c.args.seen.now.sites;
}
