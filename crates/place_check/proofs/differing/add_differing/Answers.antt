use Rattle.std.proofs.Common.{◌≡◌, ℕ, ◌<◌, refl, ◌∙◌, arith}
use Rattle.gnt_solver.specs.Columns.{held}
use Rattle.gnt_solver.proofs.Marks.{of_node}
use Rattle.place_check.proofs.Unlike.{out_start, out_more, out_all}
use Rattle.place_check.proofs.differing.add_differing.Goals as goal

pub loop-n-init : goal.loop-n-init
loop-n-init c = record { differing = refl; rest = refl; out = λ x. out_start (held c.args.differing.now x) c.args.some.now c.args.other.now x }

pub set-here-requires : goal.set-here-requires
set-here-requires c = omega (arith, c.requires.some.long)

pub set-there-requires : goal.set-there-requires
set-there-requires c = omega (arith, c.requires.other.long)

pub loop-n-preserved : goal.loop-n-preserved
loop-n-preserved c =
    let v = c.loop-n.invariant in
    let lt : c.loop-n.n < c.args.count = c.loop-n-test.true in
    let a = λ (x : ℕ). of_node c.args.some.now c.loop-n.n x c.set-here.result.now (omega (arith, lt, c.requires.some.long)) c.set-here.ensures in
    let b = λ (x : ℕ). of_node c.args.other.now c.loop-n.n x c.set-there.result.now (omega (arith, lt, c.requires.other.long)) c.set-there.ensures in
    record {
      differing = c.add_rest-in-loop-n.ensures.differing ∙ (c.add_rest.ensures.differing ∙ v.differing);
      rest = c.add_rest-in-loop-n.ensures.rest ∙ (c.add_rest.ensures.rest ∙ v.rest);
      out = λ x. out_more (held c.args.differing.now x) (held c.loop-n.differing x) (held c.add_rest.new.differing x) (held c.add_rest-in-loop-n.new.differing x)
          (held c.set-here.result.now x) (held c.set-there.result.now x) c.args.some.now c.args.other.now x c.loop-n.n
          (c.add_rest.ensures.held x) (c.add_rest-in-loop-n.ensures.held x) (a x) (b x) (v.out x);
    }

pub returns-clause-others : goal.returns-clause-others
returns-clause-others c x h =
    let end : c.args.count ≡ c.loop-n.n = omega arith in
    out_all (held c.args.differing.now x) (held c.loop-n.differing x) c.args.some.now c.args.other.now x c.loop-n.n (c.requires.some.long ∙ end) (c.requires.other.long ∙ end) (c.loop-n.invariant.out x) h
