use Rattle.std.proofs.Common.{◌∷◌, [], ap, sym, subst, length, arith, length-append}
use Rattle.gnt_solver.specs.Placed.{places_of}
use Rattle.executor_gen.specs.Told.{AreTold}
use Rattle.executor_gen.proofs.Members.{told_more}
use Rattle.executor_gen.proofs.tables.operations_of.Goals as goal

pub loop-n-init : goal.loop-n-init
loop-n-init c = record {
  count = ap length c.new-all.ensures.items;
  told = subst (AreTold (places_of c.args.p.now) c.args.items 0) (sym c.new-all.ensures.items) tt;
}

pub loop-n-preserved : goal.loop-n-preserved
loop-n-preserved c =
    let more = ap length c.in_ok-push.ensures.items in
    let parts = length-append c.loop-n.all.items (c.in_ok-one.one ∷ []) in
    let now = c.loop-n.invariant.count in
    record {
      count = omega (arith, more, parts, now);
      told = told_more (places_of c.args.p.now) c.args.items 0 c.loop-n.n c.loop-n.all.items c.push.new.self.items c.in_ok-one.one c.loop-n.invariant.told (omega (arith, now)) c.in_ok-one.ensures c.in_ok-push.ensures.items;
    }
