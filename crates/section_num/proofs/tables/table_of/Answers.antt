use Rattle.std.proofs.Common.{◌≡◌, ◌<◌, ℕ, [], length, get_or, sym, ap, ◌∙◌, arith}
use Rattle.section_num.proofs.Filled.{in_put, inside_same, is_one, long_put, size_put}
use Rattle.section_num.proofs.tables.table_of.Goals as goal

pub loop-n-preserved : goal.loop-n-preserved
loop-n-preserved c =
    let row : c.as_slice.result.now ≡ get_or c.args.rows.now c.loop-n.n [] = c.as_slice.ensures ∙ (c.index-rows-n.is ∙ inside_same c.args.rows.now c.loop-n.n c.index-rows-n.result [] c.loop-n-test.true) in record {
      long = long_put c.loop-n.table c.put.new.self c.loop-n.n c.in_ok-set.set (length c.args.rows.now) c.put.ensures c.loop-n.invariant.long;
      sizes = size_put c.loop-n.table c.put.new.self c.loop-n.n c.in_ok-set.set (length c.args.rows.now) c.args.items c.put.ensures c.in_ok-set.ensures.size c.loop-n.invariant.long c.loop-n.invariant.sizes;
      members = in_put c.loop-n.table c.put.new.self c.loop-n.n c.in_ok-set.set (λ n x. is_one (get_or c.args.rows.now n []) x) c.put.ensures (omega (arith, c.loop-n.invariant.long, c.loop-n-test.true)) (λ x. c.in_ok-set.ensures.members x ∙ ap (λ xs. is_one xs x) row) c.loop-n.invariant.members;
    }
