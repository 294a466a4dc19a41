use Rattle.std.proofs.Common.{◌≡◌, ℕ, ◌+◌, ◌-◌, ◌%◌, length, sym, ap, ap₂, ◌∙◌, arith}
use Rattle.std.proofs.lemmas.List.FromFn.{length-range_with_len}
use Rattle.fd_gen.specs.Draws.{after_exchanges, state_after, draw_at}
use Rattle.fd_gen.proofs.Draws.{none_drawn, one_more, draw_is}
use Rattle.fd_gen.proofs.Draws.{none_exchanged, exchange_more, length-exchanges, permuted, left_more}
use Rattle.fd_gen.proofs.draw.Generator.draw_permutation.Goals as goal

pub loop-last-init : goal.loop-last-init
loop-last-init c =
    let none : c.args.size - c.args.size ≡ 0 = omega arith in
    record {
      state = none_drawn c.args.self.state ∙ ap (state_after c.args.self.state) (sym none);
      numbers = c.in_ok-numbers.ensures
          ∙ (none_exchanged c.args.self.state c.args.size ∙ ap (after_exchanges c.args.self.state c.args.size) (sym none));
      count = ap length c.in_ok-numbers.ensures ∙ length-range_with_len 1 c.args.size;
      above = omega arith;
    }

pub loop-last-preserved : goal.loop-last-preserved
loop-last-preserved c =
    let start = c.args.self.state in
    let size = c.args.size in
    let s = c.loop-last in
    let n : ℕ = size - s.last in
    let more : size - (s.last - 1) ≡ n + 1 = left_more size s.last c.loop-last-test.true s.auto.last in
    let next : c.draw.new.self.state ≡ state_after start (n + 1) =
    one_more start s.self.state c.draw.new.self.state n s.invariant.state c.draw.ensures.state in
    let number : c.draw.result ≡ draw_at start n = c.draw.ensures.number ∙ draw_is start c.draw.new.self.state n next in
    let left : c.from.result + 1 ≡ size - n = omega (arith, c.from.ensures, s.auto.last, c.loop-last-test.true) in
    let last : s.last - 1 ≡ size - n - 1 = omega (arith, s.auto.last, c.loop-last-test.true) in
    let numbers : c.swap.new.self.items ≡ after_exchanges start size (n + 1) =
    c.swap.ensures.items
    ∙ exchange_more start size n (s.last - 1) (c.draw.result % (c.from.result + 1)) s.numbers.items s.invariant.numbers
    last (ap₂ (λ a b. a % b) number left) in
    record {
      state = next ∙ ap (state_after start) (sym more);
      numbers = numbers ∙ ap (after_exchanges start size) (sym more);
      count = ap length numbers ∙ length-exchanges start size (n + 1);
      above = omega (arith, c.loop-last-test.true);
    }

pub returns : goal.returns
returns c =
    let size = c.args.size in
    let s = c.loop-last in
    permuted c.args.self.state size (size - s.last) s.numbers.items s.invariant.numbers
    (omega (arith, c.loop-last-test.false, s.invariant.above, s.auto.last))
