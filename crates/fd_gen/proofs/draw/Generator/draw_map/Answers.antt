use Rattle.std.proofs.Common.{◌≡◌, ◌+◌, ℕ, ◌∙◌}
use Rattle.fd_gen.specs.Draws.{state_after, draw_at}
use Rattle.fd_gen.proofs.Draws.{none_drawn, one_more, draw_is, value_more}
use Rattle.fd_gen.proofs.draw.Generator.draw_map.Goals as goal

pub loop-n-init : goal.loop-n-init
loop-n-init c = record { state = none_drawn c.args.self.now.state; values = c.in_ok-values.ensures.items }

pub loop-n-preserved : goal.loop-n-preserved
loop-n-preserved c =
    let start = c.args.self.now.state in
    let s = c.loop-n in
    let next : c.draw.new.self.state ≡ state_after start (s.n + 1) =
    one_more start s.self.state c.draw.new.self.state s.n s.invariant.state c.draw.ensures.state in
    let number : c.draw.result ≡ draw_at start s.n =
    ◌∙◌ {A = ℕ} c.draw.ensures.number (draw_is start c.draw.new.self.state s.n next) in
    record {
      state = next;
      values = c.in_ok-push.ensures.items ∙ value_more start c.draw.result s.n s.values.items number s.invariant.values;
    }
