use Rattle.std.proofs.Common.{◌≡◌, ℕ, ◌-◌, Bool, true, false, IsTrue, ◌↔◌, length, refl, sym, ◌∙◌, subst, arith}
use Rattle.interval_graph.specs.Rows.{flow_of}
use Rattle.gnt_solver.specs.Columns.{col, at, size_of, uses_of}
use Rattle.gnt_solver.specs.Equations.{wants_of}
use Rattle.gnt_solver.specs.Passes.{IsT, ArePassed, AreSet}
use Rattle.gnt_solver.specs.Placed.{places_of}
use Rattle.gnt_solver.proofs.Marks.{long_col}
use Rattle.gnt_solver.proofs.Rows.{few, flow, last}
use Rattle.gnt_solver.proofs.Items.{any_within, is_good}
use Rattle.gnt_solver.proofs.Whole.{Found, IsFound, solution_of, solves_by, Put, IsPut, placed_by}
use Rattle.gnt_solver.proofs.solving.solve.Goals as goal

-- two tests of one fact are equal
same_test : (a b : Bool) (P : Type 0) → (IsTrue a ↔ P) → (IsTrue b ↔ P) → a ≡ b
same_test true true P h k = refl
same_test true false P h k = sym (k.1 (h.0 refl))
same_test false true P h k = h.1 (k.0 refl)
same_test false false P h k = refl

pub count-requires : goal.count-requires
count-requires c = omega (arith, few c.args.graph.now.rows.items c.requires.rows)

pub returns-clause-solved : goal.returns-clause-solved
returns-clause-solved c x =
    let rows = c.args.graph.now.rows.items in
    let e : c.count.result ≡ length rows = c.count.ensures in
    let s : Found = record {
      take = col c.args.take.now x;
      steal = col c.args.steal.now x;
      any = col c.in_ok-any.any x;
      st = col c.in_ok-st.st x;
      ti = col c.in_ok-ti.ti x;
      t = col c.in_ok-t.t x;
      eager = record { gi = col c.in_ok-eager.eager.gi x; g = col c.in_ok-eager.eager.g x; go = col c.in_ok-eager.eager.go x };
      lazy = record { gi = col c.in_ok-lazy.lazy.gi x; g = col c.in_ok-lazy.lazy.g x; go = col c.in_ok-lazy.lazy.go x };
    } in
    let p : Put = record {
      send_in = col c.in_ok-sends.sends.at_in x;
      send_out = col c.in_ok-sends.sends.at_out x;
      recv_in = col c.in_ok-recvs.recvs.at_in x;
      recv_out = col c.in_ok-recvs.recvs.at_out x;
      hoists = col c.in_ok-hoists.hoists x;
    } in
    let found : IsFound rows s = record {
      long_take = long_col c.args.take.now x ∙ c.requires.nodes;
      long_ti = long_col c.in_ok-ti.ti x ∙ (c.in_ok-ti.ensures.table.long ∙ e);
      long_t = long_col c.in_ok-t.t x ∙ (c.in_ok-t.ensures.table.long ∙ e);
      long_eager = record {
        gi = long_col c.in_ok-eager.eager.gi x ∙ (c.in_ok-eager.ensures.table_gi.long ∙ e);
        g = long_col c.in_ok-eager.eager.g x ∙ (c.in_ok-eager.ensures.table_g.long ∙ e);
        go = long_col c.in_ok-eager.eager.go x ∙ (c.in_ok-eager.ensures.table_go.long ∙ e);
      };
      long_lazy = record {
        gi = long_col c.in_ok-lazy.lazy.gi x ∙ (c.in_ok-lazy.ensures.table_gi.long ∙ e);
        g = long_col c.in_ok-lazy.lazy.g x ∙ (c.in_ok-lazy.ensures.table_g.long ∙ e);
        go = long_col c.in_ok-lazy.lazy.go x ∙ (c.in_ok-lazy.ensures.table_go.long ∙ e);
      };
      st = c.in_ok-st.ensures.is x;
      ti = c.in_ok-ti.ensures.is x (at s.any);
      t = subst (λ (n : ℕ). IsT rows (at s.take) (at s.st) (at s.any) (at s.ti) (at s.t) n) e (c.in_ok-t.ensures.is x);
      eager = subst (λ (n : ℕ). ArePassed rows s.st s.ti s.ti s.eager.gi s.eager.g s.eager.go n) e (c.in_ok-eager.ensures.passed x);
      lazy = subst (λ (n : ℕ). ArePassed rows s.st s.ti s.t s.lazy.gi s.lazy.g s.lazy.go n) e (c.in_ok-lazy.ensures.passed x);
    } in
    let put : IsPut rows s p = record {
      long_send_in = long_col c.in_ok-sends.sends.at_in x ∙ (c.in_ok-sends.ensures.table_in.long ∙ e);
      long_send_out = long_col c.in_ok-sends.sends.at_out x ∙ (c.in_ok-sends.ensures.table_out.long ∙ e);
      long_recv_in = long_col c.in_ok-recvs.recvs.at_in x ∙ (c.in_ok-recvs.ensures.table_in.long ∙ e);
      long_recv_out = long_col c.in_ok-recvs.recvs.at_out x ∙ (c.in_ok-recvs.ensures.table_out.long ∙ e);
      long_hoists = long_col c.in_ok-hoists.hoists x ∙ (c.in_ok-hoists.ensures.table.long ∙ e);
      sends = subst (λ (n : ℕ). AreSet rows s.eager.gi s.eager.g s.eager.go p.send_in p.send_out n) e (c.in_ok-sends.ensures.set x);
      recvs = subst (λ (n : ℕ). AreSet rows s.lazy.gi s.lazy.g s.lazy.go p.recv_in p.recv_out n) e (c.in_ok-recvs.ensures.set x);
      hoists = λ n lt. c.in_ok-hoists.ensures.is x n (omega (arith, lt, e));
    } in
    let uses = uses_of c.args.take.now c.args.steal.now in
    let any = λ (n : ℕ). same_test (at s.any n) ((wants_of (flow_of rows) uses x).any n) _ (c.in_ok-any.ensures.is x n (omega arith)) (any_within (flow_of rows) uses.take x n) in (
      solution_of rows s,
      solves_by rows s (wants_of (flow_of rows) uses x) c.requires.rows found (λ n. refl) (λ n. refl) any,
      placed_by rows s (wants_of (flow_of rows) uses x).any p found put,
    )

pub returns-clause-good : goal.returns-clause-good
returns-clause-good c =
    let rows = c.args.graph.now.rows.items in
    is_good (record {
      graph = flow_of rows;
      items = (size_of c.args.take.now).items;
      uses = uses_of c.args.take.now c.args.steal.now;
      places = places_of (record { send_in = c.in_ok-sends.sends.at_in; send_out = c.in_ok-sends.sends.at_out; recv_in = c.in_ok-recvs.recvs.at_in; recv_out = c.in_ok-recvs.recvs.at_out; hoists = c.in_ok-hoists.hoists });
    }) (length rows - 1) (flow rows c.requires.rows) (last rows c.requires.rows) (returns-clause-solved c)
