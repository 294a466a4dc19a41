-- The machine follows every statement whose nodes stand in the code.
use Rattle.std.proofs.Common.{◌≡◌, ◌==◌, ℕ, suc, ◌+◌, false, length, refl, ap, subst, arith}
use Rattle.std.proofs.lemmas.Bool.Decides.{nat_tests}
use Rattle.fd_base.specs.declared.numbering.Line.{Line}
use Rattle.fd_prog.specs.Conditions.{Condition}
use Rattle.fd_prog.specs.Nodes as nodes
use Rattle.fd_prog.specs.Nodes.{Node, nodes_in, nodes_among, nodes_from, all_nodes_from}
use Rattle.fd_prog.specs.Sequence.{after, after_all}
use Rattle.fd_prog.specs.Statements.{Statement, Assign, If, Do, While, Read, Print, Continue, Distribute, Statements, Empty, Then}
use Rattle.exec_code.specs.Instructions.{task_of}
use Rattle.exec_code.proofs.Trips.{standing, arrives, trip_then}
use Rattle.interval_graph.proofs.Laid.{length_nodes, length_all}
use Rattle.executor_gen.proofs.Trailing.{Lay, Along, Coming}
use Rattle.executor_gen.proofs.Standing.{Stands, StandAll, stand_at, stand_first, stand_then, hop_to, hop_then, pad_hop, join_hop, yes_hop, has_simple, has_branch}
use Rattle.executor_gen.proofs.Following.{Follows, FollowsAll, follows_assign, follows_read, follows_print, follows_continue, follows_distribute, follows_fork, follows_between, follows_do, follows_while}

follows_to : (l : Lay) (a b c : ℕ) (s : Statement) → b ≡ c → Follows l a b s → Follows l a c s
follows_to l a b c s e h = subst (λ (x : ℕ). Follows l a x s) e h

follows_all_at : (l : Lay) (a b c d : ℕ) (ss : Statements) → a ≡ c → b ≡ d → FollowsAll l a b ss → FollowsAll l c d ss
follows_all_at l a b c d ss e f h = subst (λ (x : ℕ). FollowsAll l c x ss) f (subst (λ (x : ℕ). FollowsAll l x b ss) e h)

-- an IF by its nodes
fork_follows : (l : Lay) (a m k : ℕ) (line : Line) (c : Condition) (so otherwise : Statements) → length (all_nodes_from (a + 2) so) ≡ m → length (all_nodes_from (a + m + 4) otherwise) ≡ k
    → (StandAll l (a + 2) (all_nodes_from (a + 2) so) → FollowsAll l (a + 2) (a + 2 + m) so)
    → (StandAll l (a + m + 4) (all_nodes_from (a + m + 4) otherwise) → FollowsAll l (a + m + 4) (a + m + 4 + k) otherwise)
    → StandAll l a (nodes.fork_from a line c m (λ b. all_nodes_from b so) k (λ b. all_nodes_from b otherwise)) → Follows l a (a + (m + k + 6)) (If line c so otherwise)
fork_follows l a m k line c so otherwise lm lk left right h =
    let yes_nodes = all_nodes_from (a + 2) so in
    let no_nodes = all_nodes_from (a + m + 4) otherwise in
    let b = a + (m + k + 6) in
    let join = a + m + k + 5 in
    let behind_yes = stand_then l (suc (suc a)) (a + m + 2) yes_nodes _ (omega (arith, lm)) h.1.1 in
    let behind_pad = stand_at l (suc (suc (a + m + 2))) (a + m + 4) _ (omega arith) behind_yes.1.1 in
    let behind_no = stand_then l (a + m + 4) (a + m + 4 + k) no_nodes _ (omega (arith, lk)) behind_pad in
    let on_yes = left (stand_at l (suc (suc a)) (a + 2) yes_nodes (omega arith) (stand_first l (suc (suc a)) yes_nodes _ h.1.1)) in
    let on_no = right (stand_first l (a + m + 4) no_nodes _ behind_pad) in
    let apart : (a + m + 3 == suc a) ≡ false = grind (arith, nat_tests) in
    let e1 : suc (suc a) ≡ a + 2 = omega arith in
    let e2 : suc join ≡ b = omega arith in
    let e3 : suc (a + m + 3) ≡ a + m + 4 = omega arith in
    let e4 : suc (a + m + 2) ≡ a + m + 3 = omega arith in
    let e5 : suc (a + m + 4 + k) ≡ join = omega arith in
    let e6 : a + 2 + m ≡ a + m + 2 = omega arith in
    let e7 : a + m + k + 5 ≡ join = omega arith in
    let at_join : Stands l join line nodes.Join = subst (λ (x : ℕ). Stands l x line nodes.Join) e5 behind_no.1.0 in
    let no_pad : Stands l (a + m + 3) line nodes.Pad = subst (λ (x : ℕ). Stands l x line nodes.Pad) e4 behind_yes.1.0 in
    let after_join = hop_to l join (suc join) b e2 (join_hop l join line at_join) in
    follows_fork l a (a + m + 3) b line c so otherwise (has_branch l a line c (a + m + 3) apart h.0)
    (follows_between l (suc a) (a + 2) (a + m + 2) b so (hop_to l (suc a) (suc (suc a)) (a + 2) e1 (pad_hop l (suc a) line h.1.0)) (follows_all_at l (a + 2) (a + 2 + m) (a + 2) (a + m + 2) so refl e6 on_yes)
    (hop_then l (a + m + 2) join b (yes_hop l (a + m + 2) join line (subst (λ (x : ℕ). Stands l (a + m + 2) line (nodes.YesEnd x)) e7 behind_yes.0)) after_join))
    (follows_between l (a + m + 3) (a + m + 4) (a + m + 4 + k) b otherwise (hop_to l (a + m + 3) (suc (a + m + 3)) (a + m + 4) e3 (pad_hop l (a + m + 3) line no_pad)) on_no
    (hop_then l (a + m + 4 + k) join b (hop_to l (a + m + 4 + k) (suc (a + m + 4 + k)) join e5 (pad_hop l (a + m + 4 + k) line behind_no.0)) after_join))

-- a loop by its nodes
loop_parts : (l : Lay) (a m : ℕ) (line : Line) (s : Statement) (body : Statements) → length (all_nodes_from (a + 2) body) ≡ m
    → (StandAll l (a + 2) (all_nodes_from (a + 2) body) → FollowsAll l (a + 2) (a + 2 + m) body)
    → StandAll l a (nodes.loop_from a line s m (λ b. all_nodes_from b body))
    → Stands l a line (nodes.Loop s (a + m + 2)) × Stands l (suc a) line nodes.Pad × Stands l (a + m + 2) line (nodes.Latch s a) × FollowsAll l (suc (suc a)) (a + m + 2) body
loop_parts l a m line s body lm inside h =
    let inner = all_nodes_from (a + 2) body in
    let behind = stand_then l (suc (suc a)) (a + m + 2) inner _ (omega (arith, lm)) h.1.1 in
    let on = inside (stand_at l (suc (suc a)) (a + 2) inner (omega arith) (stand_first l (suc (suc a)) inner _ h.1.1)) in
    (h.0, h.1.0, behind.0, follows_all_at l (a + 2) (a + 2 + m) (suc (suc a)) (a + m + 2) body (omega arith) (omega arith) on)

mutual
  -- a statement whose nodes stand in the code
  pub follows : (l : Lay) (s : Statement) (a : ℕ) → StandAll l a (nodes_from a s) → Follows l a (a + nodes_in s) s
  follows l (Assign line target e) a h = follows_to l a (suc a) (a + 1) (Assign line target e) (omega arith) (follows_assign l a line target e (has_simple l a line (Assign line target e) h.0))
  follows l (If line c so otherwise) a h =
      fork_follows l a (nodes_among so) (nodes_among otherwise) line c so otherwise (length_all (a + 2) so) (length_all (a + nodes_among so + 4) otherwise)
      (follows_all l so (a + 2)) (follows_all l otherwise (a + nodes_among so + 4)) h
  follows l (Do line var first last by body) a h =
      let x = loop_parts l a (nodes_among body) line (Do line var first last by body) body (length_all (a + 2) body) (follows_all l body (a + 2)) h in
      follows_do l a (a + nodes_among body + 2) (a + (nodes_among body + 3)) line var first last by body (omega arith) x.0 x.1 x.2 x.3
  follows l (While line c body) a h =
      let x = loop_parts l a (nodes_among body) line (While line c body) body (length_all (a + 2) body) (follows_all l body (a + 2)) h in
      follows_while l a (a + nodes_among body + 2) (a + (nodes_among body + 3)) line c body (omega arith) x.0 x.1 x.2 x.3
  follows l (Read line target) a h = follows_to l a (suc a) (a + 1) (Read line target) (omega arith) (follows_read l a line target (has_simple l a line (Read line target) h.0))
  follows l (Print line items) a h = follows_to l a (suc a) (a + 1) (Print line items) (omega arith) (follows_print l a line items (has_simple l a line (Print line items) h.0))
  follows l (Continue line) a h = follows_to l a (suc a) (a + 1) (Continue line) (omega arith) (follows_continue l a line (has_simple l a line (Continue line) h.0))
  follows l (Distribute line decomp given) a h = follows_to l a (suc a) (a + 1) (Distribute line decomp given) (omega arith) (follows_distribute l a line decomp given (has_simple l a line (Distribute line decomp given) h.0))

  pub follows_all : (l : Lay) (ss : Statements) (a : ℕ) → StandAll l a (all_nodes_from a ss) → FollowsAll l a (a + nodes_among ss) ss
  follows_all l Empty a h = follows_all_at l a a a (a + 0) Empty refl (omega arith) (λ now places loops ms coming. arrives now places ms coming)
  follows_all l (Then s ss) a h =
      let b = a + nodes_in s in
      let e : a + length (nodes_from a s) ≡ b = ap (λ n. a + n) (length_nodes a s) in
      let x = follows l s a (stand_first l a (nodes_from a s) _ h) in
      let y = follows_all l ss b (stand_then l a b (nodes_from a s) _ e h) in
      let t = task_of l.job in
      follows_all_at l a (b + nodes_among ss) a (a + (nodes_in s + nodes_among ss)) (Then s ss) refl (omega arith)
      (λ now places loops ms coming. trip_then l.job (Along l) (l.place b) loops (Coming l b) (l.place (b + nodes_among ss)) loops (Coming l (b + nodes_among ss)) (standing (l.place a) now places loops) ms (after t s now) (after_all t ss)
      (x now places loops ms coming) (λ n ps xs come later. y n ps loops xs come))
