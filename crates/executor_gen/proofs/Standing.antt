-- Nodes whose blocks stand in the code, and what the machine does in the blocks that make no step.
use Rattle.std.proofs.Common.{◌≡◌, ℕ, suc, ◌+◌, Bool, true, false, List, [], ◌∷◌, ◌++◌, map, length, Some, None, refl, sym, ap, ◌∙◌, subst, arith, length-append, append_assoc}
use Rattle.std.specs.Prelude.{IsTrue, ◌==◌, ◌||◌}
use Rattle.std.proofs.lemmas.Bool.{eq-eqb}
use Rattle.fd_base.specs.declared.numbering.Line.{Line}
use Rattle.fd_prog.specs.Conditions.{Condition}
use Rattle.fd_prog.specs.Flow.{FlowGraph, leads, way_of, is_around, latch_in}
use Rattle.fd_prog.specs.Nodes as nodes
use Rattle.fd_prog.specs.Nodes.{Role, Node, node_at, at_line}
use Rattle.fd_prog.specs.Sequence.{Progress, Onward}
use Rattle.fd_prog.specs.Statements.{Statement}
use Rattle.fd_prog.specs.Uses.{name_stolen}
use Rattle.exec_code.specs.Instructions.{Instruction, Jump, Test}
use Rattle.fd_prog.specs.Mappings.{Mapping}
use Rattle.exec_code.specs.Machine.{OpenLoop, Configuration, instruction_at, line_at}
use Rattle.exec_code.specs.Passing.{Mark, Makes, Decides, step_events}
use Rattle.exec_code.specs.Trails.{distributes_before, simple_doing, loop_doings, again_doings, doings, doings_again, decisions, deciding, arriving, leaving, returning}
use Rattle.exec_code.proofs.Trips.{standing, arrives, goes, notes, faults}
use Rattle.executor_gen.specs.Layout.{at_in, at_out, simple, beginning, test_offset, block}
use Rattle.executor_gen.specs.Uses.{role_sites, simple_sites, loop_sites, latch_sites, IsPlanOf}
use Rattle.executor_gen.proofs.Trailing.{Lay, At, Coming, Aim, Towards, append_none, at_same, goes_forward, goes_on, goes_in, goes_back, arriving_is, arriving_quiet, in_marks}
use Rattle.executor_gen.proofs.Skipping.{Go, Has, has_first, has_then, Skips, skips_to, skips_then, skips_jump, skips_in, skips_out}

-- a node has this line and role, its block stands at its position, and behind it that of the next
pub record Stands (l : Lay) (n : ℕ) (line : Line) (role : Role) : Type 0 where
  pub is : node_at l.nodes n ≡ at_line line role
  pub has : Has l.job (l.place n) line (block l.plan l.place (distributes_before l.nodes n) n role)
  pub next : l.place (suc n) ≡ l.place n + length (block l.plan l.place (distributes_before l.nodes n) n role)
  pub fits : IsPlanOf l.job l.nodes l.plan

-- the nodes of a list stand from a number on
abbrev pub StandAll : Lay → ℕ → List Node → Type 0
StandAll l a [] = Unit {0}
StandAll l a (node ∷ ns) = Stands l a node.line node.role × StandAll l (suc a) ns

pub stand_at : (l : Lay) (a b : ℕ) (ns : List Node) → a ≡ b → StandAll l a ns → StandAll l b ns
stand_at l a b ns e h = subst (λ (x : ℕ). StandAll l x ns) e h

pub stand_first : (l : Lay) (a : ℕ) (xs ys : List Node) → StandAll l a (xs ++ ys) → StandAll l a xs
stand_first l a [] ys h = tt
stand_first l a (x ∷ xs) ys h = (h.0, stand_first l (suc a) xs ys h.1)

pub stand_then : (l : Lay) (a b : ℕ) (xs ys : List Node) → a + length xs ≡ b → StandAll l a (xs ++ ys) → StandAll l b ys
stand_then l a b [] ys e h = stand_at l a b ys (omega (arith, e)) h
stand_then l a b (x ∷ xs) ys e h = stand_then l (suc a) b xs ys (omega (arith, e)) h.1

-- ---- edges

-- a Forward edge of a node that stands
forward_by : (l : Lay) (n s : ℕ) (line : Line) (role : Role) → Stands l n line role → IsTrue (leads (way_of role) n s) → IsTrue (l.plan.graph.forward n s)
forward_by l n s line role h e =
    ap (λ (g : FlowGraph). g.forward n s) h.fits.graph ∙ ap (λ (m : Node). leads (way_of m.role) n s) h.is ∙ e

-- and what it decides
decides_by : (l : Lay) (n s : ℕ) (line : Line) (role : Role) → Stands l n line role → deciding l.nodes n s ≡ decisions (way_of role) n s
decides_by l n s line role h = ap (λ (m : Node). decisions (way_of m.role) n s) h.is

around : (l : Lay) (n latch : ℕ) (line : Line) (s : Statement) → Stands l n line (nodes.Loop s latch) → IsTrue (l.plan.graph.is_loop n)
around l n latch line s h = ap (λ (g : FlowGraph). g.is_loop n) h.fits.graph ∙ ap (λ (m : Node). is_around (way_of m.role)) h.is

latch_is : (l : Lay) (n latch : ℕ) (line : Line) (s : Statement) → Stands l n line (nodes.Loop s latch) → latch ≡ l.plan.graph.latch n
latch_is l n latch line s h = sym (ap (λ (g : FlowGraph). g.latch n) h.fits.graph ∙ ap (λ (m : Node). latch_in (way_of m.role)) h.is)

or_true : (b : Bool) → (b || true) ≡ true
or_true true = refl
or_true false = refl

-- ---- hops

-- from the block of one node the machine comes to that of another, along a trail
pub record Hop (l : Lay) (n s : ℕ) : Type 0 where
  pub passed : List Mark
  pub skip : Skips l (l.place n) (l.place s) passed
  pub pass : (ms : List Mark) → Coming l n ms → Coming l s (ms ++ passed)

pub hop_to : (l : Lay) (n s r : ℕ) → s ≡ r → Hop l n s → Hop l n r
hop_to l n s r e h = subst (λ (x : ℕ). Hop l n x) e h

pub hop_then : (l : Lay) (n s r : ℕ) → Hop l n s → Hop l s r → Hop l n r
hop_then l n s r h k = record {
  passed = h.passed ++ k.passed;
  skip = skips_then l (l.place n) (l.place s) (l.place r) h.passed k.passed h.skip k.skip;
  pass = λ ms c. subst (λ (x : List Mark). Coming l r x) (append_assoc ms h.passed k.passed) (k.pass (ms ++ h.passed) (h.pass ms c));
}

-- a hop before a trip
pub hop_on : (l : Lay) (n s : ℕ) → Hop l n s → (to : ℕ) (outer : List OpenLoop) (aim : Aim) (loops : List OpenLoop) (now : Progress) (mapping : Mapping) (ms : List Mark) (o : Onward) → Coming l n ms
    → ((xs : List Mark) → Coming l s xs → Go l to outer aim (standing (l.place s) now mapping loops) xs o) → Go l to outer aim (standing (l.place n) now mapping loops) ms o
hop_on l n s h to outer aim loops now mapping ms o coming further = h.skip to outer aim loops now mapping ms o (further (ms ++ h.passed) (h.pass ms coming))

-- a hop behind a trip
pub trip_hop : (l : Lay) (n s : ℕ) (loops : List OpenLoop) (c : Configuration) (ms : List Mark) (o : Onward) → Hop l n s → Go l (l.place n) loops (Towards n) c ms o → Go l (l.place s) loops (Towards s) c ms o
trip_hop l n s loops c ms o h (arrives now mapping xs fine) = h.skip (l.place s) loops (Towards s) loops now mapping xs _ (arrives now mapping (xs ++ h.passed) (h.pass xs fine))
trip_hop l n s loops c ms o h (goes d e rest) = goes d e (trip_hop l n s loops d _ o h rest)
trip_hop l n s loops c ms o h (notes d p kind e rest) = notes d p kind e (trip_hop l n s loops d _ p h rest)
trip_hop l n s loops c ms o h (faults kind e fine) = faults kind e fine

-- on arrival at a node where nothing is read, changed or made
pub quiet_at : (l : Lay) (n : ℕ) (ms : List Mark) → arriving l.plan l.nodes n ≡ in_marks l n → Coming l n ms → At l n (ms ++ in_marks l n)
quiet_at l n ms e h = at_same l n (ms ++ arriving l.plan l.nodes n) (ms ++ in_marks l n) (ap (λ x. ms ++ x) e) h

-- a block of operations alone
both_hop : (l : Lay) (n : ℕ) (line : Line) (role : Role) → Stands l n line role → arriving l.plan l.nodes n ≡ in_marks l n → IsTrue (leads (way_of role) n (suc n)) → decisions (way_of role) n (suc n) ≡ []
    → Has l.job (l.place n) line (at_in l.plan n ++ at_out l.plan n) → l.place (suc n) ≡ l.place n + length (at_in l.plan n ++ at_out l.plan n) → Hop l n (suc n)
both_hop l n line role h still leads_on silent has next =
    let ins = at_in l.plan n in
    let outs = at_out l.plan n in
    let a = l.place n in
    let e : a + length ins + length outs ≡ l.place (suc n) = omega (arith, next, length-append ins outs) in
    record {
      passed = in_marks l n ++ leaving l.plan n;
      skip = skips_to l a (a + length ins + length outs) (l.place (suc n)) (in_marks l n ++ leaving l.plan n) e
          (skips_then l a (a + length ins) (a + length ins + length outs) (in_marks l n) (leaving l.plan n)
          (skips_in l n a line (has_first l.job a line ins outs has))
          (skips_out l n (a + length ins) line (has_then l.job a line ins outs has)));
      pass = λ ms c. subst (λ (x : List Mark). Coming l (suc n) x) (append_assoc ms (in_marks l n) (leaving l.plan n))
          (goes_on l n (suc n) (ms ++ in_marks l n) (decides_by l n (suc n) line role h ∙ silent) (forward_by l n (suc n) line role h leads_on) (quiet_at l n ms still c));
    }

pub start_hop : (l : Lay) (n : ℕ) (line : Line) → Stands l n line nodes.Start → Hop l n (suc n)
start_hop l n line h = both_hop l n line nodes.Start h (arriving_quiet l n line nodes.Start h.fits h.is refl refl refl) (eq-eqb (suc n) (suc n) refl) refl h.has h.next

pub pad_hop : (l : Lay) (n : ℕ) (line : Line) → Stands l n line nodes.Pad → Hop l n (suc n)
pad_hop l n line h = both_hop l n line nodes.Pad h (arriving_quiet l n line nodes.Pad h.fits h.is refl refl refl) (eq-eqb (suc n) (suc n) refl) refl h.has h.next

pub join_hop : (l : Lay) (n : ℕ) (line : Line) → Stands l n line nodes.Join → Hop l n (suc n)
join_hop l n line h = both_hop l n line nodes.Join h (arriving_quiet l n line nodes.Join h.fits h.is refl refl refl) (eq-eqb (suc n) (suc n) refl) refl h.has h.next

-- the last pad of a yes side leads to the Join
pub yes_hop : (l : Lay) (n join : ℕ) (line : Line) → Stands l n line (nodes.YesEnd join) → Hop l n join
yes_hop l n join line h =
    let j = l.job in
    let ins = at_in l.plan n in
    let outs = at_out l.plan n in
    let last : List Instruction = Jump (l.place join) ∷ [] in
    let a = l.place n in
    let out_marks = leaving l.plan n in
    let rest = has_then j a line ins (outs ++ last) h.has in
    let jump = has_then j (a + length ins) line outs last rest in
    record {
      passed = in_marks l n ++ (out_marks ++ []);
      skip = skips_then l a (a + length ins) (l.place join) (in_marks l n) (out_marks ++ []) (skips_in l n a line (has_first j a line ins (outs ++ last) h.has))
          (skips_then l (a + length ins) (a + length ins + length outs) (l.place join) out_marks []
          (skips_out l n (a + length ins) line (has_first j (a + length ins) line outs last rest))
          (skips_jump l (a + length ins + length outs) (l.place join) line jump.0 jump.1));
      pass = λ ms c. subst (λ (x : List Mark). Coming l join x) (append_assoc ms (in_marks l n) out_marks ∙ ap (λ x. ms ++ (in_marks l n ++ x)) (sym (append_none out_marks)))
          (goes_on l n join (ms ++ in_marks l n) (decides_by l n join line (nodes.YesEnd join) h) (forward_by l n join line (nodes.YesEnd join) h (eq-eqb join join refl))
          (quiet_at l n ms (arriving_quiet l n line (nodes.YesEnd join) h.fits h.is refl refl refl) c));
    }

-- on arrival at a node, in two parts
arrive_at : (l : Lay) (n : ℕ) (line : Line) (role : Role) → Stands l n line role → (ms : List Mark) → Coming l n ms
    → At l n ((ms ++ in_marks l n) ++ (step_events l.job (role_sites role) (name_stolen role) ++ map Makes (doings (distributes_before l.nodes n) line role)))
arrive_at l n line role h ms c =
    let rest = step_events l.job (role_sites role) (name_stolen role) ++ map Makes (doings (distributes_before l.nodes n) line role) in
    at_same l n (ms ++ arriving l.plan l.nodes n) ((ms ++ in_marks l n) ++ rest) (ap (λ x. ms ++ x) (arriving_is l n line role h.fits h.is) ∙ sym (append_assoc ms (in_marks l n) rest)) c

-- ---- blocks with steps

-- what stands in the block of a simple statement
pub record HasSimple (l : Lay) (n : ℕ) (line : Line) (s : Statement) : Type 0 where
  pub at : ℕ
  pub into : Skips l (l.place n) at (in_marks l n)
  pub here : instruction_at l.job at ≡ Some (simple (distributes_before l.nodes n) s)
  pub line_is : line_at l.job at ≡ line
  pub out : Skips l (suc at) (l.place (suc n)) (leaving l.plan n)
  pub arrive : (ms : List Mark) → Coming l n ms → At l n ((ms ++ in_marks l n) ++ (step_events l.job (simple_sites s) (name_stolen (nodes.Simple s)) ++ (Makes (simple_doing (distributes_before l.nodes n) s) ∷ [])))
  pub leave : (ms : List Mark) → At l n ms → Coming l (suc n) (ms ++ leaving l.plan n)

pub has_simple : (l : Lay) (n : ℕ) (line : Line) (s : Statement) → Stands l n line (nodes.Simple s) → HasSimple l n line s
has_simple l n line s h =
    let j = l.job in
    let ins = at_in l.plan n in
    let outs = at_out l.plan n in
    let rest : List Instruction = simple (distributes_before l.nodes n) s ∷ outs in
    let a = l.place n in
    let later = has_then j a line ins rest h.has in
    let e : suc (a + length ins) + length outs ≡ l.place (suc n) = omega (arith, h.next, length-append ins rest) in
    record {
      at = a + length ins;
      into = skips_in l n a line (has_first j a line ins rest h.has);
      here = later.0;
      line_is = later.1;
      out = skips_to l (suc (a + length ins)) (suc (a + length ins) + length outs) (l.place (suc n)) (leaving l.plan n) e (skips_out l n (suc (a + length ins)) line later.2);
      arrive = arrive_at l n line (nodes.Simple s) h;
      leave = λ ms x. goes_on l n (suc n) ms (decides_by l n (suc n) line (nodes.Simple s) h) (forward_by l n (suc n) line (nodes.Simple s) h (eq-eqb (suc n) (suc n) refl)) x;
    }

-- what stands in the block of a Branch
pub record HasBranch (l : Lay) (n : ℕ) (line : Line) (c : Condition) (no_side : ℕ) : Type 0 where
  pub at : ℕ
  pub other : ℕ
  pub into : Skips l (l.place n) at (in_marks l n)
  pub here : instruction_at l.job at ≡ Some (Test c other)
  pub line_is : line_at l.job at ≡ line
  pub yes_way : Skips l (suc at) (l.place (suc n)) (leaving l.plan n ++ [])
  pub no_way : Skips l other (l.place no_side) (leaving l.plan n ++ [])
  pub arrive : (ms : List Mark) → Coming l n ms
      → At l n ((ms ++ in_marks l n) ++ (step_events l.job (role_sites (nodes.Branch c no_side)) None ++ map Makes (doings (distributes_before l.nodes n) line (nodes.Branch c no_side))))
  pub leave_yes : (ms : List Mark) → At l n ms → Coming l (suc n) ((ms ++ (Decides true ∷ [])) ++ (leaving l.plan n ++ []))
  pub leave_no : (ms : List Mark) → At l n ms → Coming l no_side ((ms ++ (Decides false ∷ [])) ++ (leaving l.plan n ++ []))

pub has_branch : (l : Lay) (n : ℕ) (line : Line) (c : Condition) (no_side : ℕ) → (no_side == suc n) ≡ false → Stands l n line (nodes.Branch c no_side) → HasBranch l n line c no_side
has_branch l n line c no_side apart h =
    let j = l.job in
    let ins = at_in l.plan n in
    let outs = at_out l.plan n in
    let out_marks = leaving l.plan n in
    let a = l.place n in
    let to_no : List Instruction = Jump (l.place no_side) ∷ [] in
    let no_block : List Instruction = outs ++ to_no in
    let to_yes : List Instruction = Jump (l.place (suc n)) ∷ no_block in
    let other = a + length ins + length outs + 2 in
    let rest : List Instruction = Test c other ∷ (outs ++ to_yes) in
    let test = has_then j a line ins rest h.has in
    let q = a + length ins in
    let jump = has_then j (suc q) line outs to_yes test.2 in
    let e : suc (suc q + length outs) ≡ other = omega arith in
    let no_has : Has j other line no_block = subst (λ (x : ℕ). Has j x line no_block) e jump.2 in
    let last = has_then j other line outs to_no no_has in
    let role = nodes.Branch c no_side in
    record {
      at = q;
      other = other;
      into = skips_in l n a line (has_first j a line ins rest h.has);
      here = test.0;
      line_is = test.1;
      yes_way = skips_then l (suc q) (suc q + length outs) (l.place (suc n)) out_marks [] (skips_out l n (suc q) line (has_first j (suc q) line outs to_yes test.2)) (skips_jump l (suc q + length outs) (l.place (suc n)) line jump.0 jump.1);
      no_way = skips_then l other (other + length outs) (l.place no_side) out_marks [] (skips_out l n other line (has_first j other line outs to_no no_has)) (skips_jump l (other + length outs) (l.place no_side) line last.0 last.1);
      arrive = arrive_at l n line role h;
      leave_yes = λ ms x. subst (λ (y : List Mark). Coming l (suc n) ((ms ++ (Decides true ∷ [])) ++ y)) (sym (append_none out_marks))
          (goes_forward l n (suc n) (Decides true ∷ []) ms (decides_by l n (suc n) line role h ∙ ap (λ b. Decides b ∷ []) (eq-eqb (suc n) (suc n) refl)) (forward_by l n (suc n) line role h (ap (λ b. b || (suc n == no_side)) (eq-eqb (suc n) (suc n) refl))) x);
      leave_no = λ ms x. subst (λ (y : List Mark). Coming l no_side ((ms ++ (Decides false ∷ [])) ++ y)) (sym (append_none out_marks))
          (goes_forward l n no_side (Decides false ∷ []) ms (decides_by l n no_side line role h ∙ ap (λ b. Decides b ∷ []) apart) (forward_by l n no_side line role h (ap (λ b. (no_side == suc n) || b) (eq-eqb no_side no_side refl) ∙ or_true (no_side == suc n))) x);
    }

-- what stands in the block of a Loop: the beginning, behind the operations; and behind it the body's first pad
pub record HasLoop (l : Lay) (n : ℕ) (line : Line) (s : Statement) (latch : ℕ) : Type 0 where
  pub into : Skips l (l.place n) (l.place n + length (at_in l.plan n)) (in_marks l n)
  pub here : Has l.job (l.place n + length (at_in l.plan n)) line (beginning s (l.place latch + length (at_in l.plan latch) + 1))
  pub next : l.place n + length (at_in l.plan n) + length (beginning s (l.place latch + length (at_in l.plan latch) + 1)) ≡ l.place (suc n)
  pub arrive : (ms : List Mark) → Coming l n ms → At l n ((ms ++ in_marks l n) ++ (step_events l.job (loop_sites s) (name_stolen (nodes.Loop s latch)) ++ map Makes (loop_doings line s)))
  pub enter : (ms : List Mark) → At l n ms → Coming l (suc n) (ms ++ (Decides true ∷ []))
  pub leave : (ms : List Mark) → At l n ms → Coming l (suc latch) ((ms ++ (Decides false ∷ [])) ++ leaving l.plan n)

pub has_loop : (l : Lay) (n : ℕ) (line : Line) (s : Statement) (latch : ℕ) → Stands l n line (nodes.Loop s latch) → HasLoop l n line s latch
has_loop l n line s latch h =
    let j = l.job in
    let ins = at_in l.plan n in
    let a = l.place n in
    let rest : List Instruction = beginning s (l.place latch + length (at_in l.plan latch) + 1) in
    record {
      into = skips_in l n a line (has_first j a line ins rest h.has);
      here = has_then j a line ins rest h.has;
      next = omega (arith, h.next, length-append ins rest);
      arrive = arrive_at l n line (nodes.Loop s latch) h;
      enter = λ ms x. goes_in l n ms (around l n latch line s h) x;
      leave = λ ms x. goes_forward l n (suc latch) (Decides false ∷ []) ms (decides_by l n (suc latch) line (nodes.Loop s latch) h) (forward_by l n (suc latch) line (nodes.Loop s latch) h (eq-eqb (suc latch) (suc latch) refl)) x;
    }

-- what stands in the block of a Latch: the way back to the later tests, and that on behind the loop
pub record HasLatch (l : Lay) (n : ℕ) (line : Line) (s : Statement) (loop : ℕ) : Type 0 where
  pub back : Skips l (l.place n) (l.place loop + length (at_in l.plan loop) + test_offset s) (in_marks l n ++ [])
  pub out : Skips l (l.place n + length (at_in l.plan n) + 1) (l.place (suc n)) (leaving l.plan loop)
  pub return : (ms : List Mark) → Coming l n ms → At l loop ((ms ++ (in_marks l n ++ [])) ++ (step_events l.job (latch_sites s) (name_stolen (nodes.Latch s loop)) ++ map Makes (again_doings line s)))

pub has_latch : (l : Lay) (n : ℕ) (line : Line) (s : Statement) (loop : ℕ) → Stands l n line (nodes.Latch s loop) → Stands l loop line (nodes.Loop s n) → HasLatch l n line s loop
has_latch l n line s loop h k =
    let j = l.job in
    let ins = at_in l.plan n in
    let outs = at_out l.plan loop in
    let a = l.place n in
    let test = l.place loop + length (at_in l.plan loop) + test_offset s in
    let rest : List Instruction = Jump test ∷ outs in
    let later = has_then j a line ins rest h.has in
    let q = a + length ins + 1 in
    let e : suc (a + length ins) ≡ q = omega arith in
    let f : q + length outs ≡ l.place (suc n) = omega (arith, h.next, length-append ins rest) in
    let events = step_events j (latch_sites s) (name_stolen (nodes.Latch s loop)) in
    let made = map Makes (again_doings line s) in
    let returned : returning l.nodes loop ≡ made = ap (λ (m : Node). map Makes (doings_again m.line m.role)) k.is in
    record {
      back = skips_then l a (a + length ins) test (in_marks l n) [] (skips_in l n a line (has_first j a line ins rest h.has)) (skips_jump l (a + length ins) test line later.0 later.1);
      out = skips_to l q (q + length outs) (l.place (suc n)) (leaving l.plan loop) f (skips_out l loop q line (subst (λ (x : ℕ). Has j x line outs) e later.2));
      return = λ ms c.
          at_same l loop (((ms ++ in_marks l n) ++ (events ++ [])) ++ returning l.nodes loop) ((ms ++ (in_marks l n ++ [])) ++ (events ++ made))
          (ap (λ x. ((ms ++ in_marks l n) ++ x) ++ returning l.nodes loop) (append_none events) ∙ ap (λ x. ((ms ++ in_marks l n) ++ events) ++ x) returned
          ∙ append_assoc (ms ++ in_marks l n) events made ∙ ap (λ x. (ms ++ x) ++ (events ++ made)) (sym (append_none (in_marks l n))))
          (goes_back l n loop ((ms ++ in_marks l n) ++ (events ++ [])) (around l loop n line s k) (latch_is l loop n line s k) (arrive_at l n line (nodes.Latch s loop) h ms c));
    }
