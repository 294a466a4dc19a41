-- Walks with a mark are paths with what happens to the item on them.
use Rattle.std.proofs.Common.{◌≡◌, ℕ, suc, ◌+◌, ◌<◌, ◌≤◌, ◌==◌, Bool, true, false, not, ◌&&◌, IsTrue, IsFalse, List, [], ◌∷◌, ◌++◌, length, reverse, Option, Some, None, refl, sym, ◌∙◌, ap, ap₂, subst, arith, true≢false, eqb-true, eq-eqb, length-append}
use Rattle.std.proofs.lemmas.Bool.{ne_eqb}
use Rattle.fd_prog.specs.declared.item.Event.{Event}
use Rattle.fd_prog.specs.Paths.{Plan, at_arrival, at_leaving, IsPath, start, forward, entry, cycle, Happening, happenings}
use Rattle.interval_graph.specs.declared.node.EdgeKind.{EdgeKind}
use Rattle.interval_graph.specs.declared.node.EdgeKind.TheVariants.{Forward, Entry, Cycle}
use Rattle.interval_graph.specs.Structure.{IsFlow, IsLast}
use Rattle.gnt_solver.proofs.Items.{IsItem, happenings-append, ops_of, arrival_of}
use Rattle.place_check.specs.declared.verdict.Condition.{Condition}
use Rattle.place_check.specs.Verdicts.{Keeps, IsBroken, IsHeld, IsAtMost, IsShown}
use Rattle.place_check.specs.Marks.{Machine, onward, after, may_end, unless, ended, arrival, departure, machine_by}
use Rattle.place_check.specs.Walks.{IsEdge, along, IsWalk, begin, go, IsFirstWalk, IsNotAfter}
use Rattle.place_check.specs.Columns.{doings_of}
use Rattle.place_check.proofs.Order.{reverse-on, not_longer, not_greater}
use Rattle.place_check.proofs.Conditions.{after-append, keeps, breaks, ends_wrong}

-- ---- the mark at the end of a path

ended_onward : (c : Condition) (b : Bool) (o : Option Bool) (step : Bool → Option Bool) → ended c b (onward o step) ≡ onward o (λ m. ended c b (step m))
ended_onward c b None step = refl
ended_onward c b (Some m) step = refl

record IsFine (c : Condition) (at_end : Bool) (o : Option Bool) (mark : Bool) : Type 0 where
  is : o ≡ Some mark
  end : at_end ≡ true → IsTrue (may_end c mark)

unless_fine : (at_end fine m mark : Bool) → unless (at_end && not fine) m ≡ Some mark → (m ≡ mark) × (at_end ≡ true → IsTrue fine)
unless_fine true true m mark h = (cc, λ e. refl)
unless_fine true false m mark h = absurd cc
unless_fine false fine m mark h = (cc, λ e. absurd (true≢false (sym e)))

ended_fine : (c : Condition) (at_end : Bool) (o : Option Bool) (mark : Bool) → ended c at_end o ≡ Some mark → IsFine c at_end o mark
ended_fine c at_end None mark h = absurd cc
ended_fine c at_end (Some m) mark h =
    let r = unless_fine at_end (may_end c m) m mark h in
    record { is = ap (λ (b : Bool). Some b) r.0; end = λ e. subst (λ (b : Bool). IsTrue (may_end c b)) r.0 (r.1 e) }

unless_wrong : (at_end fine m : Bool) → unless (at_end && not fine) m ≡ None → (at_end ≡ true) × IsFalse fine
unless_wrong true true m h = absurd cc
unless_wrong true false m h = (refl, refl)
unless_wrong false fine m h = absurd cc

-- a path whose mark ends so doesn't keep the condition
wrong_end : (c : Condition) (n last : ℕ) (hs : List Happening) (o : Option Bool) → after c hs false ≡ o → None ≡ ended c (n == last) o → Keeps c (n ≡ last) hs → ⊥
wrong_end c n last hs None e h k = breaks c (n ≡ last) hs e k
wrong_end c n last hs (Some z) e h k =
    let r = unless_wrong (n == last) (may_end c z) z (sym h) in
    ends_wrong c (n ≡ last) hs z e (eqb-true n last r.0) r.1 k

-- ---- one edge

abbrev events_on : Plan → EdgeKind → List Event → ℕ → ℕ → List Event
events_on p Forward es n s = es ++ (at_leaving p n ++ at_arrival p s)
events_on p Entry es n s = es ++ at_arrival p s
events_on p Cycle es n s = es

abbrev pub machine : Plan → ℕ → Condition → ℕ → Machine
machine p last c x = machine_by c last (doings_of p x)

module _ (p : Plan) (last : ℕ) (c : Condition) (x : ℕ) (item : IsItem p x) (flow : IsFlow p.graph) (ends : IsLast p.graph last) where
  arrives : (n : ℕ) → happenings x (at_arrival p n) ≡ arrival (doings_of p x n)
  arrives n = arrival_of p x n item

  departs : (n : ℕ) → happenings x (at_leaving p n) ≡ departure (doings_of p x n)
  departs n = ops_of p x item (p.places.send_out n) (p.places.recv_out n)

  after_then : (es fs : List Event) (hs : List Happening) (mark : Bool) → happenings x fs ≡ hs → after c (happenings x es) false ≡ Some mark
      → after c (happenings x (es ++ fs)) false ≡ after c hs mark
  after_then es fs hs mark same e =
      ap (λ (l : List Happening). after c l false) (happenings-append x es fs ∙ ap (λ (l : List Happening). happenings x es ++ l) same)
      ∙ (after-append c (happenings x es) hs false ∙ ap (λ (o : Option Bool). onward o (after c hs)) e)

  no_end : (s : ℕ) → IsTrue (p.graph.is_loop s) → (s == last) ≡ false
  no_end s h = ne_eqb s last (λ e. (let a : s < p.graph.latch s = flow.far s h in let b : p.graph.latch s < last = ends.no_loop s h in omega (arith, a, b, e)))

  mark_on : (kind : EdgeKind) (es : List Event) (n s : ℕ) (mark : Bool) → after c (happenings x es) false ≡ Some mark → IsEdge p.graph kind n s
      → along (machine p last c x) kind n s mark ≡ ended c (s == last) (after c (happenings x (events_on p kind es n s)) false)
  mark_on Forward es n s mark e edge =
      let there = happenings-append x (at_leaving p n) (at_arrival p s) ∙ ap₂ (λ (a : List Happening) (b : List Happening). a ++ b) (departs n) (arrives s) in
      sym (ap (λ (o : Option Bool). ended c (s == last) o)
      (after_then es (at_leaving p n ++ at_arrival p s) (departure (doings_of p x n) ++ arrival (doings_of p x s)) mark there e
      ∙ after-append c (departure (doings_of p x n)) (arrival (doings_of p x s)) mark)
      ∙ ended_onward c (s == last) (after c (departure (doings_of p x n)) mark) (after c (arrival (doings_of p x s))))
  mark_on Entry es n s mark e edge = sym (ap (λ (o : Option Bool). ended c (s == last) o) (after_then es (at_arrival p s) (arrival (doings_of p x s)) mark (arrives s) e))
  mark_on Cycle es n s mark e edge =
      sym (ap (λ (o : Option Bool). ended c (s == last) o) e ∙ ap (λ (b : Bool). unless (b && not (may_end c mark)) mark) (no_end s edge.0))

  path_on : (kind : EdgeKind) (ns : List ℕ) (n s : ℕ) (es : List Event) → IsPath p ns n es → IsEdge p.graph kind n s → IsPath p (ns ++ (s ∷ [])) s (events_on p kind es n s)
  path_on Forward ns n s es path e = forward s path e
  path_on Entry ns n s es path e = subst (λ (z : ℕ). IsPath p (ns ++ (z ∷ [])) z (es ++ at_arrival p z)) (sym e.1) (entry path e.0)
  path_on Cycle ns n s es path e = cycle s path e.0 e.1

  -- ---- from a walk to a path

  record IsPathed (ns : List ℕ) (n : ℕ) (o : Option Bool) : Type 0 where
    events : List Event
    path : IsPath p (reverse ns) n events
    mark : o ≡ ended c (n == last) (after c (happenings x events) false)

  pathed : (ns : List ℕ) (n : ℕ) (o : Option Bool) → IsWalk p.graph (machine p last c x) ns n o → IsPathed ns n o
  pathed ns n o begin = record {
    events = at_arrival p 0;
    path = start;
    mark = ap (λ (l : List Happening). ended c (0 == last) (after c l false)) (sym (arrives 0));
  }
  pathed ns n o (go {ns = ms} {n = m} {mark = mark} kind s walk e) =
      let r = pathed ms m (Some mark) walk in
      let is : after c (happenings x r.events) false ≡ Some mark = (ended_fine c (m == last) (after c (happenings x r.events) false) mark (sym r.mark)).is in
      record {
        events = events_on p kind r.events m s;
        path = subst (λ (l : List ℕ). IsPath p l s (events_on p kind r.events m s)) (sym (reverse-on ms s)) (path_on kind (reverse ms) m s r.events r.path e);
        mark = mark_on kind r.events m s mark is e;
      }

  pub walk_breaks : (ns : List ℕ) (n : ℕ) → IsWalk p.graph (machine p last c x) ns n None → IsBroken p last c x (reverse ns)
  walk_breaks ns n walk =
      let r = pathed ns n None walk in
      record { node = n; events = r.events; path = r.path; broken = wrong_end c n last (happenings x r.events) _ refl r.mark }

  -- ---- from a path to a walk

  -- a path is a walk, or the walk breaks the condition on the way
  data IsWalked (ns : List ℕ) (n : ℕ) (hs : List Happening) : Type 0 where
    whole : (ms : List ℕ) (mark : Bool) → reverse ms ≡ ns → IsWalk p.graph (machine p last c x) ms n (Some mark) → after c hs false ≡ Some mark → IsWalked ns n hs
    partly : (ms : List ℕ) (k : ℕ) → IsWalk p.graph (machine p last c x) ms k None → length (reverse ms) ≤ length ns → (length ns ≡ length (reverse ms) → reverse ms ≡ ns) → IsWalked ns n hs

  walked_by : (ms ns : List ℕ) (s : ℕ) (hs : List Happening) (o : Option Bool) → reverse ms ≡ ns → IsWalk p.graph (machine p last c x) ms s o → o ≡ ended c (s == last) (after c hs false) → IsWalked ns s hs
  walked_by ms ns s hs None same walk e = partly ms s walk (let q : length (reverse ms) ≡ length ns = ap length same in omega (arith, q)) (λ q. same)
  walked_by ms ns s hs (Some mark) same walk e = whole ms mark same walk (ended_fine c (s == last) (after c hs false) mark (sym e)).is

  walked_on : (kind : EdgeKind) (ns : List ℕ) (n s : ℕ) (es : List Event) → IsWalked ns n (happenings x es) → IsEdge p.graph kind n s → IsWalked (ns ++ (s ∷ [])) s (happenings x (events_on p kind es n s))
  walked_on kind ns n s es (partly ms k walk le same) e =
      let l : length (ns ++ (s ∷ [])) ≡ length ns + 1 = omega (arith, length-append ns (s ∷ [])) in
      partly ms k walk (omega (arith, le, l)) (λ q. absurd (omega (arith, q, le, l)))
  walked_on kind ns n s es (whole ms mark same walk is) e =
      walked_by (s ∷ ms) (ns ++ (s ∷ [])) s (happenings x (events_on p kind es n s)) (along (machine p last c x) kind n s mark)
      (reverse-on ms s ∙ ap (λ (l : List ℕ). l ++ (s ∷ [])) same) (go kind s walk e) (mark_on kind es n s mark is e)

  walked : (ns : List ℕ) (n : ℕ) (es : List Event) → IsPath p ns n es → IsWalked ns n (happenings x es)
  walked ns n es start =
      walked_by (0 ∷ []) (0 ∷ []) 0 (happenings x (at_arrival p 0)) _ refl begin (ap (λ (l : List Happening). ended c (0 == last) (after c l false)) (sym (arrives 0)))
  walked ns n es (forward {ns = ms} {n = m} {es = fs} s path e) = walked_on Forward ms m s fs (walked ms m fs path) e
  walked ns n es (entry {ns = ms} {l = l} {es = fs} path e) = walked_on Entry ms l (suc l) fs (walked ms l fs path) (e, refl)
  walked ns n es (cycle {ns = ms} {n = m} {es = fs} l path e q) = walked_on Cycle ms m l fs (walked ms m fs path) (e, q)

  -- a walk on the way to a broken condition breaks it
  record HasWalk (ns : List ℕ) : Type 0 where
    nodes : List ℕ
    node : ℕ
    walk : IsWalk p.graph (machine p last c x) nodes node None
    short : length (reverse nodes) ≤ length ns
    same : length ns ≡ length (reverse nodes) → reverse nodes ≡ ns

  broken_walk : (ns : List ℕ) (n : ℕ) (hs : List Happening) → IsWalked ns n hs → (Keeps c (n ≡ last) hs → ⊥) → HasWalk ns
  broken_walk ns n hs (partly ms k walk le same) broken = record { nodes = ms; node = k; walk = walk; short = le; same = same }
  broken_walk ns n hs (whole ms mark same walk is) broken =
      let r = pathed ms n (Some mark) walk in
      let f = ended_fine c (n == last) (after c (happenings x r.events) false) mark (sym r.mark) in
      absurd (broken (keeps c (n ≡ last) hs mark is (λ e. f.end (eq-eqb n last e))))

  walk_to : (ns : List ℕ) → IsBroken p last c x ns → HasWalk ns
  walk_to ns b = broken_walk ns b.node (happenings x b.events) (walked ns b.node b.events b.path) b.broken

  pub shown_by : (ns : List ℕ) → IsFirstWalk p.graph (machine p last c x) ns → IsShown p last c x (reverse ns)
  shown_by ns first = record {
    broken = walk_breaks ns first.node first.walk;
    fewest = λ ms b.
        let h = walk_to ms b in
        let short : length (reverse h.nodes) ≤ length ms = h.short in
        omega (arith, short, not_longer ns h.nodes (first.first h.nodes h.node h.walk));
    least = λ ms b q.
        let h = walk_to ms b in
        let short : length (reverse h.nodes) ≤ length ms = h.short in
        let after : IsNotAfter ns h.nodes = first.first h.nodes h.node h.walk in
        let long : length ms ≡ length (reverse h.nodes) = omega (arith, short, q, not_longer ns h.nodes after) in
        subst (λ (l : List ℕ). IsAtMost (reverse ns) l) (h.same long) (not_greater ns h.nodes after (omega (arith, long, q)));
  }

  pub held_by : ((ns : List ℕ) (n : ℕ) → IsWalk p.graph (machine p last c x) ns n None → ⊥) → IsHeld p last c x
  held_by none ns b = let h = walk_to ns b in none h.nodes h.node h.walk

  keeps_walked : (ns : List ℕ) (n : ℕ) (hs : List Happening) → IsWalked ns n hs → IsHeld p last c x → Keeps c (n ≡ last) hs
  keeps_walked ns n hs (partly ms k walk le same) held = absurd (held (reverse ms) (walk_breaks ms k walk))
  keeps_walked ns n hs (whole ms mark same walk is) held =
      let r = pathed ms n (Some mark) walk in
      let f = ended_fine c (n == last) (after c (happenings x r.events) false) mark (sym r.mark) in
      keeps c (n ≡ last) hs mark is (λ e. f.end (eq-eqb n last e))

  -- an item that doesn't break the condition on any path keeps it on each
  pub held_keeps : (ns : List ℕ) (n : ℕ) (es : List Event) → IsHeld p last c x → IsPath p ns n es → Keeps c (n ≡ last) (happenings x es)
  held_keeps ns n es held path = keeps_walked ns n (happenings x es) (walked ns n es path) held
