-- What a step of a program stores fits 64 bits, where the numbers do that are written in the program.
use Rattle.std.proofs.Common.{◌≡◌, ℕ, ◌+◌, ℤ, true, List, [], ◌∷◌, ◌++◌}
use Rattle.std.specs.List.{All, AllByRecursion, Contains}
use Rattle.std.proofs.lemmas.List.Elements.{All-contains, All-from_recursion}
use Rattle.fd_base.specs.Numbers.{fits_i64}
use Rattle.fd_prog.specs.FormValues.{AreWords}
use Rattle.fd_prog.specs.Nodes.{Node, Role, Start, Simple, Branch, Pad, YesEnd, Join, Loop, Latch, End, nodes_in, nodes_among, nodes_from, all_nodes_from, nodes_of}
use Rattle.fd_prog.specs.Programs.{CheckedProgram}
use Rattle.fd_prog.specs.Statements.{Statement, Assign, If, Do, While, Read, Print, Continue, Distribute, Statements, Empty, Then}
use Rattle.fd_prog.specs.Stores.{Store, readings_of}
use Rattle.fd_prog.specs.Words.{HasWords, SetsWords, SetWords}
use Rattle.fd_prog.proofs.StoredWords.{assigned-words, first-stored, gained-words, read-words}
use Rattle.program_laws.specs.Steps.{Stores, assigns, reads, starts, gains}

-- what gives a cell its number at a node is of 64-bit numbers
abbrev InStatement : Statement → Type 0
InStatement (Assign line target e) = HasWords e
InStatement (If line c so otherwise) = Unit {0}
InStatement (Do line var first last by body) = HasWords first
InStatement (While line c body) = Unit {0}
InStatement (Read line target) = Unit {0}
InStatement (Print line items) = Unit {0}
InStatement (Continue line) = Unit {0}
InStatement (Distribute line decomp given) = Unit {0}

abbrev InRole : Role → Type 0
InRole Start = Unit {0}
InRole (Simple s) = InStatement s
InRole (Branch c n) = Unit {0}
InRole Pad = Unit {0}
InRole (YesEnd n) = Unit {0}
InRole Join = Unit {0}
InRole (Loop s n) = InStatement s
InRole (Latch s n) = Unit {0}
InRole End = Unit {0}

abbrev InNode : Node → Type 0
InNode n = InRole n.role

join : (xs ys : List Node) → AllByRecursion InNode xs → AllByRecursion InNode ys → AllByRecursion InNode (xs ++ ys)
join [] ys h k = k
join (x ∷ xs) ys h k = (h.0, join xs ys h.1 k)

mutual
  in_one : (a : ℕ) (s : Statement) → SetsWords s → AllByRecursion InNode (nodes_from a s)
  in_one a (Assign line target e) h = (h, tt)
  in_one a (If line c so otherwise) h =
      (tt, (tt, join (all_nodes_from (a + 2) so) _ (in_all (a + 2) so h.0) (tt, (tt, join (all_nodes_from (a + nodes_among so + 4) otherwise) _ (in_all (a + nodes_among so + 4) otherwise h.1) (tt, (tt, tt))))))
  in_one a (Do line var first last by body) h = (h.0, (tt, join (all_nodes_from (a + 2) body) _ (in_all (a + 2) body h.1) (tt, tt)))
  in_one a (While line c body) h = (tt, (tt, join (all_nodes_from (a + 2) body) _ (in_all (a + 2) body h) (tt, tt)))
  in_one a (Read line target) h = (tt, tt)
  in_one a (Print line items) h = (tt, tt)
  in_one a (Continue line) h = (tt, tt)
  in_one a (Distribute line decomp given) h = (tt, tt)

  in_all : (a : ℕ) (ss : Statements) → SetWords ss → AllByRecursion InNode (all_nodes_from a ss)
  in_all a Empty h = tt
  in_all a (Then s ss) h = join (nodes_from a s) (all_nodes_from (a + nodes_in s) ss) (in_one a s h.0) (in_all (a + nodes_in s) ss h.1)

in_program : (p : CheckedProgram) → SetWords p.body → All InNode (nodes_of p)
in_program p h = All-from_recursion InNode (nodes_of p) (tt, join (all_nodes_from 1 p.body) _ (in_all 1 p.body h) (tt, tt))

by_step : (p : CheckedProgram) (input : List ℤ) (role : Role) (s next : Store) → All (λ n. fits_i64 n ≡ true) input → InRole role → AreWords (readings_of p s) → Stores p input role s next → AreWords (readings_of p next)
by_step p input _ s next given h now (assigns {target = target} {e = e} step) = assigned-words p target e s next now h step
by_step p input _ s next given h now (reads {target = target} step) = read-words p input target s next given now step
by_step p input _ s next given h now (starts {var = var} {first = first} {last = last} {by = by} {b = b} step) = first-stored p var first last by b s now h step
by_step p input _ s next given h now (gains {var = var} z step) = gained-words p var z s next now step

pub stored : (p : CheckedProgram) (input : List ℤ) (node : Node) (s next : Store) → SetWords p.body → All (λ n. fits_i64 n ≡ true) input → Contains (nodes_of p) node → AreWords (readings_of p s) → Stores p input node.role s next → AreWords (readings_of p next)
stored p input node s next words given here now step = by_step p input node.role s next given (All-contains InNode (nodes_of p) node (in_program p words) here) now step
