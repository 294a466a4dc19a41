-- The blocks that are open, and what a line makes of them.
use Rattle.std.specs.Prelude.{◌≡◌, ℕ, ◌≤◌, Bool, true, false, List, [], ◌∷◌, ◌++◌, length, map, reverse, Option, Some, None, Result, Ok, Err, option_and_then}
use Rattle.std.specs.Global.{Box}
use Rattle.fd_base.specs.declared.numbering.Line.{Line}
use Rattle.fd_ast.specs.declared.statement.TStmt.{TStmt}
use Rattle.fd_ast.specs.Tree.{ExprTree, DoStmt, WhileStmt, CondTree, StmtTree, IfStmt, StmtTrees, NoStmts, expr_tree, cond_tree, stmt_tree, stmt_trees}
use Rattle.fd_parser.specs.declared.blocks.Head.{Head}
use Rattle.fd_parser.specs.declared.blocks.Head.TheVariants as heads
use Rattle.fd_parser.specs.declared.blocks.Frame.{Frame}
use Rattle.fd_parser.specs.declared.blocks.Frame.TheVariants as frames
use Rattle.fd_parser.specs.declared.blocks.OpenBlocks.{OpenBlocks}
use Rattle.fd_parser.specs.declared.stop.Stop.{Stop}
use Rattle.fd_parser.specs.declared.stop.Stop.TheVariants as stops
use Rattle.fd_parser.specs.Forms.{LineForm, ProgramLine, DeclLine, SimpleLine, LogicalIf, IfThen, ElseIf, Else, EndIf, DoLine, WhileLine, EndDo}
use Rattle.fd_parser.specs.Program.{all_stmts}

-- statements, each of which stands in a box
abbrev pub stmts : List (Box TStmt) → List StmtTree
stmts xs = map (λ x. stmt_tree x.value) xs

-- what begins a loop
pub data LoopHead : Type 0 where
  Counted : Line → List ℕ → ExprTree → ExprTree → ExprTree → LoopHead
  While : Line → CondTree → LoopHead

-- the loop with this body
abbrev pub loop_stmt : LoopHead → StmtTrees → StmtTree
loop_stmt (Counted l s x y z) body = DoStmt l s x y z body
loop_stmt (While l c) body = WhileStmt l c body

abbrev pub head_of : Head → LoopHead
head_of (heads.Counted l s x y z) = Counted l s (expr_tree x) (expr_tree y) (expr_tree z)
head_of (heads.While l c) = While l (cond_tree c)

-- an open block: what stood before the statement that it is in
pub data Place : Type 0 where
  InLoop : (h : LoopHead) (front : List StmtTree) → Place
  InFirst : (l : Line) (c : CondTree) (front : List StmtTree) (chained : Bool) → Place
  InSecond : (l : Line) (c : CondTree) (first : StmtTrees) (front : List StmtTree) (chained : Bool) → Place

abbrev pub place_of : Frame → Place
place_of (frames.Loop h front) = InLoop (head_of h) (stmts front.items)
place_of (frames.Then l c front chained) = InFirst l (cond_tree c) (stmts front.items) chained
place_of (frames.Otherwise l c first front chained) = InSecond l (cond_tree c) (stmt_trees first) (stmts front.items) chained

-- the open blocks, the innermost first, and the statements of the innermost so far
pub record Inside : Type 0 where
  pub places : List Place
  pub done : List StmtTree

abbrev pub inside_of : OpenBlocks → Inside
inside_of b = record { places = reverse (map place_of b.«open».items); done = stmts b.done.items }

abbrev pub outside : Inside
outside = record { places = []; done = [] }

-- ---- lines of the body

-- more statements
abbrev pub with_stmts : List StmtTree → Inside → Inside
with_stmts xs h = record { places = h.places; done = h.done ++ xs }

abbrev pub with_loop : LoopHead → Inside → Inside
with_loop c h = record { places = InLoop c h.done ∷ h.places; done = [] }

abbrev pub with_choice : Line → CondTree → Bool → Inside → Inside
with_choice l c chained h = record { places = InFirst l c h.done chained ∷ h.places; done = [] }

-- from the first side of a choice to the second
abbrev pub turned_at : List Place → List StmtTree → Option Inside
turned_at [] done = None
turned_at (InLoop c front ∷ ps) done = None
turned_at (InFirst l c front chained ∷ ps) done = Some (record { places = InSecond l c (all_stmts done) front chained ∷ ps; done = [] })
turned_at (InSecond l c first front chained ∷ ps) done = None

-- the end of one choice, and whether it was chained
abbrev pub side_ended_at : List Place → List StmtTree → Option (Bool × Inside)
side_ended_at [] done = None
side_ended_at (InLoop c front ∷ ps) done = None
side_ended_at (InFirst l c front chained ∷ ps) done = Some (chained, record { places = ps; done = front ++ IfStmt l c (all_stmts done) NoStmts ∷ [] })
side_ended_at (InSecond l c first front chained ∷ ps) done = Some (chained, record { places = ps; done = front ++ IfStmt l c first (all_stmts done) ∷ [] })

-- the end of a choice, and of those that it is chained to
abbrev pub choice_ended_at : List Place → List StmtTree → Option Inside
choice_ended_at [] done = None
choice_ended_at (InLoop c front ∷ ps) done = None
choice_ended_at (InFirst l c front true ∷ ps) done = choice_ended_at ps (front ++ IfStmt l c (all_stmts done) NoStmts ∷ [])
choice_ended_at (InFirst l c front false ∷ ps) done = Some (record { places = ps; done = front ++ IfStmt l c (all_stmts done) NoStmts ∷ [] })
choice_ended_at (InSecond l c first front true ∷ ps) done = choice_ended_at ps (front ++ IfStmt l c first (all_stmts done) ∷ [])
choice_ended_at (InSecond l c first front false ∷ ps) done = Some (record { places = ps; done = front ++ IfStmt l c first (all_stmts done) ∷ [] })

-- where a chained choice has ended, the one that it is chained to ends
abbrev pub resumed : Bool → Inside → Option Inside
resumed true h = choice_ended_at h.places h.done
resumed false h = Some h

abbrev pub loop_ended_at : List Place → List StmtTree → Option Inside
loop_ended_at [] done = None
loop_ended_at (InLoop c front ∷ ps) done = Some (record { places = ps; done = front ++ loop_stmt c (all_stmts done) ∷ [] })
loop_ended_at (InFirst l c front chained ∷ ps) done = None
loop_ended_at (InSecond l c first front chained ∷ ps) done = None

-- what a line makes of the open blocks, or none where it can't stand here
abbrev pub step : Line → LineForm → Inside → Option Inside
step l ProgramLine h = None
step l (DeclLine ds) h = None
step l (SimpleLine xs) h = Some (with_stmts xs h)
step l (LogicalIf c xs) h = Some (with_stmts (IfStmt l c (all_stmts xs) NoStmts ∷ []) h)
step l (IfThen c) h = Some (with_choice l c false h)
step l (ElseIf c) h = option_and_then (λ g. Some (with_choice l c true g)) (turned_at h.places h.done)
step l Else h = turned_at h.places h.done
step l EndIf h = choice_ended_at h.places h.done
step l (DoLine s x y z) h = Some (with_loop (Counted l s x y z) h)
step l (WhileLine c) h = Some (with_loop (While l c) h)
step l EndDo h = loop_ended_at h.places h.done

-- no more than 32 blocks are open
abbrev pub HasPlace : Inside → Type 0
HasPlace h = length h.places ≤ 32

-- another would be one too many
abbrev pub IsFull : Inside → Type 0
IsFull h = 32 ≤ length h.places

-- what a call made of the open blocks: this, unless memory ran out
abbrev pub Makes : {X Y : Type 0} → Result X Stop → Option Y → (X → Y) → Type 0
Makes (Ok x) o view = o ≡ Some (view x)
Makes (Err stops.Syntax) o view = o ≡ None
Makes (Err stops.TooDeep) o view = Unit {0}
Makes (Err stops.Memory) o view = Unit {0}
