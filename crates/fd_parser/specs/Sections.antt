-- The sections of a source, and what a line makes of them and of the open blocks.
use Rattle.std.specs.Prelude.{ℕ, ◌<◌, ◌≤◌, ◌+◌, List, [], ◌++◌, length, map, Option, Some, None}
use Rattle.fd_base.specs.declared.numbering.Line.{Line}
use Rattle.fd_ast.specs.Tree.{DeclTree, decl_tree}
use Rattle.fd_parser.specs.declared.source.Section.{Section}
use Rattle.fd_parser.specs.declared.source.Section.TheVariants.{Start, Declarations, Statements}
use Rattle.fd_parser.specs.declared.source.Source.{Source}
use Rattle.fd_parser.specs.Forms.{LineForm, ProgramLine, DeclLine, SimpleLine, LogicalIf, IfThen, ElseIf, Else, EndIf, DoLine, WhileLine, EndDo}
use Rattle.fd_parser.specs.Open.{Inside, inside_of, outside, step}

-- the declarations so far, where the source's sections stand, and the blocks that are open
pub record Here : Type 0 where
  pub section : Section
  pub decls : List DeclTree
  pub inside : Inside

abbrev pub here_of : Source → Here
here_of s = record { section = s.section; decls = map decl_tree s.decls.items; inside = inside_of s.inside }

abbrev pub start : Here
start = record { section = Start; decls = []; inside = outside }

-- the PROGRAM line, which stands first alone
abbrev pub titled : Section → Here → Option Here
titled Start h = Some (record { section = Declarations; decls = h.decls; inside = h.inside })
titled Declarations h = None
titled Statements h = None

abbrev pub with_decls : List DeclTree → Here → Here
with_decls ds h = record { section = Declarations; decls = h.decls ++ ds; inside = h.inside }

-- declarations, which stand before all statements
abbrev pub declared_at : Section → List DeclTree → Here → Option Here
declared_at Start ds h = Some (with_decls ds h)
declared_at Declarations ds h = Some (with_decls ds h)
declared_at Statements ds h = None

-- a line of the body, where it can stand there
abbrev pub with_inside : Here → Option Inside → Option Here
with_inside h None = None
with_inside h (Some i) = Some (record { section = Statements; decls = h.decls; inside = i })

-- what a line makes of all that, or none where it can't stand here
abbrev pub taken : Line → LineForm → Here → Option Here
taken l ProgramLine h = titled h.section h
taken l (DeclLine ds) h = declared_at h.section ds h
taken l (SimpleLine xs) h = with_inside h (step l (SimpleLine xs) h.inside)
taken l (LogicalIf c xs) h = with_inside h (step l (LogicalIf c xs) h.inside)
taken l (IfThen c) h = with_inside h (step l (IfThen c) h.inside)
taken l (ElseIf c) h = with_inside h (step l (ElseIf c) h.inside)
taken l Else h = with_inside h (step l Else h.inside)
taken l EndIf h = with_inside h (step l EndIf h.inside)
taken l (DoLine s x y z) h = with_inside h (step l (DoLine s x y z) h.inside)
taken l (WhileLine c) h = with_inside h (step l (WhileLine c) h.inside)
taken l EndDo h = with_inside h (step l EndDo h.inside)

-- no more than 32 blocks are open
abbrev pub HasRoom : Here → Type 0
HasRoom h = length h.inside.places ≤ 32

-- the nesting level of a line, behind which this is open: a logical IF is a level of its own
abbrev pub level_here : LineForm → Here → ℕ
level_here ProgramLine h = length h.inside.places
level_here (DeclLine ds) h = length h.inside.places
level_here (SimpleLine xs) h = length h.inside.places
level_here (LogicalIf c xs) h = length h.inside.places + 1
level_here (IfThen c) h = length h.inside.places
level_here (ElseIf c) h = length h.inside.places
level_here Else h = length h.inside.places
level_here EndIf h = length h.inside.places
level_here (DoLine s x y z) h = length h.inside.places
level_here (WhileLine c) h = length h.inside.places
level_here EndDo h = length h.inside.places

-- the line can stand here, and would begin level 33
abbrev pub Overflows : LineForm → Option Here → Type 0
Overflows f None = ⊥
Overflows f (Some h) = 32 < level_here f h
