-- What stands around a reference, and names, without where they lie in memory.
use Rattle.std.specs.Prelude.{◌≡◌, ℕ, List, [], ◌∷◌, length, map, Option, Some, None, option_map, Result, Ok}
use Rattle.fd_prog.specs.declared.form.FormRefusal.{FormRefusal}
use Rattle.fd_prog.specs.declared.item.Widened.{Widened}
use Rattle.fd_prog.specs.Statements.{statement_of}
use Rattle.fd_prog.specs.Programs.{CheckedProgram, program_of}
use Rattle.fd_prog.specs.Homes.{Executor, EveryRank, home_of_statement}
use Rattle.fd_prog.specs.Items as items
use Rattle.fd_prog.specs.Uses as uses
use Rattle.section_num.specs.declared.names.Name.{Name}
pub use Rattle.section_num.specs.KeptNames.{name_of, names_of}
use Rattle.section_num.specs.Bounds.{loop_of}
use Rattle.section_num.specs.declared.around.Loop.{Loop}
use Rattle.section_num.specs.declared.around.Around.{Around}
use Rattle.section_num.specs.declared.around.Stand.{Stand}
use Rattle.section_num.specs.declared.around.Around.TheVariants as stored
use Rattle.section_num.specs.declared.book.Book.{Book}
use Rattle.section_num.specs.declared.firsts.Use.{Use}
use Rattle.section_num.specs.Noting.{Noted}
use Rattle.fd_base.specs.declared.numbering.ItemNo.{ItemNo}
use Rattle.section_num.specs.declared.around.Valuer.{Valuer}
use Rattle.section_num.specs.declared.around.Valuer.TheVariants as stored_valuer

-- what a node changes, if anything
abbrev pub change_of : Option Name → Option items.Name
change_of change = option_map name_of change

abbrev pub counted_of : Loop → items.CountedLoop
counted_of l = loop_of l.var l.bounds.now (names_of l.sets.now)

abbrev pub loops_of : List Loop → List items.CountedLoop
loops_of ls = map counted_of ls

abbrev pub around_of : Around → List items.Enclosing
around_of stored.Nothing = []
around_of (stored.Side' p a) = items.Side ∷ around_of a
around_of (stored.Repeated' p a) = items.Repeated ∷ around_of a
around_of (stored.Counted' l p a) = items.Counted (counted_of l) ∷ around_of a

-- what is kept of the loops over which an item is widened that has no names: how many they are
abbrev pub reach_of : Around → ℕ
reach_of stored.Nothing = 0
reach_of (stored.Side' p a) = 0
reach_of (stored.Repeated' p a) = 0
reach_of (stored.Counted' l p a) = l.reach.now.count

-- what is kept of the forms of the bounds of those loops
abbrev pub kept_forms : Around → Option (List Widened)
kept_forms stored.Nothing = None
kept_forms (stored.Side' p a) = None
kept_forms (stored.Repeated' p a) = None
kept_forms (stored.Counted' l p a) = l.reach.now.forms

-- the forms of the bounds of these loops, where the variable of each of them is widened
abbrev pub forms_over : List items.CountedLoop → Result (List items.LinearLoop) FormRefusal
forms_over ls = items.all_loop_forms (map (λ (l : items.CountedLoop). l.var) ls) ls

-- what is kept are these forms, or nothing is
abbrev pub AreFormsOver : Option (List Widened) → List items.CountedLoop → Type 0
AreFormsOver None ls = Unit {0}
AreFormsOver (Some ws) ls = forms_over ls ≡ Ok (map items.linear_loop_of ws)

-- the loop and those further out over which an item with these names is widened
abbrev pub loops_past : CheckedProgram → List items.Name → items.CountedLoop → (List items.Name → List items.CountedLoop) → List items.CountedLoop
loops_past p names l outer = items.widened_past p names l (items.loop_forms [] l) outer

-- what is kept is that of the loops over which an item is widened that has no names
pub record IsReached (p : CheckedProgram) (a : Around) : Type 0 where
  pub count : reach_of a ≡ length (items.widened_over p (around_of a) [])
  pub forms : AreFormsOver (kept_forms a) (items.widened_over p (around_of a) [])

-- who values a reference
abbrev pub valuer_home : CheckedProgram → Valuer → List ℕ → Result Executor FormRefusal
valuer_home p stored_valuer.AllRanks bound = Ok EveryRank
valuer_home p (stored_valuer.HomeOf s) bound = home_of_statement p bound (statement_of s.now)

abbrev pub program_in : Stand → CheckedProgram
program_in s = program_of s.program.now

abbrev pub setting_of : Stand → items.Setting
setting_of s = record { around = around_of s.around.now; home = valuer_home (program_in s) s.valuer }

abbrev pub stand_of : Stand → uses.Stand
stand_of s = record { program = program_in s; line = s.line; setting = setting_of s }

abbrev pub use_of : Use → uses.Use
use_of u = record { line = u.line; site = u.site; item = items.linear_item_of u.item }

abbrev pub numbers_of : List ItemNo → List ℕ
numbers_of ns = map (λ (n : ItemNo). n.0) ns

abbrev pub noted_of : Book → Noted
noted_of b = record { firsts = map use_of b.firsts; sites = numbers_of b.sites; row = numbers_of b.row; rows = map numbers_of b.rows; over = b.over }
