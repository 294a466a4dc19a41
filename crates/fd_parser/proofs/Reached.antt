-- Where the loop over the lines stands, and where it stops.
use Rattle.std.proofs.Common.{◌≡◌, ℕ, List, [], ◌∷◌, ◌++◌, length, drop, map, reverse, refl, sym, ◌∙◌, ap, subst, append_assoc}
use Rattle.std.proofs.lemmas.Bool.{eqb-true}
use Rattle.std.proofs.lemmas.List.{append-nil, reverse-reverse}
use Rattle.std.specs.Prelude.{Bool, true, false, ◌==◌, Result, Ok, Err, IfErr}
use Rattle.smallvec.specs.SmallVec.{small_vec_len}
use Rattle.fd_base.specs.declared.numbering.Line.{Line}
use Rattle.fd_lexer.specs.View.{Tok, TokenLine, token_lines, lines_of}
use Rattle.fd_lexer.specs.declared.token.Lexed.{Lexed}
use Rattle.fd_lexer.specs.declared.token.Token.{Token}
use Rattle.fd_ast.specs.Tree.{ProgramTree, DeclTree, StmtTrees, decl_tree, stmt_trees, program_tree}
use Rattle.fd_ast.specs.declared.statement.Tree.{Tree}
use Rattle.fd_parser.specs.declared.refusal.ParseRefusal.{ParseRefusal}
use Rattle.fd_parser.specs.declared.refusal.ParseRefusal.TheVariants as refusals
use Rattle.fd_parser.specs.declared.blocks.Frame.{Frame}
use Rattle.fd_parser.specs.declared.source.Source.{Source}
use Rattle.fd_parser.specs.Open.{Place, place_of}
use Rattle.fd_parser.specs.Program.{all_stmts}
use Rattle.fd_parser.specs.Sections.{Here, here_of, start, HasRoom}
use Rattle.fd_parser.specs.TakenLine.{IsTaken, IsStopped}
use Rattle.fd_parser.specs.Text.{IsText, AreFine, Names, parentheses, nested, left_out, syntax, IsRefusal, at_line, at_end, no_end, no_memory, IsAllowed, Gives}
use Rattle.fd_parser.proofs.Parsed.{IsParsed, parsed_none, parsed_line, stopped, nothing_more, closed_at}

pub record Reached (ls : List TokenLine) (h : Here) (rest : List TokenLine) : Type 0 where
  pub before : List TokenLine
  pub split : ls ≡ before ++ rest
  pub parsed : IsParsed h before

pub reached_start : (ls : List TokenLine) → Reached ls start ls
reached_start ls = record { before = []; split = refl; parsed = parsed_none }

abbrev line : Line → List Tok → TokenLine
line l ts = record { number = l; toks = ts }

pub reached_line : (ls : List TokenLine) (h g : Here) (l : Line) (ts : List Tok) (rest : List TokenLine) → Reached ls h (line l ts ∷ rest) → IsTaken h l ts g → Reached ls g rest
reached_line ls h g l ts rest r k = record {
  before = r.before ++ line l ts ∷ [];
  split = r.split ∙ sym (append_assoc r.before (line l ts ∷ []) rest);
  parsed = parsed_line h g r.before l ts k.form k.is k.made r.parsed k.shallow k.in_language k.level;
}

pub reached_stop : (ls : List TokenLine) (h : Here) (l : Line) (ts : List Tok) (rest : List TokenLine) (ended : Bool) (end_line : Line) (e : ParseRefusal) → Reached ls h (line l ts ∷ rest) → IsStopped h l ts e → IsRefusal ls ended end_line e
reached_stop ls h l ts rest ended end_line e r k = stopped h r.before rest ls l ts ended end_line e r.split r.parsed k

all_before : {ls : List TokenLine} {h : Here} (r : Reached ls h []) → r.before ≡ ls
all_before r = sym (append-nil r.before) ∙ sym r.split

pub reached_fine : (ls : List TokenLine) (h : Here) → Reached ls h [] → AreFine ls
reached_fine ls h r = subst AreFine (all_before r) r.parsed.fine

pub reached_text : (ls : List TokenLine) (h : Here) → Reached ls h [] → h.inside.places ≡ [] → IsText ls (record { decls = h.decls; body = all_stmts h.inside.done })
reached_text ls h r e = subst (λ (ks : List TokenLine). IsText ks (record { decls = h.decls; body = all_stmts h.inside.done })) (sym r.split) (r.parsed.begun [] (record { decls = h.decls; body = all_stmts h.inside.done }) (nothing_more h e))

pub reached_open : (ls : List TokenLine) (h : Here) → Reached ls h [] → (h.inside.places ≡ [] → ⊥) → (x : ProgramTree) → IsText ls x → ⊥
reached_open ls h r n x t = n (closed_at h x (r.parsed.ended [] x (subst (λ (ks : List TokenLine). IsText ks x) r.split t)))

-- a source without a line that is left out or too deep has no refusal
pub not_refused : (ls : List TokenLine) (ended : Bool) (end_line : Line) (x : ProgramTree) (e : ParseRefusal) → IsText ls x → IsAllowed ls → ended ≡ true → IsRefusal ls ended end_line e → e ≡ refusals.Memory
not_refused ls ended end_line x e t a y (at_line bs as_ m split f n) = absurd (no_name n) where
  no_name : {k : ℕ} → Names bs m k → ⊥
  no_name (parentheses d) = let q = (a bs as_ m split).0 in let z : true ≡ false = sym d ∙ q in absurd cc
  no_name (nested b c v d) = (a bs as_ m split).2 d
  no_name (left_out b d) = let q = (a bs as_ m split).1 in let z : true ≡ false = sym d ∙ q in absurd cc
  no_name (syntax b c v) = v (as_, x, subst (λ (ks : List TokenLine). IsText ks x) (split ∙ sym (append_assoc bs (m ∷ []) as_)) t)
not_refused ls ended end_line x e t a y (at_end f z n) = absurd (n x t)
not_refused ls ended end_line x e t a y (no_end f z) = let k : true ≡ false = sym y ∙ z in absurd cc
not_refused ls ended end_line x e t a y no_memory = refl

-- ---- the same, where what is left is known by an equation

left_is : (ls : List TokenLine) (h : Here) (us vs : List TokenLine) → us ≡ vs → Reached ls h us → Reached ls h vs
left_is ls h us vs e r = subst (λ (ks : List TokenLine). Reached ls h ks) e r

pub line_taken : (ls us : List TokenLine) (h g : Here) (l : Line) (ts : List Tok) (rest : List TokenLine) → us ≡ line l ts ∷ rest → Reached ls h us → (HasRoom h → IsTaken h l ts g) → Reached ls g rest
line_taken ls us h g l ts rest e r k = reached_line ls h g l ts rest (left_is ls h us (line l ts ∷ rest) e r) (k r.parsed.room)

pub line_stopped : (ls us : List TokenLine) (h : Here) (l : Line) (ts : List Tok) (rest : List TokenLine) (ended : Bool) (end_line : Line) (e : ParseRefusal) → us ≡ line l ts ∷ rest → Reached ls h us → IsStopped h l ts e → IsRefusal ls ended end_line e
line_stopped ls us h l ts rest ended end_line e q r k = reached_stop ls h l ts rest ended end_line e (left_is ls h us (line l ts ∷ rest) q r) k

pub not_ended : (ls us : List TokenLine) (h : Here) (ended : Bool) (end_line : Line) → us ≡ [] → Reached ls h us → ended ≡ false → IsRefusal ls ended end_line (refusals.At end_line 17)
not_ended ls us h ended end_line e r n = no_end (reached_fine ls h (left_is ls h us [] e r)) n

pub still_open : (ls us : List TokenLine) (h : Here) (ended : Bool) (end_line : Line) → us ≡ [] → Reached ls h us → ended ≡ true → (h.inside.places ≡ [] → ⊥) → IsRefusal ls ended end_line (refusals.At end_line 5)
still_open ls us h ended end_line e r y n = let q = left_is ls h us [] e r in at_end (reached_fine ls h q) y (reached_open ls h q n)

pub text_here : (ls us : List TokenLine) (h : Here) → us ≡ [] → Reached ls h us → h.inside.places ≡ [] → IsText ls (record { decls = h.decls; body = all_stmts h.inside.done })
text_here ls us h e r n = reached_text ls h (left_is ls h us [] e r) n

pub fine_here : (ls us : List TokenLine) (h : Here) → us ≡ [] → Reached ls h us → AreFine ls
fine_here ls us h e r = reached_fine ls h (left_is ls h us [] e r)

-- ---- whether a block is open

none_places : (fs : List Frame) (b : Bool) → b ≡ (length fs == 0) → b ≡ true → reverse (map place_of fs) ≡ []
none_places [] b e f = refl
none_places (x ∷ xs) b e f = let z : length (x ∷ xs) ≡ 0 = eqb-true (length (x ∷ xs)) 0 (sym e ∙ f) in absurd cc

pub no_place : (s : Source) (b : Bool) → b ≡ (small_vec_len s.inside.«open» == 0) → b ≡ true → (here_of s).inside.places ≡ []
no_place s b e f = none_places s.inside.«open».items b e f

reversed_none : (ps : List Place) → reverse ps ≡ [] → ps ≡ []
reversed_none ps e = sym (reverse-reverse ps) ∙ ap reverse e

some_places : (fs : List Frame) (b : Bool) → b ≡ (length fs == 0) → b ≡ false → reverse (map place_of fs) ≡ [] → ⊥
some_places [] b e f n = let z : false ≡ true = sym f ∙ e in absurd cc
some_places (x ∷ xs) b e f n = let z = reversed_none (map place_of (x ∷ xs)) n in absurd cc

pub some_place : (s : Source) (b : Bool) → b ≡ (small_vec_len s.inside.«open» == 0) → b ≡ false → (here_of s).inside.places ≡ [] → ⊥
some_place s b e f n = some_places s.inside.«open».items b e f n

-- ---- at the first token

pub at_first : (lexed : Lexed) (h : Here) (text : List ℕ) (tokens : List Token) → h ≡ start → text ≡ lexed.text → tokens ≡ lexed.tokens → Reached (token_lines lexed) h (lines_of text (drop 0 tokens))
at_first lexed h text tokens e f g = rw (e, f, g) (reached_start (token_lines lexed))

-- ---- the answer

pub text_is : (ls : List TokenLine) (t : Tree) (ds : List DeclTree) (xs : StmtTrees) → map decl_tree t.decls ≡ ds → stmt_trees t.body ≡ xs → IsText ls (record { decls = ds; body = xs }) → IsText ls (program_tree t)
text_is ls t ds xs e f k = rw (e, f) k

-- what was refused with a tree was refused for want of memory
pub refused_only : {X : Type 0} (view : X → ProgramTree) (ls : List TokenLine) (ended : Bool) (end_line : Line) (r : Result X ParseRefusal) (e : ParseRefusal) (x : ProgramTree) → r ≡ Err e → IfErr r (IsRefusal ls ended end_line) → IsText ls x → IsAllowed ls → ended ≡ true → Gives view r x
refused_only view ls ended end_line (Ok z) e x q k t a y = absurd cc
refused_only view ls ended end_line (Err f) e x q k t a y = not_refused ls ended end_line x f t a y k
