-- What is told of a line by its tokens alone, also where it is no line of the grammar.
use Rattle.std.specs.Prelude.{ℕ, ◌+◌, ◌-◌, ◌==◌, Bool, true, false, ◌||◌, ◌&&◌, not, nat_le, List, [], ◌∷◌, codes, if◌then◌else◌}
use Rattle.fd_lexer.specs.declared.token.SignKind.TheVariants.{ParLeft, ParRight, Equal, StarStar}
use Rattle.fd_lexer.specs.View.{Tok, Name, Num, Sign}
use Rattle.fd_parser.specs.declared.scan.Level.{Level}

-- ---- words

abbrev pub is_text : List ℕ → List ℕ → Bool
is_text [] [] = true
is_text [] (b ∷ bs) = false
is_text (a ∷ as_) [] = false
is_text (a ∷ as_) (b ∷ bs) = (a == b) && is_text as_ bs

abbrev pub is_one_of : List ℕ → List (List ℕ) → Bool
is_one_of s [] = false
is_one_of s (w ∷ ws) = is_text s w || is_one_of s ws

-- the first token is one of these names
abbrev pub begins_with : List (List ℕ) → List Tok → Bool
begins_with ws (Name s ∷ ts) = is_one_of s ws
begins_with ws ts = false

-- ---- assignments

abbrev pub is_left : Tok → Bool
is_left (Sign ParLeft) = true
is_left t = false

abbrev pub is_right : Tok → Bool
is_right (Sign ParRight) = true
is_right t = false

abbrev pub is_equal : Tok → Bool
is_equal (Sign Equal) = true
is_equal t = false

abbrev pub first_is : (Tok → Bool) → List Tok → Bool
first_is p [] = false
first_is p (t ∷ ts) = p t

-- what stands behind the parenthesis that closes the n-th open one
abbrev pub behind_group : ℕ → List Tok → List Tok
behind_group n [] = []
behind_group n (t ∷ ts) =
    if is_left t then behind_group (n + 1) ts
    else if is_right t then (if nat_le n 1 then ts else behind_group (n - 1) ts)
    else behind_group n ts

-- what stands behind an optional group in parentheses
abbrev pub after_group : List Tok → List Tok
after_group [] = []
after_group (t ∷ ts) = if is_left t then behind_group 1 ts else t ∷ ts

-- a name, an optional group in parentheses, and then =
abbrev pub is_assignment : List Tok → Bool
is_assignment (Name s ∷ ts) = first_is is_equal (after_group ts)
is_assignment ts = false

-- ---- parentheses

abbrev pub is_while_group : List Tok → Bool
is_while_group (Name s ∷ ts) = is_text s (codes "WHILE") && first_is is_left ts
is_while_group ts = false

-- DO WHILE (
abbrev pub is_while : List Tok → Bool
is_while (Name s ∷ ts) = is_text s (codes "DO") && is_while_group ts
is_while ts = false

-- lines whose outermost parentheses belong to their form, and stand in no expression
abbrev pub form_words : List (List ℕ)
form_words = codes "IF" ∷ (codes "ELSEIF" ∷ (codes "ELSE" ∷ (codes "PARAMETER" ∷ (codes "INTEGER" ∷ (codes "DECOMPOSITION" ∷ (codes "ALIGN" ∷ []))))))

-- how many parentheses, one in the other, belong to the form of the line: BLOCK_CYCLIC stands in those of a DISTRIBUTE
abbrev pub own_of : List Tok → ℕ
own_of ts =
    if is_assignment ts then 0
    else if begins_with (codes "DISTRIBUTE" ∷ []) ts then 2
    else if is_while ts || begins_with form_words ts then 1
    else 0

abbrev pub first_level : List Tok → Level
first_level ts = record { «open» = 0; own = own_of ts }

-- Behind the group of an IF a statement stands, none of whose parentheses belong to the IF. A parenthesis too many
-- closes nothing.
abbrev pub level_behind : Bool → Level → Tok → Level
level_behind one_group v t =
    if is_left t then record { «open» = v.«open» + 1; own = v.own }
    else if is_right t then record { «open» = v.«open» - 1; own = if nat_le v.«open» 1 && one_group then 0 else v.own }
    else v

-- the last parenthesis begins nesting level 33
abbrev pub is_deep : Level → Bool
is_deep v = not (nat_le v.«open» (v.own + 32))

-- some parenthesis of these tokens does
abbrev pub is_deep_behind : Bool → Level → List Tok → Bool
is_deep_behind one_group v [] = false
is_deep_behind one_group v (t ∷ ts) = is_deep (level_behind one_group v t) || is_deep_behind one_group (level_behind one_group v t) ts

-- some parenthesis of the line begins nesting level 33, those of its own form not being counted
abbrev pub is_too_deep : List Tok → Bool
is_too_deep ts = is_deep_behind (begins_with (codes "IF" ∷ []) ts) (first_level ts) ts

-- ---- what is left out of the language

abbrev pub is_number : Tok → Bool
is_number (Num z) = true
is_number t = false

abbrev pub is_power : Tok → Bool
is_power (Sign StarStar) = true
is_power t = false

abbrev pub has_power : List Tok → Bool
has_power [] = false
has_power (t ∷ ts) = is_power t || has_power ts

-- DO and a number
abbrev pub is_numbered_do : List Tok → Bool
is_numbered_do (Name s ∷ ts) = is_text s (codes "DO") && first_is is_number ts
is_numbered_do ts = false

-- statements of FORTRAN 77 and of its successors
abbrev pub types_and_data : List (List ℕ)
types_and_data = codes "REAL" ∷ (codes "DOUBLE" ∷ (codes "COMPLEX" ∷ (codes "LOGICAL" ∷ (codes "CHARACTER" ∷ (codes "DIMENSION" ∷ (codes "DATA" ∷ (codes "IMPLICIT" ∷ (codes "COMMON" ∷ (codes "EQUIVALENCE" ∷ (codes "SAVE" ∷ (codes "EXTERNAL" ∷ [])))))))))))

abbrev pub program_parts : List (List ℕ)
program_parts = codes "INTRINSIC" ∷ (codes "SUBROUTINE" ∷ (codes "FUNCTION" ∷ (codes "ENTRY" ∷ (codes "CALL" ∷ (codes "RETURN" ∷ (codes "STOP" ∷ (codes "PAUSE" ∷ (codes "GOTO" ∷ (codes "GO" ∷ (codes "ASSIGN" ∷ (codes "WRITE" ∷ [])))))))))))

abbrev pub files_and_control : List (List ℕ)
files_and_control = codes "FORMAT" ∷ (codes "OPEN" ∷ (codes "CLOSE" ∷ (codes "INQUIRE" ∷ (codes "REWIND" ∷ (codes "BACKSPACE" ∷ (codes "ENDFILE" ∷ (codes "EXIT" ∷ (codes "CYCLE" ∷ (codes "SELECT" ∷ (codes "FORALL" ∷ []))))))))))

abbrev pub is_left_out_word : List Tok → Bool
is_left_out_word ts = begins_with types_and_data ts || (begins_with program_parts ts || begins_with files_and_control ts)

-- The line begins with a number; has **; is DO and a number; or is no assignment, and begins with one of those words.
abbrev pub is_left_out : List Tok → Bool
is_left_out ts = first_is is_number ts || (has_power ts || (is_numbered_do ts || (not (is_assignment ts) && is_left_out_word ts)))
