-- The listing of a program's items and of where they are sent and received.
use Rattle.std.specs.Prelude.{ℕ, ◌+◌, Bool, List, [], ◌∷◌, ◌++◌, map, filter, flat_map, length, codes}
use Rattle.std.specs.Fmt.{decimal}
use Rattle.std.specs.List.{range_with_len}
use Rattle.fd_base.specs.declared.numbering.Line.{Line}
use Rattle.fd_prog.specs.Programs.{CheckedProgram}
use Rattle.fd_prog.specs.Items.{LinearItem}
use Rattle.fd_prog.specs.Paths.{Places}
use Rattle.place_text.specs.ItemTexts.{item_text}

-- ---- lines

abbrev pub ended_line : List ℕ → List ℕ
ended_line text = text ++ codes "\n"

-- a word with a count, and then as many lines
abbrev pub counted_lines : List ℕ → List (List ℕ) → List ℕ
counted_lines word lines = ended_line (word ++ decimal (length lines)) ++ flat_map ended_line lines

-- an item by its number
abbrev pub item_line : CheckedProgram → ℕ → LinearItem → List ℕ
item_line p number x = codes "item " ++ (decimal number ++ (codes " " ++ item_text p x))

-- the items from a number on, each by its number
abbrev pub item_lines : CheckedProgram → ℕ → List LinearItem → List (List ℕ)
item_lines p number [] = []
item_lines p number (x ∷ xs) = item_line p number x ∷ item_lines p (number + 1) xs

-- the front of a line that tells something of a node, which goes by its number and its line
abbrev pub front_text : List ℕ → ℕ → Line → List ℕ → List ℕ
front_text word n line told = word ++ (codes "node " ++ (decimal n ++ (codes " line " ++ (decimal line.0 ++ told))))

-- a line for each item that is marked, in order of the items: the front, and the item's number
abbrev pub marked_lines : List ℕ → ℕ → (ℕ → Bool) → List (List ℕ)
marked_lines front items marked = map (λ x. front ++ decimal x) (filter marked (range_with_len 1 items))

-- the operations at the `in` of a node and those at its `out`, sends before receives
abbrev pub lines_on_arrival : ℕ → Places → ℕ → Line → List (List ℕ)
lines_on_arrival items places n line =
    marked_lines (front_text [] n line (codes " in send ")) items (places.send_in n)
    ++ marked_lines (front_text [] n line (codes " in recv ")) items (places.recv_in n)

abbrev pub lines_on_leaving : ℕ → Places → ℕ → Line → List (List ℕ)
lines_on_leaving items places n line =
    marked_lines (front_text [] n line (codes " out send ")) items (places.send_out n)
    ++ marked_lines (front_text [] n line (codes " out recv ")) items (places.recv_out n)

-- the operations of a node, those at its `in` first
abbrev pub place_lines : ℕ → Places → ℕ → Line → List (List ℕ)
place_lines items places n line = lines_on_arrival items places n line ++ lines_on_leaving items places n line

abbrev pub hoist_lines : ℕ → Places → ℕ → Line → List (List ℕ)
hoist_lines items places n line = marked_lines (front_text (codes "hoist ") n line (codes " item ")) items (places.hoists n)

-- what each node gives, in order of the nodes from a number on, from its number and its line
abbrev pub by_node : (ℕ → Line → List (List ℕ)) → ℕ → List Line → List (List ℕ)
by_node lines n [] = []
by_node lines n (line ∷ more) = lines n line ++ by_node lines (n + 1) more

-- ---- the listing

-- items from 1 on, nodes from 0 on with their lines in the source, and where items are sent, received and hoisted
abbrev pub listing : CheckedProgram → List LinearItem → List Line → Places → List ℕ
listing p xs lines places =
    counted_lines (codes "items ") (item_lines p 1 xs)
    ++ (counted_lines (codes "places ") (by_node (place_lines (length xs) places) 0 lines)
    ++ counted_lines (codes "hoists ") (by_node (hoist_lines (length xs) places) 0 lines))
