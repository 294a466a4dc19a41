-- Which texts are listings, line by line.
use Rattle.std.specs.Prelude.{◌≡◌, ℕ, ◌+◌, ◌-◌, ◌<◌, ◌≤◌, ◌^◌, ◌==◌, ◌↔◌, Bool, true, false, IsTrue, ◌&&◌, ◌||◌, if◌then◌else◌, List, [], ◌∷◌, ◌++◌, All, length, take, drop, get_or, slice_get, nat_lt, nat_le, not, Option, None, Some, codes}
use Rattle.std.specs.Fmt.{decimal}
use Rattle.std.specs.List.{slice_split}
use Rattle.std.specs.Str.Parse.{digits_value}
use Rattle.fd_base.specs.declared.numbering.Line.{Line}
use Rattle.fd_prog.specs.Programs.{CheckedProgram}
use Rattle.fd_prog.specs.Items.{LinearItem}
use Rattle.fd_prog.specs.Paths.{Places, taken_inside}
use Rattle.fd_sets.specs.Sets.{Subset}
use Rattle.fd_prog.specs.declared.item.Item.{Item}
use Rattle.interval_graph.specs.declared.node.Row.{Row}
use Rattle.interval_graph.specs.Rows.{flow_of}
use Rattle.gnt_solver.specs.declared.tables.Size.{Size}
use Rattle.gnt_solver.specs.Columns.{at, col}
use Rattle.place_text.specs.declared.entry.Kind.{Kind}
use Rattle.place_text.specs.declared.entry.Kind.TheVariants.{SendIn, RecvIn, SendOut, RecvOut, Hoist}
use Rattle.place_text.specs.declared.entry.Entry.{Entry}
use Rattle.place_text.specs.declared.known.Known.{Known}
use Rattle.place_text.specs.declared.refusal.ListingRefusal.{ListingRefusal}
use Rattle.place_text.specs.declared.refusal.ListingRefusal.TheVariants as refused
use Rattle.place_text.specs.Listings.{item_lines, front_text, listing}
use Rattle.place_text.specs.Tables.{lines_of}

-- ---- the lines of a text

-- the parts of a text between bytes of this number
abbrev pub parts_at : ℕ → List ℕ → List (List ℕ)
parts_at separator text = slice_split (λ b. b == separator) text

-- a text without the end of its last line, which may be missing
abbrev pub unended : List ℕ → List ℕ
unended text = if nat_lt 0 (length text) && (get_or text (length text - 1) 0 == 10) then take (length text - 1) text else text

abbrev pub lines_in : List ℕ → List (List ℕ)
lines_in text = parts_at 10 (unended text)

-- ---- what a line tells of a node and an item

-- the order in which the operations of a node stand
abbrev pub turn : Kind → ℕ
turn SendIn = 0
turn RecvIn = 1
turn SendOut = 2
turn RecvOut = 3
turn Hoist = 4

abbrev pub is_hoist : Kind → Bool
is_hoist SendIn = false
is_hoist RecvIn = false
is_hoist SendOut = false
is_hoist RecvOut = false
is_hoist Hoist = true

-- the word before the node
abbrev pub word_before : Kind → List ℕ
word_before SendIn = []
word_before RecvIn = []
word_before SendOut = []
word_before RecvOut = []
word_before Hoist = codes "hoist "

-- the words between the line of the node and the item
abbrev pub words_between : Kind → List ℕ
words_between SendIn = codes " in send "
words_between RecvIn = codes " in recv "
words_between SendOut = codes " out send "
words_between RecvOut = codes " out recv "
words_between Hoist = codes " item "

-- the words of a line of a kind, around its three numbers
abbrev pub words_by : Kind → List ℕ → List ℕ → List ℕ → List (List ℕ)
words_by SendIn n l x = codes "node" ∷ (n ∷ (codes "line" ∷ (l ∷ (codes "in" ∷ (codes "send" ∷ (x ∷ []))))))
words_by RecvIn n l x = codes "node" ∷ (n ∷ (codes "line" ∷ (l ∷ (codes "in" ∷ (codes "recv" ∷ (x ∷ []))))))
words_by SendOut n l x = codes "node" ∷ (n ∷ (codes "line" ∷ (l ∷ (codes "out" ∷ (codes "send" ∷ (x ∷ []))))))
words_by RecvOut n l x = codes "node" ∷ (n ∷ (codes "line" ∷ (l ∷ (codes "out" ∷ (codes "recv" ∷ (x ∷ []))))))
words_by Hoist n l x = codes "hoist" ∷ (codes "node" ∷ (n ∷ (codes "line" ∷ (l ∷ (codes "item" ∷ (x ∷ []))))))

-- by node, then by kind, then by item
abbrev pub comes_before : Entry → Entry → Bool
comes_before d e = nat_lt d.node e.node || ((d.node == e.node) && (nat_lt (turn d.kind) (turn e.kind) || ((turn d.kind == turn e.kind) && nat_lt d.item e.item)))

-- what lines can tell of: nodes by their lines in the source, items up to a count, and the items that the body of each loop takes
pub record Layout : Type 0 where
  pub lines : List Line
  pub items : ℕ
  pub taken : ℕ → ℕ → Bool

abbrev pub line_of_node : Layout → ℕ → Line
line_of_node y n = get_or y.lines n (record { 0 = 0 })

abbrev pub entry_line : Layout → Entry → List ℕ
entry_line y e = front_text (word_before e.kind) e.node (line_of_node y e.node) (words_between e.kind) ++ decimal e.item

-- a node and an item that there are; what is hoisted is taken in the body of the loop
abbrev pub is_real : Layout → Entry → Bool
is_real y e = nat_lt e.node (length y.lines) && (nat_le 1 e.item && (nat_le e.item y.items && (not (is_hoist e.kind) || y.taken e.node e.item)))

-- an operation, or where `hoists` a hoist, that there can be
pub record IsEntry (y : Layout) (hoists : Bool) (e : Entry) : Type 0 where
  pub kind : is_hoist e.kind ≡ hoists
  pub real : IsTrue (is_real y e)

-- what is known of a deck, as lines can tell of it
abbrev pub layout_of : Known → Layout
layout_of k = record { lines = k.lines.items; items = k.items; taken = λ n x. at (col k.taken x) n }

-- what lines can tell of a graph and of items, by what each node takes
abbrev pub layout_by : List Row → List Item → List Subset → Layout
layout_by rows items take = record { lines = lines_of rows; items = length items; taken = taken_inside (flow_of rows) (λ n x. at (col take x) n) }

abbrev pub size_by : List Row → List Item → Size
size_by rows items = record { nodes = length rows; items = length items }

-- few lines and items, and a set for each node
pub record IsKnown (k : Known) : Type 0 where
  pub few : length k.lines.items < 2 ^ 16
  pub items : k.items < 2 ^ 16
  pub numbers : (n : ℕ) → (line_of_node (layout_of k) n).0 < 2 ^ 32
  pub taken : length k.taken ≡ length k.lines.items

-- the words of the line of an entry, which has this line in the source
abbrev pub entry_words : ℕ → Entry → List (List ℕ)
entry_words line e = words_by e.kind (decimal e.node) (decimal line) (decimal e.item)

-- ---- which line stands right

-- the first lines: how many items there are, and the items
abbrev pub opening : CheckedProgram → List LinearItem → List (List ℕ)
opening p xs = (codes "items " ++ decimal (length xs)) ∷ item_lines p 1 xs

-- the number behind a word
abbrev pub count_at : List ℕ → List (List ℕ) → ℕ → ℕ
count_at word ls i = digits_value 10 (drop (length word) (get_or ls i []))

-- a line has a word and a count below 2^32
pub record IsCountLine (word : List ℕ) (ls : List (List ℕ)) (i : ℕ) : Type 0 where
  pub small : count_at word ls i < 2 ^ 32
  pub line : slice_get ls i ≡ Some (word ++ decimal (count_at word ls i))

-- a line of those from `first` on tells this of a node and an item, and it comes behind what the line before tells
pub record IsEntryAt (y : Layout) (hoists : Bool) (ls : List (List ℕ)) (first i : ℕ) (e : Entry) : Type 0 where
  pub real : IsEntry y hoists e
  pub line : slice_get ls i ≡ Some (entry_line y e)
  pub behind : (d : Entry) → first < i → IsEntry y hoists d → slice_get ls (i - 1) ≡ Some (entry_line y d) → IsTrue (comes_before d e)

-- a line of those from `first` on tells something of a node and an item, behind what the line before tells
abbrev pub IsEntryLine : Layout → Bool → List (List ℕ) → ℕ → ℕ → Type 0
IsEntryLine y hoists ls first i = (e : Entry) × IsEntryAt y hoists ls first i e

-- this where a test holds, and else that
abbrev pub Either : Bool → Type 0 → Type 0 → Type 0
Either true A B = A
Either false A B = B

-- the place of the line that counts the operations, which is that behind the items; of the line that counts the hoists; and of the end
abbrev pub places_at : List (List ℕ) → ℕ
places_at front = length front

abbrev pub hoists_at : List (List ℕ) → List (List ℕ) → ℕ
hoists_at front ls = places_at front + 1 + count_at (codes "places ") ls (places_at front)

abbrev pub end_at : List (List ℕ) → List (List ℕ) → ℕ
end_at front ls = hoists_at front ls + 1 + count_at (codes "hoists ") ls (hoists_at front ls)

-- The line at a place, counted from 0, is right after the lines before it: it is that of the first lines, the count of the operations, an operation, the count of
-- the hoists, or a hoist; and behind these nothing stands.
abbrev pub IsRight : List (List ℕ) → Layout → List (List ℕ) → ℕ → Type 0
IsRight front y ls i =
    Either (nat_lt i (places_at front)) (slice_get ls i ≡ slice_get front i)
    (Either (nat_lt i (places_at front + 1)) (IsCountLine (codes "places ") ls i)
    (Either (nat_lt i (hoists_at front ls)) (IsEntryLine y false ls (places_at front + 1) i)
    (Either (nat_lt i (hoists_at front ls + 1)) (IsCountLine (codes "hoists ") ls i)
    (Either (nat_lt i (end_at front ls)) (IsEntryLine y true ls (hoists_at front ls + 1) i)
    (slice_get ls i ≡ None)))))

-- ---- a listing that is read

-- the place of the first line of its kind, and that behind the last
abbrev pub first_of : Bool → List (List ℕ) → List (List ℕ) → ℕ
first_of false front ls = places_at front + 1
first_of true front ls = hoists_at front ls + 1

abbrev pub end_of : Bool → List (List ℕ) → List (List ℕ) → ℕ
end_of false front ls = hoists_at front ls
end_of true front ls = end_at front ls

-- one of the lines from a place up to another tells this
pub record IsToldIn (y : Layout) (ls : List (List ℕ)) (first end : ℕ) (e : Entry) : Type 0 where
  pub place : ℕ
  pub low : first ≤ place
  pub high : place < end
  pub real : IsEntry y (is_hoist e.kind) e
  pub line : slice_get ls place ≡ Some (entry_line y e)

-- what the places say of a kind
abbrev pub by_kind : Places → Kind → ℕ → ℕ → Bool
by_kind places SendIn = places.send_in
by_kind places RecvIn = places.recv_in
by_kind places SendOut = places.send_out
by_kind places RecvOut = places.recv_out
by_kind places Hoist = places.hoists

abbrev pub marked : Places → Entry → Bool
marked places e = by_kind places e.kind e.node e.item

-- each line is right, up to the end where nothing stands; and the places are those that the lines tell
pub record IsReadAs (front : List (List ℕ)) (y : Layout) (ls : List (List ℕ)) (places : Places) : Type 0 where
  pub right : (i : ℕ) → i ≤ length ls → IsRight front y ls i
  pub told : (e : Entry) → IsTrue (marked places e) ↔ IsToldIn y ls (first_of (is_hoist e.kind) front ls) (end_of (is_hoist e.kind) front ls) e

-- the first line that isn't right, counted from 1; it is behind the last where one is missing
pub record IsFirstWrong (front : List (List ℕ)) (y : Layout) (ls : List (List ℕ)) (line : ℕ) : Type 0 where
  pub low : 1 ≤ line
  pub high : line ≤ length ls + 1
  pub before : (i : ℕ) → i + 1 < line → IsRight front y ls i
  pub wrong : IsRight front y ls (line - 1) → ⊥

-- a refusal names this line, or tells of want of memory
abbrev pub NamesLine : ListingRefusal → (ℕ → Type 0) → Type 0
NamesLine (refused.Bad line) P = P line.0
NamesLine refused.Memory P = Unit {0}

-- ---- some of the lines

-- so few lines that each has a number, and that behind the last has one too
abbrev pub AreFew : List (List ℕ) → Type 0
AreFew ls = length ls + 1 < 2 ^ 32

-- of the places from `first` up to `end` this is the first that isn't right, counted from 1
pub record IsWrongOf (P : ℕ → Type 0) (first end count line : ℕ) : Type 0 where
  pub place : ℕ
  pub low : first ≤ place
  pub high : place < end
  pub there : place ≤ count
  pub before : (i : ℕ) → first ≤ i → i < place → P i
  pub wrong : P place → ⊥
  pub is : line ≡ place + 1

-- what the line before a place tells, where that is one of those from `first` on
abbrev pub LastIs : Layout → Bool → List (List ℕ) → ℕ → ℕ → Option Entry → Type 0
LastIs y hoists ls first i None = i ≡ first
LastIs y hoists ls first i (Some d) = (first < i) × IsEntry y hoists d × (slice_get ls (i - 1) ≡ Some (entry_line y d))

abbrev pub stands_behind : Option Entry → Entry → Bool
stands_behind None e = true
stands_behind (Some d) e = comes_before d e

-- two entries are one
abbrev pub same_entry : Entry → Entry → Bool
same_entry d e = (turn d.kind == turn e.kind) && ((d.node == e.node) && (d.item == e.item))

-- how many nodes and items are known
abbrev pub size_in : Known → Size
size_in k = record { nodes = length k.lines.items; items = k.items }

-- ---- a listing that was written

-- none of the first lines holds the end of a line
abbrev pub AreUnbroken : List (List ℕ) → Type 0
AreUnbroken front = All (λ line. All (λ b. (b == 10) ≡ false) line) front

-- each item that is hoisted at a node is taken in the body of the loop there
abbrev pub AreHoistsTaken : Layout → Places → Type 0
AreHoistsTaken y places = (n x : ℕ) → n < length y.lines → 1 ≤ x → x ≤ y.items → IsTrue (places.hoists n x) → IsTrue (y.taken n x)

-- these places have this listing, and lines can tell of them
pub record IsListingOf (p : CheckedProgram) (xs : List LinearItem) (y : Layout) (places : Places) (bytes : List ℕ) : Type 0 where
  pub unbroken : AreUnbroken (opening p xs)
  pub hoists : AreHoistsTaken y places
  pub text : bytes ≡ listing p xs y.lines places

-- places are those that were written, at the nodes and of the items that there are
abbrev pub AreBack : Layout → Places → Places → Type 0
AreBack y written places = (e : Entry) → marked places e ≡ (is_real y e && marked written e)
