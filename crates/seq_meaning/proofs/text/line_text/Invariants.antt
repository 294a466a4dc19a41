use Rattle.std.proofs.Common.{◌≡◌, ℕ, List, map, take, length, Ok}
use Rattle.std.specs.List.{join_with_byte}
use Rattle.fd_prog.specs.Programs.{program_of}
use Rattle.fd_prog.specs.Statements.{print_item_of}
use Rattle.fd_prog.specs.Stores.{readings_of}
use Rattle.fd_prog.specs.Sequence.{item_texts}
use Rattle.seq_meaning.specs.Stored.{store_of}
use Rattle.seq_meaning.proofs.text.line_text.Given as goal

-- the items before the index have these texts, and the line joins them
abbrev pub invariant-loop-index : goal.invariant-loop-index
invariant-loop-index l =
    (xs : List (List ℕ)) × (item_texts (readings_of (program_of l.task.program.now) (store_of l.store)) (map print_item_of (take l.index l.parts)) ≡ Ok xs) × (length xs ≡ l.index) × (l.line ≡ join_with_byte 32 xs)
