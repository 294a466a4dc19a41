use Rattle.std.proofs.Common.{◌≡◌, ℕ, ◌<◌, [], length, get_or}
use Rattle.section_num.specs.Tables.{is_in}
use Rattle.fd_sets.specs.Tables.{no_items}
use Rattle.section_num.proofs.Filled.{is_one}
use Rattle.section_num.proofs.tables.table_of.Given as goal

-- the sets so far are those of the rows, and all have their size
abbrev pub invariant-loop-n : goal.invariant-loop-n
invariant-loop-n l =
    record {
      long : length l.table ≡ length l.rows;
      sizes : (n : ℕ) → n < length l.rows → (get_or l.table n no_items).size ≡ l.items;
      members : (n x : ℕ) → n < l.n → is_in l.table n x ≡ is_one (get_or l.rows n []) x;
    }
