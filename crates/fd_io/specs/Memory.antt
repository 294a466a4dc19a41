-- Sources and sinks in memory.
use Rattle.std.specs.Prelude.{ℕ, List, Bool, if◌then◌else◌}
use Rattle.fd_io.specs.Causes.{next_count}

-- what is left, the most bytes of a call, the numbers of the calls that fail, the number of the last call, and the faults
pub record SourceState : Type 0 where
  pub left : List ℕ
  pub piece : ℕ
  pub fails : List ℕ
  pub calls : ℕ
  pub faults : ℕ

-- what was taken, the room in all, the most bytes of a call, the numbers of the calls that fail, the number of the last call, and the faults
pub record SinkState : Type 0 where
  pub taken : List ℕ
  pub room : ℕ
  pub piece : ℕ
  pub fails : List ℕ
  pub calls : ℕ
  pub faults : ℕ

-- the count of faults after a call that failed or didn't
abbrev pub fault_count : ℕ → Bool → ℕ
fault_count before failed = if failed then next_count before else before

-- what was taken, the room in all, the number of the last call, and the faults
pub record RoomState : Type 0 where
  pub taken : List ℕ
  pub room : ℕ
  pub calls : ℕ
  pub faults : ℕ
