-- Places in a text, each at the begin of a physical line.
use Rattle.std.specs.Prelude.{◌≡◌, ◌+◌, ◌-◌, ◌<◌, ◌≤◌, ◌^◌, List, ◌∷◌, length, if◌then◌else◌}
use Rattle.fd_lexer.specs.declared.place.Place.{Place}
use Rattle.fd_lexer.specs.declared.place.PhysicalLine.{PhysicalLine}
use Rattle.fd_lexer.specs.Physical.{Physical, counted_from, counts}

-- the lines from here on that count
abbrev pub counted_of : Place → List Physical
counted_of p = counted_from p.number p.at p.rest.now

abbrev pub physical_of : PhysicalLine → Physical
physical_of l = record { number = l.number; start = l.start; bytes = l.bytes.now; next = l.next }

-- the offsets and numbers from here on fit 32 bits
pub record HasRoom (p : Place) : Type 0 where
  pub offsets : p.at + length p.rest.now < 2 ^ 32 - 1
  pub numbers : p.number ≤ p.at + 1

-- the line lies between the two places, and its number fits
pub record IsBetween (p : Place) (l : PhysicalLine) (q : Place) : Type 0 where
  pub from : p.at ≤ l.start
  pub bytes : l.start + length l.bytes.now ≤ l.next
  pub to : l.next ≡ q.at
  pub number : l.number ≤ l.start + 1
  pub all : q.at + length q.rest.now ≡ p.at + length p.rest.now
  pub shorter : length q.rest.now < length p.rest.now
  pub numbers : q.number ≤ q.at + 1

-- the line that begins here, whether it counts or not
pub record IsFirstLine (p : Place) (l : PhysicalLine) (q : Place) : Type 0 where
  pub counted : counted_of p ≡ (if counts l.bytes.now then physical_of l ∷ counted_of q else counted_of q)
  pub between : IsBetween p l q

-- the first line from here on that counts
pub record IsNextLine (p : Place) (l : PhysicalLine) (q : Place) : Type 0 where
  pub counted : counted_of p ≡ physical_of l ∷ counted_of q
  pub between : IsBetween p l q
