-- What a walk over an item's iterations reads.
use Rattle.std.specs.Prelude.{◌<◌, List, length, Result, Ok, Err}
use Rattle.fd_base.specs.Shapes.{size_of}
use Rattle.fd_prog.specs.Mapped.{IsMapped}
use Rattle.fd_prog.specs.Stores.{shape_of}
use Rattle.fd_prog.specs.WellFormed.{Names}
use Rattle.fd_prog.specs.SoundForms.{IsSoundItem}
use Rattle.fd_prog.specs.Programs.{CheckedProgram, program_of}
use Rattle.fd_prog.specs.Values.{Readings}
use Rattle.fd_prog.specs.Items.{LinearItem, linear_item_of}
use Rattle.fd_prog.specs.Needs as definition
use Rattle.fd_prog.specs.Needs.{Sight}
use Rattle.owner_part.specs.declared.place.Place.{Place}
use Rattle.owner_part.specs.declared.place.Placed.{Placed}
use Rattle.inspector.specs.declared.reader.Reader.{Reader}
use Rattle.inspector.specs.declared.finding.Numbers.{Numbers}
use Rattle.inspector.specs.declared.found.Found.{Found}
use Rattle.inspector.specs.Walks.{Walk}
use Rattle.inspector.specs.Placed.{HasPositions}
use Rattle.owner_part.specs.Placed.{HasElements, array_place, decomp_place, place_of}

-- what a rank sees of a program by the numbers that its cells have and the places that it keeps
abbrev pub sight_by : CheckedProgram → Readings → List (Placed × Place) → Sight
sight_by p readings places = record { program = p; readings = readings; array_place = array_place places; decomp_place = decomp_place places }

-- ---- one item

abbrev pub program_in : Reader → CheckedProgram
program_in r = program_of r.program.now

abbrev pub item_in : Reader → LinearItem
item_in r = linear_item_of r.item.now

-- the item names what the program and the cells have, and the two places have the program's sizes
pub record IsReader (n : Names) (r : Reader) : Type 0 where
  pub mapped : IsMapped (program_in r)
  pub array : (item_in r).array < length (program_in r).arrays
  pub sound : IsSoundItem n (item_in r)
  pub elements : HasElements (place_of r.array_place.now) (size_of (shape_of (program_in r) (item_in r).array))
  pub positions : HasPositions (program_in r) (λ decomp. place_of r.home_place.now) (item_in r).home

-- the same sight with the two places that an item's needs depend on in place of all
abbrev pub sight_of : Readings → Reader → Sight
sight_of readings r = record {
  program = program_in r;
  readings = readings;
  array_place = λ array. place_of r.array_place.now;
  decomp_place = λ decomp. place_of r.home_place.now;
}

-- ---- what is found on the way

abbrev pub numbers_of : Numbers → definition.LoopNumbers
numbers_of n = record { first = n.first; by = n.by; count = n.count }

-- what was found, seen so
abbrev pub map_ok : {A B E : Type 0} → (A → B) → Result A E → Result B E
map_ok view (Ok x) = Ok (view x)
map_ok view (Err e) = Err e

abbrev pub walk_of : Found → Walk
walk_of f = record { left = f.left; found = f.elements.items }
