use Rattle.std.proofs.Common.{ℕ, List, All, ◌∙◌, subst, sym}
use Rattle.fd_base.specs.Shapes.{size_of}
use Rattle.fd_prog.specs.Homes.{executor_of}
use Rattle.fd_prog.specs.Items.{linear_item_of}
use Rattle.fd_prog.specs.Programs.{program_of}
use Rattle.fd_prog.specs.Stores.{shape_of}
use Rattle.owner_part.specs.Placed.{HasElement, array_place, decomp_place, place_of}
use Rattle.inspector.specs.Readers.{sight_by}
use Rattle.inspector.proofs.Alike.{needs_alike}
use Rattle.inspector.proofs.SplitPlaces.{elements_at, home_split_from, needs_inside, positions_at, split_from}
use Rattle.inspector.proofs.inspecting.needs.Goals as goal

pub split_place-array_place-requires : goal.split_place-array_place-requires
split_place-array_place-requires g c =
    split_from (array_place c.args.places.now c.args.item.now.array) (size_of (shape_of (program_of c.args.program.now) c.args.item.now.array)) c.requires.place

pub place_of_home-home_place-requires : goal.place_of_home-home_place-requires
place_of_home-home_place-requires g c =
    home_split_from (program_of c.args.program.now) (decomp_place c.args.places.now) (executor_of c.args.item.now.home) c.requires.home

pub needs_by-requires : goal.needs_by-requires
needs_by-requires g c = record {
  mapped = c.requires.program;
  array = c.requires.array;
  sound = c.requires.item;
  elements =
      elements_at (array_place c.args.places.now c.args.item.now.array) (place_of c.split_place-array_place.result.now) (size_of (shape_of (program_of c.args.program.now) c.args.item.now.array))
      c.requires.place c.split_place-array_place.ensures;
  positions =
      positions_at (program_of c.args.program.now) (decomp_place c.args.places.now) (executor_of c.args.item.now.home) (place_of c.place_of_home-home_place.result.now)
      c.requires.home c.place_of_home-home_place.ensures;
}

pub returns-clause-needs : goal.returns-clause-needs
returns-clause-needs g c =
    c.in_ok-elements.ensures
    ∙ needs_alike (sight_by (program_of c.args.program.now) (g.C.Cells.readings c.args.cells.now) c.args.places.now) (place_of c.split_place-array_place.result.now) (place_of c.place_of_home-home_place.result.now) (linear_item_of c.args.item.now) c.args.rank.0 c.args.limit
    c.split_place-array_place.ensures c.place_of_home-home_place.ensures

pub returns-clause-elements : goal.returns-clause-elements
returns-clause-elements g c =
    let s = sight_by (program_of c.args.program.now) (g.C.Cells.readings c.args.cells.now) c.args.places.now in
    subst (λ (es : List ℕ). All (HasElement (array_place c.args.places.now c.args.item.now.array)) es)
    (sym (c.in_ok-elements.ensures
    ∙ needs_alike s (place_of c.split_place-array_place.result.now) (place_of c.place_of_home-home_place.result.now) (linear_item_of c.args.item.now) c.args.rank.0 c.args.limit
    c.split_place-array_place.ensures c.place_of_home-home_place.ensures))
    (needs_inside s (linear_item_of c.args.item.now) c.args.rank.0 c.args.limit c.requires.place)
