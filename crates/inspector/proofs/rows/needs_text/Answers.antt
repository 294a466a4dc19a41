use Rattle.std.proofs.Common.{ℕ, ◌<◌, length, sym, subst}
use Rattle.fd_base.specs.Shapes.{size_of}
use Rattle.fd_prog.specs.Programs.{program_of}
use Rattle.fd_prog.specs.Stores.{shape_of}
use Rattle.owner_part.specs.Placed.{HasElements, array_place, decomp_place}
use Rattle.inspector.proofs.rows.needs_text.Goals as goal

pub all_needs-requires : goal.all_needs-requires
all_needs-requires c =
    let p = program_of c.in_ok-program.program in
    let places = c.in_ok-places.places in
    record {
      program = c.in_ok-program.ensures.mapped;
      item = c.in_ok-item.ensures.sound;
      array = subst (λ (k : ℕ). k < length p.arrays) (sym c.in_ok-item.ensures.array) c.in_ok-program.ensures.arrays;
      place =
          subst (λ (k : ℕ). HasElements (array_place places k) (size_of (shape_of p k))) (sym c.in_ok-item.ensures.array)
          (subst (λ (n : ℕ). HasElements (array_place places 0) n) (sym c.in_ok-program.ensures.size) c.in_ok-places.ensures.array);
      home = c.in_ok-item.ensures.home p (decomp_place places) (subst (λ (n : ℕ). HasElements (decomp_place places 0) n) (sym c.in_ok-program.ensures.positions) c.in_ok-places.ensures.decomp);
    }
