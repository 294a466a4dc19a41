-- Each step of a run keeps the number of cells of each array.
use Rattle.std.proofs.Common.{◌≡◌, ℕ, zero, suc, ◌+◌, ℤ, pos, ◌+ℤ◌, List, [], ◌∷◌, length, map, replicate, get_or, set, slice_get, slice_set, option_map, Ok, refl, subst, ap, ◌∙◌, length-set}
use Rattle.std.specs.Prelude.{ok_or}
use Rattle.std.proofs.lemmas.List.{length-replicate, length-map}
use Rattle.std.proofs.lemmas.Option.{get_or_from_slice_get, slice_get-map}
use Rattle.fd_base.specs.declared.numbers.FaultKind.TheVariants.{EndOfInput}
use Rattle.fd_base.specs.Numbers.{exact}
use Rattle.fd_base.specs.Shapes.{size_of}
use Rattle.fd_prog.specs.declared.program.Array.{Array}
use Rattle.fd_prog.specs.Outcomes.{and_then}
use Rattle.fd_prog.specs.Expressions.{Expression}
use Rattle.fd_prog.specs.Programs.{CheckedProgram}
use Rattle.fd_prog.specs.Sequence.{gained}
use Rattle.fd_prog.specs.Statements.{Target}
use Rattle.fd_prog.specs.Stores.{Cell, ScalarCell, ElementCell, Store, assigned, cell_of, first_store, put, read_into, readings_of}
use Rattle.fd_prog.specs.Values.{value_of}
use Rattle.fd_prog.proofs.Runs.{and_then-ok}
use Rattle.rank_part.specs.Parts.{row}
use Rattle.rank_part.specs.Sizes.{HasSizes}

-- another number in a row
row-length : (rows : List (List ℤ)) (k j n : ℕ) (x : ℤ) → length (row (set rows k (slice_set (row rows k) n x)) j) ≡ length (row rows j)
row-length [] zero j n x = refl
row-length [] (suc k) j n x = refl
row-length (xs ∷ rows) zero zero n x = length-set xs n x
row-length (xs ∷ rows) zero (suc j) n x = refl
row-length (xs ∷ rows) (suc k) zero n x = refl
row-length (xs ∷ rows) (suc k) (suc j) n x = row-length rows k j n x

-- another number in a cell
pub put-sizes : (p : CheckedProgram) (cell : Cell) (x : ℤ) (s : Store) → HasSizes p s → HasSizes p (put cell x s)
put-sizes p (ScalarCell k) x s h = record { scalars = length-set s.scalars k x ∙ h.scalars; arrays = h.arrays; elements = h.elements }
put-sizes p (ElementCell array n) x s h = record {
  scalars = h.scalars;
  arrays = length-set s.arrays array (slice_set (row s.arrays array) n x) ∙ h.arrays;
  elements = λ other a e. row-length s.arrays array other n x ∙ h.elements other a e;
}

pub first-sizes : (p : CheckedProgram) → HasSizes p (first_store p)
first-sizes p = record {
  scalars = length-replicate (length p.scalars) (pos 0);
  arrays = length-map p.arrays (λ (a : Array). replicate (size_of a.shape) (pos 0));
  elements = λ array a e.
      let zeros : Array → List ℤ = λ b. replicate (size_of b.shape) (pos 0) in
      ap length (get_or_from_slice_get (map zeros p.arrays) array (zeros a) [] (slice_get-map zeros p.arrays array ∙ ap (option_map zeros) e)) ∙ length-replicate (size_of a.shape) (pos 0);
}

pub assigned-sizes : (p : CheckedProgram) (target : Target) (e : Expression) (s next : Store) → HasSizes p s → assigned p target e s ≡ Ok next → HasSizes p next
assigned-sizes p target e s next h k =
    let c = and_then-ok (cell_of (readings_of p s) target) (λ cell. and_then (value_of (readings_of p s) e) (λ x. Ok (put cell x s))) next k in
    let v = and_then-ok (value_of (readings_of p s) e) (λ x. Ok (put c.0 x s)) next c.2 in
    let same : put c.0 v.0 s ≡ next = cc in
    let P : Store → Type 0 = HasSizes p in
    subst P same (put-sizes p c.0 v.0 s h)

pub read-sizes : (p : CheckedProgram) (input : List ℤ) (target : Target) (s next : Store) → HasSizes p s → read_into p input target s ≡ Ok next → HasSizes p next
read-sizes p input target s next h k =
    let taken : Store = record s { taken = s.taken + 1 } in
    let c = and_then-ok (cell_of (readings_of p s) target) (λ cell. and_then (ok_or (slice_get input s.taken) EndOfInput) (λ x. Ok (put cell x taken))) next k in
    let v = and_then-ok (ok_or (slice_get input s.taken) EndOfInput) (λ x. Ok (put c.0 x taken)) next c.2 in
    let same : put c.0 v.0 taken ≡ next = cc in
    let P : Store → Type 0 = HasSizes p in
    subst P same (put-sizes p c.0 v.0 taken (record { scalars = h.scalars; arrays = h.arrays; elements = h.elements }))

pub gained-sizes : (p : CheckedProgram) (var : ℕ) (by : ℤ) (s next : Store) → HasSizes p s → gained var by s ≡ Ok next → HasSizes p next
gained-sizes p var by s next h k =
    let v = and_then-ok (exact (get_or s.scalars var (pos 0) +ℤ by)) (λ x. Ok (put (ScalarCell var) x s)) next k in
    let same : put (ScalarCell var) v.0 s ≡ next = cc in
    let P : Store → Type 0 = HasSizes p in
    subst P same (put-sizes p (ScalarCell var) v.0 s h)
