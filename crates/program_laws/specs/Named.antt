-- The names of a program.
use Rattle.std.specs.Prelude.{◌≢◌, ℕ, ◌≤◌, List, ◌++◌, map, All, AllPairs, Contains}
use Rattle.fd_prog.specs.declared.program.Array.{Array}
use Rattle.fd_prog.specs.declared.program.Decomp.{Decomp}
use Rattle.fd_prog.specs.Programs.{CheckedProgram}

abbrev pub array_names : CheckedProgram → List (List ℕ)
array_names p = map (λ (a : Array). a.name) p.arrays

abbrev pub decomp_names : CheckedProgram → List (List ℕ)
decomp_names p = map (λ (d : Decomp). d.name) p.decomps

-- all bytes of a name are printed, and none is a blank
abbrev pub IsPlain : List ℕ → Type 0
IsPlain name = All (λ byte. (33 ≤ byte) × (byte ≤ 126)) name

-- no two scalars, no two arrays and no two decompositions have one name, nor have a scalar and an array; an array and a decomposition may. All names are plain, so a line of text ends in none
pub record IsNamed (p : CheckedProgram) : Type 0 where
  pub scalars : AllPairs (λ (m n : List ℕ). m ≢ n) p.scalars
  pub arrays : AllPairs (λ (m n : List ℕ). m ≢ n) (array_names p)
  pub decomps : AllPairs (λ (m n : List ℕ). m ≢ n) (decomp_names p)
  pub apart : All (λ n. Contains (array_names p) n → ⊥) p.scalars
  pub plain : All IsPlain (p.scalars ++ (array_names p ++ decomp_names p))
