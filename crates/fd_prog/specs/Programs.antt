-- The checked program without where its statements lie in memory.
use Rattle.std.specs.Prelude.{ℕ, List}
use Rattle.fd_base.specs.declared.numbering.Line.{Line}
use Rattle.fd_prog.specs.declared.program.Array.{Array}
use Rattle.fd_prog.specs.declared.program.Decomp.{Decomp}
use Rattle.fd_prog.specs.declared.program.Program.{Program}
use Rattle.fd_prog.specs.Statements.{Statements, statements_of}

-- a program; scalars, arrays and decompositions have their places in these lists as numbers
pub record CheckedProgram : Type 0 where
  pub scalars : List (List ℕ)
  pub arrays : List Array
  pub decomps : List Decomp
  pub body : Statements
  pub end_line : Line
  -- the offset of the first byte behind the END line
  pub rest : ℕ
  -- the numbers of references are below this one
  pub sites : ℕ

abbrev pub program_of : Program → CheckedProgram
program_of p = record {
  scalars = p.scalars;
  arrays = p.arrays;
  decomps = p.decomps;
  body = statements_of p.body;
  end_line = p.end_line;
  rest = p.rest;
  sites = p.sites;
}
