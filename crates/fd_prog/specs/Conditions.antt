-- Conditions without where they lie in memory.
use Rattle.std.specs.Prelude.{Bool}
use Rattle.fd_base.specs.declared.relation.Rel.{Rel}
use Rattle.fd_prog.specs.declared.condition.Cond.{Cond}
use Rattle.fd_prog.specs.declared.condition.Cond.TheVariants as stored
use Rattle.fd_prog.specs.Expressions.{Expression, expression_of}

pub data Condition : Type 0 where
  Fixed : Bool → Condition
  Compared : Rel → Expression → Expression → Condition
  Not : Condition → Condition
  Both : Condition → Condition → Condition
  Either : Condition → Condition → Condition

abbrev pub condition_of : Cond → Condition
condition_of (stored.Fixed b) = Fixed b
condition_of (stored.Cmp rel a b) = Compared rel (expression_of a) (expression_of b)
condition_of (stored.Not' p c) = Not (condition_of c)
condition_of (stored.Both' p c q d) = Both (condition_of c) (condition_of d)
condition_of (stored.Either' p c q d) = Either (condition_of c) (condition_of d)
