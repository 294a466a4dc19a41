-- What a parsing function answers.
use Rattle.std.specs.Prelude.{◌≡◌, List, Result, Ok, Err}
use Rattle.fd_lexer.specs.View.{Tok}
use Rattle.fd_parser.specs.declared.fault.Fault.{Fault}
use Rattle.fd_parser.specs.declared.fault.Fault.TheVariants.{Syntax, Memory}

abbrev pub IsMemory : Fault → Type 0
IsMemory Memory = Unit {0}
IsMemory Syntax = ⊥

-- the answer is this thing, and the tokens behind it, unless memory ran out
abbrev pub GivesFront : {P X : Type 0} → (P → X) → (P → List Tok) → Result P Fault → X → List Tok → Type 0
GivesFront view rest (Ok p) x r = (view p ≡ x) × (rest p ≡ r)
GivesFront view rest (Err e) x r = IsMemory e

-- the same, for all of the tokens
abbrev pub GivesAll : {P X : Type 0} → (P → X) → Result P Fault → X → Type 0
GivesAll view (Ok p) x = view p ≡ x
GivesAll view (Err e) x = IsMemory e

-- the same, for two things
abbrev pub GivesBoth : {P X Y : Type 0} → (P → X) → (P → Y) → Result P Fault → X → Y → Type 0
GivesBoth one other (Ok p) x y = (one p ≡ x) × (other p ≡ y)
GivesBoth one other (Err e) x y = IsMemory e

-- the same, for three
abbrev pub GivesThree : {P X Y Z : Type 0} → (P → X) → (P → Y) → (P → Z) → Result P Fault → X → Y → Z → Type 0
GivesThree one two three (Ok p) x y z = (one p ≡ x) × (two p ≡ y) × (three p ≡ z)
GivesThree one two three (Err e) x y z = IsMemory e
