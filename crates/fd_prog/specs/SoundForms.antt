-- Forms and items that keep the limits at every depth and name what the program has.
use Rattle.std.specs.Prelude.{ℕ, ◌+◌, ◌<◌, ◌≤◌, IsTrue, All}
use Rattle.fd_prog.specs.WellFormed.{Names, Takes}
use Rattle.fd_prog.specs.Forms.{LinearAtom, Variable, ScalarOf, ElementOf, FunctionOf, ProductOf, QuotientOf, LinearForm, Sum, LinearTerms, NoTerms, Term, LinearForms, NoForms, Part, terms_in}
use Rattle.fd_prog.specs.FormOf.{are_small}
use Rattle.fd_prog.specs.Homes.{Executor, EveryRank, RankZero, OwnerOf}
use Rattle.fd_prog.specs.Items.{LinearLoop, LinearItem}

-- how many forms there are
abbrev pub forms_in : LinearForms → ℕ
forms_in NoForms = 0
forms_in (Part f fs) = forms_in fs + 1

abbrev mutual
  -- an atom names scalars and arrays that there are, has one or two subscripts at each element and as many arguments as each function takes
  pub IsSoundAtom : Names → LinearAtom → Type 0
  IsSoundAtom n (Variable i) = Unit {0}
  IsSoundAtom n (ScalarOf s) = s < n.scalars
  IsSoundAtom n (ElementOf array fs) = (array < n.arrays) × (1 ≤ forms_in fs) × (forms_in fs ≤ 2) × AreSoundForms n fs
  IsSoundAtom n (FunctionOf f fs) = Takes f (forms_in fs) × AreSoundForms n fs
  IsSoundAtom n (ProductOf f g) = IsSoundForm n f × IsSoundForm n g
  IsSoundAtom n (QuotientOf f g) = IsSoundForm n f × IsSoundForm n g

  -- a form has at most 16 terms with coefficients of at most 2^31 in size, whose atoms are sound; that of a place along a decomposition may have a greater constant
  pub IsSoundForm : Names → LinearForm → Type 0
  IsSoundForm n (Sum ts c) = (terms_in ts ≤ 16) × IsTrue (are_small ts) × AreSoundTerms n ts

  pub AreSoundTerms : Names → LinearTerms → Type 0
  AreSoundTerms n NoTerms = Unit {0}
  AreSoundTerms n (Term c a ts) = IsSoundAtom n a × AreSoundTerms n ts

  pub AreSoundForms : Names → LinearForms → Type 0
  AreSoundForms n NoForms = Unit {0}
  AreSoundForms n (Part f fs) = IsSoundForm n f × AreSoundForms n fs

pub record IsSoundLoop (n : Names) (l : LinearLoop) : Type 0 where
  pub first : IsSoundForm n l.first
  pub last : IsSoundForm n l.last
  pub step : IsSoundForm n l.step

abbrev pub IsSoundHome : Names → Executor → Type 0
IsSoundHome n EveryRank = Unit {0}
IsSoundHome n RankZero = Unit {0}
IsSoundHome n (OwnerOf l) = IsSoundForm n l.form

-- an item whose subscripts, bounds and home can be valued
pub record IsSoundItem (n : Names) (x : LinearItem) : Type 0 where
  pub array : x.array < n.arrays
  pub least : 1 ≤ forms_in x.subs
  pub most : forms_in x.subs ≤ 2
  pub subs : AreSoundForms n x.subs
  pub loops : All (IsSoundLoop n) x.loops
  pub home : IsSoundHome n x.home
