-- The texts of linear forms.
use Rattle.std.specs.Prelude.{ℕ, ◌+◌, List, [], ◌∷◌, ◌++◌, codes}
use Rattle.std.specs.Fmt.{decimal}
use Rattle.std.specs.List.{join_with_byte}
use Rattle.fd_prog.specs.Programs.{CheckedProgram}
use Rattle.fd_prog.specs.Forms.{LinearAtom, Variable, ScalarOf, ElementOf, FunctionOf, ProductOf, QuotientOf, LinearForm, Sum, LinearTerms, NoTerms, Term, LinearForms, NoForms, Part}
use Rattle.place_text.specs.declared.sum.PrintedTerm.{PrintedTerm}
use Rattle.place_text.specs.Names.{scalar_name, array_name, function_name}
use Rattle.place_text.specs.Sums.{sum_text}

abbrev pub in_parentheses : List ℕ → List ℕ
in_parentheses text = codes "(" ++ (text ++ codes ")")

-- texts in parentheses with commas between them
abbrev pub arguments_text : List (List ℕ) → List ℕ
arguments_text texts = in_parentheses (join_with_byte 44 texts)

abbrev mutual
  -- the variable of the outermost widened loop is $1; scalars and arrays go by their names
  pub atom_text : CheckedProgram → LinearAtom → List ℕ
  atom_text p (Variable i) = codes "$" ++ decimal (i + 1)
  atom_text p (ScalarOf s) = scalar_name p s
  atom_text p (ElementOf array subs) = array_name p array ++ arguments_text (forms_texts p subs)
  atom_text p (FunctionOf f args) = function_name f ++ arguments_text (forms_texts p args)
  atom_text p (ProductOf f g) = in_parentheses (form_text p f) ++ (codes "*" ++ in_parentheses (form_text p g))
  atom_text p (QuotientOf f g) = in_parentheses (form_text p f) ++ (codes "/" ++ in_parentheses (form_text p g))

  pub form_text : CheckedProgram → LinearForm → List ℕ
  form_text p (Sum ts constant) = sum_text (printed_terms p ts) constant

  -- the terms by the texts of their atoms
  pub printed_terms : CheckedProgram → LinearTerms → List PrintedTerm
  printed_terms p NoTerms = []
  printed_terms p (Term c a ts) = record { atom = atom_text p a; coefficient = c } ∷ printed_terms p ts

  pub forms_texts : CheckedProgram → LinearForms → List (List ℕ)
  forms_texts p NoForms = []
  forms_texts p (Part f fs) = form_text p f ∷ forms_texts p fs
