-- The text of a sum, from the texts of its atoms.
use Rattle.std.specs.Prelude.{ℕ, ◌==◌, ℤ, pos, negsuc, Bool, if◌then◌else◌, List, [], ◌∷◌, ◌++◌, flat_map, codes}
use Rattle.std.specs.Cmp.Lexicographic.{slice_cmp}
use Rattle.std.specs.Fmt.{signed_decimal}
use Rattle.std.specs.Ordering.{nat_cmp, is_le}
use Rattle.place_text.specs.declared.sum.PrintedTerm.{PrintedTerm}

-- ---- order

-- the text of one atom doesn't come behind that of another in byte order
abbrev pub comes_first : PrintedTerm → PrintedTerm → Bool
comes_first t u = is_le (slice_cmp nat_cmp t.atom u.atom)

-- terms in order with one more, which stands before those whose atoms have the same text
abbrev pub placed : PrintedTerm → List PrintedTerm → List PrintedTerm
placed t [] = t ∷ []
placed t (u ∷ us) = if comes_first t u then t ∷ u ∷ us else u ∷ placed t us

-- the terms in byte order of their atoms' texts. Two atoms of a form have one text only where two names of the program are equal; such terms keep the form's own order
abbrev pub in_byte_order : List PrintedTerm → List PrintedTerm
in_byte_order [] = []
in_byte_order (t ∷ ts) = placed t (in_byte_order ts)

-- ---- text

-- a coefficient before its atom: 1 is left out, and -1 is the sign alone
abbrev pub coefficient_text : ℤ → List ℕ
coefficient_text (pos n) = if n == 1 then [] else signed_decimal (pos n) ++ codes "*"
coefficient_text (negsuc n) = if n == 0 then codes "-" else signed_decimal (negsuc n) ++ codes "*"

abbrev pub term_text : PrintedTerm → List ℕ
term_text t = coefficient_text t.coefficient ++ t.atom

-- the text of a number, or of a number times an atom, behind other terms: that of a negative number begins with its sign, and any other has a plus before it
abbrev pub joined_on : ℤ → List ℕ → List ℕ
joined_on (pos n) text = codes "+" ++ text
joined_on (negsuc n) text = text

abbrev pub later_term : PrintedTerm → List ℕ
later_term t = joined_on t.coefficient (term_text t)

-- the constant behind terms, which is left out where it is 0
abbrev pub later_constant : ℤ → List ℕ
later_constant (pos n) = if n == 0 then [] else joined_on (pos n) (signed_decimal (pos n))
later_constant (negsuc n) = joined_on (negsuc n) (signed_decimal (negsuc n))

-- terms as they stand, and then the constant, which stands alone where there is no term
abbrev pub terms_text : List PrintedTerm → ℤ → List ℕ
terms_text [] constant = signed_decimal constant
terms_text (t ∷ ts) constant = term_text t ++ (flat_map later_term ts ++ later_constant constant)

-- a sum prints its terms in byte order of their atoms' texts, and then its constant
abbrev pub sum_text : List PrintedTerm → ℤ → List ℕ
sum_text ts constant = terms_text (in_byte_order ts) constant
