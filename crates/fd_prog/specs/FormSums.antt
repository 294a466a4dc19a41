-- What a sum of terms is, whatever order they were written in.
use Rattle.std.specs.Prelude.{◌≡◌, ℤ, pos, ◌+ℤ◌, false, if◌then◌else◌}
use Rattle.std.specs.Ordering.{is_eq}
use Rattle.std.specs.declared.cmp.Ordering.TheVariants.{Less}
use Rattle.fd_base.specs.Numbers.{is_zero}
use Rattle.fd_prog.specs.Forms.{LinearAtom, LinearForm, Sum, LinearTerms, NoTerms, Term, atom_order}

-- how many times an atom is in a sum of terms
abbrev pub coefficient : LinearAtom → LinearTerms → ℤ
coefficient a NoTerms = pos 0
coefficient a (Term c b ts) = (if is_eq (atom_order a b) then c else pos 0) +ℤ coefficient a ts

-- the atom comes before the first of these terms, if there is one
abbrev pub IsBefore : LinearAtom → LinearTerms → Type 0
IsBefore a NoTerms = Unit {0}
IsBefore a (Term c b ts) = atom_order a b ≡ Less

-- each term's atom comes before the next one's, and no coefficient is 0
abbrev pub AreOrdered : LinearTerms → Type 0
AreOrdered NoTerms = Unit {0}
AreOrdered (Term c a ts) = (is_zero c ≡ false) × IsBefore a ts × AreOrdered ts

-- the same of a form's terms
abbrev pub IsOrdered : LinearForm → Type 0
IsOrdered (Sum ts c) = AreOrdered ts
