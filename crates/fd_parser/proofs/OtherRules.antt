-- The other lines by their first word at tokens that are known by an equation, and their parts.
use Rattle.std.proofs.Common.{◌≡◌, ℕ, Bool, true, false, List, [], ◌∷◌, refl, sym, subst}
use Rattle.std.specs.Prelude.{codes}
use Rattle.fd_base.specs.declared.numbering.Line.{Line}
use Rattle.fd_lexer.specs.View.{Tok, Name}
use Rattle.fd_ast.specs.Tree.{AttrTree, DistributeDecl, RemapStmt}
use Rattle.fd_parser.specs.Declarations.{has_map, IsDistributeRest}
use Rattle.fd_parser.specs.Forms.{LineForm, DeclLine, SimpleLine, ProgramLine, IsDoRest, IsEnd, IsDistribution, without_map, with_map, IsOneWord, one_word, IsOther, do_line, distribute, program, end_line}

-- ---- DISTRIBUTE

pub record DistributionHead (ts : List Tok) : Type 0 where
  pub name : List ℕ
  pub attrs : List AttrTree
  pub rest : IsDistributeRest ts name attrs

pub distribution_head : {l : Line} {ts : List Tok} {f : LineForm} → IsDistribution l ts f → DistributionHead ts
distribution_head (without_map {s = s} {as_ = xs} d e) = record { name = s; attrs = xs; rest = d }
distribution_head (with_map {s = s} {as_ = xs} d e) = record { name = s; attrs = xs; rest = d }

abbrev pub IsOnlyDistribution : List Tok → List ℕ → List AttrTree → Type 0
IsOnlyDistribution ts s xs = (r : List ℕ) (ys : List AttrTree) → IsDistributeRest ts r ys → (s ≡ r) × (xs ≡ ys)

map_same : {xs ys : List AttrTree} {b : Bool} → xs ≡ ys → has_map ys ≡ b → has_map xs ≡ b
map_same e f = rw e f

pub with_map_parts : {l : Line} {ts : List Tok} {s : List ℕ} {xs : List AttrTree} {f : LineForm} → IsOnlyDistribution ts s xs → true ≡ has_map xs → IsDistribution l ts f → SimpleLine (RemapStmt l s xs ∷ []) ≡ f
with_map_parts only t (with_map {s = r} {as_ = ys} d e) = let g = only r ys d in rw (g.0, g.1) refl
with_map_parts only t (without_map {s = r} {as_ = ys} d e) = let g = only r ys d in let h = map_same g.1 e in absurd cc

pub without_map_parts : {l : Line} {ts : List Tok} {s : List ℕ} {xs : List AttrTree} {f : LineForm} → IsOnlyDistribution ts s xs → false ≡ has_map xs → IsDistribution l ts f → DeclLine (DistributeDecl l s xs ∷ []) ≡ f
without_map_parts only t (without_map {s = r} {as_ = ys} d e) = let g = only r ys d in rw (g.0, g.1) refl
without_map_parts only t (with_map {s = r} {as_ = ys} d e) = let g = only r ys d in let h = map_same g.1 e in absurd cc

-- ---- a name alone

pub one_word_at : {ts us : List Tok} {s : List ℕ} → ts ≡ Name s ∷ us → us ≡ [] → IsOneWord ts
one_word_at e f = rw (e, f) one_word

one_word_over : {us : List Tok} {s : List ℕ} → IsOneWord (Name s ∷ us) → us ≡ []
one_word_over one_word = refl

pub one_word_over_at : {ts us : List Tok} {s : List ℕ} → ts ≡ Name s ∷ us → IsOneWord ts → us ≡ []
one_word_over_at e d = one_word_over (subst IsOneWord e d)

pub no_one_word : {ts : List Tok} → ((s : List ℕ) (us : List Tok) → ts ≡ Name s ∷ us → ⊥) → IsOneWord ts → ⊥
no_one_word n (one_word {s = s}) = n s [] refl

-- ---- the other lines

other_in : {l : Line} {ts us : List Tok} {f : LineForm} → ts ≡ us → IsOther l ts f → IsOther l us f
other_in {l = l} {f = f} e d = subst (λ (ts : List Tok). IsOther l ts f) e d

pub do_at : {l : Line} {ts us : List Tok} {f : LineForm} → ts ≡ Name (codes "DO") ∷ us → IsDoRest us f → IsOther l ts f
do_at e d = rw e (do_line d)

pub distribute_at : {l : Line} {ts us : List Tok} {f : LineForm} → ts ≡ Name (codes "DISTRIBUTE") ∷ us → IsDistribution l us f → IsOther l ts f
distribute_at e d = rw e (distribute d)

pub program_at : {l : Line} {ts us : List Tok} → ts ≡ Name (codes "PROGRAM") ∷ us → IsOneWord us → IsOther l ts ProgramLine
program_at e d = rw e (program d)

end_no_do : {us : List Tok} {f : LineForm} → IsEnd (Name (codes "DO") ∷ us) f → ⊥
end_no_do d = elim d [ ]

end_no_distribute : {us : List Tok} {f : LineForm} → IsEnd (Name (codes "DISTRIBUTE") ∷ us) f → ⊥
end_no_distribute d = elim d [ ]

end_no_program : {us : List Tok} {f : LineForm} → IsEnd (Name (codes "PROGRAM") ∷ us) f → ⊥
end_no_program d = elim d [ ]

do_parts : {l : Line} {us : List Tok} {f : LineForm} → IsOther l (Name (codes "DO") ∷ us) f → IsDoRest us f
do_parts (do_line d) = d
do_parts (end_line d) = absurd (end_no_do d)

distribute_parts : {l : Line} {us : List Tok} {f : LineForm} → IsOther l (Name (codes "DISTRIBUTE") ∷ us) f → IsDistribution l us f
distribute_parts (distribute d) = d
distribute_parts (end_line d) = absurd (end_no_distribute d)

pub record ProgramParts (us : List Tok) (f : LineForm) : Type 0 where
  pub is : ProgramLine ≡ f
  pub word : IsOneWord us

program_parts : {l : Line} {us : List Tok} {f : LineForm} → IsOther l (Name (codes "PROGRAM") ∷ us) f → ProgramParts us f
program_parts (program d) = record { is = refl; word = d }
program_parts (end_line d) = absurd (end_no_program d)

pub do_parts_at : {l : Line} {ts us : List Tok} {f : LineForm} → ts ≡ Name (codes "DO") ∷ us → IsOther l ts f → IsDoRest us f
do_parts_at e d = do_parts (other_in e d)

pub distribute_parts_at : {l : Line} {ts us : List Tok} {f : LineForm} → ts ≡ Name (codes "DISTRIBUTE") ∷ us → IsOther l ts f → IsDistribution l us f
distribute_parts_at e d = distribute_parts (other_in e d)

pub program_parts_at : {l : Line} {ts us : List Tok} {f : LineForm} → ts ≡ Name (codes "PROGRAM") ∷ us → IsOther l ts f → ProgramParts us f
program_parts_at e d = program_parts (other_in e d)

pub end_parts : {l : Line} {ts : List Tok} {f : LineForm} → ((us : List Tok) → ts ≡ Name (codes "DO") ∷ us → ⊥) → ((us : List Tok) → ts ≡ Name (codes "DISTRIBUTE") ∷ us → ⊥) → ((us : List Tok) → ts ≡ Name (codes "PROGRAM") ∷ us → ⊥) → IsOther l ts f → IsEnd ts f
end_parts d m p (do_line {ts = us} e) = absurd (d us refl)
end_parts d m p (distribute {ts = us} e) = absurd (m us refl)
end_parts d m p (program {ts = us} e) = absurd (p us refl)
end_parts d m p (end_line e) = e

pub map_known : {xs ys : List AttrTree} {b : Bool} → xs ≡ ys → b ≡ has_map xs → has_map ys ≡ b
map_known e f = rw (← e) (sym f)
