-- Lines by their first word at tokens that are known by an equation, and their parts.
use Rattle.std.proofs.Common.{◌≡◌, List, [], ◌∷◌, refl, subst}
use Rattle.std.specs.Prelude.{codes}
use Rattle.fd_base.specs.declared.numbering.Line.{Line}
use Rattle.fd_lexer.specs.View.{Tok, Name}
use Rattle.fd_ast.specs.Tree.{CondTree, DeclTree}
use Rattle.fd_parser.specs.Lists.{AreListed}
use Rattle.fd_parser.specs.Declarations.{IsEntity, IsDecomp, IsParameterRest, IsAlignRest}
use Rattle.fd_parser.specs.Forms.{LineForm, ElseIf, Else, EndIf, EndDo, IsThenRest, IsIfRest, IsDeclared, parameter, integer, decomposition, align, IsElseRest, alone, with_if, IsChoice, if_line, elseif, else_line, endif, IsEnd, enddo, end_if, end_do}

-- ---- declarations

declared_in : {l : Line} {ts us : List Tok} {xs : List DeclTree} → ts ≡ us → IsDeclared l ts xs → IsDeclared l us xs
declared_in {l = l} {xs = xs} e d = subst (λ (ts : List Tok). IsDeclared l ts xs) e d

pub parameter_at : {l : Line} {ts us : List Tok} {xs : List DeclTree} → ts ≡ Name (codes "PARAMETER") ∷ us → IsParameterRest l us xs → IsDeclared l ts xs
parameter_at e d = rw e (parameter d)

pub integer_at : {l : Line} {ts us : List Tok} {xs : List DeclTree} → ts ≡ Name (codes "INTEGER") ∷ us → AreListed (IsEntity l) us xs [] → IsDeclared l ts xs
integer_at e d = rw e (integer d)

pub decomposition_at : {l : Line} {ts us : List Tok} {xs : List DeclTree} → ts ≡ Name (codes "DECOMPOSITION") ∷ us → AreListed (IsDecomp l) us xs [] → IsDeclared l ts xs
decomposition_at e d = rw e (decomposition d)

pub align_at : {l : Line} {ts us : List Tok} {x : DeclTree} → ts ≡ Name (codes "ALIGN") ∷ us → IsAlignRest l us x → IsDeclared l ts (x ∷ [])
align_at e d = rw e (align d)

parameter_parts : {l : Line} {us : List Tok} {xs : List DeclTree} → IsDeclared l (Name (codes "PARAMETER") ∷ us) xs → IsParameterRest l us xs
parameter_parts (parameter d) = d

integer_parts : {l : Line} {us : List Tok} {xs : List DeclTree} → IsDeclared l (Name (codes "INTEGER") ∷ us) xs → AreListed (IsEntity l) us xs []
integer_parts (integer d) = d

decomposition_parts : {l : Line} {us : List Tok} {xs : List DeclTree} → IsDeclared l (Name (codes "DECOMPOSITION") ∷ us) xs → AreListed (IsDecomp l) us xs []
decomposition_parts (decomposition d) = d

pub record AlignParts (l : Line) (us : List Tok) (xs : List DeclTree) : Type 0 where
  pub decl : DeclTree
  pub is : decl ∷ [] ≡ xs
  pub rest : IsAlignRest l us decl

align_parts : {l : Line} {us : List Tok} {xs : List DeclTree} → IsDeclared l (Name (codes "ALIGN") ∷ us) xs → AlignParts l us xs
align_parts (align {d = x} d) = record { decl = x; is = refl; rest = d }

pub parameter_parts_at : {l : Line} {ts us : List Tok} {xs : List DeclTree} → ts ≡ Name (codes "PARAMETER") ∷ us → IsDeclared l ts xs → IsParameterRest l us xs
parameter_parts_at e d = parameter_parts (declared_in e d)

pub integer_parts_at : {l : Line} {ts us : List Tok} {xs : List DeclTree} → ts ≡ Name (codes "INTEGER") ∷ us → IsDeclared l ts xs → AreListed (IsEntity l) us xs []
integer_parts_at e d = integer_parts (declared_in e d)

pub decomposition_parts_at : {l : Line} {ts us : List Tok} {xs : List DeclTree} → ts ≡ Name (codes "DECOMPOSITION") ∷ us → IsDeclared l ts xs → AreListed (IsDecomp l) us xs []
decomposition_parts_at e d = decomposition_parts (declared_in e d)

pub align_parts_at : {l : Line} {ts us : List Tok} {xs : List DeclTree} → ts ≡ Name (codes "ALIGN") ∷ us → IsDeclared l ts xs → AlignParts l us xs
align_parts_at e d = align_parts (declared_in e d)

pub not_declared : {l : Line} {ts : List Tok} {xs : List DeclTree} → ((us : List Tok) → ts ≡ Name (codes "PARAMETER") ∷ us → ⊥) → ((us : List Tok) → ts ≡ Name (codes "INTEGER") ∷ us → ⊥) → ((us : List Tok) → ts ≡ Name (codes "DECOMPOSITION") ∷ us → ⊥) → ((us : List Tok) → ts ≡ Name (codes "ALIGN") ∷ us → ⊥) → IsDeclared l ts xs → ⊥
not_declared p i c a (parameter {ts = us} d) = p us refl
not_declared p i c a (integer {ts = us} d) = i us refl
not_declared p i c a (decomposition {ts = us} d) = c us refl
not_declared p i c a (align {ts = us} d) = a us refl

-- ---- ELSE

pub alone_at : {ts : List Tok} → ts ≡ [] → IsElseRest ts Else
alone_at e = rw e alone

pub with_if_at : {ts us : List Tok} {c : CondTree} → ts ≡ Name (codes "IF") ∷ us → IsThenRest us c → IsElseRest ts (ElseIf c)
with_if_at e d = rw e (with_if d)

alone_parts : {f : LineForm} → IsElseRest [] f → Else ≡ f
alone_parts alone = refl

pub alone_parts_at : {ts : List Tok} {f : LineForm} → ts ≡ [] → IsElseRest ts f → Else ≡ f
alone_parts_at {f = f} e d = alone_parts (subst (λ (ts : List Tok). IsElseRest ts f) e d)

pub record ThenParts (us : List Tok) (f : LineForm) : Type 0 where
  pub tree : CondTree
  pub is : ElseIf tree ≡ f
  pub rest : IsThenRest us tree

with_if_parts : {us : List Tok} {f : LineForm} → IsElseRest (Name (codes "IF") ∷ us) f → ThenParts us f
with_if_parts (with_if {c = c} d) = record { tree = c; is = refl; rest = d }

pub with_if_parts_at : {ts us : List Tok} {f : LineForm} → ts ≡ Name (codes "IF") ∷ us → IsElseRest ts f → ThenParts us f
with_if_parts_at {f = f} e d = with_if_parts (subst (λ (ts : List Tok). IsElseRest ts f) e d)

pub no_else_rest : {ts : List Tok} {f : LineForm} → (ts ≡ [] → ⊥) → ((us : List Tok) → ts ≡ Name (codes "IF") ∷ us → ⊥) → IsElseRest ts f → ⊥
no_else_rest n i alone = n refl
no_else_rest n i (with_if {ts = us} d) = i us refl

-- ---- IF

choice_in : {l : Line} {ts us : List Tok} {f : LineForm} → ts ≡ us → IsChoice l ts f → IsChoice l us f
choice_in {l = l} {f = f} e d = subst (λ (ts : List Tok). IsChoice l ts f) e d

pub if_at : {l : Line} {ts us : List Tok} {f : LineForm} → ts ≡ Name (codes "IF") ∷ us → IsIfRest l us f → IsChoice l ts f
if_at e d = rw e (if_line d)

pub elseif_at : {l : Line} {ts us : List Tok} {c : CondTree} → ts ≡ Name (codes "ELSEIF") ∷ us → IsThenRest us c → IsChoice l ts (ElseIf c)
elseif_at e d = rw e (elseif d)

pub else_at : {l : Line} {ts us : List Tok} {f : LineForm} → ts ≡ Name (codes "ELSE") ∷ us → IsElseRest us f → IsChoice l ts f
else_at e d = rw e (else_line d)

pub endif_at : {l : Line} {ts us : List Tok} → ts ≡ Name (codes "ENDIF") ∷ us → us ≡ [] → IsChoice l ts EndIf
endif_at e f = rw (e, f) endif

if_parts : {l : Line} {us : List Tok} {f : LineForm} → IsChoice l (Name (codes "IF") ∷ us) f → IsIfRest l us f
if_parts (if_line d) = d

elseif_parts : {l : Line} {us : List Tok} {f : LineForm} → IsChoice l (Name (codes "ELSEIF") ∷ us) f → ThenParts us f
elseif_parts (elseif {c = c} d) = record { tree = c; is = refl; rest = d }

else_parts : {l : Line} {us : List Tok} {f : LineForm} → IsChoice l (Name (codes "ELSE") ∷ us) f → IsElseRest us f
else_parts (else_line d) = d

pub record OverParts (us : List Tok) (g f : LineForm) : Type 0 where
  pub is : g ≡ f
  pub over : us ≡ []

endif_parts : {l : Line} {us : List Tok} {f : LineForm} → IsChoice l (Name (codes "ENDIF") ∷ us) f → OverParts us EndIf f
endif_parts endif = record { is = refl; over = refl }

pub if_parts_at : {l : Line} {ts us : List Tok} {f : LineForm} → ts ≡ Name (codes "IF") ∷ us → IsChoice l ts f → IsIfRest l us f
if_parts_at e d = if_parts (choice_in e d)

pub elseif_parts_at : {l : Line} {ts us : List Tok} {f : LineForm} → ts ≡ Name (codes "ELSEIF") ∷ us → IsChoice l ts f → ThenParts us f
elseif_parts_at e d = elseif_parts (choice_in e d)

pub else_parts_at : {l : Line} {ts us : List Tok} {f : LineForm} → ts ≡ Name (codes "ELSE") ∷ us → IsChoice l ts f → IsElseRest us f
else_parts_at e d = else_parts (choice_in e d)

pub endif_parts_at : {l : Line} {ts us : List Tok} {f : LineForm} → ts ≡ Name (codes "ENDIF") ∷ us → IsChoice l ts f → OverParts us EndIf f
endif_parts_at e d = endif_parts (choice_in e d)

pub no_choice : {l : Line} {ts : List Tok} {f : LineForm} → ((us : List Tok) → ts ≡ Name (codes "IF") ∷ us → ⊥) → ((us : List Tok) → ts ≡ Name (codes "ELSEIF") ∷ us → ⊥) → ((us : List Tok) → ts ≡ Name (codes "ELSE") ∷ us → ⊥) → ((us : List Tok) → ts ≡ Name (codes "ENDIF") ∷ us → ⊥) → IsChoice l ts f → ⊥
no_choice i j k e (if_line {ts = us} d) = i us refl
no_choice i j k e (elseif {ts = us} d) = j us refl
no_choice i j k e (else_line {ts = us} d) = k us refl
no_choice i j k e endif = e [] refl

-- ---- ENDDO, END IF, END DO

end_in : {ts us : List Tok} {f : LineForm} → ts ≡ us → IsEnd ts f → IsEnd us f
end_in {f = f} e d = subst (λ (ts : List Tok). IsEnd ts f) e d

pub enddo_at : {ts us : List Tok} → ts ≡ Name (codes "ENDDO") ∷ us → us ≡ [] → IsEnd ts EndDo
enddo_at e f = rw (e, f) enddo

pub end_if_at : {ts us vs : List Tok} → ts ≡ Name (codes "END") ∷ us → us ≡ Name (codes "IF") ∷ vs → vs ≡ [] → IsEnd ts EndIf
end_if_at e f g = rw (e, f, g) end_if

pub end_do_at : {ts us vs : List Tok} → ts ≡ Name (codes "END") ∷ us → us ≡ Name (codes "DO") ∷ vs → vs ≡ [] → IsEnd ts EndDo
end_do_at e f g = rw (e, f, g) end_do

enddo_parts : {us : List Tok} {f : LineForm} → IsEnd (Name (codes "ENDDO") ∷ us) f → OverParts us EndDo f
enddo_parts enddo = record { is = refl; over = refl }

pub enddo_parts_at : {ts us : List Tok} {f : LineForm} → ts ≡ Name (codes "ENDDO") ∷ us → IsEnd ts f → OverParts us EndDo f
enddo_parts_at e d = enddo_parts (end_in e d)

end_if_parts : {vs : List Tok} {f : LineForm} → IsEnd (Name (codes "END") ∷ (Name (codes "IF") ∷ vs)) f → OverParts vs EndIf f
end_if_parts end_if = record { is = refl; over = refl }

end_do_parts : {vs : List Tok} {f : LineForm} → IsEnd (Name (codes "END") ∷ (Name (codes "DO") ∷ vs)) f → OverParts vs EndDo f
end_do_parts end_do = record { is = refl; over = refl }

both_words : {ts us vs : List Tok} {t u : Tok} → ts ≡ t ∷ us → us ≡ u ∷ vs → ts ≡ t ∷ (u ∷ vs)
both_words {t = t} e f = rw (e, f) refl

pub end_if_parts_at : {ts us vs : List Tok} {f : LineForm} → ts ≡ Name (codes "END") ∷ us → us ≡ Name (codes "IF") ∷ vs → IsEnd ts f → OverParts vs EndIf f
end_if_parts_at e g d = end_if_parts (end_in (both_words e g) d)

pub end_do_parts_at : {ts us vs : List Tok} {f : LineForm} → ts ≡ Name (codes "END") ∷ us → us ≡ Name (codes "DO") ∷ vs → IsEnd ts f → OverParts vs EndDo f
end_do_parts_at e g d = end_do_parts (end_in (both_words e g) d)

pub no_end : {ts : List Tok} {f : LineForm} → ((us : List Tok) → ts ≡ Name (codes "ENDDO") ∷ us → ⊥) → ((us : List Tok) → ts ≡ Name (codes "END") ∷ us → ⊥) → IsEnd ts f → ⊥
no_end d e enddo = d [] refl
no_end d e end_if = e (Name (codes "IF") ∷ []) refl
no_end d e end_do = e (Name (codes "DO") ∷ []) refl

no_second_in : {us : List Tok} {f : LineForm} → ((vs : List Tok) → us ≡ Name (codes "IF") ∷ vs → ⊥) → ((vs : List Tok) → us ≡ Name (codes "DO") ∷ vs → ⊥) → IsEnd (Name (codes "END") ∷ us) f → ⊥
no_second_in i d end_if = i [] refl
no_second_in i d end_do = d [] refl

pub no_second : {ts us : List Tok} {f : LineForm} → ts ≡ Name (codes "END") ∷ us → ((vs : List Tok) → us ≡ Name (codes "IF") ∷ vs → ⊥) → ((vs : List Tok) → us ≡ Name (codes "DO") ∷ vs → ⊥) → IsEnd ts f → ⊥
no_second e i d x = no_second_in i d (end_in e x)
