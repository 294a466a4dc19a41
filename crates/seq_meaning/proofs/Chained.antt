-- Lists of statements that are made ready one after the other.
use Rattle.std.proofs.Common.{◌≡◌, ℕ, ◌+◌, List, [], ◌∷◌, ◌++◌, refl, sym, ap, ◌∙◌, map}
use Rattle.std.proofs.lemmas.List.{map-append}
use Rattle.fd_prog.specs.Statements.{Statement, Assign, If, Do, While, Read, Print, Continue, Distribute, Statements, Empty, Then}
use Rattle.seq_meaning.specs.declared.ready.ReadyStmt.{ReadyStmt}
use Rattle.seq_meaning.specs.declared.ready.ReadyList.{ReadyList}
use Rattle.seq_meaning.specs.Ready.{in_front, ready_statement, ready_statements}

abbrev mutual
  -- how large a statement is, by which a walk over it goes down
  pub heft : Statement → ℕ
  heft (Assign l t e) = 1
  heft (If l c so otherwise) = hefts so + hefts otherwise + 1
  heft (Do l k a b by body) = hefts body + 1
  heft (While l c body) = hefts body + 1
  heft (Read l t) = 1
  heft (Print l xs) = 1
  heft (Continue l) = 1
  heft (Distribute l d given_) = 1

  pub hefts : Statements → ℕ
  hefts Empty = 1
  hefts (Then x rest) = heft x + hefts rest + 1

in_front-last : (xs : List Statement) (x : Statement) (rest : Statements) → in_front (xs ++ x ∷ []) rest ≡ in_front xs (Then x rest)
in_front-last [] x rest = refl
in_front-last (y ∷ ys) x rest = ap (Then y) (in_front-last ys x rest)

-- the last of the vector goes to the front of the list
pub chained : (old new : List ReadyStmt) (last x : ReadyStmt) (list y : ReadyList) (whole : Statements) → old ≡ new ++ last ∷ [] → x ≡ last → y ≡ list →
    in_front (map ready_statement old) (ready_statements list) ≡ whole → in_front (map ready_statement new) (Then (ready_statement x) (ready_statements y)) ≡ whole
chained old new last x list y whole e p q h =
    rw (p, q) (sym (ap (λ z. in_front (map ready_statement z) (ready_statements list)) e ∙ (ap (λ z. in_front z (ready_statements list)) (map-append ready_statement new (last ∷ [])) ∙ in_front-last (map ready_statement new) (ready_statement last) (ready_statements list))) ∙ h)

-- one more statement is made ready
pub readied : (old new : List ReadyStmt) (one : ReadyStmt) (x : Statement) (left more : Statements) (whole : Statements) → new ≡ old ++ one ∷ [] → ready_statement one ≡ x → left ≡ Then x more →
    in_front (map ready_statement old) left ≡ whole → in_front (map ready_statement new) more ≡ whole
readied old new one x left rest whole e p is before =
    let h = sym (ap (in_front (map ready_statement old)) is) ∙ before in
    ap (λ z. in_front (map ready_statement z) rest) e ∙ (ap (λ z. in_front z rest) (map-append ready_statement old (one ∷ [])) ∙ (in_front-last (map ready_statement old) (ready_statement one) rest ∙ (ap (λ z. in_front (map ready_statement old) (Then z rest)) p ∙ h)))
