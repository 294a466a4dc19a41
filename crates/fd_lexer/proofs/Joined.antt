-- The tokens of physical lines, and what is wrong with a logical line.
use Rattle.std.proofs.Common.{◌≡◌, ℕ, ◌+◌, ◌<◌, ◌≤◌, Bool, true, false, ◌||◌, List, [], ◌∷◌, ◌++◌, length, refl, sym, ap, subst, ◌∙◌, append_assoc, inl, inr, ◌⊎◌, arith, Option}
use Rattle.std.specs.Prelude.{MatchOption, IsTrue, ◌↔◌, nat_lt}
use Rattle.std.proofs.lemmas.List.{append-nil}
use Rattle.std.proofs.lemmas.List.Sums.{sum_by_push}
use Rattle.std.proofs.lemmas.Bool.Decides.{nat_tests}
use Rattle.std.proofs.lemmas.Bool.{cases_lt}
use Rattle.fd_base.specs.declared.numbering.Line.{Line}
use Rattle.fd_lexer.specs.declared.token.Token.{Token}
use Rattle.fd_lexer.specs.declared.cause.Cause.{Cause}
use Rattle.fd_lexer.specs.declared.cause.Cause.TheVariants.{BadByte, LineTooLong, BadToken, NumberTooLarge}
use Rattle.fd_lexer.specs.declared.lexeme.Taken.{Taken}
use Rattle.fd_lexer.specs.declared.lexeme.Taken.TheVariants.{All, Large, Bad}
use Rattle.fd_lexer.specs.declared.faults.Faults.{Faults}
use Rattle.fd_lexer.specs.declared.place.PhysicalLine.{PhysicalLine}
use Rattle.fd_lexer.specs.Tokens.{IsTokens, HasLarge}
use Rattle.fd_lexer.specs.Physical.{Physical, content, HasBadByte}
use Rattle.fd_lexer.specs.Logical.{number_of, size_of, AreTokens, HasTokens, HasBadLine, IsFine, IsLeast}
use Rattle.fd_lexer.specs.Segment.{IsTaken, worse}
use Rattle.fd_lexer.specs.Place.{physical_of}
use Rattle.fd_lexer.specs.Faults.{SeesMore, taken_cause, cause_of}
use Rattle.fd_lexer.proofs.Lines.{one_reading, HasLarge-append, HasLarge-front, HasLarge-back}

-- ---- tokens of physical lines

abbrev pub Parts : (List Token → Type 0) → (List Token → Type 0) → List Token → Type 0
Parts P Q ts = (us : List Token) × (vs : List Token) × (ts ≡ us ++ vs) × P us × Q vs

abbrev pub LineTokens : Line → Physical → List Token → Type 0
LineTokens n p ts = IsTokens n p.start (content p.bytes) ts

pub tokens_push : (n : Line) (ps : List Physical) (p : Physical) (ts us : List Token) → AreTokens n ps ts → LineTokens n p us → AreTokens n (ps ++ p ∷ []) (ts ++ us)
tokens_push n [] p ts us e d = (us, [], rw e (sym (append-nil us)), d, refl)
tokens_push n (q ∷ ps) p ts us t d = (t.0, t.1 ++ us, rw t.2 (append_assoc t.0 t.1 us), t.3, tokens_push n ps p t.1 us t.4 d)

pub tokens_pull : (n : Line) (ps : List Physical) (p : Physical) (ts : List Token) → AreTokens n (ps ++ p ∷ []) ts → Parts (AreTokens n ps) (LineTokens n p) ts
tokens_pull n [] p ts t = ([], t.0, t.2 ∙ (ap (λ (vs : List Token). t.0 ++ vs) t.4 ∙ append-nil t.0), refl, t.3)
tokens_pull n (q ∷ ps) p ts t =
    let r = tokens_pull n ps p t.1 t.4 in
    (t.0 ++ r.0, r.1, t.2 ∙ (ap (λ (vs : List Token). t.0 ++ vs) r.2 ∙ sym (append_assoc t.0 r.0 r.1)), (t.0, r.0, refl, t.3, r.3), r.4)

pub one_list : (n : Line) (ps : List Physical) (ts us : List Token) → AreTokens n ps ts → AreTokens n ps us → ts ≡ us
one_list n [] ts us t u = t ∙ sym u
one_list n (p ∷ ps) ts us t u =
    let f = one_reading t.3 u.3 in
    let r = one_list n ps t.1 u.1 t.4 u.4 in
    t.2 ∙ (rw (f, r) (sym u.2))

-- ---- what was seen of the lines so far

taken_more : (P Q : List Token → Type 0) (old mid new : List Token) (f g : Taken) → IsTaken P old mid f → IsTaken Q mid new g → IsTaken (Parts P Q) old new (worse f g)
taken_more P Q old mid new Bad g t u = λ ts p. t p.0 p.3
taken_more P Q old mid new All Bad t u = λ ts p. u p.1 p.4
taken_more P Q old mid new Large Bad t u = λ ts p. u p.1 p.4
taken_more P Q old mid new All All t u = (t.0 ++ u.0, (t.0, u.0, refl, t.1, u.1), rw (u.2, t.2) (append_assoc old t.0 u.0), λ h. elim (HasLarge-append t.0 u.0 h) [ inl x ↦ t.3 x | inr x ↦ u.3 x ])
taken_more P Q old mid new All Large t u = (t.0 ++ u.0, (t.0, u.0, refl, t.1, u.1), HasLarge-back t.0 u.0 u.2)
taken_more P Q old mid new Large All t u = (t.0 ++ u.0, (t.0, u.0, refl, t.1, u.1), HasLarge-front t.0 u.0 t.2)
taken_more P Q old mid new Large Large t u = (t.0 ++ u.0, (t.0, u.0, refl, t.1, u.1), HasLarge-front t.0 u.0 t.2)

taken_same : (P Q : List Token → Type 0) (old new : List Token) (t : Taken) → ((ts : List Token) → P ts → Q ts) → ((ts : List Token) → Q ts → P ts) → IsTaken P old new t → IsTaken Q old new t
taken_same P Q old new All there back t = (t.0, there t.0 t.1, t.2, t.3)
taken_same P Q old new Large there back t = (t.0, there t.0 t.1, t.2)
taken_same P Q old new Bad there back t = λ ts q. t ts (back ts q)

bad_push : (ps : List Physical) (p : Physical) → HasBadLine ps ⊎ HasBadByte p.bytes → HasBadLine (ps ++ p ∷ [])
bad_push [] p (inl h) = absurd h
bad_push [] p (inr h) = inl h
bad_push (q ∷ ps) p (inl (inl h)) = inl h
bad_push (q ∷ ps) p (inl (inr h)) = inr (bad_push ps p (inl h))
bad_push (q ∷ ps) p (inr h) = inr (bad_push ps p (inr h))

bad_pull : (ps : List Physical) (p : Physical) → HasBadLine (ps ++ p ∷ []) → HasBadLine ps ⊎ HasBadByte p.bytes
bad_pull [] p (inl h) = inr h
bad_pull [] p (inr h) = absurd h
bad_pull (q ∷ ps) p (inl h) = inl (inl h)
bad_pull (q ∷ ps) p (inr h) = elim (bad_pull ps p h) [ inl g ↦ inl (inr g) | inr g ↦ inr g ]

-- whether a byte is bad, by the test
abbrev pub TellsBad : Bool → List Physical → Type 0
TellsBad true ps = HasBadLine ps
TellsBad false ps = HasBadLine ps → ⊥

bad_more : (ps : List Physical) (p : Physical) (a b : Bool) → TellsBad a ps → (IsTrue b ↔ HasBadByte p.bytes) → TellsBad (a || b) (ps ++ p ∷ [])
bad_more ps p true b h e = bad_push ps p (inl h)
bad_more ps p false true h e = bad_push ps p (inr (e.0 refl))
bad_more ps p false false h e = λ g. elim (bad_pull ps p g) [ inl x ↦ h x | inr x ↦ (let f = e.1 x in absurd cc) ]

-- what was seen of these physical lines of a logical line
pub record IsSummed (n : Line) (ps : List Physical) (old new : List Token) (f : Faults) : Type 0 where
  pub bytes : TellsBad f.bad_byte ps
  pub size : f.size ≡ size_of ps
  pub taken : IsTaken (AreTokens n ps) old new f.taken

pub summed_none : (n : Line) (old : List Token) → IsSummed n [] old old (record { bad_byte = false; size = 0; taken = All })
summed_none n old = record { bytes = λ h. h; size = refl; taken = ([], refl, sym (append-nil old), λ h. h) }

pub summed_more : (n : Line) (ps : List Physical) (old mid new : List Token) (f g : Faults) (l : PhysicalLine) → IsSummed n ps old mid f → SeesMore n f l mid new g → IsSummed n (ps ++ physical_of l ∷ []) old new g
summed_more n ps old mid new f g l s m = record {
  bytes = rw m.bytes (bad_more ps (physical_of l) f.bad_byte m.bad s.bytes m.bad_is);
  size = m.size ∙ (ap (λ (k : ℕ). k + length l.bytes.now) s.size ∙ sym (sum_by_push (λ (p : Physical). length p.bytes) ps (physical_of l)));
  taken = rw m.taken (taken_same (Parts (AreTokens n ps) (LineTokens n (physical_of l))) (AreTokens n (ps ++ physical_of l ∷ [])) old new (worse f.taken m.part)
      (λ ts p. subst (AreTokens n (ps ++ physical_of l ∷ [])) (sym p.2) (tokens_push n ps (physical_of l) p.0 p.1 p.3 p.4))
      (λ ts t. tokens_pull n ps (physical_of l) ts t)
      (taken_more (AreTokens n ps) (LineTokens n (physical_of l)) old mid new f.taken m.part s.taken m.part_is));
}

-- ---- the first of what is wrong

-- what the cause of a logical line says
abbrev pub TellsCause : List Physical → List Token → List Token → Option Cause → Type 0
TellsCause l old new c = MatchOption c (IsFine l × ((ts : List Token) × HasTokens l ts × (new ≡ old ++ ts))) (λ x. IsLeast x l)

fine_line : (l : List Physical) (ts : List Token) → (HasBadLine l → ⊥) → size_of l ≤ 4096 → HasTokens l ts → (HasLarge ts → ⊥) → IsFine l
fine_line l ts good short d small BadByte h = good h
fine_line l ts good short d small LineTooLong h = omega (arith, h, short)
fine_line l ts good short d small BadToken h = h ts d
fine_line l ts good short d small NumberTooLarge h = small (subst HasLarge (one_list (number_of l) l h.0 ts h.1 d) h.2)

not_long : (m n : ℕ) → m ≤ n → n < m → ⊥
not_long m n le lt = omega (arith, le, lt)

taken_tells : (l : List Physical) (old new : List Token) (t : Taken) → (HasBadLine l → ⊥) → size_of l ≤ 4096 → IsTaken (AreTokens (number_of l) l) old new t → TellsCause l old new (taken_cause t)
taken_tells l old new All good short t = (fine_line l t.0 good short t.1 t.3, (t.0, t.1, t.2))
taken_tells l old new Large good short t = (good, not_long (size_of l) 4096 short, (λ h. h t.0 t.1), t)
taken_tells l old new Bad good short t = (good, not_long (size_of l) 4096 short, t)

size_tells : (l : List Physical) (old new : List Token) (size : ℕ) (t : Taken) → (HasBadLine l → ⊥) → size ≡ size_of l → IsTaken (AreTokens (number_of l) l) old new t → TellsCause l old new (cause_of (record { bad_byte = false; size = size; taken = t }))
size_tells l old new size t good e k = elim (cases_lt 4096 size) [
  | inl lt ↦ let b : nat_lt 4096 size ≡ true = grind (arith, nat_tests) in rw b (good, omega (arith, e, lt))
  | inr le ↦ let b : nat_lt 4096 size ≡ false = grind (arith, nat_tests) in rw b (taken_tells l old new t good (omega (arith, e, le)) k)
]

pub cause_tells : (n : Line) (l : List Physical) (old new : List Token) (bad : Bool) (size : ℕ) (t : Taken) → n ≡ number_of l → IsSummed n l old new (record { bad_byte = bad; size = size; taken = t }) → TellsCause l old new (cause_of (record { bad_byte = bad; size = size; taken = t }))
cause_tells n l old new true size t e s = s.bytes
cause_tells n l old new false size t e s = size_tells l old new size t s.bytes s.size (subst (λ (m : Line). IsTaken (AreTokens m l) old new t) e s.taken)
