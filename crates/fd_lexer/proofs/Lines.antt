-- The tokens of bytes, from left to right.
use Rattle.std.proofs.Common.{◌≡◌, ℕ, ◌+◌, Bool, true, false, not, ◌||◌, List, [], ◌∷◌, ◌++◌, length, drop, refl, sym, ap, subst, ◌∙◌, append_assoc, inl, inr, ◌⊎◌, arith, Option, Some}
use Rattle.std.proofs.lemmas.List.{append-nil, length-drop}
use Rattle.fd_base.specs.declared.numbering.Line.{Line}
use Rattle.fd_lexer.specs.declared.token.Token.{Token}
use Rattle.fd_lexer.specs.declared.token.TokenKind.{TokenKind}
use Rattle.fd_lexer.specs.Bytes.{is_blank}
use Rattle.fd_lexer.specs.Words.{IsFront}
use Rattle.fd_lexer.specs.Tokens.{IsTokens, over, blank, token, IsShort, token_at, IsLargeKind, HasLarge}
use Rattle.fd_lexer.specs.Segment.{TookFront, NoFront, TookOrNot}
use Rattle.fd_lexer.proofs.Fronts.{AreSame, one_front, blank_no_front, nothing_no_front, front_fits}

-- ---- what the front of the bytes tells of their tokens

pub out_over : {line : Line} {at : ℕ} {us : List Token} → IsTokens line at [] us → us ≡ []
out_over over = refl
out_over (token n k f s d) = absurd (nothing_no_front f)

pub out_blank : {line : Line} {at b : ℕ} {bs : List ℕ} {us : List Token} → is_blank b ≡ true → IsTokens line at (b ∷ bs) us → IsTokens line (at + 1) bs us
out_blank h (blank b i d) = d
out_blank h (token n k f s d) = absurd (blank_no_front h f)

pub record AtFront (line : Line) (at n : ℕ) (k : TokenKind) (rest : List ℕ) (us : List Token) : Type 0 where
  pub tokens : List Token
  pub is : us ≡ token_at line at n k ∷ tokens
  pub short : IsShort k n
  pub behind : IsTokens line (at + n) rest tokens

at_same : (line : Line) (at : ℕ) (bs : List ℕ) (m n : ℕ) (j k : TokenKind) (ts : List Token) → AreSame m n j k → IsShort j m → IsTokens line (at + m) (drop m bs) ts → AtFront line at n k (drop n bs) (token_at line at m j ∷ ts)
at_same line at bs m n j k ts g s d = record {
  tokens = ts;
  is = rw (g.len, g.kind) refl;
  short = rw (← g.len, ← g.kind) s;
  behind = subst (λ (i : ℕ). IsTokens line (at + i) (drop i bs) ts) g.len d;
}

pub out_front : {line : Line} {at n : ℕ} {k : TokenKind} {bs : List ℕ} {us : List Token} → IsFront bs n k → IsTokens line at bs us → AtFront line at n k (drop n bs) us
out_front f over = absurd (nothing_no_front f)
out_front f (blank b i d) = absurd (blank_no_front i f)
out_front {line = line} {at = at} {n = n} {k = k} {bs = bs} f (token m j {ts = ts} g s d) = at_same line at bs m n j k ts (one_front g f) s d

pub out_none : {line : Line} {at b : ℕ} {bs : List ℕ} {us : List Token} → is_blank b ≡ false → NoFront (b ∷ bs) → IsTokens line at (b ∷ bs) us → ⊥
out_none h e (blank b i d) = absurd cc
out_none h e (token n k f s d) = e n k f s

-- ---- bytes form their tokens in one way

pub one_reading : {line : Line} {at : ℕ} {bs : List ℕ} {ts us : List Token} → IsTokens line at bs ts → IsTokens line at bs us → ts ≡ us
one_reading over u = sym (out_over u)
one_reading (blank b h d) u = one_reading d (out_blank h u)
one_reading {line = line} {at = at} (token n k {ts = ts} f s d) u =
    let q = out_front f u in
    sym (q.is ∙ ap (λ (vs : List Token). token_at line at n k ∷ vs) (sym (one_reading d q.behind)))

-- ---- what the loop over the bytes keeps

pub HasLarge-append : (xs ys : List Token) → HasLarge (xs ++ ys) → HasLarge xs ⊎ HasLarge ys
HasLarge-append [] ys h = inr h
HasLarge-append (x ∷ xs) ys (inl h) = inl (inl h)
HasLarge-append (x ∷ xs) ys (inr h) = elim (HasLarge-append xs ys h) [ inl g ↦ inl (inr g) | inr g ↦ inr g ]

pub HasLarge-front : (xs ys : List Token) → HasLarge xs → HasLarge (xs ++ ys)
HasLarge-front (x ∷ xs) ys (inl h) = inl h
HasLarge-front (x ∷ xs) ys (inr h) = inr (HasLarge-front xs ys h)
HasLarge-front [] ys h = absurd h

pub HasLarge-back : (xs ys : List Token) → HasLarge ys → HasLarge (xs ++ ys)
HasLarge-back [] ys h = h
HasLarge-back (x ∷ xs) ys h = inr (HasLarge-back xs ys h)

-- the tokens behind those that were seen
pub record Behind (line : Line) (at : ℕ) (rest : List ℕ) (seen us : List Token) : Type 0 where
  pub tokens : List Token
  pub is : us ≡ seen ++ tokens
  pub behind : IsTokens line at rest tokens

-- the tokens up to this place; where no number was too large, they were added to the old ones
pub record IsSeen (line : Line) (start : ℕ) (bytes : List ℕ) (old : List Token) (at : ℕ) (rest : List ℕ) (items : List Token) (large : Bool) : Type 0 where
  pub seen : List Token
  pub begun : (ts : List Token) → IsTokens line at rest ts → IsTokens line start bytes (seen ++ ts)
  pub ended : (us : List Token) → IsTokens line start bytes us → Behind line at rest seen us
  pub kept : large ≡ false → (items ≡ old ++ seen) × (HasLarge seen → ⊥)
  pub is_large : large ≡ true → HasLarge seen
  pub place : at + length rest ≡ start + length bytes

pub seen_none : (line : Line) (start : ℕ) (bytes : List ℕ) (old : List Token) → IsSeen line start bytes old start bytes old false
seen_none line start bytes old = record {
  seen = [];
  begun = λ ts d. d;
  ended = λ us d. record { tokens = us; is = refl; behind = d };
  kept = λ e. (sym (append-nil old), λ h. h);
  is_large = λ e. absurd cc;
  place = refl;
}

or_false : (b : Bool) → b || false ≡ b
or_false true = refl
or_false false = refl

or_true : (b : Bool) → b || true ≡ true
or_true true = refl
or_true false = refl

module _ (line : Line) (start : ℕ) (bytes : List ℕ) (old : List Token) (at : ℕ) (b : ℕ) (bs : List ℕ) (items : List Token) (large : Bool) (s : IsSeen line start bytes old at (b ∷ bs) items large) where
  pub seen_blank : is_blank b ≡ true → IsSeen line start bytes old (at + 1) bs items large
  seen_blank h = record {
    seen = s.seen;
    begun = λ ts d. s.begun ts (blank b h d);
    ended = λ us d. let e = s.ended us d in record { tokens = e.tokens; is = e.is; behind = out_blank h e.behind };
    kept = s.kept;
    is_large = s.is_large;
    place = omega (arith, s.place);
  }

  module _ (n : ℕ) (k : TokenKind) (f : IsFront (b ∷ bs) n k) (short : IsShort k n) where
    more_begun : (ts : List Token) → IsTokens line (at + n) (drop n (b ∷ bs)) ts → IsTokens line start bytes ((s.seen ++ token_at line at n k ∷ []) ++ ts)
    more_begun ts d = subst (λ (us : List Token). IsTokens line start bytes us) (sym (append_assoc s.seen (token_at line at n k ∷ []) ts)) (s.begun (token_at line at n k ∷ ts) (token n k f short d))

    more_ended : (us : List Token) → IsTokens line start bytes us → Behind line (at + n) (drop n (b ∷ bs)) (s.seen ++ token_at line at n k ∷ []) us
    more_ended us d = let q = s.ended us d in let w = out_front f q.behind in record { tokens = w.tokens; is = q.is ∙ (ap (λ (ts : List Token). s.seen ++ ts) w.is ∙ sym (append_assoc s.seen (token_at line at n k ∷ []) w.tokens)); behind = w.behind }

    more_place : at + n + length (drop n (b ∷ bs)) ≡ start + length bytes
    more_place = omega (arith, s.place, length-drop n (b ∷ bs), (front_fits f).within)

    pub seen_token : (IsLargeKind k → ⊥) → IsSeen line start bytes old (at + n) (drop n (b ∷ bs)) (items ++ token_at line at n k ∷ []) large
    seen_token fits = record {
      seen = s.seen ++ token_at line at n k ∷ [];
      begun = more_begun;
      ended = more_ended;
      kept = λ g. let q = s.kept g in (rw q.0 (append_assoc old s.seen (token_at line at n k ∷ [])), λ l. elim (HasLarge-append s.seen (token_at line at n k ∷ []) l) [ inl g ↦ q.1 g | inr (inl g) ↦ fits g | inr (inr g) ↦ g ]);
      is_large = λ g. HasLarge-front s.seen (token_at line at n k ∷ []) (s.is_large g);
      place = more_place;
    }

    pub seen_large : (new : List Token) → IsLargeKind k → IsSeen line start bytes old (at + n) (drop n (b ∷ bs)) new true
    seen_large new g = record {
      seen = s.seen ++ token_at line at n k ∷ [];
      begun = more_begun;
      ended = more_ended;
      kept = λ h. absurd cc;
      is_large = λ h. HasLarge-back s.seen (token_at line at n k ∷ []) (inl g);
      place = more_place;
    }

  pub no_tokens : is_blank b ≡ false → NoFront (b ∷ bs) → (us : List Token) → IsTokens line start bytes us → ⊥
  no_tokens h e us d = out_none h e (s.ended us d).behind

  pub seen_taken : (n : ℕ) (fits : Bool) (new : List Token) → TookFront line at (b ∷ bs) items new n fits → IsSeen line start bytes old (at + n) (drop n (b ∷ bs)) new (large || not fits)
  seen_taken n true new t = let q = t.added refl in rw (q.0, or_false large) (seen_token n t.kind t.is t.short q.1)
  seen_taken n false new t = rw (or_true large) (seen_large n t.kind t.is t.short new (t.large refl))

pub took_some : (line : Line) (at : ℕ) (bytes : List ℕ) (old new : List Token) (r : Option (ℕ × Bool)) (n : ℕ) (fits : Bool) → TookOrNot line at bytes old new r → r ≡ Some (n, fits) → TookFront line at bytes old new n fits
took_some line at bytes old new r n fits t e = subst (λ (x : Option (ℕ × Bool)). TookOrNot line at bytes old new x) e t

-- ---- the end

module _ (line : Line) (start : ℕ) (bytes : List ℕ) (old : List Token) (at : ℕ) (items : List Token) where
  at_end : (large : Bool) (s : IsSeen line start bytes old at [] items large) → IsTokens line start bytes s.seen
  at_end large s = subst (λ (us : List Token). IsTokens line start bytes us) (append-nil s.seen) (s.begun [] over)

  all_fit : IsSeen line start bytes old at [] items false → (ts : List Token) × IsTokens line start bytes ts × (items ≡ old ++ ts) × (HasLarge ts → ⊥)
  all_fit s = (s.seen, at_end false s, (s.kept refl).0, (s.kept refl).1)

  some_large : IsSeen line start bytes old at [] items true → (ts : List Token) × IsTokens line start bytes ts × HasLarge ts
  some_large s = (s.seen, at_end true s, s.is_large refl)

-- ---- the same, where the rest is known by an equation

module _ (line : Line) (start : ℕ) (bytes : List ℕ) (old : List Token) (at : ℕ) (rest : List ℕ) (items : List Token) (large : Bool) (s : IsSeen line start bytes old at rest items large) where
  at_rest : (bs : List ℕ) → rest ≡ bs → IsSeen line start bytes old at bs items large
  at_rest bs e = subst (λ (cs : List ℕ). IsSeen line start bytes old at cs items large) e s

  pub blank_at : (b : ℕ) (bs : List ℕ) → rest ≡ b ∷ bs → is_blank b ≡ true → IsSeen line start bytes old (at + 1) bs items large
  blank_at b bs e h = seen_blank line start bytes old at b bs items large (at_rest (b ∷ bs) e) h

  pub taken_at : (b : ℕ) (bs behind : List ℕ) (n : ℕ) (fits : Bool) (new : List Token) → rest ≡ b ∷ bs → behind ≡ drop n rest → TookFront line at rest items new n fits → IsSeen line start bytes old (at + n) behind new (large || not fits)
  taken_at b bs behind n fits new e d t =
      let f : behind ≡ drop n (b ∷ bs) = d ∙ ap (λ (cs : List ℕ). drop n cs) e in
      rw f (seen_taken line start bytes old at b bs items large (at_rest (b ∷ bs) e) n fits new (subst (λ (cs : List ℕ). TookFront line at cs items new n fits) e t))

  pub none_at : (b : ℕ) (bs : List ℕ) → rest ≡ b ∷ bs → is_blank b ≡ false → NoFront rest → (us : List Token) → IsTokens line start bytes us → ⊥
  none_at b bs e h t = no_tokens line start bytes old at b bs items large (at_rest (b ∷ bs) e) h (subst NoFront e t)

pub fit_at : (line : Line) (start : ℕ) (bytes : List ℕ) (old : List Token) (at : ℕ) (rest : List ℕ) (items : List Token) (large : Bool) → IsSeen line start bytes old at rest items large → length rest ≡ 0 → large ≡ false → (ts : List Token) × IsTokens line start bytes ts × (items ≡ old ++ ts) × (HasLarge ts → ⊥)
fit_at line start bytes old at [] items large s e f = all_fit line start bytes old at items (subst (λ (b : Bool). IsSeen line start bytes old at [] items b) f s)
fit_at line start bytes old at (b ∷ bs) items large s e f = absurd (omega (arith, e))

pub large_at : (line : Line) (start : ℕ) (bytes : List ℕ) (old : List Token) (at : ℕ) (rest : List ℕ) (items : List Token) (large : Bool) → IsSeen line start bytes old at rest items large → length rest ≡ 0 → large ≡ true → (ts : List Token) × IsTokens line start bytes ts × HasLarge ts
large_at line start bytes old at [] items large s e f = some_large line start bytes old at items (subst (λ (b : Bool). IsSeen line start bytes old at [] items b) f s)
large_at line start bytes old at (b ∷ bs) items large s e f = absurd (omega (arith, e))
