-- A quoted text from left to right.
use Rattle.std.proofs.Common.{◌≡◌, ◌≢◌, ℕ, ◌+◌, ◌<◌, ◌≤◌, List, ◌∷◌, length, drop, get_or, refl, sym, ap, subst, ◌∙◌, arith}
use Rattle.std.proofs.lemmas.List.{drop_all, drop_more, length-drop}
use Rattle.fd_lexer.specs.Words.{NoQuote, IsQuoted, close, quote, byte}
use Rattle.fd_lexer.proofs.Quotes.{out_byte, out_quote, out_nothing}

-- the text ends where it ends from this place on
pub record IsScanned (bs : List ℕ) (at : ℕ) : Type 0 where
  pub begun : (rest : List ℕ) → IsQuoted (drop at bs) rest → IsQuoted bs rest
  pub ended : (rest : List ℕ) → IsQuoted bs rest → IsQuoted (drop at bs) rest
  pub within : at ≤ length bs

module _ (bs : List ℕ) (at : ℕ) (lt : at < length bs) (s : IsScanned bs at) where
  pub scan_byte : get_or bs at 0 ≢ 39 → IsScanned bs (at + 1)
  scan_byte n = record {
    begun = λ rest d. s.begun rest (rw (drop_more bs at 0 lt) (byte n d));
    ended = λ rest d. out_byte n (subst (λ (xs : List ℕ). IsQuoted xs rest) (drop_more bs at 0 lt) (s.ended rest d));
    within = omega (arith, lt);
  }

  module _ (q : get_or bs at 0 ≡ 39) where
    here : drop at bs ≡ 39 ∷ drop (at + 1) bs
    here = drop_more bs at 0 lt ∙ ap (λ (b : ℕ). b ∷ drop (at + 1) bs) q

    pub scan_quote : at + 1 < length bs → get_or bs (at + 1) 0 ≡ 39 → IsScanned bs (at + 2)
    scan_quote lt2 q2 =
        let two : at + 1 + 1 ≡ at + 2 = omega arith in
        let both : drop at bs ≡ 39 ∷ (39 ∷ drop (at + 2) bs) = here ∙ ap (λ (xs : List ℕ). 39 ∷ xs) (drop_more bs (at + 1) 0 lt2 ∙ rw (q2, two) refl) in
        record {
          begun = λ rest d. s.begun rest (rw both (quote d));
          ended = λ rest d. out_quote (subst (λ (xs : List ℕ). IsQuoted xs rest) both (s.ended rest d));
          within = omega (arith, lt2);
        }

    pub closed : NoQuote (drop (at + 1) bs) → IsQuoted bs (drop (at + 1) bs)
    closed n = s.begun (drop (at + 1) bs) (rw here (close n))

pub never_closed : (bs : List ℕ) (at : ℕ) → length bs ≤ at → IsScanned bs at → (rest : List ℕ) → IsQuoted bs rest → ⊥
never_closed bs at le s rest d = out_nothing (subst (λ (xs : List ℕ). IsQuoted xs rest) (drop_all at bs le) (s.ended rest d))

-- what comes next is no quote
pub no_quote : (bs : List ℕ) (k : ℕ) → (k < length bs → get_or bs k 0 ≡ 39 → ⊥) → NoQuote (drop k bs)
no_quote bs k h cs e =
    let lt : k < length bs = some_left bs k cs e in
    let f : get_or bs k 0 ∷ drop (k + 1) bs ≡ 39 ∷ cs = sym (drop_more bs k 0 lt) ∙ e in
    h lt cc
  where
    some_left : (bs : List ℕ) (k : ℕ) (cs : List ℕ) → drop k bs ≡ 39 ∷ cs → k < length bs
    some_left bs k cs e = omega (arith, ap length e, length-drop k bs)
