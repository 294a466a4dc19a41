-- A quoted text ends in one place.
use Rattle.std.proofs.Common.{◌≡◌, ◌≢◌, ℕ, List, [], ◌∷◌, refl}
use Rattle.fd_lexer.specs.Words.{NoQuote, IsQuoted, close, quote, byte}

pub out_byte : {b : ℕ} {bs rest : List ℕ} → b ≢ 39 → IsQuoted (b ∷ bs) rest → IsQuoted bs rest
out_byte n (close h) = absurd (n refl)
out_byte n (quote d) = absurd (n refl)
out_byte n (byte m d) = d

pub out_quote : {bs rest : List ℕ} → IsQuoted (39 ∷ (39 ∷ bs)) rest → IsQuoted bs rest
out_quote (close h) = absurd (h _ refl)
out_quote (quote d) = d
out_quote (byte m d) = absurd (m refl)

pub out_close : {bs rest : List ℕ} → NoQuote bs → IsQuoted (39 ∷ bs) rest → rest ≡ bs
out_close n (close h) = refl
out_close n (quote d) = absurd (n _ refl)
out_close n (byte m d) = absurd (m refl)

pub out_nothing : {rest : List ℕ} → IsQuoted [] rest → ⊥
out_nothing d = elim d [ ]

pub one_end : {bs rest more : List ℕ} → IsQuoted bs rest → IsQuoted bs more → more ≡ rest
one_end (close h) e = out_close h e
one_end (quote d) e = one_end d (out_quote e)
one_end (byte m d) e = one_end d (out_byte m e)
