-- The kinds of bytes.
use Rattle.std.specs.Prelude.{ℕ, Bool, ◌&&◌, ◌||◌, ◌==◌, nat_le, not}
use Rattle.fd_base.specs.Digits.{is_digit}

abbrev pub is_blank : ℕ → Bool
is_blank b = (b == 32) || (b == 9)

abbrev pub is_letter : ℕ → Bool
is_letter b = (nat_le 65 b && nat_le b 90) || (nat_le 97 b && nat_le b 122)

abbrev pub is_name_byte : ℕ → Bool
is_name_byte b = is_letter b || is_digit b || (b == 95)

-- what may stand outside quoted texts: tab and the printed bytes of ASCII
abbrev pub is_plain : ℕ → Bool
is_plain b = (nat_le 32 b && nat_le b 126) || (b == 9)

-- what may stand in quoted texts: no control byte
abbrev pub is_quotable : ℕ → Bool
is_quotable b = nat_le 32 b && not (b == 127)
