-- What a physical line is made of.
use Rattle.std.proofs.Common.{◌≡◌, ◌≢◌, ℕ, ◌+◌, ◌-◌, ◌%◌, ◌<◌, ◌≤◌, Bool, true, false, not, List, length, take, get_or, count_by, refl, sym, subst, ◌∙◌, arith, zero-add}
use Rattle.std.specs.Prelude.{nat_lt, ◌==◌}
use Rattle.std.specs.List.{range_with_len, suffix_len}
use Rattle.std.proofs.lemmas.Bool.Decides.{nat_tests}
use Rattle.std.proofs.lemmas.List.{take_all}
use Rattle.std.proofs.lemmas.List.FromFn.{length-range_with_len, get_or-range_with_len}
use Rattle.std.proofs.lemmas.List.Sums.{position_or_len_is, count_by_more_yes, count_by_more_no, suffix_len-take_yes, suffix_len-take_no}
use Rattle.fd_lexer.specs.Bytes.{is_blank}
use Rattle.fd_lexer.specs.Physical.{in_text, is_comment_at, code_len, code_end, begins_comment, counts, continued, content, allowed_in}

abbrev is_quote : ℕ → Bool
is_quote b = b == 39

pub code_len_is : (bs : List ℕ) (i : ℕ) → i ≤ length bs → ((k : ℕ) → k < i → is_comment_at bs k ≡ false) → (i < length bs → is_comment_at bs i ≡ true) → i ≡ code_len bs
unfolding code_len
code_len_is bs i le before here =
    let n = length-range_with_len 0 (length bs) in
    sym (position_or_len_is (is_comment_at bs) (range_with_len 0 (length bs)) i 0 (omega (arith, n, le))
    (λ k lt. let e : get_or (range_with_len 0 (length bs)) k 0 ≡ k = get_or-range_with_len 0 (length bs) k 0 (omega (arith, lt, le)) ∙ zero-add k in rw e (before k lt))
    (λ lt. let m : i < length bs = omega (arith, n, lt) in let e : get_or (range_with_len 0 (length bs)) i 0 ≡ i = get_or-range_with_len 0 (length bs) i 0 m ∙ zero-add i in rw e (here m)))

pub comment_here : (bs : List ℕ) (i q : ℕ) → q ≡ count_by is_quote (take i bs) → get_or bs i 0 ≡ 33 → q % 2 ≢ 1 → is_comment_at bs i ≡ true
comment_here bs i q e b n =
    let t : (q % 2 == 1) ≡ false = grind (arith, nat_tests) in
    rw (b, ← e, t) refl

-- the bytes behind the first n are blanks
abbrev pub IsTrimmed : List ℕ → ℕ → Type 0
IsTrimmed bs n = (n ≤ length bs) × (n + suffix_len is_blank bs ≡ length bs + suffix_len is_blank (take n bs))

pub trimmed_none : (bs : List ℕ) (n : ℕ) → n ≡ length bs → IsTrimmed bs n
trimmed_none bs n e = let t : take n bs ≡ bs = take_all n bs (omega (arith, e)) in (omega (arith, e), rw t (omega (arith, e)))

pub trimmed_more : (bs : List ℕ) (n : ℕ) → 0 < n → true ≡ is_blank (get_or bs (n - 1) 0) → IsTrimmed bs n → IsTrimmed bs (n - 1)
trimmed_more bs n lt b h = (omega (arith, h.0), omega (arith, h.0, h.1, lt, suffix_len-take_yes is_blank bs n 0 lt h.0 (sym b)))

pub trimmed_stop : (bs : List ℕ) (n : ℕ) → 0 < n → false ≡ is_blank (get_or bs (n - 1) 0) → IsTrimmed bs n → n ≡ length bs - suffix_len is_blank bs
trimmed_stop bs n lt b h = omega (arith, h.0, h.1, suffix_len-take_no is_blank bs n 0 lt h.0 (sym b))

pub trimmed_all : (bs : List ℕ) (n : ℕ) → n ≡ 0 → IsTrimmed bs n → 0 ≡ length bs - suffix_len is_blank bs
trimmed_all bs n z h = let t : IsTrimmed bs 0 = subst (IsTrimmed bs) z h in omega (arith, t.1)

pub code_end_is : (bs code : List ℕ) (n : ℕ) → n ≡ code_len bs → code ≡ take n bs → n ≤ length bs → (e : ℕ) → e ≡ length code - suffix_len is_blank code → length code ≡ n → e ≡ code_end bs
unfolding code_end
code_end_is bs code n c f le e h l = rw (← c, ← f, ← l) h

pub counts_no : (bs : List ℕ) → true ≡ begins_comment bs → false ≡ counts bs
unfolding counts
counts_no bs e = rw (← e) refl

pub counts_end : (bs : List ℕ) (e : ℕ) → false ≡ begins_comment bs → e ≡ code_end bs → nat_lt 0 e ≡ counts bs
unfolding counts
counts_end bs e b h = rw (← b, ← h) refl

pub continued_empty : (bs : List ℕ) (e : ℕ) → e ≡ code_end bs → e ≡ 0 → false ≡ continued bs
unfolding continued
continued_empty bs e h z = rw (← h, z) refl

pub continued_no : (bs : List ℕ) (e : ℕ) → e ≡ code_end bs → e ≢ 0 → get_or bs (e - 1) 0 ≢ 38 → false ≡ continued bs
unfolding continued
continued_no bs e h z n =
    let t : nat_lt 0 e ≡ true = grind (arith, nat_tests) in
    let u : (get_or bs (e - 1) 0 == 38) ≡ false = grind (arith, nat_tests) in
    rw (← h, t, u) refl

pub continued_amp : (bs : List ℕ) (e : ℕ) (r : Bool) → e ≡ code_end bs → e ≢ 0 → get_or bs (e - 1) 0 ≡ 38 → r ≡ in_text bs (e - 1) → not r ≡ continued bs
unfolding continued
continued_amp bs e r h z q i =
    let t : nat_lt 0 e ≡ true = grind (arith, nat_tests) in
    rw (← h, t, q, ← i) refl

pub content_on : (bs front : List ℕ) (e : ℕ) → e ≡ code_end bs → true ≡ continued bs → front ≡ take (e - 1) bs → front ≡ content bs
unfolding content
content_on bs front e h c f = rw (← c, ← h) f

pub content_last : (bs front : List ℕ) (e : ℕ) → e ≡ code_end bs → false ≡ continued bs → front ≡ take e bs → front ≡ content bs
unfolding content
content_last bs front e h c f = rw (← c, ← h) f

pub good_here : (bs : List ℕ) (i q : ℕ) → q ≡ count_by is_quote (take i bs) → true ≡ allowed_in (q % 2 == 1) (get_or bs i 0) → allowed_in (in_text bs i) (get_or bs i 0) ≡ true
good_here bs i q e h = rw (← e) (sym h)

pub quote_counted : (bs : List ℕ) (i q : ℕ) → i < length bs → get_or bs i 0 ≡ 39 → q ≡ count_by is_quote (take i bs) → q + 1 ≡ count_by is_quote (take (i + 1) bs)
quote_counted bs i q lt b e =
    let t : is_quote (get_or bs i 0) ≡ true = grind (arith, nat_tests) in
    omega (arith, e, count_by_more_yes is_quote bs i 0 lt t)

pub other_counted : (bs : List ℕ) (i q : ℕ) → i < length bs → get_or bs i 0 ≢ 39 → q ≡ count_by is_quote (take i bs) → q ≡ count_by is_quote (take (i + 1) bs)
other_counted bs i q lt b e =
    let t : is_quote (get_or bs i 0) ≡ false = grind (arith, nat_tests) in
    omega (arith, e, count_by_more_no is_quote bs i 0 lt t)
