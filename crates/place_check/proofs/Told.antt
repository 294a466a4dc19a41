-- The nodes of a walk are told from its end back to Start.
use Rattle.std.proofs.Common.{◌≡◌, ℕ, ◌<◌, List, [], ◌∷◌, ◌++◌, length, get_or, reverse, ◌≤◌, refl, sym, ◌∙◌, ap, append_assoc, arith}
use Rattle.std.proofs.lemmas.List.{map-append, reverse-append, get_or_default}
use Rattle.fd_base.specs.declared.numbering.NodeNo.{NodeNo}
use Rattle.place_check.specs.declared.reached.Reached.{Reached}
use Rattle.place_check.specs.Verdicts.{numbers_of}
use Rattle.place_check.specs.Trails.{nowhere, reached_at, trail, LeadBack}

abbrev number : ℕ → NodeNo
number n = record { 0 = n }

pub numbers-push : (ns : List NodeNo) (n : ℕ) → numbers_of (ns ++ (number n ∷ [])) ≡ numbers_of ns ++ (n ∷ [])
numbers-push ns n = map-append (λ (m : NodeNo). m.0) ns (number n ∷ [])

pub told_more : (rs : List Reached) (ns : List NodeNo) (i : ℕ) → LeadBack rs → 0 < i → i < length rs
    → numbers_of (ns ++ (number (reached_at rs i).node ∷ [])) ++ trail rs (reached_at rs i).from ≡ numbers_of ns ++ trail rs i
told_more rs ns i b pos lt =
    ap (λ (l : List ℕ). l ++ trail rs (reached_at rs i).from) (numbers-push ns (reached_at rs i).node)
    ∙ (append_assoc (numbers_of ns) ((reached_at rs i).node ∷ []) (trail rs (reached_at rs i).from)
    ∙ ap (λ (l : List ℕ). numbers_of ns ++ l) (sym (b.further i pos lt)))

pub told_all : (rs : List Reached) (ns : List NodeNo) → LeadBack rs → numbers_of (ns ++ (number (reached_at rs 0).node ∷ [])) ≡ numbers_of ns ++ trail rs 0
told_all rs ns b = numbers-push ns (reached_at rs 0).node ∙ ap (λ (l : List ℕ). numbers_of ns ++ l) (sym b.root)

pub numbers-reverse : (ns : List NodeNo) → numbers_of (reverse ns) ≡ reverse (numbers_of ns)
numbers-reverse [] = refl
numbers-reverse (n ∷ ns) =
    ap numbers_of (reverse-append (n ∷ []) ns)
    ∙ (map-append (λ (m : NodeNo). m.0) (reverse ns) (n ∷ [])
    ∙ (ap (λ (l : List ℕ). l ++ (n.0 ∷ [])) (numbers-reverse ns) ∙ sym (reverse-append (n.0 ∷ []) (numbers_of ns))))

-- the nodes from the end back to Start, turned round
pub told_path : (rs : List Reached) (nodes items : List NodeNo) (at last i : ℕ) (x : Reached) → LeadBack rs → at < length rs → items ≡ nodes ++ (number x.node ∷ []) → x ≡ get_or rs 0 x → i ≤ 0
    → numbers_of nodes ++ trail rs i ≡ last ∷ trail rs at → numbers_of (reverse items) ≡ reverse (last ∷ trail rs at)
told_path rs nodes items at last i x b h pushed read ends way =
    let root : x ≡ reached_at rs 0 = read ∙ get_or_default rs 0 x nowhere (omega (arith, h)) in
    let start : i ≡ 0 = omega (arith, ends) in
    numbers-reverse items ∙ ap reverse
    (ap numbers_of pushed
    ∙ (ap (λ (r : Reached). numbers_of (nodes ++ (number r.node ∷ []))) root
    ∙ (told_all rs nodes b
    ∙ (ap (λ (j : ℕ). numbers_of nodes ++ trail rs j) (sym start) ∙ way))))
