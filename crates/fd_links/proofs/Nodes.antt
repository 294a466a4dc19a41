-- A node written over.
use Rattle.std.proofs.Common.{◌≡◌, ℕ, zero, suc, ◌<◌, List, [], ◌∷◌, length, get_or, set, refl, sym, ap, ◌∙◌, arith, inl, inr}
use Rattle.std.proofs.lemmas.Bool.{cases_eq, eq-eqb, ne_eqb}
use Rattle.std.proofs.lemmas.List.{get_or-set_same, get_or-set_other}
use Rattle.fd_links.specs.declared.links.Node.{Node}
use Rattle.fd_links.specs.Rings.{before_of, behind_of, put}

pub behind_of-set : (nodes : List Node) (i : ℕ) (v : Node) (x : ℕ) → i < length nodes → behind_of (set nodes i v) x ≡ put (behind_of nodes) i v.behind x
behind_of-set nodes i v x h =
    elim (cases_eq x i) [
      | inl e ↦ rw (eq-eqb x i e) (ap (λ k. behind_of (set nodes i v) k) e ∙ ap (λ n. n.behind) (get_or-set_same nodes i v (record { before = i; behind = i }) h))
      | inr e ↦ rw (ne_eqb x i e) (ap (λ n. n.behind) (get_or-set_other nodes i x v (record { before = x; behind = x }) e))
    ]

pub before_of-set : (nodes : List Node) (i : ℕ) (v : Node) (x : ℕ) → i < length nodes → before_of (set nodes i v) x ≡ put (before_of nodes) i v.before x
before_of-set nodes i v x h =
    elim (cases_eq x i) [
      | inl e ↦ rw (eq-eqb x i e) (ap (λ k. before_of (set nodes i v) k) e ∙ ap (λ n. n.before) (get_or-set_same nodes i v (record { before = i; behind = i }) h))
      | inr e ↦ rw (ne_eqb x i e) (ap (λ n. n.before) (get_or-set_other nodes i x v (record { before = x; behind = x }) e))
    ]

read_any : (nodes : List Node) (i : ℕ) (n m : Node) → i < length nodes → get_or nodes i n ≡ get_or nodes i m
read_any [] i n m l = absurd (omega (arith, l))
read_any (x ∷ nodes) zero n m l = refl
read_any (x ∷ nodes) (suc i) n m l = read_any nodes i n m (omega (arith, l))

-- what is read at a place
pub read_is : (nodes : List Node) (i : ℕ) (n : Node) → i < length nodes → n ≡ get_or nodes i n → behind_of nodes i ≡ n.behind
read_is nodes i n l h = ap (λ q. q.behind) (read_any nodes i (record { before = i; behind = i }) n l ∙ sym h)
