-- A walk from a head finds the path that leads back to it.
use Rattle.std.proofs.Common.{◌≡◌, ℕ, zero, suc, ◌≤◌, List, [], ◌∷◌, length, refl, ap, arith}
use Rattle.std.proofs.lemmas.Bool.{eq-eqb, ne_eqb}
use Rattle.fd_links.specs.declared.links.Node.{Node}
use Rattle.fd_links.specs.Rings.{behind_of, walk, ring, IsPath}
use Rattle.fd_links.proofs.Paths.{Avoids}

walk_at_head : (nodes : List Node) (head n i : ℕ) → i ≡ head → walk nodes head n i ≡ []
walk_at_head nodes head zero i e = refl
walk_at_head nodes head (suc n) i e = rw (eq-eqb i head e) refl

walk_path : (nodes : List Node) (head n from : ℕ) (xs : List ℕ) → length xs ≤ n → Avoids head xs → IsPath nodes from xs head → walk nodes head n (behind_of nodes from) ≡ xs
walk_path nodes head n from [] l a h = walk_at_head nodes head n (behind_of nodes from) h
walk_path nodes head zero from (x ∷ xs) l a h = absurd (omega arith)
walk_path nodes head (suc n) from (x ∷ xs) l a h =
    rw (h.0, ne_eqb x head a.0) (ap (λ ys. x ∷ ys) (walk_path nodes head n x xs (omega arith) a.1 h.1))

-- the ring of a head is the path that leads back to it
pub ring_is : (nodes : List Node) (head : ℕ) (xs : List ℕ) → length xs ≤ length nodes → Avoids head xs → IsPath nodes head xs head → ring nodes head ≡ xs
ring_is nodes head xs l a h = walk_path nodes head (length nodes) head xs l a h
