use Rattle.std.proofs.Common.{◌≡◌, ◌∷◌, [], refl, ap, ◌∙◌, arith}
use Rattle.fd_links.specs.Chains.{Chains, pushed}
use Rattle.fd_links.proofs.rows.compare.Goals as goal

pub unlink-requires : goal.unlink-requires
unlink-requires g c =
    let links : Chains = record { chains = (0 ∷ 2 ∷ []) ∷ (1 ∷ []) ∷ []; free = [] } in
    let e : c.push_back-3.new.self ≡ links =
    c.push_back-3.ensures.value ∙ (ap (λ v. pushed v 1 1) (c.push_back-2.ensures.value ∙ (ap (λ v. pushed v 0 2) (c.push_back.ensures.value ∙ ap (λ v. pushed v 0 0) c.in_ok-links.ensures)))) in
    rw e (0, omega arith, (0, omega arith, refl))
