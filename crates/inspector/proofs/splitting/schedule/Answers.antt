use Rattle.std.proofs.Common.{◌≡◌, ◌∙◌, ℕ, ◌+◌, ◌++◌, List, [], ◌∷◌, filter, map, sym, ap₂, arith}
use Rattle.std.specs.List.{range_with_len}
use Rattle.std.proofs.lemmas.List.FromFn.{map-range_with_len_more}
use Rattle.fd_base.specs.Places.{is_owner}
use Rattle.owner_part.specs.Placed.{place_of}
use Rattle.inspector.proofs.splitting.schedule.Goals as goal

one_more : (f : ℕ → List ℕ) (n : ℕ) → map f (range_with_len 0 (n + 1)) ≡ map f (range_with_len 0 n) ++ f n ∷ []
one_more f n = map-range_with_len_more f 0 n n (omega arith)

pub loop-rank-preserved : goal.loop-rank-preserved
loop-rank-preserved c =
    let f : ℕ → List ℕ = λ rank. filter (λ e. is_owner (place_of c.args.place.now) e rank) c.args.needs.now in
    c.in_ok-push.ensures.items ∙ ap₂ (λ (xs : List (List ℕ)) y. xs ++ y ∷ []) c.loop-rank.invariant c.in_ok-requests.ensures ∙ sym (one_more f c.loop-rank.rank)
