-- One more that is reached leaves the walks to the others as they were.
use Rattle.std.proofs.Common.{◌≡◌, ℕ, ◌+◌, ◌<◌, ◌≤◌, List, [], ◌∷◌, ◌++◌, length, get_or, refl, sym, ◌∙◌, ap, arith, length-append}
use Rattle.std.proofs.Math.ListN.{get_or-append}
use Rattle.std.proofs.Math.Seq.{get_or-append_seam}
use Rattle.place_check.specs.declared.reached.Reached.{Reached}
use Rattle.place_check.specs.Trails.{nowhere, reached_at, trails, trail}

trails-push : (known : List (List ℕ)) (rs : List Reached) (r : Reached)
    → trails known (rs ++ (r ∷ [])) ≡ trails known rs ++ ((r.node ∷ get_or (trails known rs) r.from []) ∷ [])
trails-push known [] r = refl
trails-push known (x ∷ rs) r = trails-push (known ++ ((x.node ∷ get_or known x.from []) ∷ [])) rs r

length-trails : (known : List (List ℕ)) (rs : List Reached) → length (trails known rs) ≡ length known + length rs
length-trails known [] = omega arith
length-trails known (x ∷ rs) =
    let e = length-trails (known ++ ((x.node ∷ get_or known x.from []) ∷ [])) rs in
    let l = length-append known ((x.node ∷ get_or known x.from []) ∷ []) in
    omega (arith, e, l)

pub trail_old : (rs : List Reached) (r : Reached) (i : ℕ) → i < length rs → trail (rs ++ (r ∷ [])) i ≡ trail rs i
unfolding trail
trail_old rs r i h =
    ap (λ (l : List (List ℕ)). get_or l i []) (trails-push [] rs r)
    ∙ get_or-append (trails [] rs) ((r.node ∷ get_or (trails [] rs) r.from []) ∷ []) [] i (omega (arith, h, length-trails [] rs))

pub trail_new : (rs : List Reached) (r : Reached) → trail (rs ++ (r ∷ [])) (length rs) ≡ r.node ∷ trail rs r.from
unfolding trail
trail_new rs r =
    let e : length (trails [] rs) ≡ length rs = omega (arith, length-trails [] rs) in
    ap (λ (l : List (List ℕ)). get_or l (length rs) []) (trails-push [] rs r)
    ∙ (ap (λ (n : ℕ). get_or (trails [] rs ++ ((r.node ∷ get_or (trails [] rs) r.from []) ∷ [])) n []) (sym e)
    ∙ get_or-append_seam (trails [] rs) (r.node ∷ get_or (trails [] rs) r.from []) [] [])

pub trail_first : (r : Reached) → trail (r ∷ []) 0 ≡ r.node ∷ []
unfolding trail
trail_first r = refl

pub reached_old : (rs : List Reached) (r : Reached) (i : ℕ) → i < length rs → reached_at (rs ++ (r ∷ [])) i ≡ reached_at rs i
reached_old rs r i h = get_or-append rs (r ∷ []) nowhere i h

pub reached_new : (rs : List Reached) (r : Reached) → reached_at (rs ++ (r ∷ [])) (length rs) ≡ r
reached_new rs r = get_or-append_seam rs r [] nowhere

-- what was reached, and then perhaps more
pub record IsGrown (rs ss : List Reached) : Type 0 where
  pub longer : length rs ≤ length ss
  pub trails : (i : ℕ) → i < length rs → trail ss i ≡ trail rs i
  pub reached : (i : ℕ) → i < length rs → reached_at ss i ≡ reached_at rs i

pub grown_same : (rs : List Reached) → IsGrown rs rs
grown_same rs = record { longer = omega arith; trails = λ i h. refl; reached = λ i h. refl }

pub grown_push : (rs : List Reached) (r : Reached) → IsGrown rs (rs ++ (r ∷ []))
grown_push rs r = record {
  longer = omega (arith, length-append rs (r ∷ []));
  trails = λ i h. trail_old rs r i h;
  reached = λ i h. reached_old rs r i h;
}

pub grown_trans : (rs ss ts : List Reached) → IsGrown rs ss → IsGrown ss ts → IsGrown rs ts
grown_trans rs ss ts g h =
    let p = g.longer in
    let q = h.longer in
    record {
      longer = omega arith;
      trails = λ i k. h.trails i (omega arith) ∙ g.trails i k;
      reached = λ i k. h.reached i (omega arith) ∙ g.reached i k;
    }
