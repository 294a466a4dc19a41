-- A search begins at Start.
use Rattle.std.proofs.Common.{◌≡◌, ℕ, zero, suc, ◌*◌, ◌<◌, Bool, true, false, inl, inr, List, [], ◌∷◌, length, get_or, set, Option, Some, None, refl, sym, ◌∙◌, ap, subst, arith, true≢false, length-set}
use Rattle.std.specs.Prelude.{replicate}
use Rattle.fd_base.specs.declared.numbering.NodeNo.{NodeNo}
use Rattle.fd_prog.specs.Flow.{FlowGraph}
use Rattle.place_check.specs.declared.reached.Reached.{Reached}
use Rattle.place_check.specs.declared.reached.Search.{Search}
use Rattle.place_check.specs.Marks.{Machine}
use Rattle.place_check.specs.Verdicts.{numbers_of}
use Rattle.place_check.specs.Walks.{IsWalk, begin, go, IsBefore, IsNotAfter}
use Rattle.place_check.specs.Trails.{reached_at, trail, spot, AreReached, AreBelow, AreKnown, IsSearch, IsSearched, IsBegun}
use Rattle.place_check.proofs.Order.{before_longer, not_after_longer}
use Rattle.place_check.proofs.Trailing.{trail_first}
use Rattle.place_check.proofs.Following.{set_seen}

none_seen : (n q : ℕ) → get_or (replicate n false) q false ≡ false
none_seen zero q = refl
none_seen (suc n) zero = refl
none_seen (suc n) (suc q) = none_seen n q

length-blank : (n : ℕ) → length (replicate n false) ≡ n
length-blank zero = refl
length-blank (suc n) = ap suc (length-blank n)

only_first : (P : ℕ → Type 0) (r : Reached) → P 0 → (i : ℕ) → i < length (r ∷ []) → P i
only_first P r h zero lt = h
only_first P r h (suc i) lt = absurd (omega (arith, lt))

module _ (g : FlowGraph) (w : Machine) (count : ℕ) (mark : Bool) (pos : 0 < count) (starts : w.arriving 0 false ≡ Some mark) where
  start_reached : AreReached g w count (record { node = 0; mark = mark; from = 0 } ∷ [])
  start_reached =
      let r : Reached = record { node = 0; mark = mark; from = 0 } in
      record {
        some = omega arith;
        inside = only_first (λ (i : ℕ). (reached_at (r ∷ []) i).node < count) r pos;
        walks = only_first (λ (i : ℕ). IsWalk g w (trail (r ∷ []) i) (reached_at (r ∷ []) i).node (Some (reached_at (r ∷ []) i).mark)) r
            (subst (λ (l : List ℕ). IsWalk g w l 0 (Some mark)) (sym (trail_first r)) (subst (λ (o : Option Bool). IsWalk g w (0 ∷ []) 0 o) starts begin));
        ordered = λ i j less lt. absurd (omega (arith, less, lt));
        back = record {
          root = trail_first r;
          earlier = λ i p lt. absurd (omega (arith, p, lt));
          further = λ i p lt. absurd (omega (arith, p, lt));
        };
      }

  start_known : AreKnown (record { node = 0; mark = mark; from = 0 } ∷ []) (set (replicate (2 * count) false) (spot 0 mark) true)
  start_known q h = elim (set_seen (replicate (2 * count) false) (spot 0 mark) q h) [
    | inl e ↦ (0, omega arith, e)
    | inr e ↦ absurd (true≢false (sym e ∙ none_seen (2 * count) q))
  ]

  pub search_begins : (s : Search) → IsBegun count mark s → IsSearch g w count s 0
  search_begins s b =
      let r : Reached = record { node = 0; mark = mark; from = 0 } in
      record {
        reached = subst (λ (l : List Reached). AreReached g w count l) (sym b.reached) start_reached;
        known = subst (λ (l : List Reached). AreKnown l s.seen.items) (sym b.reached) (subst (λ (l : List Bool). AreKnown (r ∷ []) l) (sym b.seen) start_known);
        long = ap length b.seen ∙ (length-set (replicate (2 * count) false) (spot 0 mark) true ∙ length-blank (2 * count));
        passed = λ i lt. absurd (omega (arith, lt));
        below = λ lt. subst (λ (l : List Reached). AreBelow l 0) (sym b.reached)
            (only_first (λ (i : ℕ). (t : ℕ) → IsBefore (trail (r ∷ []) i) (t ∷ trail (r ∷ []) 0)) r (λ t. before_longer (trail (r ∷ []) 0) t));
      }

after_start : (g : FlowGraph) (w : Machine) (ns : List ℕ) (n : ℕ) (o : Option Bool) → IsWalk g w ns n o → IsNotAfter (0 ∷ []) ns
after_start g w ns n o begin = inl refl
after_start g w ns n o (go {ns = ms} {n = m} {mark = mark} kind s walk e) = not_after_longer (0 ∷ []) ms s (after_start g w ms m (Some mark) walk)

-- the condition is broken at Start
pub start_breaks : (g : FlowGraph) (w : Machine) (nodes : List NodeNo) → w.arriving 0 false ≡ None → nodes ≡ record { 0 = 0 } ∷ [] → IsSearched g w (Some nodes)
start_breaks g w nodes e same = (
  0 ∷ [],
  record { node = 0; walk = subst (λ (o : Option Bool). IsWalk g w (0 ∷ []) 0 o) e begin; first = λ ms m walk. after_start g w ms m None walk },
  ap numbers_of same,
)
