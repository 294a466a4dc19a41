-- The rings of the nodes before and after a place is moved.
use Rattle.std.proofs.Common.{◌≡◌, ℕ, suc, ◌<◌, ◌≤◌, cond, eqb, List, [], ◌∷◌, ◌++◌, length, get_or, map, refl, sym, ap, ◌∙◌, arith, inl, inr}
use Rattle.std.specs.Prelude.{sum_by}
use Rattle.std.proofs.lemmas.Bool.{cases_Bool, cases_eq, ne_eqb}
use Rattle.std.proofs.lemmas.List.{get_or-map, get_or-set_same, get_or-set_other, length-map, length-set}
use Rattle.std.proofs.lemmas.List.FromFn.{fill_by_all}
use Rattle.std.proofs.lemmas.List.Sums.{sum_by-cons, get_or-le-sum_by}
use Rattle.fd_links.specs.declared.links.Node.{Node}
use Rattle.fd_links.specs.Chains.{without}
use Rattle.fd_links.specs.Rings.{AreInverse, AreRings, AreWithin, Moves, before_of, behind_of, moved, moved_back, put, ring, rings_of}
use Rattle.fd_links.proofs.Counts.{moved_rings, times, once-moved_other, once-moved_self, total-moved}
use Rattle.fd_links.proofs.Inverses.{put_in, taken_out}
use Rattle.fd_links.proofs.Moves.{Follows-alone, Follows-moved, Follows-moved_to, Follows-same}
use Rattle.fd_links.proofs.Paths.{Avoids, without_other, without_self}
use Rattle.fd_links.proofs.Walks.{ring_is}

pub Avoids-below : (t low high : ℕ) (xs : List ℕ) → t < low → AreWithin low high xs → Avoids t xs
Avoids-below t low high [] l w = tt
Avoids-below t low high (x ∷ xs) l w = ((λ e. absurd (omega (arith, w.0, e))), Avoids-below t low high xs l w.2)

AreWithin-without : (low high s : ℕ) (xs : List ℕ) → AreWithin low high xs → AreWithin low high (without s xs)
AreWithin-without low high s [] w = tt
AreWithin-without low high s (x ∷ xs) w =
    elim (cases_Bool (eqb x s)) [
      | inl e ↦ rw (without_self s x xs e) (AreWithin-without low high s xs w.2)
      | inr e ↦ rw (without_other s x xs e) (w.0, w.1, AreWithin-without low high s xs w.2)
    ]

pub AreWithin-push : (low high s : ℕ) (xs : List ℕ) → low ≤ s → s < high → AreWithin low high xs → AreWithin low high (xs ++ s ∷ [])
AreWithin-push low high s [] l h w = (l, h, tt)
AreWithin-push low high s (x ∷ xs) l h w = (w.0, w.1, AreWithin-push low high s xs l h w.2)

short : (heads : ℕ) (nodes : List Node) (rings : List (List ℕ)) (head : ℕ) → AreRings heads nodes rings → head < heads → length (get_or rings head []) ≤ length nodes
short heads nodes rings head k h = omega (arith, k.total, get_or-le-sum_by length rings head [] (omega (arith, h, k.each_head)))

-- the nodes tell the rings
pub rings_are : (heads : ℕ) (nodes : List Node) (rings : List (List ℕ)) → AreRings heads nodes rings → rings ≡ rings_of heads nodes
rings_are heads nodes rings k =
    fill_by_all (ring nodes) rings heads [] k.each_head (λ head h. sym (ring_is nodes head (get_or rings head []) (short heads nodes rings head k h) (Avoids-below head heads (length nodes) (get_or rings head []) h (k.inside head h)) (k.paths head h)))

pub times_avoided : (s : ℕ) (xs : List ℕ) → Avoids s xs → times s xs ≡ 0
times_avoided s [] a = refl
times_avoided s (x ∷ xs) a = sum_by-cons (λ other. cond (eqb other s) 1 0) x xs ∙ rw (ne_eqb x s a.0) (omega (arith, times_avoided s xs a.1))

pub sum_of_none : (f : List ℕ → ℕ) (rings : List (List ℕ)) → ((head : ℕ) → head < length rings → f (get_or rings head []) ≡ 0) → sum_by f rings ≡ 0
sum_of_none f [] h = refl
sum_of_none f (r ∷ rings) h =
    omega (arith, sum_by-cons f r rings, h 0 (omega arith), sum_of_none f rings (λ head l. h (suc head) (omega arith)))

-- a slot stands in a ring, so it isn't a ring by itself
pub not_alone : (heads : ℕ) (nodes : List Node) (rings : List (List ℕ)) (s : ℕ) → AreRings heads nodes rings → heads ≤ s → s < length nodes → before_of nodes s ≡ s → ⊥
not_alone heads nodes rings s k l h a =
    let none : sum_by (times s) rings ≡ 0 = sum_of_none (times s) rings (λ head m. times_avoided s (get_or rings head []) (Follows-alone (behind_of nodes) (before_of nodes) s head (get_or rings head []) head k.inverse a (λ e. absurd (omega (arith, m, k.each_head, l, e))) (k.paths head (omega (arith, m, k.each_head))))) in
    absurd (omega (arith, none, k.once s l h))

-- a ring after the move, at the head that the slot comes to and at each other
pub moved_at : (rings : List (List ℕ)) (s t : ℕ) → t < length rings → get_or (moved_rings rings s t) t [] ≡ without s (get_or rings t []) ++ s ∷ []
moved_at rings s t l = get_or-set_same (map (without s) rings) t (without s (get_or rings t []) ++ s ∷ []) [] (omega (arith, l, length-map rings (without s)))

pub moved_past : (rings : List (List ℕ)) (s t c : ℕ) → (c ≡ t → ⊥) → c < length rings → get_or (moved_rings rings s t) c [] ≡ without s (get_or rings c [])
moved_past rings s t c n l = get_or-set_other (map (without s) rings) t c (without s (get_or rings t []) ++ s ∷ []) [] n ∙ get_or-map (without s) rings c [] [] l

pub put_below : (f : ℕ → ℕ) (at value x n : ℕ) → value < n → f x < n → put f at value x < n
put_below f at value x n v h =
    elim (cases_Bool (eqb x at)) [ inl e ↦ rw e v | inr e ↦ rw e h ]

inverse_moved : (f b g c : ℕ → ℕ) (s t : ℕ) → AreInverse f b → (t ≡ s → ⊥) → ((x : ℕ) → g x ≡ moved f b s t x) → ((x : ℕ) → c x ≡ moved_back f b s t x) → AreInverse g c
inverse_moved f b g c s t k n l m =
    let p = put_in (put f (b s) (f s)) (put b (f s) (b s)) s t (taken_out f b s k) n in
    record {
      back = λ x. ap c (l x) ∙ (m (moved f b s t x) ∙ p.back x);
      forth = λ x. ap g (m x) ∙ (l (moved_back f b s t x) ∙ p.forth x);
    }

pub AreRings-moved : (heads : ℕ) (nodes after : List Node) (rings : List (List ℕ)) (s t : ℕ) → AreRings heads nodes rings → Moves nodes after s t → heads ≤ s → s < length nodes → t < heads → AreRings heads after (moved_rings rings s t)
AreRings-moved heads nodes after rings s t k m l h u =
    let f = behind_of nodes in
    let b = before_of nodes in
    let n : t ≡ s → ⊥ = λ e. absurd (omega (arith, u, l, e)) in
    let alone : b s ≡ s → ⊥ = not_alone heads nodes rings s k l h in
    let in_rings : t < length rings = omega (arith, u, k.each_head) in
    let at_s = k.within s h in
    let at_t = k.within t (omega (arith, u, l, h)) in
    record {
      heads_inside = (k.heads_inside.0, omega (arith, k.heads_inside.1, m.len));
      inverse = inverse_moved f b (behind_of after) (before_of after) s t k.inverse n m.links m.back;
      within = λ i j.
          let at_i = k.within i (omega (arith, j, m.len)) in (
            rw (m.links i) (rw m.len (put_below (put (put f (b s) (f s)) (put b (f s) (b s) t) s) s t i (length nodes) (omega (arith, u, l, h)) (put_below (put f (b s) (f s)) (put b (f s) (b s) t) s i (length nodes) h (put_below f (b s) (f s) i (length nodes) at_s.0 at_i.0)))),
            rw (m.back i) (rw m.len (put_below (put (put b (f s) (b s)) s (put b (f s) (b s) t)) t s i (length nodes) h (put_below (put b (f s) (b s)) s (put b (f s) (b s) t) i (length nodes) (put_below b (f s) (b s) t (length nodes) at_s.1 at_t.1) (put_below b (f s) (b s) i (length nodes) at_s.1 at_i.1)))),
          );
      each_head = length-set (map (without s) rings) t (without s (get_or rings t []) ++ s ∷ []) ∙ (length-map rings (without s) ∙ k.each_head);
      paths = λ c j. elim (cases_eq c t) [
        | inl e ↦ rw (e, moved_at rings s t in_rings) (Follows-same (moved f b s t) (behind_of after) m.links t (without s (get_or rings t []) ++ s ∷ []) t (Follows-moved_to f b s t (get_or rings t []) k.inverse alone n (Avoids-below t heads (length nodes) (get_or rings t []) u (k.inside t u)) (k.paths t u)))
        | inr o ↦
            let c_in : c < length rings = omega (arith, j, k.each_head) in
            let apart : c ≡ s → ⊥ = λ q. absurd (omega (arith, j, l, q)) in
            rw (moved_past rings s t c o c_in) (Follows-same (moved f b s t) (behind_of after) m.links c (without s (get_or rings c [])) c (Follows-moved f b s t c (get_or rings c []) k.inverse alone n apart o (Avoids-below t heads (length nodes) (get_or rings c []) u (k.inside c j)) (k.paths c j)))
      ];
      total = omega (arith, total-moved s t rings (k.once s l h) in_rings, k.total, m.len);
      once = λ i v w. elim (cases_eq s i) [
        | inl e ↦ ap (λ q. sum_by (times q) (moved_rings rings s t)) (sym e) ∙ once-moved_self s t rings in_rings
        | inr o ↦ once-moved_other i s t rings o in_rings ∙ k.once i v (omega (arith, w, m.len))
      ];
      inside = λ c j. elim (cases_eq c t) [
        | inl e ↦ rw (m.len, e, moved_at rings s t in_rings) (AreWithin-push heads (length nodes) s (without s (get_or rings t [])) l h (AreWithin-without heads (length nodes) s (get_or rings t []) (k.inside t u)))
        | inr o ↦
            let c_in : c < length rings = omega (arith, j, k.each_head) in
            rw (m.len, moved_past rings s t c o c_in) (AreWithin-without heads (length nodes) s (get_or rings c []) (k.inside c j))
      ];
    }

-- the nodes keep the moved rings
pub kept-moved : (heads : ℕ) (nodes after : List Node) (s t : ℕ) → AreRings heads nodes (rings_of heads nodes) → Moves nodes after s t → heads ≤ s → s < length nodes → t < heads → moved_rings (rings_of heads nodes) s t ≡ rings_of heads after
kept-moved heads nodes after s t k m l h u = rings_are heads after (moved_rings (rings_of heads nodes) s t) (AreRings-moved heads nodes after (rings_of heads nodes) s t k m l h u)
