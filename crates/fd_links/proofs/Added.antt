-- The rings of new nodes, and with a node added or a place moved.
use Rattle.std.proofs.Common.{◌≡◌, ℕ, ◌+◌, ◌-◌, ◌<◌, ◌≤◌, cond, eqb, List, [], ◌∷◌, ◌++◌, length, get_or, set, replicate, refl, sym, ap, ◌∙◌, true, false, arith, inl, inr}
use Rattle.std.specs.Prelude.{nat_lt, sum_by}
use Rattle.std.proofs.lemmas.Bool.{cases_Bool, cases_eq, eq-eqb, ltb-false, ltb-true, ne_eqb}
use Rattle.std.proofs.lemmas.List.{get_or-append_right, get_or_append_left, get_or-replicate, get_or-set_other, get_or-set_same, get_or_past, length-append, length-replicate, length-set}
use Rattle.std.proofs.lemmas.List.Folds.{sum_by-replicate}
use Rattle.std.proofs.lemmas.List.Sums.{sum_by-set}
use Rattle.fd_links.specs.declared.links.Node.{Node}
use Rattle.fd_links.specs.Rings.{AreRings, AreWithin, Moves, before_of, behind_of, node_at, put}
use Rattle.fd_links.proofs.Counts.{times, times-append, times-cons}
use Rattle.fd_links.proofs.Inverses.{AreInverseBut, put_in}
use Rattle.fd_links.proofs.Kept.{AreWithin-push, Avoids-below, put_below, sum_of_none, times_avoided}
use Rattle.fd_links.proofs.Moves.{Follows-same, appends_of}
use Rattle.fd_links.proofs.Paths.{Avoids, Follows-append, Follows-other}

abbrev pub alone : ℕ → Node
alone i = record { before = i; behind = i }

-- a node alone at the end is what was read there before
pub node_at-alone : (nodes : List Node) (x : ℕ) → node_at (nodes ++ alone (length nodes) ∷ []) x ≡ node_at nodes x
node_at-alone nodes x =
    elim (cases_Bool (nat_lt x (length nodes))) [
      | inl e ↦ get_or_append_left nodes (alone (length nodes) ∷ []) (alone x) x (ltb-true x (length nodes) e)
      | inr e ↦
          let far : length nodes ≤ x = ltb-false x (length nodes) e in
          get_or-append_right nodes (alone (length nodes) ∷ []) (length nodes) x (alone x) refl far ∙ (elim (cases_eq x (length nodes)) [
            | inl q ↦ let z : x - length nodes ≡ 0 = omega (arith, q) in rw z (ap alone (sym q) ∙ sym (get_or_past nodes x (alone x) far))
            | inr o ↦ get_or_past (alone (length nodes) ∷ []) (x - length nodes) (alone x) (omega (arith, o, far)) ∙ sym (get_or_past nodes x (alone x) far)
          ])
    ]

pub put_same : (f g : ℕ → ℕ) (at value : ℕ) → ((x : ℕ) → g x ≡ f x) → (x : ℕ) → put g at value x ≡ put f at value x
put_same f g at value h x =
    elim (eqb x at) as (λ b. cond b value (g x) ≡ cond b value (f x)) [ true ↦ refl | false ↦ h x ]

-- a place taken out and put in before t is moved
pub moves_both : (nodes mid after : List Node) (s t : ℕ) → length mid ≡ length nodes → length after ≡ length mid → ((x : ℕ) → behind_of mid x ≡ put (behind_of nodes) (before_of nodes s) (behind_of nodes s) x) → ((x : ℕ) → before_of mid x ≡ put (before_of nodes) (behind_of nodes s) (before_of nodes s) x) → ((x : ℕ) → behind_of after x ≡ put (put (behind_of mid) (before_of mid t) s) s t x) → ((x : ℕ) → before_of after x ≡ put (put (before_of mid) s (before_of mid t)) t s x) → Moves nodes after s t
moves_both nodes mid after s t m l f b g c =
    let f' = put (behind_of nodes) (before_of nodes s) (behind_of nodes s) in
    let b' = put (before_of nodes) (behind_of nodes s) (before_of nodes s) in
    record {
      len = l ∙ m;
      links = λ x. g x ∙ (ap (λ q. put (put (behind_of mid) q s) s t x) (b t) ∙ put_same (put f' (b' t) s) (put (behind_of mid) (b' t) s) s t (put_same f' (behind_of mid) (b' t) s f) x);
      back = λ x. c x ∙ (ap (λ q. put (put (before_of mid) s q) t s x) (b t) ∙ put_same (put b' s (b' t)) (put (before_of mid) s (b' t)) t s (put_same b' (before_of mid) s (b' t) b) x);
    }

-- the nodes after one more was put in before t
pub record Adds (nodes after : List Node) (t : ℕ) : Type 0 where
  pub len : length after ≡ length nodes + 1
  pub links : (x : ℕ) → behind_of after x ≡ put (put (behind_of nodes) (before_of nodes t) (length nodes)) (length nodes) t x
  pub back : (x : ℕ) → before_of after x ≡ put (put (before_of nodes) (length nodes) (before_of nodes t)) t (length nodes) x

pub adds_both : (nodes mid after : List Node) (t : ℕ) → mid ≡ nodes ++ alone (length nodes) ∷ [] → length after ≡ length mid → ((x : ℕ) → behind_of after x ≡ put (put (behind_of mid) (before_of mid t) (length nodes)) (length nodes) t x) → ((x : ℕ) → before_of after x ≡ put (put (before_of mid) (length nodes) (before_of mid t)) t (length nodes) x) → Adds nodes after t
adds_both nodes mid after t e l g c =
    let s = length nodes in
    let f : (x : ℕ) → behind_of mid x ≡ behind_of nodes x = λ x. ap (λ ns. behind_of ns x) e ∙ ap (λ n. n.behind) (node_at-alone nodes x) in
    let b : (x : ℕ) → before_of mid x ≡ before_of nodes x = λ x. ap (λ ns. before_of ns x) e ∙ ap (λ n. n.before) (node_at-alone nodes x) in
    record {
      len = l ∙ (ap length e ∙ length-append nodes (alone s ∷ []));
      links = λ x. g x ∙ (ap (λ q. put (put (behind_of mid) q s) s t x) (b t) ∙ put_same (put (behind_of nodes) (before_of nodes t) s) (put (behind_of mid) (before_of nodes t) s) s t (put_same (behind_of nodes) (behind_of mid) (before_of nodes t) s f) x);
      back = λ x. c x ∙ (ap (λ q. put (put (before_of mid) s q) t s x) (b t) ∙ put_same (put (before_of nodes) s (before_of nodes t)) (put (before_of mid) s (before_of nodes t)) t s (put_same (before_of nodes) (before_of mid) s (before_of nodes t) b) x);
    }

pub adds_at : (nodes mid after : List Node) (t place : ℕ) → place ≡ length nodes → mid ≡ nodes ++ alone place ∷ [] → length after ≡ length mid → ((x : ℕ) → behind_of after x ≡ put (put (behind_of mid) (before_of mid t) place) place t x) → ((x : ℕ) → before_of after x ≡ put (put (before_of mid) place (before_of mid t)) t place x) → Adds nodes after t
adds_at nodes mid after t place e m l g c = adds_both nodes mid after t (rw e at m) l (λ x. rw e at (g x)) (λ x. rw e at (c x))

Avoids-high : (s low high : ℕ) (xs : List ℕ) → high ≤ s → AreWithin low high xs → Avoids s xs
Avoids-high s low high [] l w = tt
Avoids-high s low high (x ∷ xs) l w = ((λ e. absurd (omega (arith, w.1, l, e))), Avoids-high s low high xs l w.2)

AreWithin-wider : (low high higher : ℕ) (xs : List ℕ) → high ≤ higher → AreWithin low high xs → AreWithin low higher xs
AreWithin-wider low high higher [] l w = tt
AreWithin-wider low high higher (x ∷ xs) l w = (w.0, omega (arith, w.1, l), AreWithin-wider low high higher xs l w.2)

-- links from a place up to the end of the list don't lead past it
led_below : (f : ℕ → ℕ) (n i : ℕ) → (i < n → f i < n) → f n ≡ n → i < n + 1 → f i < n + 1
led_below f n i h e l =
    elim (cases_eq i n) [
      | inl q ↦ rw (q, e) (omega arith)
      | inr o ↦ let j : f i < n = h (omega (arith, l, o)) in omega (arith, j)
    ]

-- the rings with a new place at the end of ring t
pub AreRings-added : (heads : ℕ) (nodes after : List Node) (rings : List (List ℕ)) → AreRings heads nodes rings → Adds nodes after (heads - 1) → AreRings heads after (set rings (heads - 1) (get_or rings (heads - 1) [] ++ length nodes ∷ []))
AreRings-added heads nodes after rings k m =
    let f = behind_of nodes in
    let b = before_of nodes in
    let s = length nodes in
    let t = heads - 1 in
    let g = put (put f (b t) s) s t in
    let ring = get_or rings t [] in
    let new = ring ++ s ∷ [] in
    let u : t < heads = omega (arith, k.heads_inside.0) in
    let t_low : t < s = omega (arith, k.heads_inside.0, k.heads_inside.1) in
    let n : t ≡ s → ⊥ = λ e. absurd (omega (arith, e, t_low)) in
    let in_rings : t < length rings = omega (arith, u, k.each_head) in
    let f_s : f s ≡ s = ap (λ q. q.behind) (get_or_past nodes s (alone s) (omega arith)) in
    let b_s : b s ≡ s = ap (λ q. q.before) (get_or_past nodes s (alone s) (omega arith)) in
    let but : AreInverseBut s f b = record {
      back = λ x _. k.inverse.back x;
      forth = λ x _. k.inverse.forth x;
      not_to = λ x o h. o (sym (k.inverse.back x) ∙ (ap b h ∙ b_s));
      not_back = λ x o h. o (sym (k.inverse.forth x) ∙ (ap f h ∙ f_s));
    } in
    let p = put_in f b s t but n in
    let appends = appends_of f b s t but n in
    let at_t = k.within t t_low in
    let one : times s (s ∷ []) ≡ 1 = times-cons s s [] ∙ rw (eq-eqb s s refl) refl in
    let absent : sum_by (times s) rings ≡ 0 = sum_of_none (times s) rings (λ head h. times_avoided s (get_or rings head []) (Avoids-high s heads s (get_or rings head []) (omega arith) (k.inside head (omega (arith, h, k.each_head))))) in
    record {
      heads_inside = (k.heads_inside.0, omega (arith, k.heads_inside.1, m.len));
      inverse = record {
        back = λ x. ap (before_of after) (m.links x) ∙ (m.back (g x) ∙ p.back x);
        forth = λ x. ap (behind_of after) (m.back x) ∙ (m.links (put (put b s (b t)) t s x) ∙ p.forth x);
      };
      within = λ i j.
          let l : i < s + 1 = omega (arith, j, m.len) in
          let f_i : f i < s + 1 = led_below f s i (λ h. (k.within i h).0) f_s l in
          let b_i : b i < s + 1 = led_below b s i (λ h. (k.within i h).1) b_s l in (
            rw (m.links i, m.len) (put_below (put f (b t) s) s t i (s + 1) (omega (arith, t_low)) (put_below f (b t) s i (s + 1) (omega arith) f_i)),
            rw (m.back i, m.len) (put_below (put b s (b t)) t s i (s + 1) (omega arith) (put_below b s (b t) i (s + 1) (omega (arith, at_t.1)) b_i)),
          );
      each_head = length-set rings t new ∙ k.each_head;
      paths = λ c j. elim (cases_eq c t) [
        | inl e ↦ rw (e, get_or-set_same rings t new [] in_rings) (Follows-same g (behind_of after) m.links t new t (Follows-append f g s t (b t) appends t ring n (Avoids-high s heads s ring (omega arith) (k.inside t u)) (Avoids-below t heads s ring u (k.inside t u)) (k.paths t u)))
        | inr o ↦
            let apart : c ≡ s → ⊥ = λ q. absurd (omega (arith, j, k.heads_inside.1, q)) in
            rw (get_or-set_other rings t c new [] o) (Follows-same g (behind_of after) m.links c (get_or rings c []) c (Follows-other f g s t (b t) appends c (get_or rings c []) c apart (Avoids-high s heads s (get_or rings c []) (omega arith) (k.inside c j)) (Avoids-below t heads s (get_or rings c []) u (k.inside c j)) o (k.paths c j)))
      ];
      total = omega (arith, sum_by-set length rings t new [] in_rings, length-append ring (s ∷ []), k.total, m.len, k.heads_inside.1);
      once = λ i l w. elim (cases_eq s i) [
        | inl e ↦ ap (λ q. sum_by (times q) (set rings t new)) (sym e) ∙ omega (arith, sum_by-set (times s) rings t new [] in_rings, times-append s ring (s ∷ []), one, absent)
        | inr o ↦
            let none : times i (s ∷ []) ≡ 0 = times-cons i s [] ∙ rw (ne_eqb s i o) refl in
            omega (arith, sum_by-set (times i) rings t new [] in_rings, times-append i ring (s ∷ []), none, k.once i l (omega (arith, w, m.len, o)))
      ];
      inside = λ c j. elim (cases_eq c t) [
        | inl e ↦ rw (m.len, e, get_or-set_same rings t new [] in_rings) (AreWithin-push heads (s + 1) s ring (k.heads_inside.1) (omega arith) (AreWithin-wider heads s (s + 1) ring (omega arith) (k.inside t u)))
        | inr o ↦ rw (m.len, get_or-set_other rings t c new [] o) (AreWithin-wider heads s (s + 1) (get_or rings c []) (omega arith) (k.inside c j))
      ];
    }

-- heads alone have empty rings
pub AreRings-new : (heads : ℕ) (nodes : List Node) → 0 < heads → length nodes ≡ heads → ((x : ℕ) → node_at nodes x ≡ alone x) → AreRings heads nodes (replicate heads [])
AreRings-new heads nodes p len h =
    let f : (x : ℕ) → behind_of nodes x ≡ x = λ x. ap (λ q. q.behind) (h x) in
    let b : (x : ℕ) → before_of nodes x ≡ x = λ x. ap (λ q. q.before) (h x) in
    record {
      heads_inside = (p, omega (arith, len));
      inverse = record { back = λ x. ap (before_of nodes) (f x) ∙ b x; forth = λ x. ap (behind_of nodes) (b x) ∙ f x };
      within = λ i l. (rw (f i) l, rw (b i) l);
      each_head = length-replicate heads [];
      paths = λ head l. rw (get_or-replicate {A = List ℕ} heads head [] [] l) (f head);
      total = omega (arith, sum_by-replicate (length {A = ℕ}) heads [], len);
      once = λ i l w. absurd (omega (arith, l, w, len));
      inside = λ head l. rw (get_or-replicate {A = List ℕ} heads head [] [] l) tt;
    }
