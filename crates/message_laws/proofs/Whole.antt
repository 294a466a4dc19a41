-- The laws together: of every interleaving, from the first state or from another with the facts.
use Rattle.std.proofs.Common.{◌≡◌, ℕ, ◌+◌, ◌<◌, ◌≤◌, true, false, List, [], ◌∷◌, map, ◌⊎◌, inl, inr, refl, sym, ◌∙◌, ap, subst, arith}
use Rattle.std.proofs.lemmas.Bool.{le-ltb}
use Rattle.std.specs.Prelude.{Option, Some, None, is_some, ◌≢◌}
use Rattle.mailbox_book.specs.declared.message.Message.{Message}
use Rattle.message_laws.specs.Behaviour.{Behaviour, takes, posted, IsLawful}
use Rattle.mailbox_book.specs.Boxes.{header_of}
use Rattle.message_laws.specs.Boxes.{new_entry, box_of}
use Rattle.message_laws.specs.System.{Running, State, first_state, places_of, Waits, Pick, IsInterleaving, reached, IsComplete, weight, most_weight, changes, Moves}
use Rattle.message_laws.specs.Facts.{Facts}
use Rattle.fd_prog.specs.declared.run.Outcome.{Outcome}
use Rattle.message_laws.specs.Outcomes.{IsFirstFault, IsRight, IsEmptied}
use Rattle.message_laws.proofs.Basics.{apart}
use Rattle.message_laws.proofs.Kept.{facts_kept}
use Rattle.message_laws.proofs.Progress.{Goes, some_goes, nobody, one, least_to, least_goes}
use Rattle.message_laws.proofs.Weights.{goes_up, raised_weight, weight_few, changes_weight}
use Rattle.message_laws.proofs.Ends.{outcome_is, lines_are, all_posted, all_taken}
use Rattle.message_laws.proofs.Marks.{box_has, box_headers}

pub first_facts : (b : Behaviour) → Facts b first_state
first_facts b = record {
  ranks = λ r lt. record { clear = λ k m. absurd (omega (arith, m)); status = tt };
  heard = λ r lt e. absurd (apart e (inl (omega arith)));
  stop = inl refl;
  boxes = λ q r m n tag. omega arith;
}

-- some rank moves, or none runs
pub goes_on : (b : Behaviour) → IsLawful b → (s : State) → Facts b s → IsComplete b s ⊎ Moves b s
goes_on b h s k = elim (least_to b s b.ranks) [
  | nobody none ↦ inl none
  | one r m st least ↦ inr (record {
    rank = r;
    inside = m;
    runs = st;
    moves = λ next l. raised_weight b s next r m (goes_up b s r next st (least_goes b h s k r m least) l) l.others;
  })
]

-- where a rank waits, another runs
pub another_runs : (b : Behaviour) → IsLawful b → (s : State) → Facts b s → (r : ℕ) → r < b.ranks → Waits b s r → (q : ℕ) × (q < b.ranks) × (q ≢ r) × ((s.at q).status ≡ Running)
another_runs b h s k r lt w =
    let g : Goes b s = some_goes b h s k r lt w.runs in
    (g.rank, g.inside, (λ e. g.goes (subst (Waits b s) (sym e) w)), g.runs)

pub reached_facts : (b : Behaviour) → IsLawful b → (s : State) → Facts b s → (ps : List Pick) → IsInterleaving b s ps → Facts b (reached s ps)
reached_facts b h s k [] i = k
reached_facts b h s k (p ∷ ps) i = reached_facts b h p.next (facts_kept b h s p.rank p.next i.0 k i.1) ps i.2

pub is_right : (b : Behaviour) → IsLawful b → 0 < b.ranks → (s : State) → Facts b s → (o : Outcome) → IsFirstFault b o → IsRight b s o
is_right b h lt s k o first = record {
  facts = k;
  outcome = λ c. outcome_is b h s k c o first;
  lines = λ c. lines_are b h s k lt c o first;
  goes_on = goes_on b h s k;
}

-- the changes of an interleaving are few
pub few_changes : (b : Behaviour) → IsLawful b → (s : State) → Facts b s → (ps : List Pick) → IsInterleaving b s ps → changes b s ps + weight b s ≤ most_weight b
few_changes b h s k ps i = let x = changes_weight b s ps i in let y = weight_few b h (reached s ps) (reached_facts b h s k ps i) in omega (arith, x, y)

none_of : {A : Type 0} (o : Option A) → is_some o ≡ false → o ≡ None
none_of None e = refl
none_of (Some x) e = let z : true ≡ false = e in absurd (cc)

pub is_emptied : (b : Behaviour) → IsLawful b → (s : State) → Facts b s → IsComplete b s → ((c : ℕ) → b.noted c ≡ None) → (q r : ℕ) → q < b.ranks → r < b.ranks → IsEmptied b q r (box_of b q r (places_of s q) (places_of s r))
is_emptied b h s k c none q r lt lr = record {
  headers = box_headers (λ t. takes b q r t (places_of s r)) (posted b q r (places_of s q)) ∙ ap (map (λ (m : Message). header_of (new_entry m))) (all_posted b h s k c none q r lt);
  none_left = λ tag. none_of _ (box_has b q r (places_of s q) (places_of s r) tag ∙ le-ltb _ _ (let e = all_taken b h s k c none q r tag lt lr in omega (arith, e)));
}
