-- What follows the contract of one step leads from a state to the next, and leaves the boxes of that state.
use Rattle.std.proofs.Common.{◌≡◌, ℕ, suc, ◌<◌, ◌==◌, Bool, true, false, ◌&&◌, List, [], ◌∷◌, ◌++◌, inl, inr, refl, sym, ◌∙◌, ap, subst, if◌then◌else◌, true≢false, ap₂}
use Rattle.std.proofs.lemmas.Bool.{cases_eq, cases_Bool, eq-eqb, eqb-true, ne_eqb, ltb-true, and_parts}
use Rattle.std.specs.Prelude.{nat_lt, is_some}
use Rattle.mailbox_book.specs.declared.message.Message.{Message}
use Rattle.message_laws.specs.Behaviour.{Behaviour, Action, Act, Post, Take, Fail, End, steps, posted_by, taken_by, takes, posts, IsLawful}
use Rattle.mailbox_book.specs.Boxes.{Entry, is_fresh, without_first, first_of}
use Rattle.message_laws.specs.Boxes.{new_entry, box_of, Fits}
use Rattle.message_laws.specs.System.{Status, Running, Ended, Faulted, Cut, Standing, State, done_at, step_at, stepped, places_of, finds, found, Leads}
use Rattle.message_laws.specs.Facts.{Facts}
use Rattle.message_laws.specs.Follows.{Boxes, has_message, box_after, box_behind, Follows, AreBoxesOf, state_behind}
use Rattle.message_laws.proofs.Marks.{box_post, box_no_post, box_take, box_no_take, box_has}

first_there : (tag : ℕ) (s : Entry) (ss : List Entry) → is_fresh tag s ≡ true → is_some (first_of tag (s ∷ ss)) ≡ true
first_there tag s ss e = rw e (and_parts (s.tag == tag) (is_some s.numbers) e).1

first_passed : (tag : ℕ) (s : Entry) (ss : List Entry) → is_fresh tag s ≡ false → first_of tag (s ∷ ss) ≡ first_of tag ss
first_passed tag s ss e = rw e refl

without_passed : (tag : ℕ) (s : Entry) (ss : List Entry) → is_fresh tag s ≡ false → without_first tag (s ∷ ss) ≡ s ∷ without_first tag ss
without_passed tag s ss e = rw e refl

-- a take of a tag that isn't there leaves the box
pub without_none : (tag : ℕ) (box : List Entry) → is_some (first_of tag box) ≡ false → without_first tag box ≡ box
without_none tag [] h = refl
without_none tag (s ∷ ss) h = elim (cases_Bool (is_fresh tag s)) [
  | inl e ↦ absurd (true≢false (sym (first_there tag s ss e) ∙ h))
  | inr e ↦ without_passed tag s ss e ∙ ap (λ (z : List Entry). s ∷ z) (without_none tag ss (sym (ap is_some (first_passed tag s ss e)) ∙ h))
]

-- the place of q where r's place became p
abbrev place_in : (ℕ → ℕ) → ℕ → ℕ → ℕ → ℕ
place_in places r p q = if q == r then p else places q

abbrev Moved : Behaviour → (ℕ → ℕ) → ℕ → Action → ℕ → ℕ → Type 0
Moved b places r a q x = box_of b q x (place_in places r (suc (places r)) q) (place_in places r (suc (places r)) x) ≡ box_after r a q x (box_of b q x (places q) (places x))

place_own : (places : ℕ → ℕ) (r p : ℕ) → place_in places r p r ≡ p
place_own places r p = rw (eq-eqb r r refl) refl

place_other : (places : ℕ → ℕ) (r p q : ℕ) → (q ≡ r → ⊥) → place_in places r p q ≡ places q
place_other places r p q ne = rw (ne_eqb q r ne) refl

-- the sender's half: r = q does an action that posts nothing to x
sent_none : (b : Behaviour) (places : ℕ → ℕ) (r : ℕ) (a : Action) → b.action r (places r) ≡ a → (q x j : ℕ) → (q ≡ r → posted_by a x ≡ []) → box_of b q x (place_in places r (suc (places r)) q) j ≡ box_of b q x (places q) j
sent_none b places r a e q x j h = elim (cases_eq q r) [
  | inl same ↦ ap (λ (i : ℕ). box_of b q x i j) (ap (place_in places r (suc (places r))) same ∙ (place_own places r (suc (places r)) ∙ ap (λ (z : ℕ). suc (places z)) (sym same)))
      ∙ box_no_post b q x (places q) j (ap (λ (z : ℕ). posted_by (b.action z (places z)) x) same ∙ (ap (λ (z : Action). posted_by z x) e ∙ h same))
  | inr ne ↦ ap (λ (i : ℕ). box_of b q x i j) (place_other places r (suc (places r)) q ne)
]

-- the receiver's half: r = x does an action that takes nothing from q
got_none : (b : Behaviour) (places : ℕ → ℕ) (r : ℕ) (a : Action) → b.action r (places r) ≡ a → (q x i : ℕ) → (x ≡ r → taken_by a q ≡ []) → box_of b q x i (place_in places r (suc (places r)) x) ≡ box_of b q x i (places x)
got_none b places r a e q x i h = elim (cases_eq x r) [
  | inl same ↦ ap (λ (j : ℕ). box_of b q x i j) (ap (place_in places r (suc (places r))) same ∙ (place_own places r (suc (places r)) ∙ ap (λ (z : ℕ). suc (places z)) (sym same)))
      ∙ box_no_take b q x i (places x) (ap (λ (z : ℕ). taken_by (b.action z (places z)) q) same ∙ (ap (λ (z : Action). taken_by z q) e ∙ h same))
  | inr ne ↦ ap (λ (j : ℕ). box_of b q x i j) (place_other places r (suc (places r)) x ne)
]

moved_act : (b : Behaviour) (places : ℕ → ℕ) (r : ℕ) (a : Action) → b.action r (places r) ≡ a → ((x : ℕ) → posted_by a x ≡ []) → ((q : ℕ) → taken_by a q ≡ []) → (q x : ℕ) → box_of b q x (place_in places r (suc (places r)) q) (place_in places r (suc (places r)) x) ≡ box_of b q x (places q) (places x)
moved_act b places r a e no_post no_take q x = sent_none b places r a e q x (place_in places r (suc (places r)) x) (λ _. no_post x) ∙ got_none b places r a e q x (places q) (λ _. no_take q)

either_off : (c d : Bool) (box other : List Entry) → (c ≡ true → d ≡ true → ⊥) → (if c && d then other else box) ≡ box
either_off true true box other h = absurd (h refl refl)
either_off true false box other h = refl
either_off false d box other h = refl

if_on : (c d : Bool) (box other : List Entry) → c ≡ true → d ≡ true → (if c && d then other else box) ≡ other
if_on c d box other e f = rw (e, f) refl

moved_post : (b : Behaviour) (places : ℕ → ℕ) (r to : ℕ) (m : Message) → b.action r (places r) ≡ Post to m → (q x : ℕ) → Fits b q x (places q) (places x) → Moved b places r (Post to m) q x
moved_post b places r to m e q x f =
    let j = place_in places r (suc (places r)) x in
    let got = got_none b places r (Post to m) e q x (place_in places r (suc (places r)) q) (λ _. refl) in
    got ∙ elim (cases_eq q r) [
      | inr ne ↦ ap (λ (i : ℕ). box_of b q x i (places x)) (place_other places r (suc (places r)) q ne)
          ∙ sym (either_off (q == r) (x == to) (box_of b q x (places q) (places x)) (box_of b q x (places q) (places x) ++ new_entry m ∷ []) (λ c d. ne (eqb-true q r c)))
      | inl same ↦ elim (cases_eq x to) [
        | inr off ↦ sent_none b places r (Post to m) e q x (places x) (λ _. no_post off)
            ∙ sym (either_off (q == r) (x == to) (box_of b q x (places q) (places x)) (box_of b q x (places q) (places x) ++ new_entry m ∷ []) (λ c d. off (eqb-true x to d)))
        | inl is ↦ ap (λ (i : ℕ). box_of b q x i (places x)) (ap (place_in places r (suc (places r))) same ∙ (place_own places r (suc (places r)) ∙ ap (λ (z : ℕ). suc (places z)) (sym same)))
            ∙ (box_post b q x (places q) (places x) m (ap (λ (z : ℕ). b.action z (places z)) same ∙ (e ∙ ap (λ (z : ℕ). Post z m) (sym is))) f
            ∙ sym (if_on (q == r) (x == to) (box_of b q x (places q) (places x)) (box_of b q x (places q) (places x) ++ new_entry m ∷ []) (eq-eqb q r same) (eq-eqb x to is)))
      ]
    ]
  where
    no_post : (x ≡ to → ⊥) → posted_by (Post to m) x ≡ []
    no_post off = rw (ne_eqb to x (λ z. off (sym z))) refl

moved_take : (b : Behaviour) (places : ℕ → ℕ) (r from tag : ℕ) → b.action r (places r) ≡ Take from tag → (q x : ℕ) → takes b from r tag (places r) < posts b from r tag (places from) → Moved b places r (Take from tag) q x
moved_take b places r from tag e q x lt =
    let sent = sent_none b places r (Take from tag) e q x (place_in places r (suc (places r)) x) (λ _. refl) in
    sent ∙ elim (cases_eq x r) [
      | inr ne ↦ ap (λ (j : ℕ). box_of b q x (places q) j) (place_other places r (suc (places r)) x ne)
          ∙ sym (either_off (q == from) (x == r) (box_of b q x (places q) (places x)) (without_first tag (box_of b q x (places q) (places x))) (λ c d. ne (eqb-true x r d)))
      | inl same ↦ elim (cases_eq q from) [
        | inr off ↦ got_none b places r (Take from tag) e q x (places q) (λ _. no_take off)
            ∙ sym (either_off (q == from) (x == r) (box_of b q x (places q) (places x)) (without_first tag (box_of b q x (places q) (places x))) (λ c d. off (eqb-true q from c)))
        | inl is ↦ ap (λ (j : ℕ). box_of b q x (places q) j) (ap (place_in places r (suc (places r))) same ∙ (place_own places r (suc (places r)) ∙ ap (λ (z : ℕ). suc (places z)) (sym same)))
            ∙ (box_take b q x (places q) (places x) tag (ap (λ (z : ℕ). b.action z (places z)) same ∙ (e ∙ ap (λ (z : ℕ). Take z tag) (sym is)))
            (subst (λ (z : ℕ). takes b q z tag (places z) < posts b q z tag (places q)) (sym same) (subst (λ (z : ℕ). takes b z r tag (places r) < posts b z r tag (places z)) (sym is) lt))
            ∙ sym (if_on (q == from) (x == r) (box_of b q x (places q) (places x)) (without_first tag (box_of b q x (places q) (places x))) (eq-eqb q from is) (eq-eqb x r same)))
      ]
    ]
  where
    no_take : (q ≡ from → ⊥) → taken_by (Take from tag) q ≡ []
    no_take off = rw (ne_eqb from q (λ z. off (sym z))) refl

-- a step that doesn't move its rank leaves each place
stay_place : (places : ℕ → ℕ) (r q : ℕ) → place_in places r (places r) q ≡ places q
stay_place places r q = elim (cases_eq q r) [
  | inl same ↦ ap (place_in places r (places r)) same ∙ (place_own places r (places r) ∙ ap places (sym same))
  | inr ne ↦ place_other places r (places r) q ne
]

stay_box : (b : Behaviour) (places : ℕ → ℕ) (r q x : ℕ) → box_of b q x (place_in places r (places r) q) (place_in places r (places r) x) ≡ box_of b q x (places q) (places x)
stay_box b places r q x = ap₂ (λ (i : ℕ) (j : ℕ). box_of b q x i j) (stay_place places r q) (stay_place places r x)

-- a take that finds nothing leaves each box
kept_take : (r from tag q x : ℕ) (box : List Entry) → (q ≡ from → x ≡ r → is_some (first_of tag box) ≡ false) → box_after r (Take from tag) q x box ≡ box
kept_take r from tag q x box h = elim (cases_eq q from) [
  | inr ne ↦ either_off (q == from) (x == r) box (without_first tag box) (λ c d. ne (eqb-true q from c))
  | inl is ↦ elim (cases_eq x r) [
    | inr ne ↦ either_off (q == from) (x == r) box (without_first tag box) (λ c d. ne (eqb-true x r d))
    | inl same ↦ if_on (q == from) (x == r) box (without_first tag box) (eq-eqb q from is) (eq-eqb x r same) ∙ without_none tag box (h is same)
  ]
]

at_none : (b : Behaviour) (places : ℕ → ℕ) (r from tag : ℕ) → finds b r (places r) (Take from tag) places ≡ false → (q x : ℕ) → q ≡ from → x ≡ r → is_some (first_of tag (box_of b q x (places q) (places x))) ≡ false
at_none b places r from tag h q x is same =
    ap (λ (z : ℕ). is_some (first_of tag (box_of b z x (places z) (places x)))) is
    ∙ (ap (λ (z : ℕ). is_some (first_of tag (box_of b from z (places from) (places z)))) same
    ∙ (box_has b from r (places from) (places r) tag ∙ h))

-- what a rank finds by its box, it finds by the places
done_box : (b : Behaviour) (places : ℕ → ℕ) (r : ℕ) (a : Action) → b.action r (places r) ≡ a → (t below : Bool) → finds b r (places r) a places ≡ t → (q x : ℕ) → Fits b q x (places q) (places x)
    → box_of b q x (place_in places r (done_at (places r) a t below).place q) (place_in places r (done_at (places r) a t below).place x) ≡ box_after r a q x (box_of b q x (places q) (places x))
done_box b places r (Act lines) e t below h q x f = moved_act b places r (Act lines) e (λ y. refl) (λ y. refl) q x
done_box b places r (Post to m) e t below h q x f = moved_post b places r to m e q x f
done_box b places r (Take from tag) e true below h q x f = moved_take b places r from tag e q x (ltb-true _ _ h)
done_box b places r (Take from tag) e false true h q x f = stay_box b places r q x ∙ sym (kept_take r from tag q x (box_of b q x (places q) (places x)) (λ is same. at_none b places r from tag h q x is same))
done_box b places r (Take from tag) e false false h q x f = stay_box b places r q x ∙ sym (kept_take r from tag q x (box_of b q x (places q) (places x)) (λ is same. at_none b places r from tag h q x is same))
done_box b places r (Fail g) e t below h q x f = stay_box b places r q x
done_box b places r End e t below h q x f = stay_box b places r q x

step_box : (b : Behaviour) (places : ℕ → ℕ) (r : ℕ) (st : Status) (below : Bool) (q x : ℕ) → Fits b q x (places q) (places x)
    → box_of b q x (place_in places r (step_at (places r) st (b.action r (places r)) (finds b r (places r) (b.action r (places r)) places) below).place q) (place_in places r (step_at (places r) st (b.action r (places r)) (finds b r (places r) (b.action r (places r)) places) below).place x)
    ≡ box_behind r st (b.action r (places r)) q x (box_of b q x (places q) (places x))
step_box b places r Running below q x f = done_box b places r (b.action r (places r)) refl (finds b r (places r) (b.action r (places r)) places) below refl q x f
step_box b places r Ended below q x f = stay_box b places r q x
step_box b places r Faulted below q x f = stay_box b places r q x
step_box b places r Cut below q x f = stay_box b places r q x

-- ---- states

has_is_found : (b : Behaviour) (places : ℕ → ℕ) (r p : ℕ) (boxes : Boxes) (a : Action) → ((from tag : ℕ) → a ≡ Take from tag → boxes from r ≡ box_of b from r (places from) p) → has_message r a boxes ≡ finds b r p a places
has_is_found b places r p boxes (Act lines) h = refl
has_is_found b places r p boxes (Post to m) h = refl
has_is_found b places r p boxes (Take from tag) h = ap (λ (box : List Entry). is_some (first_of tag box)) (h from tag refl) ∙ box_has b from r (places from) p tag
has_is_found b places r p boxes (Fail f) h = refl
has_is_found b places r p boxes End h = refl

pub has_found : (b : Behaviour) → IsLawful b → (s : State) (r : ℕ) (boxes : Boxes) → r < b.ranks → AreBoxesOf b s boxes → has_message r (b.action r (places_of s r)) boxes ≡ found b s r
has_found b h s r boxes lt k = has_is_found b (places_of s) r (places_of s r) boxes (b.action r (places_of s r)) (λ from tag e. k from r (h.peers r (places_of s r) from tag lt e) lt)

pub follows_leads : (b : Behaviour) → IsLawful b → (s : State) (r : ℕ) (new : Standing) (boxes after : Boxes) (left : ℕ) → r < b.ranks → AreBoxesOf b s boxes → Follows b r (s.at r) new boxes after s.stop left → Leads b s r (state_behind s r new left)
follows_leads b h s r new boxes after left lt k f = record {
  own = rw (eq-eqb r r refl) (f.standing ∙ ap (λ (t : Bool). stepped b r (s.at r) t s.stop) (has_found b h s r boxes lt k));
  others = λ q ne. rw (ne_eqb q r ne) refl;
  stop = f.stop;
}

place_if : (c : Bool) (x y : Standing) → (if c then x else y).place ≡ (if c then x.place else y.place)
place_if true x y = refl
place_if false x y = refl

places_behind : (s : State) (r : ℕ) (new : Standing) (left q : ℕ) → places_of (state_behind s r new left) q ≡ place_in (places_of s) r new.place q
places_behind s r new left q = place_if (q == r) new (s.at q)

pub follows_boxes : (b : Behaviour) → IsLawful b → (s : State) (r : ℕ) (new : Standing) (boxes after : Boxes) (left : ℕ) → r < b.ranks → Facts b s → AreBoxesOf b s boxes → Follows b r (s.at r) new boxes after s.stop left → AreBoxesOf b (state_behind s r new left) after
follows_boxes b h s r new boxes after left lt facts k f q x lq lx =
    let is : new ≡ stepped b r (s.at r) (found b s r) s.stop = f.standing ∙ ap (λ (t : Bool). stepped b r (s.at r) t s.stop) (has_found b h s r boxes lt k) in
    f.boxes q x lq lx
    ∙ (ap (box_behind r (s.at r).status (b.action r (places_of s r)) q x) (k q x lq lx)
    ∙ (sym (step_box b (places_of s) r (s.at r).status (nat_lt s.stop (steps b r (places_of s r))) q x (facts.boxes q x lq lx))
    ∙ (ap (λ (z : Standing). box_of b q x (place_in (places_of s) r z.place q) (place_in (places_of s) r z.place x)) (sym is)
    ∙ ap₂ (λ (i : ℕ) (j : ℕ). box_of b q x i j) (sym (places_behind s r new left q)) (sym (places_behind s r new left x)))))
