-- The laws of a box and its queues.
use Rattle.std.proofs.Common.{◌≡◌, ◌≢◌, ℕ, zero, suc, ◌<◌, ◌==◌, ℤ, false, List, [], ◌∷◌, ◌++◌, length, drop, slice_get, refl, sym, ◌∙◌, ap, ap₂, subst, arith, inl, inr, if◌then◌else◌}
use Rattle.std.specs.Prelude.{Option, Some, None}
use Rattle.std.proofs.lemmas.Bool.{cases_Bool, cases_eq, eq-eqb, ne_eqb}
use Rattle.std.proofs.lemmas.List.{append_assoc, append-nil, map-append}
use Rattle.mailbox_book.specs.declared.message.Tag.{Tag}
use Rattle.mailbox_book.specs.Boxes.{Entry, fresh, spent, is_fresh, without_first, first_of, header, header_of, headers_of, tag_number}
use Rattle.mailbox_book.specs.Queues.{Call, Post, Take, IsEarliest, behind, behind_all, list_of, numbers_at, posted, posted_by, posted_headers, queue, taken, taken_by}
use Rattle.mailbox_book.proofs.Entries.{without_at, without_on, first_at, first_on, spent_not_fresh, other_not_fresh, waiting_fresh}
use Rattle.mailbox_book.proofs.Kept.{tag_again}

queue_same : (tag : ℕ) (e : Entry) (es : List Entry) → e.tag ≡ tag → queue tag (e ∷ es) ≡ list_of e.numbers ++ queue tag es
queue_same tag e es h = rw (eq-eqb e.tag tag h) refl

queue_other : (tag : ℕ) (e : Entry) (es : List Entry) → e.tag ≢ tag → queue tag (e ∷ es) ≡ queue tag es
queue_other tag e es h = rw (ne_eqb e.tag tag h) refl

-- an entry is of another tag, taken, or it waits
data Case (tag : ℕ) (e : Entry) : Type 0 where
  other : e.tag ≢ tag → Case tag e
  gone : e.tag ≡ tag → e.numbers ≡ None → Case tag e
  waits : (numbers : List ℤ) → e.tag ≡ tag → e.numbers ≡ Some numbers → Case tag e

case_of : (tag : ℕ) (e : Entry) → Case tag e
case_of tag e = elim (cases_eq e.tag tag) [
  | inl h ↦ by h e.numbers refl
  | inr ne ↦ other ne
]
  where
    by : e.tag ≡ tag → (o : Option (List ℤ)) → e.numbers ≡ o → Case tag e
    by h None is = gone h is
    by h (Some x) is = waits x h is

-- an entry that isn't the one adds nothing to the queue, or stands before it
queue_gone : (tag : ℕ) (e : Entry) (es : List Entry) → e.tag ≡ tag → e.numbers ≡ None → queue tag (e ∷ es) ≡ queue tag es
queue_gone tag e es h n = queue_same tag e es h ∙ ap (λ (o : Option (List ℤ)). list_of o ++ queue tag es) n

queue_waits : (tag : ℕ) (e : Entry) (es : List Entry) (x : List ℤ) → e.tag ≡ tag → e.numbers ≡ Some x → queue tag (e ∷ es) ≡ x ∷ queue tag es
queue_waits tag e es x h n = queue_same tag e es h ∙ ap (λ (o : Option (List ℤ)). list_of o ++ queue tag es) n

queue_append : (tag : ℕ) (es fs : List Entry) → queue tag (es ++ fs) ≡ queue tag es ++ queue tag fs
queue_append tag [] fs = refl
queue_append tag (e ∷ es) fs = by (queue_append tag es fs) (case_of tag e)
  where
    by : queue tag (es ++ fs) ≡ queue tag es ++ queue tag fs → Case tag e → queue tag (e ∷ (es ++ fs)) ≡ queue tag (e ∷ es) ++ queue tag fs
    by rec (other ne) = queue_other tag e (es ++ fs) ne ∙ rec ∙ ap (λ q. q ++ queue tag fs) (sym (queue_other tag e es ne))
    by rec (gone h n) = queue_gone tag e (es ++ fs) h n ∙ rec ∙ ap (λ q. q ++ queue tag fs) (sym (queue_gone tag e es h n))
    by rec (waits x h n) = queue_waits tag e (es ++ fs) x h n ∙ ap (λ q. x ∷ q) rec ∙ ap (λ q. q ++ queue tag fs) (sym (queue_waits tag e es x h n))

-- ---- boxes are queues

pub queue_post : (tag u : ℕ) (numbers : List ℤ) (es : List Entry) → queue tag (es ++ fresh u numbers ∷ []) ≡ queue tag es ++ (if u == tag then numbers ∷ [] else [])
queue_post tag u numbers es = queue_append tag es (fresh u numbers ∷ [])

take_same : (tag : ℕ) (es : List Entry) → queue tag (without_first tag es) ≡ drop 1 (queue tag es)
take_same tag [] = refl
take_same tag (e ∷ es) = by (take_same tag es) (case_of tag e)
  where
    by : queue tag (without_first tag es) ≡ drop 1 (queue tag es) → Case tag e → queue tag (without_first tag (e ∷ es)) ≡ drop 1 (queue tag (e ∷ es))
    by rec (other ne) =
        ap (queue tag) (without_on tag e es (other_not_fresh tag e ne)) ∙ queue_other tag e (without_first tag es) ne ∙ rec ∙ ap (drop 1) (sym (queue_other tag e es ne))
    by rec (gone h n) =
        ap (queue tag) (without_on tag e es (spent_not_fresh tag e n)) ∙ queue_gone tag e (without_first tag es) h n ∙ rec ∙ ap (drop 1) (sym (queue_gone tag e es h n))
    by rec (waits x h n) =
        ap (queue tag) (without_at tag e es (waiting_fresh tag e x h n)) ∙ queue_gone tag (spent e) es h refl ∙ ap (drop 1) (sym (queue_waits tag e es x h n))

take_other : (tag u : ℕ) (es : List Entry) → u ≢ tag → queue tag (without_first u es) ≡ queue tag es
take_other tag u [] d = refl
take_other tag u (e ∷ es) d = by (take_other tag u es d) (case_of u e)
  where
    onward : queue tag (without_first u es) ≡ queue tag es → is_fresh u e ≡ false → queue tag (without_first u (e ∷ es)) ≡ queue tag (e ∷ es)
    onward rec f = ap (queue tag) (without_on u e es f) ∙ queue_append tag (e ∷ []) (without_first u es) ∙ ap (λ q. queue tag (e ∷ []) ++ q) rec ∙ sym (queue_append tag (e ∷ []) es)

    by : queue tag (without_first u es) ≡ queue tag es → Case u e → queue tag (without_first u (e ∷ es)) ≡ queue tag (e ∷ es)
    by rec (other ne) = onward rec (other_not_fresh u e ne)
    by rec (gone h n) = onward rec (spent_not_fresh u e n)
    by rec (waits x h n) =
        let off : e.tag ≢ tag = λ same. d (sym h ∙ same) in
        ap (queue tag) (without_at u e es (waiting_fresh u e x h n)) ∙ queue_other tag (spent e) es off ∙ sym (queue_other tag e es off)

pub queue_take : (tag u : ℕ) (es : List Entry) → queue tag (without_first u es) ≡ (if u == tag then drop 1 (queue tag es) else queue tag es)
queue_take tag u es = elim (cases_eq u tag) [
  | inl h ↦ rw (eq-eqb u tag h) (ap (λ t. queue tag (without_first t es)) h ∙ take_same tag es)
  | inr ne ↦ rw (ne_eqb u tag ne) (take_other tag u es ne)
]

pub front_is : (tag : ℕ) (es : List Entry) → first_of tag es ≡ slice_get (queue tag es) 0
front_is tag [] = refl
front_is tag (e ∷ es) = by (front_is tag es) (case_of tag e)
  where
    by : first_of tag es ≡ slice_get (queue tag es) 0 → Case tag e → first_of tag (e ∷ es) ≡ slice_get (queue tag (e ∷ es)) 0
    by rec (other ne) = first_on tag e es (other_not_fresh tag e ne) ∙ rec ∙ ap (λ (q : List (List ℤ)). slice_get q 0) (sym (queue_other tag e es ne))
    by rec (gone h n) = first_on tag e es (spent_not_fresh tag e n) ∙ rec ∙ ap (λ (q : List (List ℤ)). slice_get q 0) (sym (queue_gone tag e es h n))
    by rec (waits x h n) = first_at tag e es (waiting_fresh tag e x h n) ∙ n ∙ ap (λ (q : List (List ℤ)). slice_get q 0) (sym (queue_waits tag e es x h n))

-- ---- at most once

front_and_rest : (q : List (List ℤ)) → list_of (slice_get q 0) ++ drop 1 q ≡ q
front_and_rest [] = refl
front_and_rest (x ∷ xs) = refl

one_call : (tag : ℕ) (c : Call) (es : List Entry) → taken_by c es tag ++ queue tag (behind c es) ≡ queue tag es ++ posted_by c tag
one_call tag (Post t numbers) es = queue_post tag t numbers es
one_call tag (Take t) es = elim (cases_eq t tag) [
  | inl h ↦ rw (eq-eqb t tag h) (subst (λ u. list_of (first_of u es) ++ queue tag (without_first u es) ≡ queue tag es ++ []) (sym h)
      (ap₂ (λ o q. list_of o ++ q) (front_is tag es) (take_same tag es) ∙ front_and_rest (queue tag es) ∙ sym (append-nil (queue tag es))))
  | inr ne ↦ rw (ne_eqb t tag ne) (take_other tag t es ne ∙ sym (append-nil (queue tag es)))
]

pub all_calls : (tag : ℕ) (calls : List Call) (es : List Entry) → taken calls es tag ++ queue tag (behind_all calls es) ≡ queue tag es ++ posted calls tag
all_calls tag [] es = sym (append-nil (queue tag es))
all_calls tag (c ∷ cs) es =
    append_assoc (taken_by c es tag) (taken cs (behind c es) tag) (queue tag (behind_all cs (behind c es)))
    ∙ ap (λ q. taken_by c es tag ++ q) (all_calls tag cs (behind c es))
    ∙ sym (append_assoc (taken_by c es tag) (queue tag (behind c es)) (posted cs tag))
    ∙ ap (λ q. q ++ posted cs tag) (one_call tag c es)
    ∙ append_assoc (queue tag es) (posted_by c tag) (posted cs tag)

-- ---- a message that was taken stays so

record StaysGone (es after : List Entry) (place : ℕ) : Type 0 where
  pub inside : place < length after
  pub none : numbers_at after place ≡ None

gone_posted : (es : List Entry) (e : Entry) (place : ℕ) → place < length es → numbers_at es place ≡ None → StaysGone es (es ++ e ∷ []) place
gone_posted [] e place l n = absurd (omega (arith, l))
gone_posted (x ∷ xs) e zero l n = record { inside = omega arith; none = n }
gone_posted (x ∷ xs) e (suc place) l n =
    let r = gone_posted xs e place (omega (arith, l)) n in record { inside = omega (arith, r.inside); none = r.none }

gone_taken : (t : ℕ) (es : List Entry) (place : ℕ) → place < length es → numbers_at es place ≡ None → StaysGone es (without_first t es) place
gone_taken t [] place l n = absurd (omega (arith, l))
gone_taken t (x ∷ xs) place l n = elim (cases_Bool (is_fresh t x)) [
  | inl f ↦ subst (λ after. StaysGone (x ∷ xs) after place) (sym (without_at t x xs f)) (here place l n)
  | inr f ↦ subst (λ after. StaysGone (x ∷ xs) after place) (sym (without_on t x xs f)) (there place (λ k m e. gone_taken t xs k m e) l n)
]
  where
    here : (place : ℕ) → place < length (x ∷ xs) → numbers_at (x ∷ xs) place ≡ None → StaysGone (x ∷ xs) (spent x ∷ xs) place
    here zero l n = record { inside = omega arith; none = refl }
    here (suc place) l n = record { inside = omega (arith, l); none = n }

    there : (place : ℕ) → ((k : ℕ) → k < length xs → numbers_at xs k ≡ None → StaysGone xs (without_first t xs) k) → place < length (x ∷ xs) → numbers_at (x ∷ xs) place ≡ None → StaysGone (x ∷ xs) (x ∷ without_first t xs) place
    there zero rec l n = record { inside = omega arith; none = n }
    there (suc place) rec l n = let r = rec place (omega (arith, l)) n in record { inside = omega (arith, r.inside); none = r.none }

gone_behind : (c : Call) (es : List Entry) (place : ℕ) → place < length es → numbers_at es place ≡ None → StaysGone es (behind c es) place
gone_behind (Post t numbers) es place l n = gone_posted es (fresh t numbers) place l n
gone_behind (Take t) es place l n = gone_taken t es place l n

pub gone_stays : (place : ℕ) (calls : List Call) (es : List Entry) → place < length es → numbers_at es place ≡ None → numbers_at (behind_all calls es) place ≡ None
gone_stays place [] es l n = n
gone_stays place (c ∷ cs) es l n = let r = gone_behind c es place l n in gone_stays place cs (behind c es) r.inside r.none

-- ---- the earliest

pub earliest : (tag : ℕ) (numbers : List ℤ) (es : List Entry) → first_of tag es ≡ Some numbers → IsEarliest tag numbers es
earliest tag numbers [] h = absurd (cc)
earliest tag numbers (e ∷ es) h = by (λ k. earliest tag numbers es k) (case_of tag e)
  where
    onward : (first_of tag es ≡ Some numbers → IsEarliest tag numbers es) → is_fresh tag e ≡ false → ((before : List Entry) → queue tag (e ∷ before) ≡ queue tag before) → IsEarliest tag numbers (e ∷ es)
    onward rec f none =
        let r = rec (sym (first_on tag e es f) ∙ h) in
        record {
          before = e ∷ r.before;
          message = r.message;
          after = r.after;
          are = ap (λ xs. e ∷ xs) r.are;
          tagged = r.tagged;
          numbers_are = r.numbers_are;
          none_before = none r.before ∙ r.none_before;
          taken_alone = without_on tag e es f ∙ ap (λ xs. e ∷ xs) r.taken_alone;
        }

    by : (first_of tag es ≡ Some numbers → IsEarliest tag numbers es) → Case tag e → IsEarliest tag numbers (e ∷ es)
    by rec (other ne) = onward rec (other_not_fresh tag e ne) (λ before. queue_other tag e before ne)
    by rec (gone s n) = onward rec (spent_not_fresh tag e n) (λ before. queue_gone tag e before s n)
    by rec (waits x s n) =
        let f = waiting_fresh tag e x s n in
        record {
          before = [];
          message = e;
          after = es;
          are = refl;
          tagged = s;
          numbers_are = sym (first_at tag e es f) ∙ h;
          none_before = refl;
          taken_alone = without_at tag e es f;
        }

pub none_waits : (tag : ℕ) (es : List Entry) → first_of tag es ≡ None → queue tag es ≡ []
none_waits tag es h = by (queue tag es) (sym (front_is tag es) ∙ h)
  where
    by : (q : List (List ℤ)) → slice_get q 0 ≡ None → q ≡ []
    by [] e = refl
    by (x ∷ xs) e = absurd (cc)

-- ---- two tags

pub apart_post : (tag u : ℕ) (numbers : List ℤ) (es : List Entry) → tag ≢ u → first_of tag (es ++ fresh u numbers ∷ []) ≡ first_of tag es
apart_post tag u numbers es d =
    let same : queue tag (es ++ fresh u numbers ∷ []) ≡ queue tag es = queue_append tag es (fresh u numbers ∷ []) ∙ ap (λ q. queue tag es ++ q) (queue_other tag (fresh u numbers) [] (λ h. d (sym h))) ∙ append-nil (queue tag es) in
    front_is tag (es ++ fresh u numbers ∷ []) ∙ ap (λ (q : List (List ℤ)). slice_get q 0) same ∙ sym (front_is tag es)

pub apart_take : (tag u : ℕ) (es : List Entry) → tag ≢ u → first_of tag (without_first u es) ≡ first_of tag es
apart_take tag u es d = front_is tag (without_first u es) ∙ ap (λ (q : List (List ℤ)). slice_get q 0) (take_other tag u es (λ h. d (sym h))) ∙ sym (front_is tag es)

-- ---- headers

pub headers_post : (tag : Tag) (numbers : List ℤ) (es : List Entry) → headers_of (es ++ fresh (tag_number tag) numbers ∷ []) ≡ headers_of es ++ header tag (length numbers) ∷ []
headers_post tag numbers es =
    map-append header_of es (fresh (tag_number tag) numbers ∷ []) ∙ ap (λ t. headers_of es ++ header t (length numbers) ∷ []) (tag_again tag)

pub headers_take : (tag : ℕ) (es : List Entry) → headers_of (without_first tag es) ≡ headers_of es
headers_take tag [] = refl
headers_take tag (e ∷ es) = elim (cases_Bool (is_fresh tag e)) [
  | inl f ↦ ap headers_of (without_at tag e es f)
  | inr f ↦ ap headers_of (without_on tag e es f) ∙ ap (λ hs. header_of e ∷ hs) (headers_take tag es)
]

pub headers_calls : (calls : List Call) (es : List Entry) → headers_of (behind_all calls es) ≡ headers_of es ++ posted_headers calls
headers_calls [] es = sym (append-nil (headers_of es))
headers_calls (Post tag numbers ∷ cs) es =
    headers_calls cs (es ++ fresh tag numbers ∷ [])
    ∙ ap (λ hs. hs ++ posted_headers cs) (map-append header_of es (fresh tag numbers ∷ []))
    ∙ append_assoc (headers_of es) (header_of (fresh tag numbers) ∷ []) (posted_headers cs)
headers_calls (Take tag ∷ cs) es = headers_calls cs (without_first tag es) ∙ ap (λ hs. hs ++ posted_headers cs) (headers_take tag es)
