-- What a box keeps after a post and after a take.
use Rattle.std.proofs.Common.{◌≡◌, ℕ, zero, suc, ◌+◌, ◌*◌, ◌/◌, ◌%◌, ◌<◌, ◌≤◌, ℤ, List, [], ◌∷◌, ◌++◌, length, set, drop, replicate, slice_get, refl, sym, ◌∙◌, ap, subst, arith, inl, inr, length-append, length-set, length-drop, get_or-set_same, get_or-set_other}
use Rattle.std.specs.Prelude.{Some, None}
use Rattle.std.specs.Prelude.{Result, Ok, Err, if◌then◌else◌, false}
use Rattle.std.specs.Result.{is_err, is_ok}
use Rattle.std.proofs.lemmas.Bool.{cases_eq}
use Rattle.std.proofs.lemmas.List.{length-replicate}
use Rattle.std.proofs.lemmas.List.Sums.{sum_by-set}
use Rattle.mailbox_book.specs.declared.message.Header.{Header}
use Rattle.mailbox_book.specs.declared.message.MsgKind.{MsgKind}
use Rattle.mailbox_book.specs.declared.message.MsgKind.TheVariants.{Request, Reply}
use Rattle.mailbox_book.specs.declared.message.Tag.{Tag}
use Rattle.mailbox_book.specs.Boxes.{count_waiting, first_of, headers_of, kind_number, most_tags, tag_number, tag_of}
use Rattle.mailbox_book.specs.Marks.{IsKept, entries_of, entry, queue_at, with_tag}
use Rattle.mailbox_book.specs.Pools.{count_queued}
use Rattle.mailbox_book.proofs.Entries.{none_less, one_less_waits, one_more_waits}
use Rattle.mailbox_book.proofs.Marks.{Elsewhere, IsTaken, entries_post, entries_take, headers_kept, with_kept, with_pushed}

-- ---- tags

pub tag_again : (t : Tag) → tag_of (tag_number t) ≡ t
tag_again t = by t.kind
  where
    half : (x k : ℕ) → k < 2 → ((2 * x + k) / 2 ≡ x) × ((2 * x + k) % 2 ≡ k)
    half x k l = (omega (arith, l), omega (arith, l))

    by : (k : MsgKind) → tag_of (2 * t.item.0 + kind_number k) ≡ record { item = t.item; kind = k }
    by Request = let h = half t.item.0 0 (omega arith) in rw h.0 (rw h.1 refl)
    by Reply = let h = half t.item.0 1 (omega arith) in rw h.0 (rw h.1 refl)

pub headers_are : (w : ℕ → List (List ℤ)) (hs : List Header) → headers_of (entries_of w hs) ≡ hs
headers_are w hs = headers_kept w (λ h. tag_again h.tag) hs

-- ---- one queue

set_here : (queues : List (List (List ℤ))) (t : ℕ) (q : List (List ℤ)) → t < length queues → queue_at (set queues t q) t ≡ q
set_here queues t q l = get_or-set_same queues t q [] l

set_elsewhere : (queues : List (List (List ℤ))) (t : ℕ) (q : List (List ℤ)) → Elsewhere (queue_at queues) (queue_at (set queues t q)) t
set_elsewhere queues t q u ne = get_or-set_other queues t u q [] ne

-- ---- new

pub nothing_kept : IsKept (replicate most_tags []) []
nothing_kept = record {
  tags = length-replicate {A = List (List ℤ)} most_tags [];
  each = λ tag. no_length most_tags tag;
  all = sym (none most_tags);
}
  where
    no_length : (n tag : ℕ) → length (queue_at (replicate n []) tag) ≤ 0
    no_length zero tag = omega arith
    no_length (suc n) zero = omega arith
    no_length (suc n) (suc tag) = no_length n tag

    none : (n : ℕ) → count_queued (replicate n []) ≡ 0
    none zero = refl
    none (suc n) = none n

-- ---- post

-- a push that isn't refused puts its item behind the others
pub pushed_item : {T E X : Type 0} {after : List X} (before : List X) (x : X) (r : Result T E) → is_err r ≡ false → after ≡ (if is_ok r then before ++ x ∷ [] else before) → after ≡ before ++ x ∷ []
pushed_item before x (Ok done) e h = h
pushed_item before x (Err refused) e h = absurd (cc)

pub posted_entries : (queues : List (List (List ℤ))) (headers : List Header) (h : Header) (x : List ℤ) → tag_number h.tag < length queues
    → entries_of (queue_at (set queues (tag_number h.tag) (queue_at queues (tag_number h.tag) ++ x ∷ []))) (headers ++ h ∷ []) ≡ entries_of (queue_at queues) headers ++ entry h (Some x) ∷ []
posted_entries queues headers h x l =
    let t = tag_number h.tag in
    entries_post (queue_at queues) (queue_at (set queues t (queue_at queues t ++ x ∷ []))) h x headers (set_here queues t (queue_at queues t ++ x ∷ []) l) (set_elsewhere queues t (queue_at queues t ++ x ∷ []))

pub kept_posted : (queues : List (List (List ℤ))) (headers : List Header) (h : Header) (x : List ℤ) → h.count ≡ length x → tag_number h.tag < most_tags → IsKept queues headers
    → IsKept (set queues (tag_number h.tag) (queue_at queues (tag_number h.tag) ++ x ∷ [])) (headers ++ h ∷ [])
kept_posted queues headers h x c l k = record {
  tags = length-set queues (tag_number h.tag) (queue_at queues (tag_number h.tag) ++ x ∷ []) ∙ k.tags;
  each = λ t. each t;
  all = waiting ∙ sym queued;
}
  where
    more : List (List ℤ)
    more = queue_at queues (tag_number h.tag) ++ x ∷ []

    inside : tag_number h.tag < length queues
    inside = omega (arith, l, k.tags)

    each : (t : ℕ) → length (queue_at (set queues (tag_number h.tag) (queue_at queues (tag_number h.tag) ++ x ∷ [])) t) ≤ with_tag t (headers ++ h ∷ [])
    each t = elim (cases_eq t (tag_number h.tag)) [
      | inl e ↦ (
          let is : queue_at (set queues (tag_number h.tag) (queue_at queues (tag_number h.tag) ++ x ∷ [])) t ≡ queue_at queues t ++ x ∷ [] =
          subst (λ u. queue_at (set queues (tag_number h.tag) (queue_at queues (tag_number h.tag) ++ x ∷ [])) u ≡ queue_at queues u ++ x ∷ []) (sym e) (set_here queues (tag_number h.tag) (queue_at queues (tag_number h.tag) ++ x ∷ []) inside) in
          omega (arith, ap (λ (q : List (List ℤ)). length q) is, length-append (queue_at queues t) (x ∷ []), k.each t, with_pushed t h headers (sym e)))
      | inr ne ↦ omega (arith, ap (λ (q : List (List ℤ)). length q) (set_elsewhere queues (tag_number h.tag) (queue_at queues (tag_number h.tag) ++ x ∷ []) t ne), k.each t, with_kept t h headers (λ e. ne (sym e)))
    ]

    waiting : count_waiting (entries_of (queue_at (set queues (tag_number h.tag) (queue_at queues (tag_number h.tag) ++ x ∷ []))) (headers ++ h ∷ [])) ≡ count_queued queues + 1
    waiting =
        ap (λ es. count_waiting es) (posted_entries queues headers h x inside)
        ∙ ap (λ n. count_waiting (entries_of (queue_at queues) headers ++ record { tag = tag_number h.tag; count = n; numbers = Some x } ∷ [])) c
        ∙ one_more_waits (entries_of (queue_at queues) headers) (tag_number h.tag) x
        ∙ ap (λ n. n + 1) k.all

    queued : count_queued (set queues (tag_number h.tag) (queue_at queues (tag_number h.tag) ++ x ∷ [])) ≡ count_queued queues + 1
    queued = omega (arith, sum_by-set (λ (q : List (List ℤ)). length q) queues (tag_number h.tag) (queue_at queues (tag_number h.tag) ++ x ∷ []) [] inside, length-append (queue_at queues (tag_number h.tag)) (x ∷ []))

-- ---- take

pub taken_entries : (queues : List (List (List ℤ))) (headers : List Header) (t : ℕ) → t < most_tags → IsKept queues headers
    → IsTaken (queue_at queues) (queue_at (set queues t (drop 1 (queue_at queues t)))) t headers
taken_entries queues headers t l k =
    entries_take (queue_at queues) (queue_at (set queues t (drop 1 (queue_at queues t)))) t headers (set_here queues t (drop 1 (queue_at queues t)) (omega (arith, l, k.tags))) (set_elsewhere queues t (drop 1 (queue_at queues t))) (k.each t)

pub kept_taken : (queues : List (List (List ℤ))) (headers : List Header) (t : ℕ) → t < most_tags → IsKept queues headers → IsKept (set queues t (drop 1 (queue_at queues t))) headers
kept_taken queues headers t l k = record {
  tags = length-set queues t (drop 1 (queue_at queues t)) ∙ k.tags;
  each = λ u. each u;
  all = all;
}
  where
    inside : t < length queues
    inside = omega (arith, l, k.tags)

    each : (u : ℕ) → length (queue_at (set queues t (drop 1 (queue_at queues t))) u) ≤ with_tag u headers
    each u = elim (cases_eq u t) [
      | inl e ↦ (
          let is : queue_at (set queues t (drop 1 (queue_at queues t))) u ≡ drop 1 (queue_at queues u) =
          subst (λ x. queue_at (set queues t (drop 1 (queue_at queues t))) x ≡ drop 1 (queue_at queues x)) (sym e) (set_here queues t (drop 1 (queue_at queues t)) inside) in
          omega (arith, ap (λ (q : List (List ℤ)). length q) is, length-drop 1 (queue_at queues u), k.each u))
      | inr ne ↦ omega (arith, ap (λ (q : List (List ℤ)). length q) (set_elsewhere queues t (drop 1 (queue_at queues t)) u ne), k.each u)
    ]

    taken : IsTaken (queue_at queues) (queue_at (set queues t (drop 1 (queue_at queues t)))) t headers
    taken = taken_entries queues headers t l k

    fewer : count_queued (set queues t (drop 1 (queue_at queues t))) + length (queue_at queues t) ≡ count_queued queues + length (drop 1 (queue_at queues t))
    fewer = sum_by-set (λ (q : List (List ℤ)). length q) queues t (drop 1 (queue_at queues t)) [] inside

    all : count_waiting (entries_of (queue_at (set queues t (drop 1 (queue_at queues t)))) headers) ≡ count_queued (set queues t (drop 1 (queue_at queues t)))
    all = by (queue_at queues t) refl
      where
        by : (q : List (List ℤ)) → queue_at queues t ≡ q → count_waiting (entries_of (queue_at (set queues t (drop 1 (queue_at queues t)))) headers) ≡ count_queued (set queues t (drop 1 (queue_at queues t)))
        by [] e =
            let none : first_of t (entries_of (queue_at queues) headers) ≡ None = taken.first ∙ ap (λ (q : List (List ℤ)). slice_get q 0) e in
            let same : count_waiting (entries_of (queue_at (set queues t (drop 1 (queue_at queues t)))) headers) ≡ count_waiting (entries_of (queue_at queues) headers) = ap (λ es. count_waiting es) (taken.rest ∙ none_less t (entries_of (queue_at queues) headers) none) in
            omega (arith, same, k.all, fewer, length-drop 1 (queue_at queues t), ap (λ (q : List (List ℤ)). length q) e)
        by (x ∷ xs) e =
            let some : first_of t (entries_of (queue_at queues) headers) ≡ Some x = taken.first ∙ ap (λ (q : List (List ℤ)). slice_get q 0) e in
            let less : count_waiting (entries_of (queue_at (set queues t (drop 1 (queue_at queues t)))) headers) + 1 ≡ count_waiting (entries_of (queue_at queues) headers) = ap (λ es. count_waiting es + 1) taken.rest ∙ one_less_waits t x (entries_of (queue_at queues) headers) some in
            let long : length (queue_at queues t) ≡ suc (length xs) = ap (λ (q : List (List ℤ)). length q) e in
            omega (arith, less, k.all, fewer, length-drop 1 (queue_at queues t), long)
