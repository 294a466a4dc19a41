-- Where no Send is open at the end, all messages were taken.
use Rattle.std.proofs.Common.{◌≡◌, ℕ, zero, suc, ◌<◌, ◌≤◌, inl, inr, refl, sym, ◌∙◌, ap, subst, arith}
use Rattle.std.proofs.lemmas.Bool.{cases_eq}
use Rattle.std.specs.Prelude.{None}
use Rattle.message_laws.specs.Traces.{Trace, sent, got, sent_before, got_before}
use Rattle.mailbox_book.specs.declared.message.MsgKind.TheVariants.{Request, Reply}
use Rattle.mailbox_book.specs.Boxes.{message}
use Rattle.message_laws.specs.Protocol.{Event, Local, Send, Recv, Exchange, tag_for, request_tag, reply_tag, each, request_to, reply_to, receive_from, IsMatched, HasExchange}
use Rattle.message_laws.proofs.Peers.{count_sent, count_got, each_self, sent_append, got_append}
use Rattle.message_laws.proofs.Matched.{post_off, take_off, no_posts, no_takes, steps_of, Pair, counted}

-- ---- a rank posts nothing to itself, and takes nothing from itself

self_sent : (t : Trace) (x : Exchange) → HasExchange t x → (q tag c : ℕ) → c < t.count → q < t.ranks → (e : Event) → x.event c ≡ e → sent q tag (t.actions c q) ≡ 0
self_sent t x f q tag c lt lq Local is = no_posts q tag (t.actions c q) (λ k to m. f.local c q k to m lt lq is)
self_sent t x f q tag c lt lq (Send i) is =
    let n = t.ranks in
    let steps = ap (sent q tag) (steps_of t x f c q (Send i) lt lq is (omega arith)) ∙ sent_append q tag (each q n (request_to x c i q)) (each q n (reply_to x c i q)) in
    let a = each_self (count_sent q tag) q n (request_to x c i q) (λ p off. let z = post_off p q tag (message (tag_for Request i) (x.requested c q p)) off in omega (arith, z)) in
    let b = each_self (count_sent q tag) q n (reply_to x c i q) (λ p off. let z = post_off p q tag (message (tag_for Reply i) (x.replied c q p)) off in omega (arith, z)) in
    omega (arith, steps, a, b)
self_sent t x f q tag c lt lq (Recv i) is =
    ap (sent q tag) (steps_of t x f c q (Recv i) lt lq is (omega arith)) ∙ each_self (count_sent q tag) q t.ranks (receive_from i) (λ p off. omega arith)

self_got : (t : Trace) (x : Exchange) → HasExchange t x → (q tag c : ℕ) → c < t.count → q < t.ranks → (e : Event) → x.event c ≡ e → got q tag (t.actions c q) ≡ 0
self_got t x f q tag c lt lq Local is = no_takes q tag (t.actions c q) (λ k from g. f.quiet c q k from g lt lq is)
self_got t x f q tag c lt lq (Send i) is =
    let n = t.ranks in
    let steps = ap (got q tag) (steps_of t x f c q (Send i) lt lq is (omega arith)) ∙ got_append q tag (each q n (request_to x c i q)) (each q n (reply_to x c i q)) in
    let a = each_self (count_got q tag) q n (request_to x c i q) (λ p off. omega arith) in
    let b = each_self (count_got q tag) q n (reply_to x c i q) (λ p off. let z = take_off p q (request_tag i) tag off in omega (arith, z)) in
    omega (arith, steps, a, b)
self_got t x f q tag c lt lq (Recv i) is =
    ap (got q tag) (steps_of t x f c q (Recv i) lt lq is (omega arith)) ∙ each_self (count_got q tag) q t.ranks (receive_from i) (λ p off. let z = take_off p q (reply_tag i) tag off in omega (arith, z))

self_none : (t : Trace) (x : Exchange) → HasExchange t x → (q tag c : ℕ) → c ≤ t.count → q < t.ranks → got_before t q q tag c ≡ sent_before t q q tag c
self_none t x f q tag zero le lq = refl
self_none t x f q tag (suc c) le lq =
    let rec = self_none t x f q tag c (omega (arith, le)) lq in
    let a = self_sent t x f q tag c le lq (x.event c) refl in
    let b = self_got t x f q tag c le lq (x.event c) refl in
    omega (arith, rec, a, b)

-- ---- every tag is of a Request or of a Reply

pub data Tagged (tag : ℕ) : Type 0 where
  request : (i : ℕ) → (tag ≡ request_tag i) → Tagged tag
  reply : (i : ℕ) → (tag ≡ reply_tag i) → Tagged tag

tagged : (tag : ℕ) → Tagged tag
tagged zero = request 0 refl
tagged (suc tag) = elim (tagged tag) [
  | request i e ↦ reply i (omega (arith, e))
  | reply i e ↦ request (suc i) (omega (arith, e))
]

taken_of : (t : Trace) (x : Exchange) → IsMatched t x → ((c : ℕ) → t.noted c ≡ None) → (q r tag : ℕ) → Pair t x q r → Tagged tag → got_before t q r tag t.count ≡ sent_before t q r tag t.count
taken_of t x b none q r tag p (request i e) = let k = counted t x q r p i t.count (omega arith) in
    subst (λ (z : ℕ). got_before t q r z t.count ≡ sent_before t q r z t.count) (sym e) (k.requests_got ∙ sym k.requests_sent)
taken_of t x b none q r tag p (reply i e) = let k = counted t x q r p i t.count (omega arith) in
    subst (λ (z : ℕ). got_before t q r z t.count ≡ sent_before t q r z t.count) (sym e) (k.replies_got ∙ (b.closed none i ∙ sym k.replies_sent))

pub all_taken : (t : Trace) (x : Exchange) → HasExchange t x → IsMatched t x → ((c : ℕ) → t.noted c ≡ None) → (q r tag : ℕ) → q < t.ranks → r < t.ranks → got_before t q r tag t.count ≡ sent_before t q r tag t.count
all_taken t x f b none q r tag lq lr = elim (cases_eq q r) [
  | inl e ↦ subst (λ (z : ℕ). got_before t q z tag t.count ≡ sent_before t q z tag t.count) e (self_none t x f q tag t.count (omega arith) lq)
  | inr ne ↦ taken_of t x b none q r tag (record { follows = f; sender = lq; receiver = lr; apart = ne }) (tagged tag)
]
