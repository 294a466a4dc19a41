-- The law of messages for Send and Recv, where the items are balanced.
use Rattle.std.proofs.Common.{◌≡◌, ℕ, zero, suc, ◌+◌, ◌*◌, ◌<◌, ◌≤◌, ◌==◌, Bool, false, List, [], ◌∷◌, ◌++◌, length, ◌⊎◌, inl, inr, refl, sym, ◌∙◌, ap, subst, arith, if◌then◌else◌}
use Rattle.std.proofs.lemmas.Bool.{cases_eq, cases_lt, eq-eqb, ne_eqb}
use Rattle.std.specs.Prelude.{Option, Some, None, count_by, ◌≢◌}
use Rattle.mailbox_book.specs.declared.message.Message.{Message}
use Rattle.mailbox_book.specs.declared.message.MsgKind.TheVariants.{Request, Reply}
use Rattle.mailbox_book.specs.Boxes.{message}
use Rattle.message_laws.specs.Behaviour.{Action, Act, Post, Take, Fail, End, posted_by, taken_by, of_tag, is_take, tag_in}
use Rattle.message_laws.proofs.Basics.{differ}
use Rattle.message_laws.specs.Traces.{Trace, nth, sent, got, sent_before, got_before, front, TakesNothing, IsSent}
use Rattle.message_laws.specs.Protocol.{Event, Local, Send, Recv, Exchange, tag_for, request_tag, reply_tag, each, request_to, reply_to, receive_from, message_steps, is_send, is_recv, sends, recvs, IsMatched, HasExchange}
use Rattle.message_laws.proofs.Ways.{some_not_none, nth_inside, nth_left}
use Rattle.message_laws.proofs.Counts.{got_front}
use Rattle.message_laws.proofs.Peers.{count_sent, count_got, each_other, of_peer, split, got_front_le, first_post, sent_append, got_append}

abbrev one : ℕ → ℕ → ℕ
one a b = if a == b then 1 else 0

one_at : (a b : ℕ) → a ≡ b → one a b ≡ 1
one_at a b e = rw (eq-eqb a b e) refl

one_off : (a b : ℕ) → a ≢ b → one a b ≡ 0
one_off a b ne = rw (ne_eqb a b ne) refl

-- ---- what one rank does for another

post_one : (to r tag : ℕ) (m : Message) → to ≡ r → of_tag tag (posted_by (Post to m) r) ≡ one (tag_in m) tag
post_one to r tag m e = ap (λ (t : Bool). of_tag tag (if t then m ∷ [] else [])) (eq-eqb to r e) ∙ omega arith

pub post_off : (to r tag : ℕ) (m : Message) → to ≢ r → of_tag tag (posted_by (Post to m) r) ≡ 0
post_off to r tag m ne = ap (λ (t : Bool). of_tag tag (if t then m ∷ [] else [])) (ne_eqb to r ne)

take_one : (from q g tag : ℕ) → from ≡ q → count_by (λ o. o == tag) (taken_by (Take from g) q) ≡ one g tag
take_one from q g tag e = ap (λ (t : Bool). count_by (λ o. o == tag) (if t then g ∷ [] else [])) (eq-eqb from q e) ∙ omega arith

pub take_off : (from q g tag : ℕ) → from ≢ q → count_by (λ o. o == tag) (taken_by (Take from g) q) ≡ 0
take_off from q g tag ne = ap (λ (t : Bool). count_by (λ o. o == tag) (if t then g ∷ [] else [])) (ne_eqb from q ne)

requests_sent : (x : Exchange) (n c i q r tag : ℕ) → r < n → r ≢ q → sent r tag (each q n (request_to x c i q)) ≡ one (request_tag i) tag
requests_sent x n c i q r tag lt ne =
    each_other (count_sent r tag) q n r (request_to x c i q) (λ p off. let z = post_off p r tag (message (tag_for Request i) (x.requested c q p)) off in omega (arith, z)) lt ne
    ∙ (let z = post_one r r tag (message (tag_for Request i) (x.requested c q r)) refl in omega (arith, z))

replies_sent : (x : Exchange) (n c i q r tag : ℕ) → r < n → r ≢ q → sent r tag (each q n (reply_to x c i q)) ≡ one (reply_tag i) tag
replies_sent x n c i q r tag lt ne =
    each_other (count_sent r tag) q n r (reply_to x c i q) (λ p off. let z = post_off p r tag (message (tag_for Reply i) (x.replied c q p)) off in omega (arith, z)) lt ne
    ∙ (let z = post_one r r tag (message (tag_for Reply i) (x.replied c q r)) refl in omega (arith, z))

requests_got : (x : Exchange) (n c i r q tag : ℕ) → q < n → q ≢ r → got q tag (each r n (request_to x c i r)) ≡ 0
requests_got x n c i r q tag lt ne = each_other (count_got q tag) r n q (request_to x c i r) (λ p off. omega arith) lt ne ∙ omega arith

replies_got : (x : Exchange) (n c i r q tag : ℕ) → q < n → q ≢ r → got q tag (each r n (reply_to x c i r)) ≡ one (request_tag i) tag
replies_got x n c i r q tag lt ne =
    each_other (count_got q tag) r n q (reply_to x c i r) (λ p off. let z = take_off p q (request_tag i) tag off in omega (arith, z)) lt ne
    ∙ (let z = take_one q q (request_tag i) tag refl in omega (arith, z))

receives_sent : (n i q r tag : ℕ) → r < n → r ≢ q → sent r tag (each q n (receive_from i)) ≡ 0
receives_sent n i q r tag lt ne = each_other (count_sent r tag) q n r (receive_from i) (λ p off. omega arith) lt ne ∙ omega arith

receives_got : (n i r q tag : ℕ) → q < n → q ≢ r → got q tag (each r n (receive_from i)) ≡ one (reply_tag i) tag
receives_got n i r q tag lt ne =
    each_other (count_got q tag) r n q (receive_from i) (λ p off. let z = take_off p q (reply_tag i) tag off in omega (arith, z)) lt ne
    ∙ (let z = take_one q q (reply_tag i) tag refl in omega (arith, z))

-- ---- tags

requests_one : (i j : ℕ) → one (request_tag i) (request_tag j) ≡ one i j
requests_one i j = elim (cases_eq i j) [
  | inl e ↦ one_at (2 * i + 0) (2 * j + 0) (omega (arith, e)) ∙ sym (one_at i j e)
  | inr ne ↦ one_off (2 * i + 0) (2 * j + 0) (λ z. ne (omega (arith, z))) ∙ sym (one_off i j ne)
]

replies_one : (i j : ℕ) → one (reply_tag i) (reply_tag j) ≡ one i j
replies_one i j = elim (cases_eq i j) [
  | inl e ↦ one_at (2 * i + 1) (2 * j + 1) (omega (arith, e)) ∙ sym (one_at i j e)
  | inr ne ↦ one_off (2 * i + 1) (2 * j + 1) (λ z. ne (omega (arith, z))) ∙ sym (one_off i j ne)
]

request_reply : (i j : ℕ) → one (request_tag i) (reply_tag j) ≡ 0
request_reply i j = one_off (2 * i + 0) (2 * j + 1) (λ z. omega (arith, z))

reply_request : (i j : ℕ) → one (reply_tag i) (request_tag j) ≡ 0
reply_request i j = one_off (2 * i + 1) (2 * j + 0) (λ z. omega (arith, z))

-- ---- counts at one configuration

pub no_posts : (r tag : ℕ) (xs : List Action) → ((k to : ℕ) (m : Message) → nth xs k ≡ Some (Post to m) → ⊥) → sent r tag xs ≡ 0
no_posts r tag xs h = elim (cases_eq (sent r tag xs) 0) [
  | inl e ↦ e
  | inr ne ↦ (let f = first_post r tag xs (omega (arith, ne)) in absurd (h f.index r f.message f.is))
]

pub no_takes : (q tag : ℕ) (xs : List Action) → ((k from g : ℕ) → nth xs k ≡ Some (Take from g) → ⊥) → got q tag xs ≡ 0
no_takes q tag [] h = refl
no_takes q tag (Take from g ∷ xs) h = absurd (h 0 from g refl)
no_takes q tag (Act lines ∷ xs) h = let r = no_takes q tag xs (λ k. h (suc k)) in omega (arith, r)
no_takes q tag (Post to m ∷ xs) h = let r = no_takes q tag xs (λ k. h (suc k)) in omega (arith, r)
no_takes q tag (Fail f ∷ xs) h = let r = no_takes q tag xs (λ k. h (suc k)) in omega (arith, r)
no_takes q tag (End ∷ xs) h = let r = no_takes q tag xs (λ k. h (suc k)) in omega (arith, r)

-- where events are told apart
abbrev pub event_number : Event → ℕ
event_number Local = 0
event_number (Send i) = 1
event_number (Recv i) = 2

not_local : {e f : Event} → e ≡ f → 0 < event_number f → e ≡ Local → ⊥
not_local e lt l = let z = ap event_number (sym e ∙ l) in omega (arith, z, lt)

-- two ranks of a trace whose steps follow an exchange
pub record Pair (t : Trace) (x : Exchange) (q r : ℕ) : Type 0 where
  pub follows : HasExchange t x
  pub sender : q < t.ranks
  pub receiver : r < t.ranks
  pub apart : q ≢ r

pub steps_of : (t : Trace) (x : Exchange) → HasExchange t x → (c q : ℕ) (e : Event) → c < t.count → q < t.ranks → x.event c ≡ e → 0 < event_number e → t.actions c q ≡ message_steps x t.ranks c e q
steps_of t x f c q e lt lq is some = f.messages c q lt lq (not_local is some) ∙ ap (λ (z : Event). message_steps x t.ranks c z q) is

sent_by : (t : Trace) (x : Exchange) (q r : ℕ) → Pair t x q r → (c i : ℕ) → c < t.count → (e : Event) → x.event c ≡ e → (sent r (request_tag i) (t.actions c q) ≡ is_send i e) × (sent r (reply_tag i) (t.actions c q) ≡ is_send i e)
sent_by t x q r p c i lt Local is = (no_posts r (request_tag i) (t.actions c q) (λ k to m. p.follows.local c q k to m lt p.sender is), no_posts r (reply_tag i) (t.actions c q) (λ k to m. p.follows.local c q k to m lt p.sender is))
sent_by t x q r p c i lt (Send j) is =
    let n = t.ranks in
    let other : r ≢ q = λ e. p.apart (sym e) in
    let steps = steps_of t x p.follows c q (Send j) lt p.sender is (omega arith) in
    let total = λ (tag : ℕ). ap (sent r tag) steps ∙ sent_append r tag (each q n (request_to x c j q)) (each q n (reply_to x c j q)) in
    let a = total (request_tag i) in let b = total (reply_tag i) in
    let a1 = requests_sent x n c j q r (request_tag i) p.receiver other in let a2 = replies_sent x n c j q r (request_tag i) p.receiver other in
    let b1 = requests_sent x n c j q r (reply_tag i) p.receiver other in let b2 = replies_sent x n c j q r (reply_tag i) p.receiver other in
    let o1 = requests_one j i in let o2 = reply_request j i in let o3 = request_reply j i in let o4 = replies_one j i in
    (omega (arith, a, a1, a2, o1, o2), omega (arith, b, b1, b2, o3, o4))
sent_by t x q r p c i lt (Recv j) is =
    let other : r ≢ q = λ e. p.apart (sym e) in
    let steps = steps_of t x p.follows c q (Recv j) lt p.sender is (omega arith) in
    (ap (sent r (request_tag i)) steps ∙ receives_sent t.ranks j q r (request_tag i) p.receiver other, ap (sent r (reply_tag i)) steps ∙ receives_sent t.ranks j q r (reply_tag i) p.receiver other)

got_by : (t : Trace) (x : Exchange) (q r : ℕ) → Pair t x q r → (c i : ℕ) → c < t.count → (e : Event) → x.event c ≡ e → (got q (request_tag i) (t.actions c r) ≡ is_send i e) × (got q (reply_tag i) (t.actions c r) ≡ is_recv i e)
got_by t x q r p c i lt Local is = (no_takes q (request_tag i) (t.actions c r) (λ k from g. p.follows.quiet c r k from g lt p.receiver is), no_takes q (reply_tag i) (t.actions c r) (λ k from g. p.follows.quiet c r k from g lt p.receiver is))
got_by t x q r p c i lt (Send j) is =
    let n = t.ranks in
    let steps = steps_of t x p.follows c r (Send j) lt p.receiver is (omega arith) in
    let total = λ (tag : ℕ). ap (got q tag) steps ∙ got_append q tag (each r n (request_to x c j r)) (each r n (reply_to x c j r)) in
    let a = total (request_tag i) in let b = total (reply_tag i) in
    let a1 = requests_got x n c j r q (request_tag i) p.sender p.apart in let a2 = replies_got x n c j r q (request_tag i) p.sender p.apart in
    let b1 = requests_got x n c j r q (reply_tag i) p.sender p.apart in let b2 = replies_got x n c j r q (reply_tag i) p.sender p.apart in
    let o1 = requests_one j i in let o3 = request_reply j i in
    (omega (arith, a, a1, a2, o1), omega (arith, b, b1, b2, o3))
got_by t x q r p c i lt (Recv j) is =
    let steps = steps_of t x p.follows c r (Recv j) lt p.receiver is (omega arith) in
    (ap (got q (request_tag i)) steps ∙ (receives_got t.ranks j r q (request_tag i) p.sender p.apart ∙ reply_request j i), ap (got q (reply_tag i)) steps ∙ (receives_got t.ranks j r q (reply_tag i) p.sender p.apart ∙ replies_one j i))

-- ---- counts before a configuration

pub record Counted (t : Trace) (x : Exchange) (q r i c : ℕ) : Type 0 where
  pub requests_sent : sent_before t q r (request_tag i) c ≡ sends x i c
  pub replies_sent : sent_before t q r (reply_tag i) c ≡ sends x i c
  pub requests_got : got_before t q r (request_tag i) c ≡ sends x i c
  pub replies_got : got_before t q r (reply_tag i) c ≡ recvs x i c

pub counted : (t : Trace) (x : Exchange) (q r : ℕ) → Pair t x q r → (i c : ℕ) → c ≤ t.count → Counted t x q r i c
counted t x q r p i zero le = record { requests_sent = refl; replies_sent = refl; requests_got = refl; replies_got = refl }
counted t x q r p i (suc c) le =
    let k = counted t x q r p i c (omega (arith, le)) in
    let s = sent_by t x q r p c i le (x.event c) refl in
    let g = got_by t x q r p c i le (x.event c) refl in
    let a = k.requests_sent in let b = k.replies_sent in let d = k.requests_got in let e = k.replies_got in
    let s0 = s.0 in let s1 = s.1 in let g0 = g.0 in let g1 = g.1 in
    record { requests_sent = omega (arith, a, s0); replies_sent = omega (arith, b, s1); requests_got = omega (arith, d, g0); replies_got = omega (arith, e, g1) }

-- the Send of a number
pub record SendOf (x : Exchange) (i m c : ℕ) : Type 0 where
  pub at : ℕ
  pub before : at < c
  pub is : x.event at ≡ Send i
  pub number : sends x i at ≡ m

send_or : (i : ℕ) (e : Event) → (is_send i e ≡ 0) ⊎ ((e ≡ Send i) × (is_send i e ≡ 1))
send_or i Local = inl refl
send_or i (Recv j) = inl refl
send_or i (Send j) = elim (cases_eq j i) [ inl e ↦ inr (ap Send e, one_at j i e) | inr ne ↦ inl (one_off j i ne) ]

pub send_of : (x : Exchange) (i m c : ℕ) → m < sends x i c → SendOf x i m c
send_of x i m zero lt = absurd (omega (arith, lt))
send_of x i m (suc c) lt = elim (cases_lt m (sends x i c)) [
  | inl less ↦ (let r = send_of x i m c less in let b = r.before in record { at = r.at; before = omega (arith, b); is = r.is; number = r.number })
  | inr le ↦ elim (send_or i (x.event c)) [
    | inl z ↦ absurd (omega (arith, lt, le, z))
    | inr s ↦ (let one = s.1 in record { at = c; before = omega arith; is = s.0; number = omega (arith, lt, le, one) })
  ]
]

-- ---- the law

-- before the take of a tag of which one is taken there, none is
none_before : (q tag k : ℕ) (xs : List Action) → nth xs k ≡ Some (Take q tag) → got q tag xs ≡ 1 → got q tag (front k xs) ≡ 0
none_before q tag k xs e h =
    let f = got_front q tag k xs (Take q tag) e in
    let o = take_one q q tag tag refl in
    let w = one_at tag tag refl in
    let le = got_front_le q tag (suc k) xs in
    omega (arith, f, o, w, le, h)

-- the action that an option holds
abbrev pub action_or : Action → Option Action → Action
action_or d None = d
action_or d (Some a) = a

pub same_action : (a b : Action) → Some a ≡ Some b → a ≡ b
same_action a b e = ap (action_or a) e

abbrev from_of : Action → ℕ
from_of (Take from g) = from
from_of (Act lines) = 0
from_of (Post to m) = 0
from_of (Fail f) = 0
from_of End = 0

abbrev tag_of : Action → ℕ
tag_of (Take from g) = g
tag_of (Act lines) = 0
tag_of (Post to m) = 0
tag_of (Fail f) = 0
tag_of End = 0

-- a take at a Send is of a Request, and at a Recv of a Reply, of another rank
pub record TakeAt (n r q tag wanted : ℕ) : Type 0 where
  pub peer : q < n
  pub other : q ≢ r
  pub tagged : tag ≡ wanted

take_of_reply : (x : Exchange) (n c i r q tag : ℕ) → (p j : ℕ) → p < n → p ≢ r → nth (reply_to x c i r p) j ≡ Some (Take q tag) → TakeAt n r q tag (request_tag i)
take_of_reply x n c i r q tag p zero lt ne e =
    let s = same_action (Take p (request_tag i)) (Take q tag) e in
    record { peer = (let z = ap from_of s in omega (arith, z, lt)); other = λ z. ne (ap from_of s ∙ z); tagged = sym (ap tag_of s) }
take_of_reply x n c i r q tag p (suc zero) lt ne e = absurd (differ (same_action _ _ e) refl (inr (omega arith)))
take_of_reply x n c i r q tag p (suc (suc j)) lt ne e = absurd (some_not_none (sym e))

take_of_request : (x : Exchange) (n c i r q tag : ℕ) → (p j : ℕ) → nth (request_to x c i r p) j ≡ Some (Take q tag) → ⊥
take_of_request x n c i r q tag p zero e = differ (same_action _ _ e) refl (inr (omega arith))
take_of_request x n c i r q tag p (suc j) e = some_not_none (sym e)

take_of_receive : (n i r q tag : ℕ) → (p j : ℕ) → p < n → p ≢ r → nth (receive_from i p) j ≡ Some (Take q tag) → TakeAt n r q tag (reply_tag i)
take_of_receive n i r q tag p zero lt ne e =
    let s = same_action (Take p (reply_tag i)) (Take q tag) e in
    record { peer = (let z = ap from_of s in omega (arith, z, lt)); other = λ z. ne (ap from_of s ∙ z); tagged = sym (ap tag_of s) }
take_of_receive n i r q tag p (suc j) lt ne e = absurd (some_not_none (sym e))

take_at_send : (x : Exchange) (n c i r k q tag : ℕ) → nth (each r n (request_to x c i r) ++ each r n (reply_to x c i r)) k ≡ Some (Take q tag) → TakeAt n r q tag (request_tag i)
take_at_send x n c i r k q tag e = elim (split (each r n (request_to x c i r)) (each r n (reply_to x c i r)) k (Take q tag) e).either [
  | inl z ↦ (let p = of_peer r n k (request_to x c i r) (Take q tag) z.1 in absurd (take_of_request x n c i r q tag p.peer p.index p.is))
  | inr z ↦ (let p = of_peer r n z.0 (reply_to x c i r) (Take q tag) z.1 in take_of_reply x n c i r q tag p.peer p.index p.below p.other p.is)
]

take_at_recv : (n i r k q tag : ℕ) → nth (each r n (receive_from i)) k ≡ Some (Take q tag) → TakeAt n r q tag (reply_tag i)
take_at_recv n i r k q tag e = let p = of_peer r n k (receive_from i) (Take q tag) e in take_of_receive n i r q tag p.peer p.index p.below p.other p.is

-- ---- the requests stand in the first half

front_left : {X : Type 0} (xs ys : List X) (k : ℕ) → k ≤ length xs → front k (xs ++ ys) ≡ front k xs
front_left xs ys zero le = refl
front_left [] ys (suc k) le = absurd (omega (arith, le))
front_left (x ∷ xs) ys (suc k) le = ap (λ (z : List _). x ∷ z) (front_left xs ys k (omega (arith, le)))

nth_front : {X : Type 0} (xs : List X) (k j : ℕ) (a : X) → nth (front k xs) j ≡ Some a → nth xs j ≡ Some a
nth_front xs zero j a e = absurd (some_not_none (sym e))
nth_front [] (suc k) j a e = e
nth_front (x ∷ xs) (suc k) zero a e = e
nth_front (x ∷ xs) (suc k) (suc j) a e = nth_front xs k j a e

request_no_take : (x : Exchange) (c i q p j : ℕ) (a : Action) → nth (request_to x c i q p) j ≡ Some a → is_take a ≡ false
request_no_take x c i q p zero a e = ap is_take (sym (same_action _ a e))
request_no_take x c i q p (suc j) a e = absurd (some_not_none (sym e))

requests_first : (x : Exchange) (n c i q k : ℕ) → k < length (each q n (request_to x c i q)) → TakesNothing (front (suc k) (each q n (request_to x c i q) ++ each q n (reply_to x c i q)))
requests_first x n c i q k lt j a e =
    let xs = each q n (request_to x c i q) in
    let h : nth xs j ≡ Some a = nth_front xs (suc k) j a (ap (λ (z : List Action). nth z j) (sym (front_left xs (each q n (reply_to x c i q)) (suc k) lt)) ∙ e) in
    let p = of_peer q n j (request_to x c i q) a h in
    request_no_take x c i q p.peer p.index a p.is

pair_of : (t : Trace) (x : Exchange) → HasExchange t x → (q r tag wanted : ℕ) → r < t.ranks → TakeAt t.ranks r q tag wanted → Pair t x q r
pair_of t x f q r tag wanted lr k = record { follows = f; sender = k.peer; receiver = lr; apart = k.other }

request_law : (t : Trace) (x : Exchange) → (q r c i k : ℕ) → Pair t x q r → c < t.count → x.event c ≡ Send i → nth (t.actions c r) k ≡ Some (Take q (request_tag i)) → IsSent t q r (request_tag i) c k
request_law t x q r c i k p lt is e =
    let n = t.ranks in
    let xs = each q n (request_to x c i q) in
    let ys = each q n (reply_to x c i q) in
    let other : r ≢ q = λ z. p.apart (sym z) in
    let steps = steps_of t x p.follows c q (Send i) lt p.sender is (omega arith) in
    let w = one_at (request_tag i) (request_tag i) refl in
    let s = requests_sent x n c i q r (request_tag i) p.receiver other in
    let f = first_post r (request_tag i) xs (omega (arith, w, s)) in
    let inside = nth_inside xs f.index (Post r f.message) f.is in
    let g : got q (request_tag i) (t.actions c r) ≡ 1 = (got_by t x q r p c i lt (Send i) is).0 ∙ one_at i i refl in
    let none = none_before q (request_tag i) k (t.actions c r) e g in
    let before = counted t x q r p i c (omega (arith, lt)) in
    let a = before.requests_sent in let b = before.requests_got in
    let zero_sent : sent r (request_tag i) (front f.index (t.actions c q)) ≡ 0 = ap (λ (z : List Action). sent r (request_tag i) (front f.index z)) steps ∙ (ap (sent r (request_tag i)) (front_left xs ys f.index (omega (arith, inside))) ∙ f.none) in
    record {
      at = c;
      index = f.index;
      message = f.message;
      inside = lt;
      is = ap (λ (z : List Action). nth z f.index) steps ∙ (nth_left xs ys f.index inside ∙ f.is);
      tagged = f.tagged;
      number = omega (arith, a, b, none, zero_sent);
      earlier = inr (refl, subst (λ (z : List Action). TakesNothing (front (suc f.index) z)) (sym steps) (requests_first x n c i q f.index inside));
    }

reply_law : (t : Trace) (x : Exchange) → IsMatched t x → (q r c i k : ℕ) → Pair t x q r → c < t.count → x.event c ≡ Recv i → nth (t.actions c r) k ≡ Some (Take q (reply_tag i)) → IsSent t q r (reply_tag i) c k
reply_law t x balanced q r c i k p lt is e =
    let before = counted t x q r p i c (omega (arith, lt)) in
    let s = send_of x i (recvs x i c) c (balanced.open_before c i lt is) in
    let up = s.before in
    let there : s.at < t.count = omega (arith, up, lt) in
    let at_send = counted t x q r p i s.at (omega (arith, there)) in
    let posted : sent r (reply_tag i) (t.actions s.at q) ≡ 1 = (sent_by t x q r p s.at i there (Send i) s.is).1 ∙ one_at i i refl in
    let f = first_post r (reply_tag i) (t.actions s.at q) (omega (arith, posted)) in
    let g : got q (reply_tag i) (t.actions c r) ≡ 1 = (got_by t x q r p c i lt (Recv i) is).1 ∙ one_at i i refl in
    let none = none_before q (reply_tag i) k (t.actions c r) e g in
    let a = at_send.replies_sent in let b = before.replies_got in
    let number = s.number in let zero_sent = f.none in
    record {
      at = s.at;
      index = f.index;
      message = f.message;
      inside = there;
      is = f.is;
      tagged = f.tagged;
      number = omega (arith, a, b, number, none, zero_sent);
      earlier = inl up;
    }

law_by : (t : Trace) (x : Exchange) → HasExchange t x → IsMatched t x → (c r k q tag : ℕ) → c < t.count → r < t.ranks → nth (t.actions c r) k ≡ Some (Take q tag) → (e : Event) → x.event c ≡ e → (q < t.ranks) × IsSent t q r tag c k
law_by t x f b c r k q tag lt lr h Local is = absurd (f.quiet c r k q tag lt lr is h)
law_by t x f b c r k q tag lt lr h (Send i) is =
    let steps = steps_of t x f c r (Send i) lt lr is (omega arith) in
    let w = take_at_send x t.ranks c i r k q tag (ap (λ (z : List Action). nth z k) (sym steps) ∙ h) in
    (w.peer, subst (λ (z : ℕ). IsSent t q r z c k) (sym w.tagged) (request_law t x q r c i k (pair_of t x f q r tag (request_tag i) lr w) lt is (h ∙ ap (λ (z : ℕ). Some (Take q z)) w.tagged)))
law_by t x f b c r k q tag lt lr h (Recv i) is =
    let steps = steps_of t x f c r (Recv i) lt lr is (omega arith) in
    let w = take_at_recv t.ranks i r k q tag (ap (λ (z : List Action). nth z k) (sym steps) ∙ h) in
    (w.peer, subst (λ (z : ℕ). IsSent t q r z c k) (sym w.tagged) (reply_law t x b q r c i k (pair_of t x f q r tag (reply_tag i) lr w) lt is (h ∙ ap (λ (z : ℕ). Some (Take q z)) w.tagged)))

-- each take has its message, of another rank, which is posted earlier
pub law : (t : Trace) (x : Exchange) → HasExchange t x → IsMatched t x → (c r k q tag : ℕ) → c < t.count → r < t.ranks → nth (t.actions c r) k ≡ Some (Take q tag) → (q < t.ranks) × IsSent t q r tag c k
law t x f b c r k q tag lt lr h = law_by t x f b c r k q tag lt lr h (x.event c) refl
