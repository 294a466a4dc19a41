-- The behaviour along a sound trace is lawful.
use Rattle.std.proofs.Common.{◌≡◌, ℕ, suc, ◌+◌, ◌<◌, ◌≤◌, IsTrue, List, length, inl, inr, refl, sym, ◌∙◌, ap, subst, arith}
use Rattle.std.proofs.lemmas.Bool.{cases_eq, cases_lt}
use Rattle.std.specs.Prelude.{Some, count_by, ◌==◌}
use Rattle.fd_prog.specs.declared.run.Printed.{Printed}
use Rattle.message_laws.specs.Behaviour.{Failure, Action, Act, Post, Take, Fail, End, steps, posted_by, taken_by, of_tag, posts, takes, is_last, HaveStep, IsPosted, IsLawful}
use Rattle.message_laws.proofs.Basics.{differ, posts_more, takes_more}
use Rattle.message_laws.specs.Traces.{Trace, behaviour_of, got, sent_before, got_before, front, IsSent, IsSound}
use Rattle.message_laws.proofs.Ways.{some_not_none, nth_inside, start, start_suc, start_rises, action_at, configuration_at, Place, inside, behind, place_of, before_next, later_number}
use Rattle.message_laws.proofs.Counts.{posts_at, takes_at, posts_before, takes_before, first_half_of}

order_by : (t : Trace) (r p : ℕ) → Place t r p → Place t r (suc p) → (behaviour_of t).configuration r p ≤ (behaviour_of t).configuration r (suc p)
order_by t r p (inside n k a lt at here is number) (inside m l c lm am hm im nm) = let x = later_number t r n k m l p (suc p) c at am hm (omega arith) in omega (arith, x, number, nm)
order_by t r p (inside n k a lt at here is number) (behind le im nm) = omega (arith, lt, number, nm)
order_by t r p (behind le is number) (inside m l c lm am hm im nm) = let x = before_next t r m l (suc p) c am hm in let up = start_rises t r (suc m) t.count lm in absurd (omega (arith, x, up, le))
order_by t r p (behind le is number) (behind lm im nm) = omega (arith, number, nm)

fail_by : (t : Trace) → IsSound t → (r p : ℕ) (f : Failure) → (behaviour_of t).action r p ≡ Fail f → Place t r p → t.noted ((behaviour_of t).configuration r p) ≡ Some f
fail_by t h r p f e (inside n k a lt at here is number) = ap t.noted number ∙ (h.fails n r k f lt (here ∙ ap Some (sym is ∙ e))).0
fail_by t h r p f e (behind le is number) = absurd (differ e is (inl (omega arith)))

alone_by : (t : Trace) → IsSound t → (r p : ℕ) (f : Failure) → (behaviour_of t).action r p ≡ Fail f → Place t r p → Place t r (suc p) → (behaviour_of t).configuration r p < (behaviour_of t).configuration r (suc p)
alone_by t h r p f e (inside n k a lt at here is number) (inside m l c lm am hm im nm) =
    let last = (h.fails n r k f lt (here ∙ ap Some (sym is ∙ e))).1 in
    let next = start_suc t r n in
    elim (cases_lt n m) [
      | inl up ↦ omega (arith, up, number, nm)
      | inr le ↦ (let x = before_next t r m l (suc p) c am hm in let y = start_rises t r (suc m) (suc n) (omega (arith, le)) in absurd (omega (arith, x, y, at, last, next)))
    ]
alone_by t h r p f e (inside n k a lt at here is number) (behind le im nm) = omega (arith, lt, number, nm)
alone_by t h r p f e (behind le is number) w = absurd (differ e is (inl (omega arith)))

end_by : (t : Trace) → IsSound t → (r p c : ℕ) (f : Failure) → (behaviour_of t).action r p ≡ End → t.noted c ≡ Some f → Place t r p → c < (behaviour_of t).configuration r p
end_by t h r p c f e noted (inside n k a lt at here is number) =
    let last = h.ends n r k lt (here ∙ ap Some (sym is ∙ e)) in
    let only = last.0 in
    let c_in = h.noted_inside c f noted in
    elim (cases_eq c n) [
      | inl same ↦ absurd (some_not_none (sym noted ∙ (ap t.noted same ∙ last.2)))
      | inr ne ↦ omega (arith, only, c_in, ne, number)
    ]
end_by t h r p c f e noted (behind le is number) = let x = h.noted_inside c f noted in omega (arith, x, number)

stays_by : (t : Trace) → IsSound t → (r p k : ℕ) → (behaviour_of t).action r p ≡ End → p ≤ k → Place t r p → Place t r k → (behaviour_of t).action r k ≡ End
stays_by t h r p k e le w (behind at is number) = is
stays_by t h r p k e le (behind at is number) (inside m l c lm am hm im nm) = let x = before_next t r m l k c am hm in let up = start_rises t r (suc m) t.count lm in absurd (omega (arith, x, up, at, le))
stays_by t h r p k e le (inside n i a lt at here is number) (inside m l c lm am hm im nm) =
    let last = h.ends n r i lt (here ∙ ap Some (sym is ∙ e)) in
    let only = last.0 in
    let end = last.1 in
    let next = start_suc t r n in
    let x = before_next t r m l k c am hm in
    let up = start_rises t r (suc m) (suc n) (omega (arith, only, lm)) in
    let same : p ≡ k = omega (arith, x, up, end, next, at, le) in
    subst (λ (z : ℕ). (behaviour_of t).action r z ≡ End) same e

-- the last place of a rank
pub record LastPlace (t : Trace) (r : ℕ) : Type 0 where
  pub action : Action
  pub is : (behaviour_of t).action r ((behaviour_of t).last r) ≡ action
  pub last : IsTrue (is_last action)
  pub place : start t r t.count ≡ suc ((behaviour_of t).last r)

pub last_place : (t : Trace) → IsSound t → (r : ℕ) → r < t.ranks → LastPlace t r
last_place t h r rank =
    let x = h.last r rank in
    let c = x.0 in let k = x.1 in let a = x.2 in
    let only = x.3 in let end = x.5 in
    let next = start_suc t r c in
    let all : start t r (suc c) ≡ start t r t.count = ap (start t r) only in
    let at : (behaviour_of t).last r ≡ start t r c + k = omega (arith, only, end, next, all) in
    record {
      action = a;
      is = ap ((behaviour_of t).action r) at ∙ action_at t r c k a (omega (arith, only)) x.4;
      last = x.6;
      place = omega (arith, end, next, all);
    }

line_by : (t : Trace) → IsSound t → (r p : ℕ) (lines : List Printed) → (behaviour_of t).action r p ≡ Act lines → Place t r p → HaveStep (suc (steps (behaviour_of t) r p)) lines
line_by t h r p lines e (inside n k a lt at here is number) = subst (λ (z : ℕ). HaveStep (suc (t.completed z)) lines) (sym number) (h.line_steps n r k lines lt (here ∙ ap Some (sym is ∙ e)))
line_by t h r p lines e (behind le is number) = absurd (differ e is (inl (omega arith)))

peer_by : (t : Trace) → IsSound t → (r p q tag : ℕ) → r < t.ranks → (behaviour_of t).action r p ≡ Take q tag → Place t r p → q < t.ranks
peer_by t h r p q tag rank e (inside n k a lt at here is number) = h.peers n r k q tag lt rank (here ∙ ap Some (sym is ∙ e))
peer_by t h r p q tag rank e (behind le is number) = absurd (differ e is (inl (omega arith)))

posted_by_trace : (t : Trace) → IsSound t → (r p q tag n k : ℕ) → n < t.count → p ≡ start t r n + k → k < length (t.actions n r) → (behaviour_of t).configuration r p ≡ n → IsSent t q r tag n k → IsPosted (behaviour_of t) q r tag p
posted_by_trace t h r p q tag n k lt at few number s =
    let b = behaviour_of t in
    let there = nth_inside (t.actions s.at q) s.index (Post r s.message) s.is in
    let conf = configuration_at t q s.at s.index (Post r s.message) s.inside s.is in
    let sends = posts_at t q r tag s.at s.index s.inside (omega (arith, there)) in
    let gets : takes b q r tag p ≡ got_before t q r tag n + got q tag (front k (t.actions n r)) = ap (takes b q r tag) at ∙ takes_at t q r tag n k lt (omega (arith, few)) in
    let equal = s.number in
    record {
      at = start t q s.at + s.index;
      message = s.message;
      is = action_at t q s.at s.index (Post r s.message) s.inside s.is;
      tagged = s.tagged;
      number = omega (arith, sends, gets, equal);
      earlier = elim s.earlier [
        | inl up ↦ inl (omega (arith, conf, number, up))
        | inr x ↦ (let same = x.0 in inr (omega (arith, conf, number, same), first_half_of t q s.at s.index s.inside there x.1))
      ];
    }

message_by : (t : Trace) → IsSound t → (r p q tag : ℕ) → r < t.ranks → (behaviour_of t).action r p ≡ Take q tag → Place t r p → IsPosted (behaviour_of t) q r tag p
message_by t h r p q tag rank e (inside n k a lt at here is number) = posted_by_trace t h r p q tag n k lt at (nth_inside (t.actions n r) k a here) number (h.messages n r k q tag lt rank (here ∙ ap Some (sym is ∙ e)))
message_by t h r p q tag rank e (behind le is number) = absurd (differ e is (inl (omega arith)))

-- a last action posts and takes nothing
no_post : (a : Action) → IsTrue (is_last a) → (r tag : ℕ) → of_tag tag (posted_by a r) ≡ 0
no_post (Act lines) h r tag = refl
no_post (Post to m) h r tag = absurd (cc)
no_post (Take from g) h r tag = refl
no_post (Fail f) h r tag = refl
no_post End h r tag = refl

no_take : (a : Action) → IsTrue (is_last a) → (q tag : ℕ) → count_by (λ o. o == tag) (taken_by a q) ≡ 0
no_take (Act lines) h q tag = refl
no_take (Post to m) h q tag = refl
no_take (Take from g) h q tag = absurd (cc)
no_take (Fail f) h q tag = refl
no_take End h q tag = refl

posts_all : (t : Trace) → IsSound t → (q r tag : ℕ) → q < t.ranks → posts (behaviour_of t) q r tag ((behaviour_of t).last q) ≡ sent_before t q r tag t.count
posts_all t h q r tag rank =
    let b = behaviour_of t in
    let l = last_place t h q rank in
    let more = posts_more b q r tag (b.last q) in
    let none : of_tag tag (posted_by (b.action q (b.last q)) r) ≡ 0 = ap (λ (a : Action). of_tag tag (posted_by a r)) l.is ∙ no_post l.action l.last r tag in
    let all : posts b q r tag (suc (b.last q)) ≡ sent_before t q r tag t.count = ap (posts b q r tag) (sym l.place) ∙ posts_before t q r tag t.count (omega arith) in
    omega (arith, more, none, all)

takes_all : (t : Trace) → IsSound t → (q r tag : ℕ) → r < t.ranks → takes (behaviour_of t) q r tag ((behaviour_of t).last r) ≡ got_before t q r tag t.count
takes_all t h q r tag rank =
    let b = behaviour_of t in
    let l = last_place t h r rank in
    let more = takes_more b q r tag (b.last r) in
    let none : count_by (λ o. o == tag) (taken_by (b.action r (b.last r)) q) ≡ 0 = ap (λ (a : Action). count_by (λ o. o == tag) (taken_by a q)) l.is ∙ no_take l.action l.last q tag in
    let all : takes b q r tag (suc (b.last r)) ≡ got_before t q r tag t.count = ap (takes b q r tag) (sym l.place) ∙ takes_before t q r tag t.count (omega arith) in
    omega (arith, more, none, all)

pub lawful : (t : Trace) → IsSound t → IsLawful (behaviour_of t)
lawful t h = record {
  in_order = λ r p. order_by t r p (place_of t r p) (place_of t r (suc p));
  steps_rise = h.steps_rise;
  steps_few = h.steps_few;
  fault_counts = h.fault_counts;
  fail_noted = λ r p f e. fail_by t h r p f e (place_of t r p);
  fail_alone = λ r p f e. alone_by t h r p f e (place_of t r p) (place_of t r (suc p));
  executed = λ c f noted. let x = h.executed c f noted in let i = h.noted_inside c f noted in
      (x.0, start t x.0 c + x.1, x.2, configuration_at t x.0 c x.1 (Fail f) i x.3, action_at t x.0 c x.1 (Fail f) i x.3);
  end_behind = λ r p c f e noted. end_by t h r p c f e noted (place_of t r p);
  end_stays = λ r p k e le. stays_by t h r p k e le (place_of t r p) (place_of t r k);
  is_last = λ r rank. let l = last_place t h r rank in subst (λ (a : Action). IsTrue (is_last a)) (sym l.is) l.last;
  line_steps = λ r p lines e. line_by t h r p lines e (place_of t r p);
  peers = λ r p q tag rank e. peer_by t h r p q tag rank e (place_of t r p);
  messages = λ r p q tag rank e. message_by t h r p q tag rank e (place_of t r p);
  all_taken = λ none q r tag lq lr. takes_all t h q r tag lr ∙ (h.all_taken none q r tag lq lr ∙ sym (posts_all t h q r tag lq));
}
