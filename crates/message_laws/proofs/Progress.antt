-- While a rank runs, one runs that doesn't wait: the one at the least moment.
use Rattle.std.proofs.Common.{◌≡◌, ℕ, zero, suc, ◌<◌, ◌≤◌, ◌⊎◌, inl, inr, refl, sym, ◌∙◌, ap, subst, arith, true≢false}
use Rattle.std.proofs.lemmas.Bool.{cases_eq, cases_lt, ltb-false}
use Rattle.std.specs.Prelude.{◌≢◌}
use Rattle.message_laws.specs.Behaviour.{Behaviour, Failure, Action, Take, Fail, is_last, steps, posts, IsPosted, IsLawful}
use Rattle.message_laws.specs.System.{Status, Running, Ended, Faulted, Cut, State, places_of, finds, Waits}
use Rattle.message_laws.specs.Facts.{IsFaultBefore, StatusOk, RankOk, Facts}
use Rattle.message_laws.proofs.Basics.{differ, apart, posts_rise, posts_one}
use Rattle.message_laws.proofs.Moments.{moment, moment_rises, in_order, steps_rise, earlier_moment, moment_order, IsFirst, FirstTo, first_to, first_before}

-- where a rank stands that executes the first fault: it runs no later, or is faulted there
pub data Executor (b : Behaviour) (s : State) (c : ℕ) (f : Failure) : Type 0 where
  runs : (x : ℕ) → (x < b.ranks) → ((s.at x).status ≡ Running) → (y : ℕ) → (places_of s x ≤ y) → (b.configuration x y ≡ c) → Executor b s c f
  failed : (x : ℕ) → (x < b.ranks) → ((s.at x).status ≡ Faulted) → (g : Failure) → (b.action x (places_of s x) ≡ Fail g) → (b.configuration x (places_of s x) ≡ c) → Executor b s c f

-- a rank is not behind a fault that it executes
not_behind : (b : Behaviour) (s : State) (x y : ℕ) (f : Failure) → RankOk b x (s.at x) → b.action x y ≡ Fail f → places_of s x ≤ y
not_behind b s x y f k e = elim (cases_lt y (places_of s x)) [
  | inl lt ↦ absurd (true≢false (sym (ap is_last e) ∙ k.clear y lt))
  | inr le ↦ le
]

stands : (b : Behaviour) → IsLawful b → (s : State) → Facts b s → (c : ℕ) (f : Failure) → IsFirst b c f
    → (x y : ℕ) → x < b.ranks → b.configuration x y ≡ c → b.action x y ≡ Fail f → places_of s x ≤ y → (st : Status) → (s.at x).status ≡ st → StatusOk b x (places_of s x) st → Executor b s c f
stands b h s k c f first x y lt e is le Running st ok = runs x lt st y le e
stands b h s k c f first x y lt e is le Ended st ok = absurd (differ is (h.end_stays x (places_of s x) y ok le) (inl (omega arith)))
stands b h s k c f first x y lt e is le Faulted st ok =
    let up = first_before b c (b.configuration x (places_of s x)) f ok.0 first (h.fail_noted x (places_of s x) ok.0 ok.1) in
    let down = in_order b h x (places_of s x) y le in
    failed x lt st ok.0 ok.1 (omega (arith, up, down, e))
stands b h s k c f first x y lt e is le Cut st ok =
    let early : IsFaultBefore b (steps b x (places_of s x)) = ok.1 in
    let up = steps_rise b h c early.at (first_before b c early.at f early.fault first early.noted) in
    let down = steps_rise b h (b.configuration x (places_of s x)) (b.configuration x y) (in_order b h x (places_of s x) y le) in
    let same : b.completed (b.configuration x y) ≡ b.completed c = ap b.completed e in
    let before = early.before in
    absurd (omega (arith, up, down, same, before))

pub executor : (b : Behaviour) → IsLawful b → (s : State) → Facts b s → (c : ℕ) (f : Failure) → IsFirst b c f → Executor b s c f
executor b h s k c f first =
    let x = h.executed c f first.noted in
    stands b h s k c f first x.0 x.1 x.2 x.3 x.4 (not_behind b s x.0 x.1 f (k.ranks x.0 x.2) x.4) (s.at x.0).status refl (k.ranks x.0 x.2).status

-- no running rank has an earlier moment than r at p
abbrev pub IsLeast : Behaviour → State → ℕ → ℕ → Type 0
IsLeast b s r p = (q : ℕ) → q < b.ranks → (s.at q).status ≡ Running → moment b r p ≤ moment b q (places_of s q)

-- the other rank was cut: the first fault has been told
cut_off : (b : Behaviour) → IsLawful b → (s : State) → Facts b s → (r p q k : ℕ) → IsLeast b s r p → places_of s q ≤ k → b.configuration q k ≤ b.configuration r p
    → IsFaultBefore b (steps b q (places_of s q)) → s.stop < steps b r p
cut_off b h s k r p q at least le order early =
    let first : FirstTo b early.at = first_to b early.at early.fault early.noted in
    let up = steps_rise b h first.at early.at first.before in
    let before = early.before in
    let near = in_order b h q (places_of s q) at le in
    let rise = steps_rise b h (b.configuration q (places_of s q)) (b.configuration r p) (omega (arith, near, order)) in
    elim (executor b h s k first.at first.fault first.is) [
      | runs x lt st y l e ↦ (
          let m = least x lt st in let n = moment_rises b h x (places_of s x) y l in
          let o = moment_order b r p x y (omega (arith, m, n)) in
          let z = steps_rise b h (b.configuration r p) first.at (omega (arith, o, e)) in
          absurd (omega (arith, up, before, rise, z)))
      | failed x lt st g is e ↦ (
          let heard = k.heard x lt st in
          let same : steps b x (places_of s x) ≡ b.completed first.at = ap b.completed e in
          omega (arith, heard, same, up, before, rise))
    ]

-- the other rank hasn't posted the message yet: the stop word is below
blocked : (b : Behaviour) → IsLawful b → (s : State) → Facts b s → (r p q tag : ℕ) → b.action r p ≡ Take q tag → IsLeast b s r p → q < b.ranks → (m : IsPosted b q r tag p) → places_of s q ≤ m.at
    → (st : Status) → (s.at q).status ≡ st → StatusOk b q (places_of s q) st → s.stop < steps b r p
blocked b h s k r p q tag e least lt m le Running st ok =
    let x = least q lt st in let y = moment_rises b h q (places_of s q) m.at le in let z = earlier_moment b q m.at r p q tag e m.earlier in
    absurd (omega (arith, x, y, z))
blocked b h s k r p q tag e least lt m le Ended st ok = absurd (differ m.is (h.end_stays q (places_of s q) m.at ok le) (inl (omega arith)))
blocked b h s k r p q tag e least lt m le Faulted st ok = elim (cases_eq (places_of s q) m.at) [
  | inl same ↦ absurd (differ m.is (subst (λ (z : ℕ). b.action q z ≡ Fail ok.0) same ok.1) (inl (omega arith)))
  | inr ne ↦ (
      let c = b.configuration q (places_of s q) in
      let heard = k.heard q lt st in
      let counts = h.fault_counts c ok.0 (h.fail_noted q (places_of s q) ok.0 ok.1) in
      let alone = h.fail_alone q (places_of s q) ok.0 ok.1 in
      let near = in_order b h q (suc (places_of s q)) m.at (omega (arith, le, ne)) in
      let z = earlier_moment b q m.at r p q tag e m.earlier in
      let order = moment_order b q m.at r p (omega (arith, z)) in
      let rise = steps_rise b h (suc c) (b.configuration r p) (omega (arith, alone, near, order)) in
      omega (arith, heard, counts, rise))
]
blocked b h s k r p q tag e least lt m le Cut st ok =
    let z = earlier_moment b q m.at r p q tag e m.earlier in
    cut_off b h s k r p q m.at least le (moment_order b q m.at r p (omega (arith, z))) ok.1

-- the rank at the least moment doesn't wait
pub least_goes : (b : Behaviour) → IsLawful b → (s : State) → Facts b s → (r : ℕ) → r < b.ranks → IsLeast b s r (places_of s r) → Waits b s r → ⊥
least_goes b h s k r inside least w =
    let p = places_of s r in
    let q = w.takes.from in
    let tag = w.takes.tag in
    let m : IsPosted b q r tag p = h.messages r p q tag inside w.takes.is in
    let lt = h.peers r p q tag inside w.takes.is in
    let few = ltb-false _ _ (sym (ap (λ (a : Action). finds b r p a (places_of s)) w.takes.is) ∙ w.missing) in
    elim (cases_lt m.at (places_of s q)) [
      | inl past ↦ (
          let one = posts_one b q r m.at m.message m.is in
          let tagged = λ (n : ℕ). ap (λ (t : ℕ). posts b q r t n) m.tagged in
          let a : posts b q r tag (suc m.at) ≡ suc (posts b q r tag m.at) = sym (tagged (suc m.at)) ∙ (one ∙ ap suc (tagged m.at)) in
          let up = posts_rise b q r tag (suc m.at) (places_of s q) past in
          let number = m.number in
          absurd (omega (arith, a, up, number, few)))
      | inr le ↦ (
          let x = blocked b h s k r p q tag w.takes.is least lt m le (s.at q).status refl (k.ranks q lt).status in
          let y = w.above in
          absurd (omega (arith, x, y)))
    ]

-- ---- the running rank at the least moment

pub running_or : (st : Status) → (st ≡ Running) ⊎ (st ≢ Running)
running_or Running = inl refl
running_or Ended = inr (λ e. apart e (inr (omega arith)))
running_or Faulted = inr (λ e. apart e (inr (omega arith)))
running_or Cut = inr (λ e. apart e (inr (omega arith)))

pub data Least (b : Behaviour) (s : State) (n : ℕ) : Type 0 where
  nobody : ((q : ℕ) → q < n → (s.at q).status ≢ Running) → Least b s n
  one : (r : ℕ) → (r < n) → ((s.at r).status ≡ Running) → ((q : ℕ) → q < n → (s.at q).status ≡ Running → moment b r (places_of s r) ≤ moment b q (places_of s q)) → Least b s n

split_last : (P : ℕ → Type 0) (n : ℕ) → P n → ((q : ℕ) → q < n → P q) → (q : ℕ) → q < suc n → P q
split_last P n x h q lt = elim (cases_eq q n) [ inl e ↦ subst P (sym e) x | inr ne ↦ h q (omega (arith, lt, ne)) ]

least_more : (b : Behaviour) (s : State) (n : ℕ) → Least b s n → (s.at n).status ≡ Running → Least b s (suc n)
least_more b s n (nobody h) e = one n (omega arith) e (split_last (λ q. (s.at q).status ≡ Running → moment b n (places_of s n) ≤ moment b q (places_of s q)) n (λ _. omega arith) (λ q lt x. absurd (h q lt x)))
least_more b s n (one r lt st h) e = elim (cases_lt (moment b n (places_of s n)) (moment b r (places_of s r))) [
  | inl less ↦ one n (omega arith) e (split_last (λ q. (s.at q).status ≡ Running → moment b n (places_of s n) ≤ moment b q (places_of s q)) n (λ _. omega arith) (λ q m x. let y = h q m x in omega (arith, y, less)))
  | inr more ↦ one r (omega (arith, lt)) st (split_last (λ q. (s.at q).status ≡ Running → moment b r (places_of s r) ≤ moment b q (places_of s q)) n (λ _. more) h)
]

least_same : (b : Behaviour) (s : State) (n : ℕ) → Least b s n → (s.at n).status ≢ Running → Least b s (suc n)
least_same b s n (nobody h) ne = nobody (split_last (λ q. (s.at q).status ≢ Running) n ne h)
least_same b s n (one r lt st h) ne = one r (omega (arith, lt)) st (split_last (λ q. (s.at q).status ≡ Running → moment b r (places_of s r) ≤ moment b q (places_of s q)) n (λ x. absurd (ne x)) h)

pub least_to : (b : Behaviour) (s : State) (n : ℕ) → Least b s n
least_to b s zero = nobody (λ q lt. absurd (omega (arith, lt)))
least_to b s (suc n) = elim (running_or (s.at n).status) [
  | inl e ↦ least_more b s n (least_to b s n) e
  | inr ne ↦ least_same b s n (least_to b s n) ne
]

-- a rank that runs and doesn't wait
pub record Goes (b : Behaviour) (s : State) : Type 0 where
  pub rank : ℕ
  pub inside : rank < b.ranks
  pub runs : (s.at rank).status ≡ Running
  pub goes : Waits b s rank → ⊥

pub some_goes : (b : Behaviour) → IsLawful b → (s : State) → Facts b s → (q : ℕ) → q < b.ranks → (s.at q).status ≡ Running → Goes b s
some_goes b h s k q lt e = elim (least_to b s b.ranks) [
  | nobody none ↦ absurd (none q lt e)
  | one r m st least ↦ record { rank = r; inside = m; runs = st; goes = least_goes b h s k r m least }
]
