-- How many steps there can be.
use Rattle.std.proofs.Common.{◌≡◌, ℕ, zero, suc, ◌*◌, ◌<◌, ◌≤◌, List, [], length, inl, inr, refl, ap, arith, length-append, if◌then◌else◌, ◌==◌, Bool}
use Rattle.std.proofs.lemmas.Bool.{cases_eq, eq-eqb, ne_eqb}
use Rattle.message_laws.specs.Behaviour.{Action}
use Rattle.message_laws.specs.System.{total, most_weight}
use Rattle.message_laws.specs.Traces.{Trace, behaviour_of, IsSound}
use Rattle.message_laws.specs.Protocol.{Event, Local, Send, Recv, Exchange, each, request_to, reply_to, receive_from, message_steps}
use Rattle.message_laws.proofs.Ways.{start, start_suc}
use Rattle.message_laws.proofs.Sound.{last_place}

each_length : (w q n : ℕ) (f : ℕ → List Action) → ((p : ℕ) → length (f p) ≡ w) → length (each q n f) ≤ w * n
each_length w q zero f h = omega arith
each_length w q (suc n) f h =
    let j = length-append (each q n f) (if n == q then [] else f n) in
    let rec = each_length w q n f h in
    let here : length (if n == q then [] else f n) ≤ w = elim (cases_eq n q) [
      | inl e ↦ (let z = ap (λ (b : Bool). length (if b then [] else f n)) (eq-eqb n q e) in omega (arith, z))
      | inr ne ↦ (let z = ap (λ (b : Bool). length (if b then [] else f n)) (ne_eqb n q ne) in let l = h n in omega (arith, z, l))
    ] in
    omega (arith, j, rec, here)

-- a rank has at most three message steps for each rank at one configuration
pub few_steps : (x : Exchange) (n c q : ℕ) (e : Event) → length (message_steps x n c e q) ≤ 3 * n
few_steps x n c q Local = omega arith
few_steps x n c q (Send i) =
    let j = length-append (each q n (request_to x c i q)) (each q n (reply_to x c i q)) in
    let a = each_length 1 q n (request_to x c i q) (λ p. refl) in
    let b = each_length 2 q n (reply_to x c i q) (λ p. refl) in
    omega (arith, j, a, b)
few_steps x n c q (Recv i) = let a = each_length 1 q n (receive_from i) (λ p. refl) in omega (arith, a)

way_length : (t : Trace) (r w : ℕ) → ((c : ℕ) → c < t.count → length (t.actions c r) ≤ w) → (n : ℕ) → n ≤ t.count → start t r n ≤ w * n
way_length t r w h zero le = omega arith
way_length t r w h (suc n) le = let s = start_suc t r n in let rec = way_length t r w h n (omega (arith, le)) in let l = h n le in omega (arith, s, rec, l)

total_few : (f : ℕ → ℕ) (m n : ℕ) → ((r : ℕ) → r < n → f r ≤ m) → total f n ≤ n * m
total_few f m zero h = omega arith
total_few f m (suc n) h = let rec = total_few f m n (λ r lt. h r (omega (arith, lt))) in let l = h n (omega arith) in omega (arith, rec, l)

-- the weight is at most what all ranks do at all configurations
pub weight_bound : (t : Trace) → IsSound t → (w : ℕ) → ((c r : ℕ) → c < t.count → r < t.ranks → length (t.actions c r) ≤ w) → most_weight (behaviour_of t) ≤ t.ranks * (w * t.count)
weight_bound t h w few = total_few (λ r. suc ((behaviour_of t).last r)) (w * t.count) t.ranks
    (λ r lt. let l = (last_place t h r lt).place in let s = way_length t r w (λ c lc. few c r lc lt) t.count (omega arith) in omega (arith, l, s))
