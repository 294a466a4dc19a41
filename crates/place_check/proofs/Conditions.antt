-- The mark of a path says whether the condition is kept.
use Rattle.std.proofs.Common.{◌≡◌, ◌≢◌, Bool, true, false, not, IsTrue, IsFalse, ◌⊎◌, inl, inr, List, [], ◌∷◌, ◌++◌, Option, Some, None, refl, sym, ◌∙◌, ap, subst, true≢false, append_assoc}
use Rattle.fd_prog.specs.Paths.{Happening, Sent, Received, Taken, Hoisted, Stolen}
use Rattle.fd_prog.specs.PathConditions.{latest, first, or_else, first_is, is_operation, is_gain_or_loss, is_use_or_loss, IsOpen, MayCome}
use Rattle.place_check.specs.declared.verdict.Condition.{Condition}
use Rattle.place_check.specs.declared.verdict.Condition.TheVariants.{Balanced, Covered, Used}
use Rattle.place_check.specs.Verdicts.{Keeps}
use Rattle.place_check.specs.Marks.{moved, onward, after, may_end}

onward_twice : (o : Option Bool) (f g h : Bool → Option Bool) → ((m : Bool) → f m ≡ onward (g m) h) → onward o f ≡ onward (onward o g) h
onward_twice None f g h e = refl
onward_twice (Some m) f g h e = e m

pub after-append : (c : Condition) (xs ys : List Happening) (mark : Bool) → after c (xs ++ ys) mark ≡ onward (after c xs mark) (after c ys)
after-append c [] ys mark = refl
after-append c (x ∷ xs) ys mark = onward_twice (moved c x mark) (after c (xs ++ ys)) (after c xs) (after c ys) (λ m. after-append c xs ys m)

-- ---- a path part by part

-- the marks before and behind something that happens
record IsParted (c : Condition) (xs : List Happening) (h : Happening) (ys : List Happening) (a z : Bool) : Type 0 where
  before : Bool
  next : Bool
  to_it : after c xs a ≡ Some before
  by_it : moved c h before ≡ Some next
  from_it : after c ys next ≡ Some z

some_onward : (o : Option Bool) (step : Bool → Option Bool) (z : Bool) → onward o step ≡ Some z → (m : Bool) × (o ≡ Some m) × (step m ≡ Some z)
some_onward None step z h = absurd cc
some_onward (Some m) step z h = (m, refl, h)

part : (c : Condition) (hs xs : List Happening) (h : Happening) (ys : List Happening) (a z : Bool) → after c hs a ≡ Some z → hs ≡ xs ++ (h ∷ ys) → IsParted c xs h ys a z
part c hs xs h ys a z e same =
    let whole : after c (xs ++ (h ∷ ys)) a ≡ Some z = ap (λ (l : List Happening). after c l a) (sym same) ∙ e in
    let m = some_onward (after c xs a) (after c (h ∷ ys)) z (sym (after-append c xs (h ∷ ys) a) ∙ whole) in
    let n = some_onward (moved c h m.0) (after c ys) z m.2 in
    record { before = m.0; next = n.0; to_it = m.1; by_it = n.1; from_it = n.2 }

-- ---- what the marks of Balanced and Covered say

abbrev is_send : Happening → Bool
is_send Sent = true
is_send h = false

abbrev is_recv : Happening → Bool
is_recv Received = true
is_recv h = false

abbrev open_after : Option Happening → Bool → Bool
open_after (Some h) b = is_send h
open_after None b = b

abbrev come_after : Option Happening → Bool → Bool
come_after (Some h) b = is_recv h
come_after None b = b

same_some : {a b : Bool} → ◌≡◌ {A = Option Bool} (Some a) (Some b) → a ≡ b
same_some h = cc

open_step : (o : Option Happening) (h : Happening) (a m : Bool) → moved Balanced h a ≡ Some m → open_after o m ≡ open_after (or_else o (is_operation h) h) a
open_step (Some d) h a m e = refl
open_step None Sent true m e = absurd cc
open_step None Sent false m e = sym (same_some e)
open_step None Received true m e = sym (same_some e)
open_step None Received false m e = absurd cc
open_step None Taken a m e = sym (same_some e)
open_step None Hoisted a m e = sym (same_some e)
open_step None Stolen true m e = absurd cc
open_step None Stolen false m e = sym (same_some e)

come_step : (o : Option Happening) (h : Happening) (a m : Bool) → moved Covered h a ≡ Some m → come_after o m ≡ come_after (or_else o (is_gain_or_loss h) h) a
come_step (Some d) h a m e = refl
come_step None Sent a m e = sym (same_some e)
come_step None Received a m e = sym (same_some e)
come_step None Taken true m e = sym (same_some e)
come_step None Taken false m e = absurd cc
come_step None Hoisted a m e = sym (same_some e)
come_step None Stolen a m e = sym (same_some e)

open_is : (hs : List Happening) (a z : Bool) → after Balanced hs a ≡ Some z → z ≡ open_after (latest is_operation hs) a
open_is [] a z e = sym (same_some e)
open_is (h ∷ hs) a z e =
    let m = some_onward (moved Balanced h a) (after Balanced hs) z e in
    open_is hs m.0 z m.2 ∙ open_step (latest is_operation hs) h a m.0 m.1

come_is : (hs : List Happening) (a z : Bool) → after Covered hs a ≡ Some z → z ≡ come_after (latest is_gain_or_loss hs) a
come_is [] a z e = sym (same_some e)
come_is (h ∷ hs) a z e =
    let m = some_onward (moved Covered h a) (after Covered hs) z e in
    come_is hs m.0 z m.2 ∙ come_step (latest is_gain_or_loss hs) h a m.0 m.1

open_iff : (o : Option Happening) → open_after o false ≡ true → o ≡ Some Sent
open_iff (Some Sent) h = refl
open_iff (Some Received) h = absurd cc
open_iff (Some Taken) h = absurd cc
open_iff (Some Hoisted) h = absurd cc
open_iff (Some Stolen) h = absurd cc
open_iff None h = absurd cc

come_iff : (o : Option Happening) → come_after o false ≡ true → o ≡ Some Received
come_iff (Some Received) h = refl
come_iff (Some Sent) h = absurd cc
come_iff (Some Taken) h = absurd cc
come_iff (Some Hoisted) h = absurd cc
come_iff (Some Stolen) h = absurd cc
come_iff None h = absurd cc

is_open : (hs : List Happening) → after Balanced hs false ≡ Some true → IsOpen hs
is_open hs e = open_iff (latest is_operation hs) (sym (open_is hs false true e))

not_open : (hs : List Happening) → after Balanced hs false ≡ Some false → IsOpen hs → ⊥
not_open hs e o = true≢false (ap (λ (d : Option Happening). open_after d false) (sym o) ∙ sym (open_is hs false false e))

has_come : (hs : List Happening) → after Covered hs false ≡ Some true → latest is_gain_or_loss hs ≡ Some Received
has_come hs e = come_iff (latest is_gain_or_loss hs) (sym (come_is hs false true e))

not_come : (hs : List Happening) → after Covered hs false ≡ Some false → latest is_gain_or_loss hs ≡ Some Received → ⊥
not_come hs e o = true≢false (ap (λ (d : Option Happening). come_after d false) (sym o) ∙ sym (come_is hs false false e))

-- ---- what the mark of Used says

use_comes : (ys : List Happening) (z : Bool) → after Used ys true ≡ Some z → first is_use_or_loss ys ≢ Some Stolen
use_comes [] z e h = absurd cc
use_comes (Sent ∷ ys) z e h = use_comes ys z e h
use_comes (Received ∷ ys) z e h = use_comes ys z e h
use_comes (Taken ∷ ys) z e h = absurd cc
use_comes (Hoisted ∷ ys) z e h = absurd cc
use_comes (Stolen ∷ ys) z e h = absurd cc

use_came : (ys : List Happening) → after Used ys true ≡ Some false → first is_use_or_loss ys ≢ None
use_came [] e h = absurd (true≢false (same_some e))
use_came (Sent ∷ ys) e h = use_came ys e h
use_came (Received ∷ ys) e h = use_came ys e h
use_came (Taken ∷ ys) e h = absurd cc
use_came (Hoisted ∷ ys) e h = absurd cc
use_came (Stolen ∷ ys) e h = absurd cc

-- a send that wasn't used yet
record IsOwed (hs : List Happening) : Type 0 where
  xs : List Happening
  ys : List Happening
  parts : hs ≡ xs ++ (Sent ∷ ys)
  unused : first is_use_or_loss ys ≡ None

owed_behind : (h : Happening) (hs : List Happening) → IsOwed hs → IsOwed (h ∷ hs)
owed_behind h hs o = record { xs = h ∷ o.xs; ys = o.ys; parts = ap (λ (l : List Happening). h ∷ l) o.parts; unused = o.unused }

-- with the mark set behind it, a send in it wasn't used, or the mark was set before and nothing of it is a use or a loss
owed : (hs : List Happening) (a : Bool) → after Used hs a ≡ Some true → ((a ≡ true) × (first is_use_or_loss hs ≡ None)) ⊎ IsOwed hs
owed [] a e = inl (same_some e, refl)
owed (Sent ∷ hs) a e = elim (owed hs true e) [
  | inl x ↦ inr (record { xs = []; ys = hs; parts = refl; unused = x.1 })
  | inr o ↦ inr (owed_behind Sent hs o)
]
owed (Received ∷ hs) a e = elim (owed hs a e) [ inl x ↦ inl x | inr o ↦ inr (owed_behind Received hs o) ]
owed (Taken ∷ hs) a e = elim (owed hs false e) [ inl x ↦ absurd (true≢false (sym x.0)) | inr o ↦ inr (owed_behind Taken hs o) ]
owed (Hoisted ∷ hs) a e = elim (owed hs false e) [ inl x ↦ absurd (true≢false (sym x.0)) | inr o ↦ inr (owed_behind Hoisted hs o) ]
owed (Stolen ∷ hs) true e = absurd cc
owed (Stolen ∷ hs) false e = elim (owed hs false e) [ inl x ↦ absurd (true≢false (sym x.0)) | inr o ↦ inr (owed_behind Stolen hs o) ]

owed_from_start : (hs : List Happening) → after Used hs false ≡ Some true → IsOwed hs
owed_from_start hs e = elim (owed hs false e) [ inl x ↦ absurd (true≢false (sym x.0)) | inr o ↦ o ]

first_behind : (ys zs : List Happening) (h : Happening) → first is_use_or_loss ys ≡ None → is_use_or_loss h ≡ true → first is_use_or_loss (ys ++ (h ∷ zs)) ≡ Some h
first_behind [] zs h e k = ap (λ (b : Bool). first_is b h (first is_use_or_loss zs)) k
first_behind (Sent ∷ ys) zs h e k = first_behind ys zs h e k
first_behind (Received ∷ ys) zs h e k = first_behind ys zs h e k
first_behind (Taken ∷ ys) zs h e k = absurd cc
first_behind (Hoisted ∷ ys) zs h e k = absurd cc
first_behind (Stolen ∷ ys) zs h e k = absurd cc

-- ---- the condition is kept

may_come : (h : Happening) (xs : List Happening) (b n : Bool) → after Balanced xs false ≡ Some b → moved Balanced h b ≡ Some n → MayCome h xs
may_come Sent xs true n e m = absurd cc
may_come Sent xs false n e m = not_open xs e
may_come Received xs true n e m = is_open xs e
may_come Received xs false n e m = absurd cc
may_come Taken xs b n e m = tt
may_come Hoisted xs b n e m = tt
may_come Stolen xs true n e m = absurd cc
may_come Stolen xs false n e m = not_open xs e

covers : (xs : List Happening) (b n : Bool) → after Covered xs false ≡ Some b → moved Covered Taken b ≡ Some n → latest is_gain_or_loss xs ≡ Some Received
covers xs true n e m = has_come xs e
covers xs false n e m = absurd cc

shut : (b : Bool) → not b ≡ true → b ≡ false
shut true h = absurd cc
shut false h = refl

pub keeps : (c : Condition) (at_end : Type 0) (hs : List Happening) (z : Bool) → after c hs false ≡ Some z → (at_end → IsTrue (may_end c z)) → Keeps c at_end hs
keeps Balanced at_end hs z e end = record {
  along = λ xs ys h q. let p = part Balanced hs xs h ys false z e q in may_come h xs p.before p.next p.to_it p.by_it;
  closed = λ x. not_open hs (e ∙ ap (λ (b : Bool). Some b) (shut z (end x)));
}
keeps Covered at_end hs z e end = record {
  along = λ xs ys q. let p = part Covered hs xs Taken ys false z e q in covers xs p.before p.next p.to_it p.by_it;
}
keeps Used at_end hs z e end = record {
  along = λ xs ys q. let p = part Used hs xs Sent ys false z e q in use_comes ys z (subst (λ (b : Bool). after Used ys b ≡ Some z) (sym (same_some p.by_it)) p.from_it);
  comes = λ x xs ys q.
      let p = part Used hs xs Sent ys false z e q in
      use_came ys (subst (λ (b : Bool). after Used ys b ≡ Some z) (sym (same_some p.by_it)) p.from_it ∙ ap (λ (b : Bool). Some b) (shut z (end x)));
}

-- ---- the condition is broken

record IsBrokenAt (c : Condition) (hs : List Happening) (a : Bool) : Type 0 where
  xs : List Happening
  h : Happening
  ys : List Happening
  parts : hs ≡ xs ++ (h ∷ ys)
  before : Bool
  to_it : after c xs a ≡ Some before
  by_it : moved c h before ≡ None

broken_behind : (c : Condition) (h : Happening) (hs : List Happening) (a : Bool) (o : Option Bool) → moved c h a ≡ o → ((b : Bool) → after c hs b ≡ None → IsBrokenAt c hs b)
    → onward o (after c hs) ≡ None → IsBrokenAt c (h ∷ hs) a
broken_behind c h hs a None m rest e = record { xs = []; h = h; ys = hs; parts = refl; before = a; to_it = refl; by_it = m }
broken_behind c h hs a (Some b) m rest e =
    let r = rest b e in
    record {
      xs = h ∷ r.xs;
      h = r.h;
      ys = r.ys;
      parts = ap (λ (l : List Happening). h ∷ l) r.parts;
      before = r.before;
      to_it = ap (λ (o : Option Bool). onward o (after c r.xs)) m ∙ r.to_it;
      by_it = r.by_it;
    }

broken_at : (c : Condition) (hs : List Happening) (a : Bool) → after c hs a ≡ None → IsBrokenAt c hs a
broken_at c [] a e = absurd cc
broken_at c (h ∷ hs) a e = broken_behind c h hs a (moved c h a) refl (λ b k. broken_at c hs b k) e

may_not_come : (h : Happening) (xs : List Happening) (b : Bool) → after Balanced xs false ≡ Some b → moved Balanced h b ≡ None → MayCome h xs → ⊥
may_not_come Sent xs true e m k = k (is_open xs e)
may_not_come Sent xs false e m k = absurd cc
may_not_come Received xs true e m k = absurd cc
may_not_come Received xs false e m k = not_open xs e k
may_not_come Taken xs b e m k = absurd cc
may_not_come Hoisted xs b e m k = absurd cc
may_not_come Stolen xs true e m k = k (is_open xs e)
may_not_come Stolen xs false e m k = absurd cc

not_covered : (h : Happening) (hs xs ys : List Happening) (b : Bool) → hs ≡ xs ++ (h ∷ ys) → after Covered xs false ≡ Some b → moved Covered h b ≡ None
    → ((us vs : List Happening) → hs ≡ us ++ (Taken ∷ vs) → latest is_gain_or_loss us ≡ Some Received) → ⊥
not_covered Sent hs xs ys b q e m k = absurd cc
not_covered Received hs xs ys b q e m k = absurd cc
not_covered Taken hs xs ys true q e m k = absurd cc
not_covered Taken hs xs ys false q e m k = not_come xs e (k xs ys q)
not_covered Hoisted hs xs ys b q e m k = absurd cc
not_covered Stolen hs xs ys b q e m k = absurd cc

not_used : (h : Happening) (hs xs ys : List Happening) (b : Bool) → hs ≡ xs ++ (h ∷ ys) → after Used xs false ≡ Some b → moved Used h b ≡ None
    → ((us vs : List Happening) → hs ≡ us ++ (Sent ∷ vs) → first is_use_or_loss vs ≢ Some Stolen) → ⊥
not_used Sent hs xs ys b q e m k = absurd cc
not_used Received hs xs ys b q e m k = absurd cc
not_used Taken hs xs ys b q e m k = absurd cc
not_used Hoisted hs xs ys b q e m k = absurd cc
not_used Stolen hs xs ys false q e m k = absurd cc
not_used Stolen hs xs ys true q e m k =
    let o = owed_from_start xs e in
    k o.xs (o.ys ++ (Stolen ∷ ys))
    (q ∙ (ap (λ (l : List Happening). l ++ (Stolen ∷ ys)) o.parts ∙ append_assoc o.xs (Sent ∷ o.ys) (Stolen ∷ ys)))
    (first_behind o.ys ys Stolen o.unused refl)

pub breaks : (c : Condition) (at_end : Type 0) (hs : List Happening) → after c hs false ≡ None → Keeps c at_end hs → ⊥
breaks Balanced at_end hs e k = let r = broken_at Balanced hs false e in may_not_come r.h r.xs r.before r.to_it r.by_it (k.along r.xs r.ys r.h r.parts)
breaks Covered at_end hs e k = let r = broken_at Covered hs false e in not_covered r.h hs r.xs r.ys r.before r.parts r.to_it r.by_it k.along
breaks Used at_end hs e k = let r = broken_at Used hs false e in not_used r.h hs r.xs r.ys r.before r.parts r.to_it r.by_it k.along

pub ends_wrong : (c : Condition) (at_end : Type 0) (hs : List Happening) (z : Bool) → after c hs false ≡ Some z → at_end → IsFalse (may_end c z) → Keeps c at_end hs → ⊥
ends_wrong Balanced at_end hs true e x f k = k.closed x (is_open hs e)
ends_wrong Balanced at_end hs false e x f k = absurd (true≢false f)
ends_wrong Covered at_end hs z e x f k = absurd (true≢false f)
ends_wrong Used at_end hs true e x f k = let o = owed_from_start hs e in k.comes x o.xs o.ys o.parts o.unused
ends_wrong Used at_end hs false e x f k = absurd (true≢false f)
