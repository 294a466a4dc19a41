-- Runs of events over states, and what they say of the lists
use Rattle.std.proofs.Common.{◌≡◌, ◌≢◌, Bool, true, false, IsTrue, IsFalse, List, [], ◌∷◌, ◌++◌, Option, Some, None, refl, sym, ◌∙◌, ap, subst, true≢false}
use Rattle.fd_prog.specs.Paths.{Happening, Sent, Received, Taken, Hoisted, Stolen}
use Rattle.fd_prog.specs.PathConditions.{latest, first, or_else, is_operation, is_gain_or_loss, is_use_or_loss, IsOpen, MayCome, IsKept}
use Rattle.gnt_solver.proofs.OneItem.{if_so}

-- whether a Sent is open, whether the nearest of Received and Stolen is a Received, whether a Sent wasn't used yet
pub record State : Type 0 where
  pub waits : Bool
  pub valid : Bool
  pub owed : Bool

abbrev pub IsOk : Happening → State → Type 0
IsOk Sent s = IsFalse s.waits
IsOk Received s = IsTrue s.waits
IsOk Taken s = IsTrue s.valid
IsOk Hoisted s = Unit {0}
IsOk Stolen s = IsFalse s.waits × IsFalse s.owed

abbrev pub next : Happening → State → State
next Sent s = record { waits = true; valid = s.valid; owed = true }
next Received s = record { waits = false; valid = true; owed = s.owed }
next Taken s = record { waits = s.waits; valid = s.valid; owed = false }
next Hoisted s = record { waits = s.waits; valid = s.valid; owed = false }
next Stolen s = record { waits = s.waits; valid = false; owed = s.owed }

pub data Run : List Happening → State → State → Type 0 where
  over : {s : State} → Run [] s s
  more : {e : Happening} {es : List Happening} {s r : State} → IsOk e s → Run es (next e s) r → Run (e ∷ es) s r

pub run_then : {xs ys : List Happening} {s m r : State} → Run xs s m → Run ys m r → Run (xs ++ ys) s r
run_then over b = b
run_then (more h a) b = more h (run_then a b)

abbrev pub perhaps : Bool → Happening → State → State
perhaps true e s = next e s
perhaps false e s = s

pub run_if : (b : Bool) (e : Happening) (s : State) → (IsTrue b → IsOk e s) → Run (if_so b e) s (perhaps b e s)
run_if true e s h = more (h refl) over
run_if false e s h = over

-- ---- from runs to lists

pub record Parted (xs : List Happening) (e : Happening) (ys : List Happening) (s r : State) : Type 0 where
  pub mid : State
  pub before : Run xs s mid
  pub ok : IsOk e mid
  pub after : Run ys (next e mid) r

first_of_more : {e : Happening} {es : List Happening} {s r : State} → Run (e ∷ es) s r → IsOk e s × Run es (next e s) r
first_of_more (more h a) = (h, a)

part : (xs : List Happening) (e : Happening) (ys : List Happening) (s r : State) → Run (xs ++ (e ∷ ys)) s r → Parted xs e ys s r
part [] e ys s r a = let p = first_of_more a in record { mid = s; before = over; ok = p.0; after = p.1 }
part (x ∷ xs) e ys s r a = let p = first_of_more a in let q = part xs e ys (next x s) r p.1 in
    record { mid = q.mid; before = more p.0 q.before; ok = q.ok; after = q.after }

part_at : (es xs : List Happening) (e : Happening) (ys : List Happening) (s r : State) → Run es s r → es ≡ xs ++ (e ∷ ys) → Parted xs e ys s r
part_at es xs e ys s r a h = part xs e ys s r (subst (λ (zs : List Happening). Run zs s r) h a)

abbrev is_send : Happening → Bool
is_send Sent = true
is_send e = false

abbrev is_recv : Happening → Bool
is_recv Received = true
is_recv e = false

abbrev waits_after : Option Happening → Bool → Bool
waits_after (Some e) b = is_send e
waits_after None b = b

abbrev valid_after : Option Happening → Bool → Bool
valid_after (Some e) b = is_recv e
valid_after None b = b

waits_step : (o : Option Happening) (e : Happening) (s : State) → waits_after o (next e s).waits ≡ waits_after (or_else o (is_operation e) e) s.waits
waits_step (Some d) e s = refl
waits_step None Sent s = refl
waits_step None Received s = refl
waits_step None Taken s = refl
waits_step None Hoisted s = refl
waits_step None Stolen s = refl

valid_step : (o : Option Happening) (e : Happening) (s : State) → valid_after o (next e s).valid ≡ valid_after (or_else o (is_gain_or_loss e) e) s.valid
valid_step (Some d) e s = refl
valid_step None Sent s = refl
valid_step None Received s = refl
valid_step None Taken s = refl
valid_step None Hoisted s = refl
valid_step None Stolen s = refl

run_waits : {es : List Happening} {s r : State} → Run es s r → r.waits ≡ waits_after (latest is_operation es) s.waits
run_waits over = refl
run_waits (more {e = e} {es = es} {s = s} h a) = run_waits a ∙ waits_step (latest is_operation es) e s

run_valid : {es : List Happening} {s r : State} → Run es s r → r.valid ≡ valid_after (latest is_gain_or_loss es) s.valid
run_valid over = refl
run_valid (more {e = e} {es = es} {s = s} h a) = run_valid a ∙ valid_step (latest is_gain_or_loss es) e s

abbrev pub nothing : State
nothing = record { waits = false; valid = false; owed = false }

open_iff : (o : Option Happening) → waits_after o false ≡ true → o ≡ Some Sent
open_iff (Some Sent) h = refl
open_iff (Some Received) h = absurd cc
open_iff (Some Taken) h = absurd cc
open_iff (Some Hoisted) h = absurd cc
open_iff (Some Stolen) h = absurd cc
open_iff None h = absurd cc

gained : (o : Option Happening) → valid_after o false ≡ true → o ≡ Some Received
gained (Some Received) h = refl
gained (Some Sent) h = absurd cc
gained (Some Taken) h = absurd cc
gained (Some Hoisted) h = absurd cc
gained (Some Stolen) h = absurd cc
gained None h = absurd cc

is_open : {xs : List Happening} {m : State} → Run xs nothing m → IsTrue m.waits → IsOpen xs
is_open {xs = xs} a h = open_iff (latest is_operation xs) (sym (run_waits a) ∙ h)

not_open : {xs : List Happening} {m : State} → Run xs nothing m → IsFalse m.waits → IsOpen xs → ⊥
not_open a h o = let e = ap (λ (z : Option Happening). waits_after z false) o in absurd (true≢false (sym e ∙ (sym (run_waits a) ∙ h)))

use_comes : {ys : List Happening} {s r : State} → Run ys s r → IsTrue s.owed → first is_use_or_loss ys ≢ Some Stolen
use_comes over h e = absurd cc
use_comes (more {e = Sent} k a) h e = use_comes a refl e
use_comes (more {e = Received} k a) h e = use_comes a h e
use_comes (more {e = Taken} k a) h e = absurd cc
use_comes (more {e = Hoisted} k a) h e = absurd cc
use_comes (more {e = Stolen} k a) h e = true≢false (sym h ∙ k.1)

use_came : {ys : List Happening} {s r : State} → Run ys s r → IsTrue s.owed → IsFalse r.owed → first is_use_or_loss ys ≢ None
use_came over h g e = true≢false (sym h ∙ g)
use_came (more {e = Sent} k a) h g e = use_came a refl g e
use_came (more {e = Received} k a) h g e = use_came a h g e
use_came (more {e = Taken} k a) h g e = absurd cc
use_came (more {e = Hoisted} k a) h g e = absurd cc
use_came (more {e = Stolen} k a) h g e = absurd cc

may_come : (e : Happening) (xs : List Happening) (m : State) → Run xs nothing m → IsOk e m → MayCome e xs
may_come Sent xs m a h = not_open a h
may_come Received xs m a h = is_open a h
may_come Taken xs m a h = tt
may_come Hoisted xs m a h = tt
may_come Stolen xs m a h = not_open a h.0

-- what runs along the states keeps the conditions; where the path ends at End, nothing may be open or owed there
pub kept : (at_end : Type 0) (hs : List Happening) (r : State) → Run hs nothing r → (at_end → IsFalse r.waits × IsFalse r.owed) → IsKept at_end hs
kept at_end hs r a end = record {
  balanced = record {
    along = λ xs ys h e. let p = part_at hs xs h ys nothing r a e in may_come h xs p.mid p.before p.ok;
    closed = λ e. not_open a (end e).0;
  };
  covered = record {
    along = λ xs ys e. let p = part_at hs xs Taken ys nothing r a e in gained (latest is_gain_or_loss xs) (sym (run_valid p.before) ∙ p.ok);
  };
  used = record {
    along = λ xs ys e. let p = part_at hs xs Sent ys nothing r a e in use_comes p.after refl;
    comes = λ z xs ys e. let p = part_at hs xs Sent ys nothing r a e in use_came p.after refl (end z).1;
  };
}
