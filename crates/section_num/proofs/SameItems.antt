-- Items that are equal by their order are one item.
use Rattle.std.proofs.Common.{◌≡◌, ℕ, ◌+◌, Bool, true, false, List, [], ◌∷◌, refl, sym, ap, ◌∙◌}
use Rattle.std.specs.Ordering.{is_eq, nat_cmp, ordering_then, ordering_reverse}
use Rattle.std.specs.declared.cmp.Ordering.{Ordering}
use Rattle.std.specs.declared.cmp.Ordering.TheVariants.{Less, Equal, Greater}
use Rattle.std.proofs.lemmas.Cmp.{nat_cmp_total}
use Rattle.fd_prog.specs.Forms.{LinearForm, LinearForms, ElementOf, ProductOf, form_order, forms_order}
use Rattle.fd_prog.specs.Homes.{Executor, EveryRank, RankZero, OwnerOf}
use Rattle.fd_prog.specs.Items.{LinearItem, LinearLoop, executor_order, is_same_item, item_order, location_order, loop_order, loops_order}
use Rattle.fd_prog.proofs.FormOrders.{nat_same, form_same, forms_same}
use Rattle.fd_prog.proofs.TotalOrder.{atom_order_total}

both_equal : (o p : Ordering) → ordering_then o p ≡ Equal → (o ≡ Equal) × (p ≡ Equal)
both_equal Less p h = absurd cc
both_equal Equal p h = (refl, h)
both_equal Greater p h = absurd cc

equal_then : (o p : Ordering) → o ≡ Equal → p ≡ Equal → ordering_then o p ≡ Equal
equal_then o p e f = ap (λ x. ordering_then x p) e ∙ f

own_reverse : (o : Ordering) → o ≡ ordering_reverse o → o ≡ Equal
own_reverse Less h = absurd cc
own_reverse Equal h = refl
own_reverse Greater h = absurd cc

is_equal : (o : Ordering) → is_eq o ≡ true → o ≡ Equal
is_equal Less h = absurd cc
is_equal Equal h = refl
is_equal Greater h = absurd cc

-- ---- what is compared is equal to itself

nat_self : (n : ℕ) → nat_cmp n n ≡ Equal
nat_self n = own_reverse (nat_cmp n n) (nat_cmp_total.antisymm n n)

form_self : (f : LinearForm) → form_order f f ≡ Equal
form_self f = (both_equal (form_order f f) (form_order f f) (own_reverse _ (atom_order_total.antisymm (ProductOf f f) (ProductOf f f)))).0

forms_self : (fs : LinearForms) → forms_order fs fs ≡ Equal
forms_self fs = own_reverse _ (atom_order_total.antisymm (ElementOf 0 fs) (ElementOf 0 fs))

loops_self : (ls : List LinearLoop) → loops_order ls ls ≡ Equal
loops_self [] = refl
loops_self (l ∷ ls) =
    equal_then (loop_order l l) (loops_order ls ls)
    (equal_then (form_order l.first l.first) (ordering_then (form_order l.last l.last) (form_order l.step l.step)) (form_self l.first)
    (equal_then (form_order l.last l.last) (form_order l.step l.step) (form_self l.last) (form_self l.step)))
    (loops_self ls)

executor_self : (h : Executor) → executor_order h h ≡ Equal
executor_self EveryRank = refl
executor_self RankZero = refl
executor_self (OwnerOf l) = equal_then (nat_cmp l.decomp l.decomp) (form_order l.form l.form) (nat_self l.decomp) (form_self l.form)

pub item_self : (x : LinearItem) → is_same_item x x ≡ true
item_self x =
    ap is_eq (equal_then (nat_cmp x.array x.array) (ordering_then (forms_order x.subs x.subs) (ordering_then (loops_order x.loops x.loops) (executor_order x.home x.home))) (nat_self x.array)
    (equal_then (forms_order x.subs x.subs) (ordering_then (loops_order x.loops x.loops) (executor_order x.home x.home)) (forms_self x.subs)
    (equal_then (loops_order x.loops x.loops) (executor_order x.home x.home) (loops_self x.loops) (executor_self x.home))))

-- ---- what is equal is one

loop_same : (l m : LinearLoop) → loop_order l m ≡ Equal → l ≡ m
loop_same l m h =
    let p = both_equal (form_order l.first m.first) (ordering_then (form_order l.last m.last) (form_order l.step m.step)) h in
    let q = both_equal (form_order l.last m.last) (form_order l.step m.step) p.1 in
    ap (λ f. record { first = f; last = l.last; step = l.step }) (form_same l.first m.first p.0)
    ∙ (ap (λ f. record { first = m.first; last = f; step = l.step }) (form_same l.last m.last q.0) ∙ ap (λ f. record { first = m.first; last = m.last; step = f }) (form_same l.step m.step q.1))

loops_same : (ls ms : List LinearLoop) → loops_order ls ms ≡ Equal → ls ≡ ms
loops_same [] [] h = refl
loops_same [] (m ∷ ms) h = absurd cc
loops_same (l ∷ ls) [] h = absurd cc
loops_same (l ∷ ls) (m ∷ ms) h =
    let p = both_equal (loop_order l m) (loops_order ls ms) h in
    ap (λ x. x ∷ ls) (loop_same l m p.0) ∙ ap (λ xs. m ∷ xs) (loops_same ls ms p.1)

executor_same : (h k : Executor) → executor_order h k ≡ Equal → h ≡ k
executor_same EveryRank EveryRank e = refl
executor_same RankZero RankZero e = refl
executor_same (OwnerOf l) (OwnerOf m) e =
    let p = both_equal (nat_cmp l.decomp m.decomp) (form_order l.form m.form) e in
    ap (λ d. OwnerOf (record { decomp = d; form = l.form })) (nat_same l.decomp m.decomp p.0) ∙ ap (λ f. OwnerOf (record { decomp = m.decomp; form = f })) (form_same l.form m.form p.1)
executor_same h k e = absurd cc

pub item_same : (x y : LinearItem) → is_same_item x y ≡ true → x ≡ y
item_same x y h =
    let p = both_equal (nat_cmp x.array y.array) (ordering_then (forms_order x.subs y.subs) (ordering_then (loops_order x.loops y.loops) (executor_order x.home y.home))) (is_equal (item_order x y) h) in
    let q = both_equal (forms_order x.subs y.subs) (ordering_then (loops_order x.loops y.loops) (executor_order x.home y.home)) p.1 in
    let r = both_equal (loops_order x.loops y.loops) (executor_order x.home y.home) q.1 in
    ap (λ a. record { array = a; subs = x.subs; loops = x.loops; home = x.home }) (nat_same x.array y.array p.0)
    ∙ (ap (λ fs. record { array = y.array; subs = fs; loops = x.loops; home = x.home }) (forms_same x.subs y.subs q.0)
    ∙ (ap (λ ls. record { array = y.array; subs = y.subs; loops = ls; home = x.home }) (loops_same x.loops y.loops r.0)
    ∙ ap (λ e. record { array = y.array; subs = y.subs; loops = y.loops; home = e }) (executor_same x.home y.home r.1)))
