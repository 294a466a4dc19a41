-- The order of items is a total order: it is that of one atom for each item.
use Rattle.std.proofs.Common.{◌≡◌, ◌<◌, ℕ, suc, List, [], ◌∷◌, refl, sym, ap, ◌∙◌}
use Rattle.std.specs.Prelude.{pos}
use Rattle.std.specs.Cmp.{IsTotalOrder, nat_cmp_is}
use Rattle.std.specs.Ordering.{nat_cmp, ordering_reverse, ordering_then}
use Rattle.std.specs.declared.cmp.Ordering.{Ordering}
use Rattle.std.specs.declared.cmp.Ordering.TheVariants.{Less, Equal, Greater}
use Rattle.std.proofs.lemmas.Bool.Decides.{nat_tests}
use Rattle.std.proofs.Common.{arith}
use Rattle.fd_prog.specs.Forms.{LinearAtom, ElementOf, LinearForm, Sum, NoTerms, Term, LinearForms, NoForms, Part, atom_order, form_order, forms_order}
use Rattle.fd_prog.specs.Homes.{Executor, EveryRank, RankZero, OwnerOf}
use Rattle.fd_prog.specs.Items.{LinearItem, LinearLoop, executor_order, item_order, loop_order, loops_order}
use Rattle.fd_prog.proofs.TotalOrder.{atom_order_total}

then_equal : (o : Ordering) → ordering_then o Equal ≡ o
then_equal Less = refl
then_equal Equal = refl
then_equal Greater = refl

then_then : (o p q : Ordering) → ordering_then (ordering_then o p) q ≡ ordering_then o (ordering_then p q)
then_then Less p q = refl
then_then Equal p q = refl
then_then Greater p q = refl

-- a form that has an atom alone
abbrev of_atom : LinearAtom → LinearForm
of_atom a = Sum (Term (pos 1) a NoTerms) (pos 0)

-- the bounds of loops in a row
abbrev forms_of_loops : List LinearLoop → LinearForms
forms_of_loops [] = NoForms
forms_of_loops (l ∷ ls) = Part l.first (Part l.last (Part l.step (forms_of_loops ls)))

abbrev atom_of_home : Executor → LinearAtom
atom_of_home EveryRank = ElementOf 0 NoForms
atom_of_home RankZero = ElementOf 1 NoForms
atom_of_home (OwnerOf l) = ElementOf (suc (suc l.decomp)) (Part l.form NoForms)

abbrev atom_of_item : LinearItem → LinearAtom
atom_of_item x = ElementOf x.array (Part (of_atom (ElementOf 0 x.subs)) (Part (of_atom (ElementOf 0 (forms_of_loops x.loops))) (Part (of_atom (atom_of_home x.home)) NoForms)))

atom_forms : (a b : LinearAtom) → form_order (of_atom a) (of_atom b) ≡ atom_order a b
atom_forms a b = then_equal (ordering_then (atom_order a b) Equal) ∙ then_equal (atom_order a b)

loops_are : (ls ms : List LinearLoop) → loops_order ls ms ≡ forms_order (forms_of_loops ls) (forms_of_loops ms)
loops_are [] [] = refl
loops_are [] (m ∷ ms) = refl
loops_are (l ∷ ls) [] = refl
loops_are (l ∷ ls) (m ∷ ms) =
    let first = form_order l.first m.first in
    let last = form_order l.last m.last in
    let step = form_order l.step m.step in
    then_then first (ordering_then last step) (loops_order ls ms) ∙ ap (ordering_then first) (then_then last step (loops_order ls ms) ∙ ap (λ r. ordering_then last (ordering_then step r)) (loops_are ls ms))

two_more : (a b : ℕ) → nat_cmp a b ≡ nat_cmp (suc (suc a)) (suc (suc b))
two_more a b = grind (arith, nat_tests)

lower : (a b : ℕ) → a < b → nat_cmp a b ≡ Less
lower a b h = sym (nat_cmp_is a b Less h)

higher : (a b : ℕ) → b < a → nat_cmp a b ≡ Greater
higher a b h = sym (nat_cmp_is a b Greater h)

homes_are : (g k : Executor) → executor_order g k ≡ atom_order (atom_of_home g) (atom_of_home k)
homes_are EveryRank EveryRank = refl
homes_are EveryRank RankZero = refl
homes_are EveryRank (OwnerOf m) = lower 0 2 (omega arith) ∙ sym (ap (λ o. ordering_then o Less) (lower 0 (suc (suc m.decomp)) (omega arith)))
homes_are RankZero EveryRank = refl
homes_are RankZero RankZero = refl
homes_are RankZero (OwnerOf m) = lower 1 2 (omega arith) ∙ sym (ap (λ o. ordering_then o Less) (lower 1 (suc (suc m.decomp)) (omega arith)))
homes_are (OwnerOf l) EveryRank = higher 2 0 (omega arith) ∙ sym (ap (λ o. ordering_then o Greater) (higher (suc (suc l.decomp)) 0 (omega arith)))
homes_are (OwnerOf l) RankZero = higher 2 1 (omega arith) ∙ sym (ap (λ o. ordering_then o Greater) (higher (suc (suc l.decomp)) 1 (omega arith)))
homes_are (OwnerOf l) (OwnerOf m) =
    ap (λ o. ordering_then o (form_order l.form m.form)) (two_more l.decomp m.decomp) ∙ ap (ordering_then (nat_cmp (suc (suc l.decomp)) (suc (suc m.decomp)))) (sym (then_equal (form_order l.form m.form)))

items_are : (x y : LinearItem) → item_order x y ≡ atom_order (atom_of_item x) (atom_of_item y)
items_are x y =
    let subs = atom_forms (ElementOf 0 x.subs) (ElementOf 0 y.subs) in
    let loops = atom_forms (ElementOf 0 (forms_of_loops x.loops)) (ElementOf 0 (forms_of_loops y.loops)) in
    let homes = atom_forms (atom_of_home x.home) (atom_of_home y.home) in
    ap (ordering_then (nat_cmp x.array y.array))
    (ap (λ o. ordering_then o (ordering_then (loops_order x.loops y.loops) (executor_order x.home y.home))) (sym subs)
    ∙ ap (ordering_then (form_order (of_atom (ElementOf 0 x.subs)) (of_atom (ElementOf 0 y.subs))))
    (ap (λ o. ordering_then o (executor_order x.home y.home)) (loops_are x.loops y.loops ∙ sym loops)
    ∙ ap (ordering_then (form_order (of_atom (ElementOf 0 (forms_of_loops x.loops))) (of_atom (ElementOf 0 (forms_of_loops y.loops))))) (homes_are x.home y.home ∙ sym homes ∙ sym (then_equal _))))

pub item_order_total : IsTotalOrder item_order
item_order_total = record {
  antisymm = λ x y. items_are x y ∙ (atom_order_total.antisymm (atom_of_item x) (atom_of_item y) ∙ ap ordering_reverse (sym (items_are y x)));
  trans = λ x y z g k. items_are x z ∙ atom_order_total.trans (atom_of_item x) (atom_of_item y) (atom_of_item z) (sym (items_are x y) ∙ g) (sym (items_are y z) ∙ k);
  congr = λ x y z e. items_are x z ∙ (atom_order_total.congr (atom_of_item x) (atom_of_item y) (atom_of_item z) (sym (items_are x y) ∙ e) ∙ sym (items_are y z));
}
