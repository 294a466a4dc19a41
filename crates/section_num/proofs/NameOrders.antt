-- Names by the order that finds them.
use Rattle.std.proofs.Common.{◌≡◌, ℕ, Bool, true, false, cond, eqb, ltb, ◌||◌, List, [], ◌∷◌, length, get_or, take, refl, sym, ap, ◌∙◌, ◌<◌, ◌+◌, arith}
use Rattle.std.specs.BTreeSet.{insert_key}
use Rattle.std.specs.List.{list_any}
use Rattle.std.specs.Ordering.{is_eq, match_ordering, nat_cmp}
use Rattle.std.specs.declared.cmp.Ordering.{Ordering}
use Rattle.std.specs.declared.cmp.Ordering.TheVariants.{Less, Equal, Greater}
use Rattle.std.proofs.lemmas.Bool.Decides.{nat_tests}
use Rattle.std.proofs.lemmas.List.Folds.{list_any_more}
use Rattle.std.proofs.lemmas.Bool.{eqb-true}
use Rattle.fd_prog.specs.Items as items
use Rattle.fd_prog.specs.Items.{is_same_name}
use Rattle.section_num.specs.contracts.names.NameOrd.TheImpl as order
use Rattle.section_num.specs.declared.names.Name.{Name}
use Rattle.section_num.specs.declared.names.Name.TheVariants as stored
use Rattle.section_num.specs.KeptNames.{IsIndex, has, name_of}
use Rattle.section_num.proofs.NameLists.{any-each}

abbrev pub name_order : Name → Name → Ordering
name_order q k = (order.cmp-value).it q k

nat_same : (a b : ℕ) → is_eq (nat_cmp a b) ≡ eqb a b
nat_same a b = grind (arith, nat_tests)

-- what the order finds equal is one name
pub order_same : (q k : Name) → is_eq (name_order q k) ≡ is_same_name (name_of q) (name_of k)
order_same (stored.Scalar a) (stored.Scalar b) = nat_same a b
order_same (stored.Array a) (stored.Array b) = nat_same a b
order_same (stored.Decomp a) (stored.Decomp b) = nat_same a b
order_same (stored.Scalar a) (stored.Array b) = refl
order_same (stored.Scalar a) (stored.Decomp b) = refl
order_same (stored.Array a) (stored.Scalar b) = refl
order_same (stored.Array a) (stored.Decomp b) = refl
order_same (stored.Decomp a) (stored.Scalar b) = refl
order_same (stored.Decomp a) (stored.Array b) = refl

-- what is found is among the keys
pub found : (q : Name) (keys : List Name) → list_any (λ k. is_eq (name_order q k)) keys ≡ has keys q
found q keys = any-each (λ k. is_eq (name_order q k)) (λ k. is_same_name (name_of q) (name_of k)) keys (order_same q)

-- a key more
put_by : (p : Name → Bool) (k x : Name) (xs ys : List Name) → list_any p ys ≡ (p k || list_any p xs) → (o : Ordering) → (o ≡ Equal → p k ≡ p x) → list_any p (match_ordering o (k ∷ x ∷ xs) (x ∷ xs) (x ∷ ys)) ≡ (p k || (p x || list_any p xs))
put_by p k x xs ys h Less e = refl
put_by p k x xs ys h Equal e = ap (λ b. b || list_any p xs) (once (p x)) ∙ sym (again (p k) (p x) (list_any p xs) (e refl))
  where
    once : (b : Bool) → b ≡ b
    once b = refl

    again : (a b c : Bool) → a ≡ b → (a || (b || c)) ≡ (b || c)
    again true true c f = refl
    again false false c f = refl
    again true false c f = absurd cc
    again false true c f = absurd cc
put_by p k x xs ys h Greater e = ap (λ b. p x || b) h ∙ middle (p x) (p k) (list_any p xs)
  where
    middle : (a b c : Bool) → (a || (b || c)) ≡ (b || (a || c))
    middle true true c = refl
    middle true false c = refl
    middle false b c = refl

put_any : (p : Name → Bool) (k : Name) (xs : List Name) → ((x : Name) → name_order k x ≡ Equal → p k ≡ p x) → list_any p (insert_key name_order xs k) ≡ (p k || list_any p xs)
put_any p k [] h = refl
put_any p k (x ∷ xs) h = put_by p k x xs (insert_key name_order xs k) (put_any p k xs h) (name_order k x) (h x)

same_name : (m n : items.Name) → is_same_name m n ≡ true → m ≡ n
same_name (items.ScalarName a) (items.ScalarName b) h = ap items.ScalarName (eqb-true a b h)
same_name (items.ArrayName a) (items.ArrayName b) h = ap items.ArrayName (eqb-true a b h)
same_name (items.DecompName a) (items.DecompName b) h = ap items.DecompName (eqb-true a b h)
same_name (items.ScalarName a) (items.ArrayName b) h = absurd cc
same_name (items.ScalarName a) (items.DecompName b) h = absurd cc
same_name (items.ArrayName a) (items.ScalarName b) h = absurd cc
same_name (items.ArrayName a) (items.DecompName b) h = absurd cc
same_name (items.DecompName a) (items.ScalarName b) h = absurd cc
same_name (items.DecompName a) (items.ArrayName b) h = absurd cc

or_turned : (a b : Bool) → (a || b) ≡ (b || a)
or_turned true true = refl
or_turned true false = refl
or_turned false true = refl
or_turned false false = refl

-- an index with one name more
pub index_more : (keys after names : List Name) (i : ℕ) (d : Name) → i < length names → after ≡ insert_key name_order keys (get_or names i d) → IsIndex keys (take i names) → IsIndex after (take (i + 1) names)
index_more keys after names i d l e h = λ q.
    let p : Name → Bool = λ n. is_same_name (name_of q) (name_of n) in
    let k : Name = get_or names i d in
    let alike : (x : Name) → name_order k x ≡ Equal → p k ≡ p x =
    λ x f. ap (is_same_name (name_of q)) (same_name (name_of k) (name_of x) (sym (order_same k x) ∙ ap is_eq f)) in
    ap (λ (xs : List Name). has xs q) e ∙ (put_any p k keys alike ∙ (ap (λ b. p k || b) (h q) ∙ (or_turned (p k) (has (take i names) q) ∙ sym (list_any_more p names i d l))))
