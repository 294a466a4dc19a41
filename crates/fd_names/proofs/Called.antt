-- With parentheses a name is unknown on a line that makes it an array, and a function where nothing makes it one.
use Rattle.std.proofs.Common.{◌≡◌, ℕ, Bool, true, false, cond, List, [], ◌∷◌, ◌++◌, refl, sym, ap, ◌∙◌, subst, Option, None, Some, is_some, nat_lt, true≢false}
use Rattle.std.specs.List.{list_any}
use Rattle.std.specs.Str.{bytes_eq}
use Rattle.fd_base.specs.declared.numbering.Line.{Line}
use Rattle.fd_ast.specs.Tree.{DeclTree, ConstantDecl, IntegerDecl, DecompDecl, AlignDecl, DistributeDecl}
use Rattle.fd_names.specs.declared.book.Seen.{Seen}
use Rattle.fd_names.specs.declared.declarations.Base.{Base}
use Rattle.fd_names.specs.declared.names.Callee.TheVariants as callee
use Rattle.fd_names.specs.declared.names.Entry.{Entry}
use Rattle.fd_names.specs.declared.names.Kind.{Kind}
use Rattle.fd_names.specs.declared.names.Kind.TheVariants as kind
use Rattle.fd_names.specs.declared.names.Use.TheVariants as as_name
use Rattle.fd_names.specs.Checked.{nothing_seen}
use Rattle.fd_names.specs.Declarations.{constant_over, declare, declare_all, nothing_declared, see_decl, with_new, with_value}
use Rattle.fd_names.specs.Names.{Declared, callee_of, callee_of_func, callee_of_use, find_name, func_of, implied, is_implicit, is_made, use_of, use_of_entry, use_of_kind, with_entry}
use Rattle.fd_names.specs.Scope.{declared_between, is_array_made_on, makes_array}
use Rattle.fd_names.proofs.Early.{entry_found, or_left, or_right}
use Rattle.fd_names.proofs.Kept.{align_keeps, distribute_keeps}
use Rattle.fd_names.proofs.Scoped.{array_lines_between}

call_made : (d : Declared) (l : Line) (n : List ℕ) → is_made d.made_arrays l n ≡ true → callee_of d l n ≡ callee.Unknown
unfolding callee_of
call_made d l n h = ap (λ b. cond b callee.Unknown (callee_of_use (use_of d l n) n)) h

pub unknown_called : (before after : List DeclTree) (l : Line) (n : List ℕ) → is_array_made_on (before ++ after) l n ≡ true → callee_of (declared_between before after) l n ≡ callee.Unknown
unknown_called before after l n h = call_made (declared_between before after) l n (array_lines_between before after l n ∙ h)

-- ---- declarations that make a name no array

abbrev IsNoArray : Kind → Type 0
IsNoArray kind.Scalar = Unit {0}
IsNoArray (kind.Constant z) = Unit {0}
IsNoArray (kind.Array k d) = ⊥
IsNoArray (kind.Decomp k d) = Unit {0}

-- the entry that is found, if there is one, is no array's
abbrev FindsNone : Option Entry → Type 0
FindsNone None = Unit {0}
FindsNone (Some e) = IsNoArray e.kind

put_by : (e : Entry) (o : Option Entry) (b : Bool) → (b ≡ true → IsNoArray e.kind) → FindsNone o → FindsNone (cond b (Some e) o)
put_by e o true h p = h refl
put_by e o false h p = p

put : (d : Declared) (m n : List ℕ) (e : Entry) → (bytes_eq n m ≡ true → IsNoArray e.kind) → FindsNone (find_name d n) → FindsNone (find_name (with_entry d m e) n)
put d m n e h p = subst FindsNone (sym (entry_found d m n e)) (put_by e (find_name d n) (bytes_eq n m) h p)

put_new : (d : Declared) (m n : List ℕ) (e : Entry) → (bytes_eq n m ≡ true → IsNoArray e.kind) → FindsNone (find_name d n) → FindsNone (find_name (with_new d m e) n)
put_new d m n e h p = elim (is_some (find_name d m)) as (λ b. FindsNone (find_name (cond b d (with_entry d m e)) n)) [ true ↦ p | false ↦ put d m n e h p ]

put_over : (d : Declared) (m n : List ℕ) (e : Entry) (k : Kind) → (bytes_eq n m ≡ true → IsNoArray e.kind) → FindsNone (find_name d n) → FindsNone (find_name (constant_over k d m e) n)
put_over d m n e kind.Scalar h p = put d m n e h p
put_over d m n e (kind.Constant z) h p = p
put_over d m n e (kind.Array k a) h p = p
put_over d m n e (kind.Decomp k a) h p = p

put_value : (d : Declared) (m n : List ℕ) (e : Entry) (o : Option Entry) → (bytes_eq n m ≡ true → IsNoArray e.kind) → FindsNone (find_name d n) → FindsNone (find_name (with_value o d m e) n)
put_value d m n e None h p = put d m n e h p
put_value d m n e (Some old) h p = put_over d m n e old.kind h p

decl_none : (x : DeclTree) (s : Seen) (b : Base) (n : List ℕ) → makes_array n x ≡ false → FindsNone (find_name b.table n) → FindsNone (find_name (declare x s b).table n)
decl_none (ConstantDecl l m e) s b n h p = put_value b.table m n _ (find_name b.table m) (λ same. tt) p
decl_none (IntegerDecl l m []) s b n h p = put_new b.table m n _ (λ same. tt) p
decl_none (IntegerDecl l m (x ∷ xs)) s b n h p = put_new b.table m n _ (λ same. absurd (true≢false (sym same ∙ h))) p
decl_none (DecompDecl l m xs) s b n h p = put_new b.table m n _ (λ same. tt) p
decl_none (AlignDecl l m dummies target es) s b n h p = subst (λ (d : Declared). FindsNone (find_name d n)) (sym (align_keeps l m dummies target es s b).table) p
decl_none (DistributeDecl l m xs) s b n h p = subst (λ (d : Declared). FindsNone (find_name d n)) (sym (distribute_keeps l m xs s b).table) p

all_none : (xs : List DeclTree) (s : Seen) (b : Base) (n : List ℕ) → list_any (makes_array n) xs ≡ false → FindsNone (find_name b.table n) → FindsNone (find_name (declare_all xs s b).table n)
all_none [] s b n h p = p
all_none (x ∷ xs) s b n h p =
    let own = or_left (makes_array n x) (list_any (makes_array n) xs) h in
    all_none xs (see_decl b x s) (declare x s b) n (or_right (makes_array n x) (list_any (makes_array n) xs) h) (decl_none x s b n own p)

none_found : (xs : List DeclTree) (n : List ℕ) → FindsNone (find_name (nothing_declared xs).table n)
unfolding find_name
none_found xs n = tt

-- ---- what is no array is a function with parentheses

kind_called : (k : Kind) (n : List ℕ) → IsNoArray k → callee_of_use (use_of_kind k) n ≡ callee_of_func (func_of n)
kind_called kind.Scalar n h = refl
kind_called (kind.Constant z) n h = refl
kind_called (kind.Array k d) n h = absurd h
kind_called (kind.Decomp k d) n h = refl

implied_called : (n : List ℕ) → callee_of_use (implied n) n ≡ callee_of_func (func_of n)
implied_called n = elim (is_implicit n) as (λ b. callee_of_use (cond b as_name.Scalar as_name.Unknown) n ≡ callee_of_func (func_of n)) [ true ↦ refl | false ↦ refl ]

entry_called : (l : Line) (n : List ℕ) (o : Option Entry) → FindsNone o → callee_of_use (use_of_entry o l n) n ≡ callee_of_func (func_of n)
entry_called l n None h = implied_called n
entry_called l n (Some e) h = elim (nat_lt e.line.0 l.0) as (λ b. callee_of_use (cond b (use_of_kind e.kind) (implied n)) n ≡ callee_of_func (func_of n)) [ true ↦ kind_called e.kind n h | false ↦ implied_called n ]

use_called : (d : Declared) (l : Line) (n : List ℕ) → FindsNone (find_name d n) → callee_of_use (use_of d l n) n ≡ callee_of_func (func_of n)
unfolding use_of
use_called d l n h = elim (is_made d.made l n) as (λ b. callee_of_use (cond b as_name.Unknown (use_of_entry (find_name d n) l n)) n ≡ callee_of_func (func_of n)) [ true ↦ refl | false ↦ entry_called l n (find_name d n) h ]

call_free : (d : Declared) (l : Line) (n : List ℕ) → is_made d.made_arrays l n ≡ false → FindsNone (find_name d n) → callee_of d l n ≡ callee_of_func (func_of n)
unfolding callee_of
call_free d l n free h = ap (λ b. cond b callee.Unknown (callee_of_use (use_of d l n) n)) free ∙ use_called d l n h

pub functions_stand : (before after : List DeclTree) (l : Line) (n : List ℕ) → is_array_made_on (before ++ after) l n ≡ false → list_any (makes_array n) before ≡ false → callee_of (declared_between before after) l n ≡ callee_of_func (func_of n)
functions_stand before after l n free none =
    let found = all_none before nothing_seen (nothing_declared (before ++ after)) n none (none_found (before ++ after) n) in
    call_free (declared_between before after) l n (array_lines_between before after l n ∙ free) found
