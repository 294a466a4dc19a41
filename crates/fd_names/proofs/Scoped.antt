-- A name that is used is declared on an earlier line, and isn't known on a line that makes it an array, a decomposition or a constant.
use Rattle.std.proofs.Common.{◌≡◌, ℕ, Bool, true, false, cond, ◌||◌, ◌&&◌, List, [], ◌∷◌, ◌++◌, refl, sym, ap, ◌∙◌, subst, Option, None, Some, is_some, nat_eq, nat_lt, append_assoc, true≢false}
use Rattle.std.proofs.lemmas.Bool.{eq-eqb, eqb-true}
use Rattle.std.proofs.lemmas.List.{append-nil}
use Rattle.std.proofs.lemmas.List.Folds.{list_any-append}
use Rattle.std.specs.List.{list_any}
use Rattle.std.specs.Map.{lookup}
use Rattle.std.specs.Str.{bytes_eq}
use Rattle.std.specs.Cmp.Lexicographic.{same_text}
use Rattle.indexmap.specs.IndexMap.{insert_entry}
use Rattle.indexmap.specs.IndexSet.{insert_key}
use Rattle.fd_base.specs.declared.numbering.Line.{Line}
use Rattle.fd_ast.specs.Tree.{DeclTree, ConstantDecl, IntegerDecl, DecompDecl, AlignDecl, DistributeDecl}
use Rattle.fd_names.specs.declared.book.Seen.{Seen}
use Rattle.fd_names.specs.declared.declarations.Base.{Base}
use Rattle.fd_names.specs.declared.names.Entry.{Entry}
use Rattle.fd_names.specs.declared.names.Kind.{Kind}
use Rattle.fd_names.specs.declared.names.Kind.TheVariants as kind
use Rattle.fd_names.specs.declared.names.Use.TheVariants as as_name
use Rattle.fd_names.specs.Checked.{nothing_seen}
use Rattle.fd_names.specs.Declarations.{constant_over, declare, declare_all, line_of, make, make_all, make_array, make_arrays, nothing_declared, see_decl, with_new, with_value}
use Rattle.fd_names.specs.Names.{Declared, Entries, Lines, find_name, implied, is_implicit, is_made, lines_of, or_no_lines, use_of, use_of_entry, use_of_kind, with_entry, with_made}
use Rattle.fd_names.specs.Scope.{IsKnownBy, declared_between, declares, is_array_made_on, is_declared_before, is_made_on, makes, makes_array}
use Rattle.fd_names.proofs.Kept.{align_keeps, distribute_keeps}

pub same_name : (n m : List ℕ) → bytes_eq n m ≡ true → n ≡ m
same_name n m h = same_text n m (sym h)

-- ---- names that become something on a line

once_more : {X : Type 0} (b : Bool) (x y : X) (r : Option X) → cond b (Some x) r ≡ cond b (Some x) (cond b (Some y) r)
once_more true x y r = refl
once_more false x y r = refl

-- two tests of one name on two names that differ don't both pass
apart : {X : Type 0} (p q : Bool) (x y : X) (r s : Option X) → (p ≡ true → q ≡ true → ⊥) → r ≡ cond q (Some x) s → cond p (Some y) r ≡ cond q (Some x) (cond p (Some y) s)
apart true true x y r s h e = absurd (h refl refl)
apart true false x y r s h e = refl
apart false true x y r s h e = e
apart false false x y r s h e = e

-- what is found once a name has its lines
pub put_found : {X : Type 0} (ms : List (List ℕ × X)) (n m : List ℕ) (x : X) → lookup (bytes_eq m) (insert_entry bytes_eq ms n x) ≡ cond (bytes_eq m n) (Some x) (lookup (bytes_eq m) ms)
put_found [] n m x = refl
put_found (e ∷ ms) n m x = by (bytes_eq n e.0) refl (put_found ms n m x)
  where
    by : (b : Bool) → bytes_eq n e.0 ≡ b → lookup (bytes_eq m) (insert_entry bytes_eq ms n x) ≡ cond (bytes_eq m n) (Some x) (lookup (bytes_eq m) ms) → lookup (bytes_eq m) (cond b ((e.0, x) ∷ ms) (e ∷ insert_entry bytes_eq ms n x)) ≡ cond (bytes_eq m n) (Some x) (cond (bytes_eq m e.0) (Some e.1) (lookup (bytes_eq m) ms))
    by true q rest =
        let same = same_name n e.0 q in
        subst (λ (k : List ℕ). cond (bytes_eq m e.0) (Some x) (lookup (bytes_eq m) ms) ≡ cond (bytes_eq m k) (Some x) (cond (bytes_eq m e.0) (Some e.1) (lookup (bytes_eq m) ms))) (sym same) (once_more (bytes_eq m e.0) x e.1 (lookup (bytes_eq m) ms))
    by false q rest =
        apart (bytes_eq m e.0) (bytes_eq m n) x e.1 (lookup (bytes_eq m) (insert_entry bytes_eq ms n x)) (lookup (bytes_eq m) ms)
        (λ p r. let eq : bytes_eq n e.0 ≡ true = ap (λ (k : List ℕ). bytes_eq k e.0) (sym (same_name m n r)) ∙ p in true≢false (sym eq ∙ q))
        rest

swapped : (a b c : Bool) → (a || (b || c)) ≡ (b || (a || c))
swapped true true c = refl
swapped true false c = refl
swapped false true c = refl
swapped false false c = refl

added_last : (k x : ℕ) (xs : List ℕ) → list_any (nat_eq k) (xs ++ x ∷ []) ≡ (nat_eq k x || list_any (nat_eq k) xs)
added_last k x [] = refl
added_last k x (y ∷ ys) = ap (λ b. nat_eq k y || b) (added_last k x ys) ∙ swapped (nat_eq k y) (nat_eq k x) (list_any (nat_eq k) ys)

-- a line more is found beside the others
key_found : (k x : ℕ) (xs : List ℕ) → list_any (nat_eq k) (insert_key nat_eq xs x) ≡ (nat_eq k x || list_any (nat_eq k) xs)
key_found k x xs = by (list_any (nat_eq x) xs) refl (nat_eq k x) refl
  where
    by : (b : Bool) → list_any (nat_eq x) xs ≡ b → (c : Bool) → nat_eq k x ≡ c → list_any (nat_eq k) (cond b xs (xs ++ x ∷ [])) ≡ (c || list_any (nat_eq k) xs)
    by true p true q = ap (λ (y : ℕ). list_any (nat_eq y) xs) (eqb-true k x q) ∙ p
    by true p false q = refl
    by false p c q = added_last k x xs ∙ ap (λ b. b || list_any (nat_eq k) xs) q

made_by : (b : Bool) (ms : Lines) (k : Line) (m n : List ℕ) (x : ℕ) → bytes_eq m n ≡ b → list_any (nat_eq k.0) (or_no_lines (cond b (Some (insert_key nat_eq (lines_of ms n) x)) (lookup (bytes_eq m) ms))) ≡ ((b && nat_eq k.0 x) || list_any (nat_eq k.0) (lines_of ms m))
made_by true ms k m n x e = key_found k.0 x (lines_of ms n) ∙ ap (λ (j : List ℕ). nat_eq k.0 x || list_any (nat_eq k.0) (lines_of ms j)) (sym (same_name m n e))
made_by false ms k m n x e = refl

made_one : (ms : Lines) (k l : Line) (m n : List ℕ) → is_made (with_made ms n l) k m ≡ ((bytes_eq m n && nat_eq k.0 l.0) || is_made ms k m)
unfolding is_made with_made
made_one ms k l m n = ap (λ o. list_any (nat_eq k.0) (or_no_lines o)) (put_found ms n m (insert_key nat_eq (lines_of ms n) l.0)) ∙ made_by (bytes_eq m n) ms k m n l.0 refl

make_one : (x : DeclTree) (ms : Lines) (k : Line) (m : List ℕ) → is_made (make x ms) k m ≡ ((makes m x && nat_eq k.0 (line_of x).0) || is_made ms k m)
make_one (ConstantDecl l n e) ms k m = made_one ms k l m n
make_one (IntegerDecl l n []) ms k m = refl
make_one (IntegerDecl l n (x ∷ xs)) ms k m = made_one ms k l m n
make_one (DecompDecl l n xs) ms k m = made_one ms k l m n
make_one (AlignDecl l n dummies target es) ms k m = refl
make_one (DistributeDecl l n xs) ms k m = refl

turned : (a b c : Bool) → (a || (b || c)) ≡ ((b || a) || c)
turned true true c = refl
turned true false c = refl
turned false true c = refl
turned false false c = refl

make_more : (xs : List DeclTree) (ms : Lines) (k : Line) (m : List ℕ) → is_made (make_all xs ms) k m ≡ (is_made_on xs k m || is_made ms k m)
make_more [] ms k m = refl
make_more (x ∷ xs) ms k m = make_more xs (make x ms) k m ∙ (ap (λ b. is_made_on xs k m || b) (make_one x ms k m) ∙ turned (is_made_on xs k m) (makes m x && nat_eq k.0 (line_of x).0) (is_made ms k m))

or_false : (b : Bool) → (b || false) ≡ b
or_false true = refl
or_false false = refl

none_made : (k : Line) (m : List ℕ) → is_made [] k m ≡ false
unfolding is_made
none_made k m = refl

-- the lines that the code keeps are those of the declarations
pub made_all : (xs : List DeclTree) (k : Line) (m : List ℕ) → is_made (make_all xs []) k m ≡ is_made_on xs k m
made_all xs k m = make_more xs [] k m ∙ (ap (λ b. is_made_on xs k m || b) (none_made k m) ∙ or_false (is_made_on xs k m))

-- the same of arrays alone
array_one : (x : DeclTree) (ms : Lines) (k : Line) (m : List ℕ) → is_made (make_array x ms) k m ≡ ((makes_array m x && nat_eq k.0 (line_of x).0) || is_made ms k m)
array_one (ConstantDecl l n e) ms k m = refl
array_one (IntegerDecl l n []) ms k m = refl
array_one (IntegerDecl l n (x ∷ xs)) ms k m = made_one ms k l m n
array_one (DecompDecl l n xs) ms k m = refl
array_one (AlignDecl l n dummies target es) ms k m = refl
array_one (DistributeDecl l n xs) ms k m = refl

arrays_more : (xs : List DeclTree) (ms : Lines) (k : Line) (m : List ℕ) → is_made (make_arrays xs ms) k m ≡ (is_array_made_on xs k m || is_made ms k m)
arrays_more [] ms k m = refl
arrays_more (x ∷ xs) ms k m = arrays_more xs (make_array x ms) k m ∙ (ap (λ b. is_array_made_on xs k m || b) (array_one x ms k m) ∙ turned (is_array_made_on xs k m) (makes_array m x && nat_eq k.0 (line_of x).0) (is_made ms k m))

arrays_made : (xs : List DeclTree) (k : Line) (m : List ℕ) → is_made (make_arrays xs []) k m ≡ is_array_made_on xs k m
arrays_made xs k m = arrays_more xs [] k m ∙ (ap (λ b. is_array_made_on xs k m || b) (none_made k m) ∙ or_false (is_array_made_on xs k m))

-- ---- declarations change no such line

pub record KeepsLines (d e : Declared) : Type 0 where
  pub made : e.made ≡ d.made
  pub made_arrays : e.made_arrays ≡ d.made_arrays

same_lines : (d : Declared) → KeepsLines d d
same_lines d = record { made = refl; made_arrays = refl }

entry_keeps : (d : Declared) (n : List ℕ) (e : Entry) → KeepsLines d (with_entry d n e)
unfolding with_entry
entry_keeps d n e = record { made = refl; made_arrays = refl }

new_keeps : (d : Declared) (n : List ℕ) (e : Entry) → KeepsLines d (with_new d n e)
new_keeps d n e = elim (is_some (find_name d n)) as (λ b. KeepsLines d (cond b d (with_entry d n e))) [ true ↦ same_lines d | false ↦ entry_keeps d n e ]

over_keeps : (k : Kind) (d : Declared) (n : List ℕ) (e : Entry) → KeepsLines d (constant_over k d n e)
over_keeps kind.Scalar d n e = entry_keeps d n e
over_keeps (kind.Constant z) d n e = same_lines d
over_keeps (kind.Array k a) d n e = same_lines d
over_keeps (kind.Decomp k a) d n e = same_lines d

value_keeps : (o : Option Entry) (d : Declared) (n : List ℕ) (e : Entry) → KeepsLines d (with_value o d n e)
value_keeps None d n e = entry_keeps d n e
value_keeps (Some old) d n e = over_keeps old.kind d n e

same_table : (d e : Declared) → e ≡ d → KeepsLines d e
same_table d e h = record { made = ap (λ (t : Declared). t.made) h; made_arrays = ap (λ (t : Declared). t.made_arrays) h }

decl_keeps : (x : DeclTree) (s : Seen) (b : Base) → KeepsLines b.table (declare x s b).table
decl_keeps (ConstantDecl l n e) s b = value_keeps (find_name b.table n) b.table n _
decl_keeps (IntegerDecl l n []) s b = new_keeps b.table n _
decl_keeps (IntegerDecl l n (x ∷ xs)) s b = new_keeps b.table n _
decl_keeps (DecompDecl l n xs) s b = new_keeps b.table n _
decl_keeps (AlignDecl l n dummies target es) s b = same_table b.table (declare (AlignDecl l n dummies target es) s b).table (align_keeps l n dummies target es s b).table
decl_keeps (DistributeDecl l n xs) s b = same_table b.table (declare (DistributeDecl l n xs) s b).table (distribute_keeps l n xs s b).table

pub all_keep : (xs : List DeclTree) (s : Seen) (b : Base) → KeepsLines b.table (declare_all xs s b).table
all_keep [] s b = same_lines b.table
all_keep (x ∷ xs) s b =
    let first = decl_keeps x s b in
    let rest = all_keep xs (see_decl b x s) (declare x s b) in
    record { made = rest.made ∙ first.made; made_arrays = rest.made_arrays ∙ first.made_arrays }

-- what is declared between declarations has the lines of all of them
pub lines_between : (before after : List DeclTree) (l : Line) (n : List ℕ) → is_made (declared_between before after).made l n ≡ is_made_on (before ++ after) l n
lines_between before after l n = ap (λ (ms : Lines). is_made ms l n) (all_keep before nothing_seen (nothing_declared (before ++ after))).made ∙ made_all (before ++ after) l n

pub array_lines_between : (before after : List DeclTree) (l : Line) (n : List ℕ) → is_made (declared_between before after).made_arrays l n ≡ is_array_made_on (before ++ after) l n
array_lines_between before after l n = ap (λ (ms : Lines). is_made ms l n) (all_keep before nothing_seen (nothing_declared (before ++ after))).made_arrays ∙ arrays_made (before ++ after) l n

use_made : (d : Declared) (l : Line) (n : List ℕ) → is_made d.made l n ≡ true → use_of d l n ≡ as_name.Unknown
unfolding use_of
use_made d l n h = ap (λ b. cond b as_name.Unknown (use_of_entry (find_name d n) l n)) h

pub unknown_where_made : (before after : List DeclTree) (l : Line) (n : List ℕ) → is_made_on (before ++ after) l n ≡ true → use_of (declared_between before after) l n ≡ as_name.Unknown
unknown_where_made before after l n h = use_made (declared_between before after) l n (lines_between before after l n ∙ h)

-- ---- the line of an entry is that of a declaration of its name

abbrev is_declared_on : List DeclTree → Line → List ℕ → Bool
is_declared_on xs l n = list_any (λ x. declares n x && nat_eq (line_of x).0 l.0) xs

abbrev AreFrom : List DeclTree → Entries → Type 0
AreFrom xs [] = Unit {0}
AreFrom xs (e ∷ es) = (is_declared_on xs e.1.line e.0 ≡ true) × AreFrom xs es

abbrev IsFrom : List DeclTree → Declared → Type 0
IsFrom xs d = AreFrom xs d.entries

found_step : (xs : List DeclTree) (n : List ℕ) (x : List ℕ × Entry) (rest : Option Entry) (e : Entry) (b : Bool) → bytes_eq n x.0 ≡ b → is_declared_on xs x.1.line x.0 ≡ true → (rest ≡ Some e → is_declared_on xs e.line n ≡ true) → cond b (Some x.1) rest ≡ Some e → is_declared_on xs e.line n ≡ true
found_step xs n x rest e true q h more f =
    let same : x.1 ≡ e = cc in
    let P : Entry → Type 0 = λ y. is_declared_on xs y.line n ≡ true in
    let Q : List ℕ → Type 0 = λ m. is_declared_on xs x.1.line m ≡ true in
    subst P same (subst Q (sym (same_name n x.0 q)) h)
found_step xs n x rest e false q h more f = more f

found_by : (xs : List DeclTree) (es : Entries) (n : List ℕ) (e : Entry) → AreFrom xs es → lookup (bytes_eq n) es ≡ Some e → is_declared_on xs e.line n ≡ true
found_by xs [] n e h f = absurd cc
found_by xs (x ∷ es) n e h f = found_step xs n x (lookup (bytes_eq n) es) e (bytes_eq n x.0) refl h.0 (found_by xs es n e h.1) f

found : (xs : List DeclTree) (d : Declared) (n : List ℕ) (e : Entry) → IsFrom xs d → find_name d n ≡ Some e → is_declared_on xs e.line n ≡ true
unfolding find_name
found xs d n e h f = found_by xs d.entries n e h f

-- a declaration on a line before is one before
before_by : (c p q : Bool) → (p ≡ true → q ≡ true) → (c && p) ≡ true → (c && q) ≡ true
before_by true p q f h = f h
before_by false p q f h = absurd cc

or_left : (a b : Bool) → a ≡ true → (a || b) ≡ true
or_left true b h = refl
or_left false b h = absurd cc

or_right : (a b : Bool) → b ≡ true → (a || b) ≡ true
or_right true b h = refl
or_right false b h = h

or_by : (a b c d : Bool) → (a ≡ true → c ≡ true) → (b ≡ true → d ≡ true) → (a || b) ≡ true → (c || d) ≡ true
or_by true b c d f g h = or_left c d (f refl)
or_by false b c d f g h = or_right c d (g h)

earlier : (xs : List DeclTree) (k l : Line) (n : List ℕ) → nat_lt k.0 l.0 ≡ true → is_declared_on xs k n ≡ true → is_declared_before xs l n ≡ true
earlier [] k l n less h = absurd cc
earlier (x ∷ xs) k l n less h =
    or_by (declares n x && nat_eq (line_of x).0 k.0) (is_declared_on xs k n) (declares n x && nat_lt (line_of x).0 l.0) (is_declared_before xs l n)
    (before_by (declares n x) (nat_eq (line_of x).0 k.0) (nat_lt (line_of x).0 l.0) (λ e. ap (λ (j : ℕ). nat_lt j l.0) (eqb-true (line_of x).0 k.0 e) ∙ less))
    (earlier xs k l n less) h

implied_known : (xs : List DeclTree) (l : Line) (n : List ℕ) → IsKnownBy (implied n) xs l n
implied_known xs l n = by (is_implicit n) refl
  where
    by : (b : Bool) → is_implicit n ≡ b → IsKnownBy (cond b as_name.Scalar as_name.Unknown) xs l n
    by true e = or_left (is_implicit n) (is_declared_before xs l n) e
    by false e = tt

kind_known : (k : Kind) (xs : List DeclTree) (l : Line) (n : List ℕ) → is_declared_before xs l n ≡ true → IsKnownBy (use_of_kind k) xs l n
kind_known kind.Scalar xs l n h = or_right (is_implicit n) (is_declared_before xs l n) h
kind_known (kind.Constant z) xs l n h = h
kind_known (kind.Array k d) xs l n h = h
kind_known (kind.Decomp k d) xs l n h = h

entry_known : (o : Option Entry) (xs : List DeclTree) (l : Line) (n : List ℕ) → ((e : Entry) → o ≡ Some e → is_declared_on xs e.line n ≡ true) → IsKnownBy (use_of_entry o l n) xs l n
entry_known None xs l n h = implied_known xs l n
entry_known (Some e) xs l n h = by (nat_lt e.line.0 l.0) refl
  where
    by : (b : Bool) → nat_lt e.line.0 l.0 ≡ b → IsKnownBy (cond b (use_of_kind e.kind) (implied n)) xs l n
    by true less = kind_known e.kind xs l n (earlier xs e.line l n less (h e refl))
    by false less = implied_known xs l n

used_known : (d : Declared) (xs : List DeclTree) (l : Line) (n : List ℕ) → IsFrom xs d → IsKnownBy (use_of d l n) xs l n
unfolding use_of
used_known d xs l n t = elim (is_made d.made l n) as (λ b. IsKnownBy (cond b as_name.Unknown (use_of_entry (find_name d n) l n)) xs l n) [ true ↦ tt | false ↦ entry_known (find_name d n) xs l n (λ e f. found xs d n e t f) ]

-- ---- writing

put_by : (xs : List DeclTree) (es : Entries) (n : List ℕ) (e : Entry) → AreFrom xs es → is_declared_on xs e.line n ≡ true → AreFrom xs (insert_entry bytes_eq es n e)
put_by xs [] n e t h = (h, tt)
put_by xs (x ∷ es) n e t h = by (bytes_eq n x.0) refl (put_by xs es n e t.1 h)
  where
    by : (b : Bool) → bytes_eq n x.0 ≡ b → AreFrom xs (insert_entry bytes_eq es n e) → AreFrom xs (cond b ((x.0, e) ∷ es) (x ∷ insert_entry bytes_eq es n e))
    by true q rest = (subst (λ (m : List ℕ). is_declared_on xs e.line m ≡ true) (same_name n x.0 q) h, t.1)
    by false q rest = (t.0, rest)

put : (xs : List DeclTree) (d : Declared) (n : List ℕ) (e : Entry) → IsFrom xs d → is_declared_on xs e.line n ≡ true → IsFrom xs (with_entry d n e)
unfolding with_entry
put xs d n e t h = put_by xs d.entries n e t h

put_new : (xs : List DeclTree) (d : Declared) (n : List ℕ) (e : Entry) → IsFrom xs d → is_declared_on xs e.line n ≡ true → IsFrom xs (with_new d n e)
put_new xs d n e t h = elim (is_some (find_name d n)) as (λ b. IsFrom xs (cond b d (with_entry d n e))) [ true ↦ t | false ↦ put xs d n e t h ]

put_over : (xs : List DeclTree) (d : Declared) (n : List ℕ) (e : Entry) (k : Kind) → IsFrom xs d → is_declared_on xs e.line n ≡ true → IsFrom xs (constant_over k d n e)
put_over xs d n e kind.Scalar t h = put xs d n e t h
put_over xs d n e (kind.Constant z) t h = t
put_over xs d n e (kind.Array k a) t h = t
put_over xs d n e (kind.Decomp k a) t h = t

put_value : (xs : List DeclTree) (d : Declared) (n : List ℕ) (e : Entry) (old : Option Entry) → IsFrom xs d → is_declared_on xs e.line n ≡ true → IsFrom xs (with_value old d n e)
put_value xs d n e None t h = put xs d n e t h
put_value xs d n e (Some old) t h = put_over xs d n e old.kind t h

-- more declarations declare no less
more_from : (xs : List DeclTree) (y : DeclTree) (es : Entries) → AreFrom xs es → AreFrom (xs ++ y ∷ []) es
more_from xs y [] t = tt
more_from xs y (e ∷ es) t =
    let test : DeclTree → Bool = λ x. declares e.0 x && nat_eq (line_of x).0 e.1.line.0 in
    (list_any-append test xs (y ∷ []) ∙ or_left (list_any test xs) (list_any test (y ∷ [])) t.0, more_from xs y es t.1)

and_both : (a b : Bool) → a ≡ true → b ≡ true → (a && b) ≡ true
and_both true b p q = q
and_both false b p q = absurd cc

pub same_bytes : (n : List ℕ) → bytes_eq n n ≡ true
same_bytes [] = refl
same_bytes (x ∷ xs) = and_both (nat_eq x x) (bytes_eq xs xs) (eq-eqb x x refl) (same_bytes xs)

declared_last : (xs : List DeclTree) (y : DeclTree) (n : List ℕ) → declares n y ≡ true → is_declared_on (xs ++ y ∷ []) (line_of y) n ≡ true
declared_last xs y n h =
    let test : DeclTree → Bool = λ x. declares n x && nat_eq (line_of x).0 (line_of y).0 in
    let own = and_both (declares n y) (nat_eq (line_of y).0 (line_of y).0) h (eq-eqb (line_of y).0 (line_of y).0 refl) in
    list_any-append test xs (y ∷ []) ∙ or_right (list_any test xs) (list_any test (y ∷ [])) (or_left (test y) false own)

declared_from : (xs : List DeclTree) (y : DeclTree) (s : Seen) (b : Base) → IsFrom xs b.table → IsFrom (xs ++ y ∷ []) (declare y s b).table
declared_from xs (ConstantDecl l n e) s b t = put_value (xs ++ ConstantDecl l n e ∷ []) b.table n _ (find_name b.table n) (more_from xs (ConstantDecl l n e) b.table.entries t) (declared_last xs (ConstantDecl l n e) n (same_bytes n))
declared_from xs (IntegerDecl l n []) s b t = put_new (xs ++ IntegerDecl l n [] ∷ []) b.table n _ (more_from xs (IntegerDecl l n []) b.table.entries t) (declared_last xs (IntegerDecl l n []) n (same_bytes n))
declared_from xs (IntegerDecl l n (d ∷ ds)) s b t = put_new (xs ++ IntegerDecl l n (d ∷ ds) ∷ []) b.table n _ (more_from xs (IntegerDecl l n (d ∷ ds)) b.table.entries t) (declared_last xs (IntegerDecl l n (d ∷ ds)) n (same_bytes n))
declared_from xs (DecompDecl l n ds) s b t = put_new (xs ++ DecompDecl l n ds ∷ []) b.table n _ (more_from xs (DecompDecl l n ds) b.table.entries t) (declared_last xs (DecompDecl l n ds) n (same_bytes n))
declared_from xs (AlignDecl l n dummies target es) s b t = subst (IsFrom (xs ++ AlignDecl l n dummies target es ∷ [])) (sym (align_keeps l n dummies target es s b).table) (more_from xs (AlignDecl l n dummies target es) b.table.entries t)
declared_from xs (DistributeDecl l n ds) s b t = subst (IsFrom (xs ++ DistributeDecl l n ds ∷ [])) (sym (distribute_keeps l n ds s b).table) (more_from xs (DistributeDecl l n ds) b.table.entries t)

all_from : (done xs : List DeclTree) (s : Seen) (b : Base) → IsFrom done b.table → IsFrom (done ++ xs) (declare_all xs s b).table
all_from done [] s b t = subst (λ (ys : List DeclTree). IsFrom ys b.table) (sym (append-nil done)) t
all_from done (x ∷ xs) s b t = subst (λ (ys : List DeclTree). IsFrom ys (declare_all (x ∷ xs) s b).table) (append_assoc done (x ∷ []) xs) (all_from (done ++ x ∷ []) xs (see_decl b x s) (declare x s b) (declared_from done x s b t))

pub known_before : (before after : List DeclTree) (l : Line) (n : List ℕ) → IsKnownBy (use_of (declared_between before after) l n) before l n
known_before before after l n = used_known (declared_between before after) before l n (all_from [] before nothing_seen (nothing_declared (before ++ after)) tt)
