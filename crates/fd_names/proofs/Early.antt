-- A name that an earlier line declares is known, but on a line that makes it an array, a decomposition or a constant.
use Rattle.std.proofs.Common.{◌≡◌, ◌≢◌, ℕ, ◌<◌, Bool, true, false, cond, ◌||◌, ◌&&◌, List, [], ◌∷◌, ◌++◌, refl, sym, ap, ◌∙◌, subst, Option, None, Some, is_some, nat_eq, nat_lt, arith, true≢false}
use Rattle.std.proofs.lemmas.Bool.{eq-eqb}
use Rattle.std.proofs.lemmas.Bool.Decides.{nat_tests}
use Rattle.std.proofs.lemmas.List.Folds.{list_any-append}
use Rattle.std.specs.List.{list_any}
use Rattle.std.specs.Str.{bytes_eq}
use Rattle.fd_base.specs.declared.numbering.Line.{Line}
use Rattle.fd_ast.specs.Tree.{DeclTree, ConstantDecl, IntegerDecl, DecompDecl, AlignDecl, DistributeDecl}
use Rattle.fd_names.specs.declared.book.Seen.{Seen}
use Rattle.fd_names.specs.declared.declarations.Base.{Base}
use Rattle.fd_names.specs.declared.names.Entry.{Entry}
use Rattle.fd_names.specs.declared.names.Kind.{Kind}
use Rattle.fd_names.specs.declared.names.Kind.TheVariants as kind
use Rattle.fd_names.specs.declared.names.Use.TheVariants as as_name
use Rattle.fd_names.specs.Checked.{nothing_seen}
use Rattle.fd_names.specs.Declarations.{constant_over, declare, declare_all, line_of, nothing_declared, see_decl, see_decls, with_new, with_value}
use Rattle.fd_names.specs.Names.{Declared, find_name, implied, is_made, use_of, use_of_entry, use_of_kind, with_entry}
use Rattle.fd_names.specs.Scope.{AreBefore, AreOn, declared_between, declares, is_made_on, makes}
use Rattle.fd_names.proofs.Kept.{align_keeps, distribute_keeps}
use Rattle.fd_names.proofs.Scoped.{lines_between, put_found, same_name}

-- the entry that is found, if there is one, is of an earlier line
abbrev IsEarly : Line → Option Entry → Type 0
IsEarly l None = Unit {0}
IsEarly l (Some e) = nat_lt e.line.0 l.0 ≡ true

-- there is one, and it is of an earlier line
abbrev HasEarly : Line → Option Entry → Type 0
HasEarly l None = ⊥
HasEarly l (Some e) = nat_lt e.line.0 l.0 ≡ true

less_is : (a b : ℕ) → a < b → nat_lt a b ≡ true
less_is a b h = grind (arith, nat_tests)

has_from : (l : Line) (o : Option Entry) → is_some o ≡ true → IsEarly l o → HasEarly l o
has_from l None p h = absurd cc
has_from l (Some e) p h = h

has_some : (l : Line) (o : Option Entry) → HasEarly l o → is_some o ≡ true
has_some l None h = absurd h
has_some l (Some e) h = refl

-- ---- one entry

pub entry_found : (d : Declared) (m n : List ℕ) (e : Entry) → find_name (with_entry d m e) n ≡ cond (bytes_eq n m) (Some e) (find_name d n)
unfolding find_name with_entry
entry_found d m n e = put_found d.entries m n e

early_by : (l : Line) (e : Entry) (o : Option Entry) (b : Bool) → nat_lt e.line.0 l.0 ≡ true → IsEarly l o → IsEarly l (cond b (Some e) o)
early_by l e o true h k = h
early_by l e o false h k = k

has_by : (l : Line) (e : Entry) (o : Option Entry) (b : Bool) → nat_lt e.line.0 l.0 ≡ true → HasEarly l o → HasEarly l (cond b (Some e) o)
has_by l e o true h k = h
has_by l e o false h k = k

early_put : (l : Line) (d : Declared) (m n : List ℕ) (e : Entry) → nat_lt e.line.0 l.0 ≡ true → IsEarly l (find_name d n) → IsEarly l (find_name (with_entry d m e) n)
early_put l d m n e h k = subst (IsEarly l) (sym (entry_found d m n e)) (early_by l e (find_name d n) (bytes_eq n m) h k)

has_put : (l : Line) (d : Declared) (m n : List ℕ) (e : Entry) → nat_lt e.line.0 l.0 ≡ true → HasEarly l (find_name d n) → HasEarly l (find_name (with_entry d m e) n)
has_put l d m n e h k = subst (HasEarly l) (sym (entry_found d m n e)) (has_by l e (find_name d n) (bytes_eq n m) h k)

-- a name is found behind its own entry, whatever was found before
own_put : (l : Line) (d : Declared) (m n : List ℕ) (e : Entry) → bytes_eq n m ≡ true → nat_lt e.line.0 l.0 ≡ true → HasEarly l (find_name (with_entry d m e) n)
own_put l d m n e same h = subst (HasEarly l) (sym (entry_found d m n e ∙ ap (λ b. cond b (Some e) (find_name d n)) same)) h

-- an entry of another name changes nothing
other_put : (l : Line) (d : Declared) (m n : List ℕ) (e : Entry) → bytes_eq n m ≡ false → HasEarly l (find_name d n) → HasEarly l (find_name (with_entry d m e) n)
other_put l d m n e apart k = subst (HasEarly l) (sym (entry_found d m n e ∙ ap (λ b. cond b (Some e) (find_name d n)) apart)) k

found_too : (d : Declared) (m n : List ℕ) → bytes_eq n m ≡ true → is_some (find_name d m) ≡ true → is_some (find_name d n) ≡ true
found_too d m n same h = ap (λ (k : List ℕ). is_some (find_name d k)) (same_name n m same) ∙ h

-- ---- a name of INTEGER or DECOMPOSITION

new_early : (l : Line) (d : Declared) (m n : List ℕ) (e : Entry) → nat_lt e.line.0 l.0 ≡ true → IsEarly l (find_name d n) → IsEarly l (find_name (with_new d m e) n)
new_early l d m n e h k = elim (is_some (find_name d m)) as (λ b. IsEarly l (find_name (cond b d (with_entry d m e)) n)) [ true ↦ k | false ↦ early_put l d m n e h k ]

new_own : (l : Line) (d : Declared) (m n : List ℕ) (e : Entry) → bytes_eq n m ≡ true → nat_lt e.line.0 l.0 ≡ true → IsEarly l (find_name d n) → HasEarly l (find_name (with_new d m e) n)
new_own l d m n e same h k = by (is_some (find_name d m)) refl
  where
    by : (b : Bool) → is_some (find_name d m) ≡ b → HasEarly l (find_name (cond b d (with_entry d m e)) n)
    by true q = has_from l (find_name d n) (found_too d m n same q) k
    by false q = own_put l d m n e same h

-- a name that is found stays what it is, whatever line declares what
new_still : (l : Line) (d : Declared) (m n : List ℕ) (e : Entry) → HasEarly l (find_name d n) → HasEarly l (find_name (with_new d m e) n)
new_still l d m n e k = by (is_some (find_name d m)) refl (bytes_eq n m) refl
  where
    by : (b : Bool) → is_some (find_name d m) ≡ b → (c : Bool) → bytes_eq n m ≡ c → HasEarly l (find_name (cond b d (with_entry d m e)) n)
    by true q c r = k
    by false q true r = absurd (true≢false (sym (has_some l (find_name d n) k) ∙ (ap (λ (j : List ℕ). is_some (find_name d j)) (same_name n m r) ∙ q)))
    by false q false r = other_put l d m n e r k

-- ---- a name of PARAMETER

over_early : (l : Line) (d : Declared) (m n : List ℕ) (e : Entry) (k : Kind) → nat_lt e.line.0 l.0 ≡ true → IsEarly l (find_name d n) → IsEarly l (find_name (constant_over k d m e) n)
over_early l d m n e kind.Scalar h p = early_put l d m n e h p
over_early l d m n e (kind.Constant z) h p = p
over_early l d m n e (kind.Array j a) h p = p
over_early l d m n e (kind.Decomp j a) h p = p

value_early : (l : Line) (d : Declared) (m n : List ℕ) (e : Entry) (o : Option Entry) → nat_lt e.line.0 l.0 ≡ true → IsEarly l (find_name d n) → IsEarly l (find_name (with_value o d m e) n)
value_early l d m n e None h p = early_put l d m n e h p
value_early l d m n e (Some old) h p = over_early l d m n e old.kind h p

over_has : (l : Line) (d : Declared) (m n : List ℕ) (e : Entry) (k : Kind) → nat_lt e.line.0 l.0 ≡ true → HasEarly l (find_name d n) → HasEarly l (find_name (constant_over k d m e) n)
over_has l d m n e kind.Scalar h p = has_put l d m n e h p
over_has l d m n e (kind.Constant z) h p = p
over_has l d m n e (kind.Array j a) h p = p
over_has l d m n e (kind.Decomp j a) h p = p

value_has : (l : Line) (d : Declared) (m n : List ℕ) (e : Entry) (o : Option Entry) → nat_lt e.line.0 l.0 ≡ true → HasEarly l (find_name d n) → HasEarly l (find_name (with_value o d m e) n)
value_has l d m n e None h p = has_put l d m n e h p
value_has l d m n e (Some old) h p = over_has l d m n e old.kind h p

over_own : (l : Line) (d : Declared) (m n : List ℕ) (e : Entry) (k : Kind) → bytes_eq n m ≡ true → nat_lt e.line.0 l.0 ≡ true → HasEarly l (find_name d n) → HasEarly l (find_name (constant_over k d m e) n)
over_own l d m n e kind.Scalar same h p = own_put l d m n e same h
over_own l d m n e (kind.Constant z) same h p = p
over_own l d m n e (kind.Array j a) same h p = p
over_own l d m n e (kind.Decomp j a) same h p = p

value_own : (l : Line) (d : Declared) (m n : List ℕ) (e : Entry) → bytes_eq n m ≡ true → nat_lt e.line.0 l.0 ≡ true → IsEarly l (find_name d n) → HasEarly l (find_name (with_value (find_name d m) d m e) n)
value_own l d m n e same h p = by (find_name d m) refl
  where
    by : (o : Option Entry) → find_name d m ≡ o → HasEarly l (find_name (with_value o d m e) n)
    by None q = own_put l d m n e same h
    by (Some old) q = over_own l d m n e old.kind same h (has_from l (find_name d n) (found_too d m n same (ap is_some q)) p)

over_other : (l : Line) (d : Declared) (m n : List ℕ) (e : Entry) (k : Kind) → bytes_eq n m ≡ false → HasEarly l (find_name d n) → HasEarly l (find_name (constant_over k d m e) n)
over_other l d m n e kind.Scalar apart p = other_put l d m n e apart p
over_other l d m n e (kind.Constant z) apart p = p
over_other l d m n e (kind.Array j a) apart p = p
over_other l d m n e (kind.Decomp j a) apart p = p

value_other : (l : Line) (d : Declared) (m n : List ℕ) (e : Entry) (o : Option Entry) → bytes_eq n m ≡ false → HasEarly l (find_name d n) → HasEarly l (find_name (with_value o d m e) n)
value_other l d m n e None apart p = other_put l d m n e apart p
value_other l d m n e (Some old) apart p = over_other l d m n e old.kind apart p

-- ---- one declaration

decl_early : (l : Line) (x : DeclTree) (s : Seen) (b : Base) (n : List ℕ) → nat_lt (line_of x).0 l.0 ≡ true → IsEarly l (find_name b.table n) → IsEarly l (find_name (declare x s b).table n)
decl_early l (ConstantDecl k m e) s b n h p = value_early l b.table m n _ (find_name b.table m) h p
decl_early l (IntegerDecl k m []) s b n h p = new_early l b.table m n _ h p
decl_early l (IntegerDecl k m (x ∷ xs)) s b n h p = new_early l b.table m n _ h p
decl_early l (DecompDecl k m xs) s b n h p = new_early l b.table m n _ h p
decl_early l (AlignDecl k m dummies target es) s b n h p = subst (λ (d : Declared). IsEarly l (find_name d n)) (sym (align_keeps k m dummies target es s b).table) p
decl_early l (DistributeDecl k m xs) s b n h p = subst (λ (d : Declared). IsEarly l (find_name d n)) (sym (distribute_keeps k m xs s b).table) p

decl_has : (l : Line) (x : DeclTree) (s : Seen) (b : Base) (n : List ℕ) → nat_lt (line_of x).0 l.0 ≡ true → HasEarly l (find_name b.table n) → HasEarly l (find_name (declare x s b).table n)
decl_has l (ConstantDecl k m e) s b n h p = value_has l b.table m n _ (find_name b.table m) h p
decl_has l (IntegerDecl k m []) s b n h p = new_still l b.table m n _ p
decl_has l (IntegerDecl k m (x ∷ xs)) s b n h p = new_still l b.table m n _ p
decl_has l (DecompDecl k m xs) s b n h p = new_still l b.table m n _ p
decl_has l (AlignDecl k m dummies target es) s b n h p = subst (λ (d : Declared). HasEarly l (find_name d n)) (sym (align_keeps k m dummies target es s b).table) p
decl_has l (DistributeDecl k m xs) s b n h p = subst (λ (d : Declared). HasEarly l (find_name d n)) (sym (distribute_keeps k m xs s b).table) p

decl_own : (l : Line) (x : DeclTree) (s : Seen) (b : Base) (n : List ℕ) → declares n x ≡ true → nat_lt (line_of x).0 l.0 ≡ true → IsEarly l (find_name b.table n) → HasEarly l (find_name (declare x s b).table n)
decl_own l (ConstantDecl k m e) s b n own h p = value_own l b.table m n _ own h p
decl_own l (IntegerDecl k m []) s b n own h p = new_own l b.table m n _ own h p
decl_own l (IntegerDecl k m (x ∷ xs)) s b n own h p = new_own l b.table m n _ own h p
decl_own l (DecompDecl k m xs) s b n own h p = new_own l b.table m n _ own h p
decl_own l (AlignDecl k m dummies target es) s b n own h p = absurd cc
decl_own l (DistributeDecl k m xs) s b n own h p = absurd cc

-- a declaration that makes the name nothing leaves its entry, on whatever line
decl_other : (l : Line) (x : DeclTree) (s : Seen) (b : Base) (n : List ℕ) → makes n x ≡ false → HasEarly l (find_name b.table n) → HasEarly l (find_name (declare x s b).table n)
decl_other l (ConstantDecl k m e) s b n apart p = value_other l b.table m n _ (find_name b.table m) apart p
decl_other l (IntegerDecl k m []) s b n apart p = new_still l b.table m n _ p
decl_other l (IntegerDecl k m (x ∷ xs)) s b n apart p = new_still l b.table m n _ p
decl_other l (DecompDecl k m xs) s b n apart p = new_still l b.table m n _ p
decl_other l (AlignDecl k m dummies target es) s b n apart p = subst (λ (d : Declared). HasEarly l (find_name d n)) (sym (align_keeps k m dummies target es s b).table) p
decl_other l (DistributeDecl k m xs) s b n apart p = subst (λ (d : Declared). HasEarly l (find_name d n)) (sym (distribute_keeps k m xs s b).table) p

-- ---- declarations, one after the other

all_has : (l : Line) (xs : List DeclTree) (s : Seen) (b : Base) (n : List ℕ) → AreBefore l xs → HasEarly l (find_name b.table n) → HasEarly l (find_name (declare_all xs s b).table n)
all_has l [] s b n h p = p
all_has l (x ∷ xs) s b n h p = all_has l xs (see_decl b x s) (declare x s b) n h.1 (decl_has l x s b n (less_is (line_of x).0 l.0 h.0) p)

all_own : (l : Line) (xs : List DeclTree) (s : Seen) (b : Base) (n : List ℕ) → AreBefore l xs → list_any (declares n) xs ≡ true → IsEarly l (find_name b.table n) → HasEarly l (find_name (declare_all xs s b).table n)
all_own l [] s b n h own p = absurd cc
all_own l (x ∷ xs) s b n h own p = by (declares n x) refl own (λ more. all_own l xs (see_decl b x s) (declare x s b) n h.1 more (decl_early l x s b n (less_is (line_of x).0 l.0 h.0) p))
  where
    by : (c : Bool) → declares n x ≡ c → (c || list_any (declares n) xs) ≡ true → (list_any (declares n) xs ≡ true → HasEarly l (find_name (declare_all xs (see_decl b x s) (declare x s b)).table n)) → HasEarly l (find_name (declare_all xs (see_decl b x s) (declare x s b)).table n)
    by true q more rest = all_has l xs (see_decl b x s) (declare x s b) n h.1 (decl_own l x s b n q (less_is (line_of x).0 l.0 h.0) p)
    by false q more rest = rest more

pub or_left : (a b : Bool) → (a || b) ≡ false → a ≡ false
or_left true b h = absurd cc
or_left false b h = refl

pub or_right : (a b : Bool) → (a || b) ≡ false → b ≡ false
or_right true b h = absurd cc
or_right false b h = h

and_left : (a b : Bool) → b ≡ true → (a && b) ≡ false → a ≡ false
and_left true b q h = absurd (true≢false (sym q ∙ h))
and_left false b q h = refl

all_other : (l : Line) (xs : List DeclTree) (s : Seen) (b : Base) (n : List ℕ) → AreOn l xs → is_made_on xs l n ≡ false → HasEarly l (find_name b.table n) → HasEarly l (find_name (declare_all xs s b).table n)
all_other l [] s b n on h p = p
all_other l (x ∷ xs) s b n on h p =
    let own = and_left (makes n x) (nat_eq l.0 (line_of x).0) (ap (λ (k : Line). nat_eq l.0 k.0) on.0 ∙ eq-eqb l.0 l.0 refl) (or_left (makes n x && nat_eq l.0 (line_of x).0) (is_made_on xs l n) h) in
    all_other l xs (see_decl b x s) (declare x s b) n on.1 (or_right (makes n x && nat_eq l.0 (line_of x).0) (is_made_on xs l n) h) (decl_other l x s b n own p)

declare_append : (xs ys : List DeclTree) (s : Seen) (b : Base) → declare_all (xs ++ ys) s b ≡ declare_all ys (see_decls xs s b) (declare_all xs s b)
declare_append [] ys s b = refl
declare_append (x ∷ xs) ys s b = declare_append xs ys (see_decl b x s) (declare x s b)

-- ---- what is known

kind_known : (k : Kind) → use_of_kind k ≡ as_name.Unknown → ⊥
kind_known kind.Scalar h = absurd cc
kind_known (kind.Constant z) h = absurd cc
kind_known (kind.Array k d) h = absurd cc
kind_known (kind.Decomp k d) h = absurd cc

entry_known : (l : Line) (n : List ℕ) (o : Option Entry) → HasEarly l o → use_of_entry o l n ≡ as_name.Unknown → ⊥
entry_known l n None p h = absurd p
entry_known l n (Some e) p h = kind_known e.kind (sym (ap (λ b. cond b (use_of_kind e.kind) (implied n)) p) ∙ h)

used_known : (d : Declared) (l : Line) (n : List ℕ) → is_made d.made l n ≡ false → HasEarly l (find_name d n) → use_of d l n ≡ as_name.Unknown → ⊥
unfolding use_of
used_known d l n free p h = entry_known l n (find_name d n) p (sym (ap (λ b. cond b as_name.Unknown (use_of_entry (find_name d n) l n)) free) ∙ h)

none_found : (xs : List DeclTree) (l : Line) (n : List ℕ) → IsEarly l (find_name (nothing_declared xs).table n)
unfolding find_name
none_found xs l n = tt

pub known_where_declared : (earlier own after : List DeclTree) (l : Line) (n : List ℕ) → AreBefore l earlier → AreOn l own → list_any (declares n) earlier ≡ true → is_made_on ((earlier ++ own) ++ after) l n ≡ false → use_of (declared_between (earlier ++ own) after) l n ≢ as_name.Unknown
known_where_declared earlier own after l n before on declared free =
    let test : DeclTree → Bool = λ x. makes n x && nat_eq l.0 (line_of x).0 in
    let start = nothing_declared ((earlier ++ own) ++ after) in
    let first = all_own l earlier nothing_seen start n before declared (none_found ((earlier ++ own) ++ after) l n) in
    let both = or_left (is_made_on (earlier ++ own) l n) (is_made_on after l n) (sym (list_any-append test (earlier ++ own) after) ∙ free) in
    let here = or_right (is_made_on earlier l n) (is_made_on own l n) (sym (list_any-append test earlier own) ∙ both) in
    let second = all_other l own (see_decls earlier nothing_seen start) (declare_all earlier nothing_seen start) n on here first in
    let found = subst (λ (b : Base). HasEarly l (find_name b.table n)) (sym (declare_append earlier own nothing_seen start)) second in
    used_known (declared_between (earlier ++ own) after) l n (lines_between (earlier ++ own) after l n ∙ free) found
