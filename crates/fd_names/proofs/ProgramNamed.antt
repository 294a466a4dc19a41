-- The names of a program of a written tree are plain, and those of one kind differ; no scalar has an array's name.
use Rattle.std.proofs.Common.{◌≡◌, ◌≢◌, ℕ, ◌≤◌, Bool, true, false, cond, ◌&&◌, List, [], ◌∷◌, ◌++◌, refl, sym, ap, ◌∙◌, subst, Option, None, Some, arith, nat_eq, nat_lt, inl, inr}
use Rattle.std.proofs.lemmas.Bool.{false≢true, eqb-true, and_parts, or_cases, or_parts, ltb-false}
use Rattle.std.proofs.lemmas.List.Elements.{All-append, All-cons, All-contains, All-head, All-nil, All-push, All-tail, All-weaker}
use Rattle.std.proofs.lemmas.List.Quantifiers.{all_pairs_push}
use Rattle.std.specs.List.{All, AllPairs, Contains, list_any}
use Rattle.std.specs.Str.{bytes_eq}
use Rattle.fd_base.specs.declared.numbering.Line.{Line}
use Rattle.fd_ast.specs.Tree.{DeclTree, ProgramTree}
use Rattle.fd_prog.specs.declared.program.Decomp.{Decomp}
use Rattle.program_laws.specs.Named.{IsPlain, IsNamed}
use Rattle.fd_names.specs.declared.declarations.Spread.{Spread}
use Rattle.fd_names.specs.declared.names.Entry.{Entry}
use Rattle.fd_names.specs.declared.names.Kind.{Kind}
use Rattle.fd_names.specs.declared.names.Kind.TheVariants as kind
use Rattle.fd_names.specs.declared.names.Use.TheVariants as as_name
use Rattle.fd_names.specs.Checked.{base_of, meaning_of, nothing_seen, refusals_of, seen_in_decls}
use Rattle.fd_names.specs.Declarations.{finished_decomps, line_of, nothing_declared}
use Rattle.fd_names.specs.Names.{Declared, Lines, find_name, implied, is_made, use_of, use_of_entry, use_of_kind, with_name}
use Rattle.fd_names.specs.Scope.{is_made_on, makes}
use Rattle.fd_names.specs.Written.{AreNoLater, IsWritten}
use Rattle.fd_names.proofs.Arrayed.{finished_names, names}
use Rattle.fd_names.proofs.DeclaredNames.{AreApart, HasEntry, HaveNames, IsArrayEntry, IsDecompEntry, IsNamedAs, IsOfArray, IsOfScalar, IsScalarEntry, decomp_names, decls_named}
use Rattle.fd_names.proofs.DecompsCounted.{AreCounted}
use Rattle.fd_names.proofs.NamedBody.{Takes, see_stmts_kept}
use Rattle.fd_names.proofs.Parts.{parted}
use Rattle.fd_names.proofs.Scoped.{all_keep, made_all, same_bytes}

-- ---- a name that is a scalar in a statement is no array's

not_made : (k : Kind) → IsOfArray k → use_of_kind k ≡ as_name.Scalar → ⊥
not_made kind.Scalar h e = h
not_made (kind.Constant z) h e = h
not_made (kind.Array j d) h e = absurd cc
not_made (kind.Decomp j d) h e = h

-- what is made on a line is made by a declaration of that line
made_within : (xs : List DeclTree) (k l : Line) (n : List ℕ) → is_made_on xs k n ≡ true → AreNoLater xs l → k.0 ≤ l.0
made_within [] k l n h late = absurd cc
made_within (x ∷ xs) k l n h late =
    let IsLate : DeclTree → Type 0 = λ y. (line_of y).0 ≤ l.0 in
    elim (or_cases (makes n x && nat_eq k.0 (line_of x).0) (is_made_on xs k n) h) [
      | inl here ↦ let e : k.0 ≡ (line_of x).0 = eqb-true k.0 (line_of x).0 (and_parts (makes n x) (nat_eq k.0 (line_of x).0) here).1 in subst (λ (m : ℕ). m ≤ l.0) (sym e) (All-head IsLate x xs late)
      | inr there ↦ made_within xs k l n there (All-tail IsLate x xs late)
    ]

one_line : (a b : ℕ) → a ≤ b → nat_lt a b ≡ false → a ≡ b
one_line a b le e = let ge : b ≤ a = ltb-false a b e in omega arith

entry_not : (b : Bool) (xs : List DeclTree) (l : Line) (n : List ℕ) (e : Entry) → nat_lt e.line.0 l.0 ≡ b → AreNoLater xs l → is_made_on xs l n ≡ false → IsArrayEntry xs n e → cond b (use_of_kind e.kind) (implied n) ≡ as_name.Scalar → ⊥
entry_not true xs l n e q late not_here h is = not_made e.kind h.0 is
entry_not false xs l n e q late not_here h is =
    let same : e.line.0 ≡ l.0 = one_line e.line.0 l.0 (made_within xs e.line l n h.1 late) q in
    let here : is_made_on xs l n ≡ true = subst (λ (j : ℕ). list_any (λ (x : DeclTree). makes n x && nat_eq j (line_of x).0) xs ≡ true) same h.1 in
    false≢true (sym not_here ∙ here)

found_not : (o : Option Entry) (xs : List DeclTree) (l : Line) (n : List ℕ) → AreNoLater xs l → is_made_on xs l n ≡ false → HasEntry (IsArrayEntry xs n) o → use_of_entry o l n ≡ as_name.Scalar → ⊥
found_not None xs l n late not_here h is = h
found_not (Some e) xs l n late not_here h is = entry_not (nat_lt e.line.0 l.0) xs l n e refl late not_here h is

use_not : (b : Bool) (o : Option Entry) (xs : List DeclTree) (l : Line) (n : List ℕ) → is_made_on xs l n ≡ b → AreNoLater xs l → HasEntry (IsArrayEntry xs n) o → cond b as_name.Unknown (use_of_entry o l n) ≡ as_name.Scalar → ⊥
use_not true o xs l n e late h is = absurd cc
use_not false o xs l n e late h is = found_not o xs l n late e h is

scalar_not : (d : Declared) (xs : List DeclTree) (l : Line) (n : List ℕ) → is_made d.made l n ≡ is_made_on xs l n → AreNoLater xs l → HasEntry (IsArrayEntry xs n) (find_name d n) → use_of d l n ≡ as_name.Scalar → ⊥
unfolding use_of
scalar_not d xs l n e late h is = use_not (is_made_on xs l n) (find_name d n) xs l n refl late h (ap (λ b. cond b as_name.Unknown (use_of_entry (find_name d n) l n)) (sym e) ∙ is)

-- ---- what all scalars keep

-- a plain name that is none of these
abbrev IsOwn : List (List ℕ) → List ℕ → Type 0
IsOwn arrays n = (Contains arrays n → ⊥) × IsPlain n

record AreOwn (arrays ns : List (List ℕ)) : Type 0 where
  apart : AllPairs (λ (m n : List ℕ). m ≢ n) ns
  each : All (IsOwn arrays) ns

differs : (n x : List ℕ) → bytes_eq n x ≡ false → x ≢ n
differs n x h = λ e. false≢true (sym h ∙ subst (λ (y : List ℕ). bytes_eq n y ≡ true) (sym e) (same_bytes n))

not_among : (n : List ℕ) (ns : List (List ℕ)) → list_any (bytes_eq n) ns ≡ false → All (λ (m : List ℕ). m ≢ n) ns
not_among n [] h = All-nil (λ (m : List ℕ). m ≢ n)
not_among n (x ∷ xs) h =
    let parts = or_parts (bytes_eq n x) (list_any (bytes_eq n) xs) h in
    All-cons (λ (m : List ℕ). m ≢ n) x xs (differs n x parts.0) (not_among n xs parts.1)

taken_by : (arrays ns : List (List ℕ)) (n : List ℕ) (b : Bool) → list_any (bytes_eq n) ns ≡ b → IsOwn arrays n → AreOwn arrays ns → AreOwn arrays (cond b ns (ns ++ n ∷ []))
taken_by arrays ns n true e own h = h
taken_by arrays ns n false e own h = record { apart = all_pairs_push (λ (a b : List ℕ). a ≢ b) ns n h.apart (not_among n ns e); each = All-push (IsOwn arrays) ns n h.each own }

name_taken : (arrays ns : List (List ℕ)) (n : List ℕ) → IsOwn arrays n → AreOwn arrays ns → AreOwn arrays (with_name ns n)
unfolding with_name
name_taken arrays ns n own h = taken_by arrays ns n (list_any (bytes_eq n) ns) refl own h

-- ---- the program

none_apart : (Q : List ℕ → Entry → Type 0) (d : Declared) → AreApart Q d []
none_apart Q d = record { apart = λ i j a h k. absurd (omega (arith, k)); each = All-nil (IsNamedAs Q d) }

kinds_clash : (k : Kind) → IsOfScalar k → IsOfArray k → ⊥
kinds_clash kind.Scalar h g = g
kinds_clash (kind.Constant z) h g = g
kinds_clash (kind.Array j d) h g = h
kinds_clash (kind.Decomp j d) h g = h

clash : (xs : List DeclTree) (n : List ℕ) (o : Option Entry) → HasEntry (IsScalarEntry n) o → HasEntry (IsArrayEntry xs n) o → ⊥
clash xs n None h g = h
clash xs n (Some e) h g = kinds_clash e.kind h g.0

decomps_finished : (xs : List Decomp) (sps : List Spread) → decomp_names (finished_decomps xs sps) ≡ decomp_names xs
decomps_finished [] sps = refl
decomps_finished (x ∷ xs) [] = ap (λ ns. x.name ∷ ns) (decomps_finished xs [])
decomps_finished (x ∷ xs) (sp ∷ sps) = ap (λ ns. x.name ∷ ns) (decomps_finished xs sps)

plain_in : (Q : List ℕ → Entry → Type 0) (d : Declared) (ns : List (List ℕ)) → AreApart Q d ns → All IsPlain ns
plain_in Q d ns h = All-weaker (IsNamedAs Q d) IsPlain (λ n k. k.0) ns h.each

pub program_named : (t : ProgramTree) (end_line : Line) (at : ℕ) → IsWritten t → refusals_of t ≡ [] → IsNamed (meaning_of t end_line at)
program_named t end_line at written ok =
    let b = base_of t in
    let d = b.table in
    let s = seen_in_decls t in
    let arrays = names b.arrays in
    let p = meaning_of t end_line at in
    let first : AreCounted nothing_seen (nothing_declared t.decls) = record { decomps = refl; spreads = refl; alignments = refl } in
    let none : HaveNames t.decls nothing_seen (nothing_declared t.decls) = record {
      scalars = none_apart IsScalarEntry (nothing_declared t.decls).table;
      arrays = none_apart (IsArrayEntry t.decls) (nothing_declared t.decls).table;
      decomps = none_apart (IsDecompEntry []) (nothing_declared t.decls).table;
    } in
    let h = decls_named t.decls t.decls nothing_seen (nothing_declared t.decls) written.declared (λ l n k. k) tt first (parted t ok).decls none in
    let array_at : (n : List ℕ) → Contains arrays n → HasEntry (IsArrayEntry t.decls n) (find_name d n) = λ n c. (All-contains (IsNamedAs (IsArrayEntry t.decls) d) arrays n h.arrays.each c).1 in
    let start : AreOwn arrays s.scalars = record {
      apart = h.scalars.apart;
      each = All-weaker (IsNamedAs IsScalarEntry d) (IsOwn arrays) (λ n k. ((λ c. clash t.decls n (find_name d n) k.1 (array_at n c)), k.0)) s.scalars h.scalars.each;
    } in
    let made : (l : Line) (n : List ℕ) → is_made d.made l n ≡ is_made_on t.decls l n = λ l n. ap (λ (ms : Lines). is_made ms l n) (all_keep t.decls nothing_seen (nothing_declared t.decls)).made ∙ made_all t.decls l n in
    let takes : (l : Line) → AreNoLater t.decls l → Takes d l (AreOwn arrays) = λ l late n ns is plain k. name_taken arrays ns n ((λ c. scalar_not d t.decls l n (made l n) late (array_at n c) is), plain) k in
    let own = see_stmts_kept d (AreOwn arrays) (λ l. AreNoLater t.decls l) takes t.body s written.named written.ordered start in
    let Differ : List (List ℕ) → Type 0 = λ ns. AllPairs (λ (m n : List ℕ). m ≢ n) ns in
    let arrays_are = sym (finished_names b.spreads b.arrays b.alignments) in
    let decomps_are = sym (decomps_finished b.decomps b.spreads) in
    let plain_arrays = subst (All IsPlain) arrays_are (plain_in (IsArrayEntry t.decls) d arrays h.arrays) in
    let plain_decomps = subst (All IsPlain) decomps_are (plain_in (IsDecompEntry b.alignments) d (decomp_names b.decomps) h.decomps) in
    let plain_scalars = All-weaker (IsOwn arrays) IsPlain (λ n k. k.1) p.scalars own.each in
    record {
      scalars = own.apart;
      arrays = subst Differ arrays_are h.arrays.apart;
      decomps = subst Differ decomps_are h.decomps.apart;
      apart = subst (λ (ns : List (List ℕ)). All (λ (n : List ℕ). Contains ns n → ⊥) p.scalars) arrays_are (All-weaker (IsOwn arrays) (λ (n : List ℕ). Contains arrays n → ⊥) (λ n k. k.0) p.scalars own.each);
      plain = All-append IsPlain p.scalars (names p.arrays ++ decomp_names p.decomps) plain_scalars (All-append IsPlain (names p.arrays) (decomp_names p.decomps) plain_arrays plain_decomps);
    }
