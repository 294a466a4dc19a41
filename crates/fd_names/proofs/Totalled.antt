-- A program without refusals keeps the limit on elements.
use Rattle.std.proofs.Common.{◌≡◌, ℕ, ◌+◌, ◌≤◌, zero, suc, Bool, true, false, cond, not, List, [], ◌∷◌, ◌++◌, refl, ap, ◌∙◌, Option, None, Some, slice_get, filter, fold, length, map, arith, nat_lt, is_none, is_some}
use Rattle.std.specs.Option.{option_and_then}
use Rattle.std.proofs.lemmas.Bool.Decides.{nat_tests}
use Rattle.fd_base.specs.declared.limit.Limit.TheVariants as limits
use Rattle.fd_base.specs.declared.shapes.Dist.{Dist}
use Rattle.fd_base.specs.Shapes.{size_of}
use Rattle.fd_ast.specs.Tree.{DeclTree, ConstantDecl, IntegerDecl, DecompDecl, AlignDecl, DistributeDecl}
use Rattle.fd_prog.specs.declared.program.Array.{Array}
use Rattle.fd_prog.specs.declared.program.Decomp.{Decomp}
use Rattle.fd_prog.specs.Checked.{is_replicated}
use Rattle.fd_prog.specs.Programs.{CheckedProgram}
use Rattle.fd_names.specs.declared.book.Seen.{Seen}
use Rattle.fd_names.specs.declared.declarations.Alignment.{Alignment}
use Rattle.fd_names.specs.declared.declarations.Base.{Base}
use Rattle.fd_names.specs.declared.declarations.Size.{Size}
use Rattle.fd_names.specs.declared.declarations.Spread.{Spread}
use Rattle.fd_names.specs.declared.declarations.Subscripts.{Subscripts}
use Rattle.fd_names.specs.declared.totals.Total.{Total}
use Rattle.fd_names.specs.declared.refusal.Cause.{Cause}
use Rattle.fd_names.specs.declared.refusal.Cause.TheVariants.{TooMany}
use Rattle.fd_names.specs.Checked.{no_elements}
use Rattle.fd_names.specs.Declarations.{finished_array, finished_arrays, finished_decomps, is_dealt_by, is_spread_at, array_of, shape_from, with_integer, dims_meant, see_decl, declare, declare_all}
use Rattle.fd_names.specs.First.{at_line, given}
use Rattle.fd_names.specs.Totals.{added, total_causes, total_refusals}
use Rattle.fd_names.proofs.Kept.{Keeps, align_keeps, distribute_keeps}
use Rattle.fd_names.proofs.Sound.{no_left, no_right}
use Rattle.fd_names.proofs.StatementsSound.{clean}

-- ---- arrays beside their sizes, in no decomposition so far

abbrev pub AreAlone : List Array → List Size → Type 0
AreAlone [] [] = Unit {0}
AreAlone [] (z ∷ zs) = ⊥
AreAlone (a ∷ xs) [] = ⊥
AreAlone (a ∷ xs) (z ∷ zs) = (a.decomp ≡ None) × (size_of a.shape ≡ z.elements) × AreAlone xs zs

alone_more : (xs : List Array) (zs : List Size) (a : Array) (z : Size) → AreAlone xs zs → a.decomp ≡ None → size_of a.shape ≡ z.elements → AreAlone (xs ++ a ∷ []) (zs ++ z ∷ [])
alone_more [] [] a z h i e = (i, e, tt)
alone_more [] (y ∷ ys) a z h i e = absurd h
alone_more (b ∷ xs) [] a z h i e = absurd h
alone_more (b ∷ xs) (y ∷ ys) a z h i e = (h.0, h.1, alone_more xs ys a z h.2 i e)

integer_alone : (rs : List Subscripts) (b : Base) (l : Size) (n : List ℕ) → AreAlone b.arrays b.sizes → AreAlone (with_integer l.line n rs b).arrays (with_integer l.line n rs b).sizes
integer_alone [] b l n h = h
integer_alone (r ∷ rs) b l n h = alone_more b.arrays b.sizes (array_of n (r ∷ rs)) (record { line = l.line; elements = size_of (shape_from (r ∷ rs)) }) h refl refl

still_alone : (b c : Base) → Keeps b c → AreAlone b.arrays b.sizes → AreAlone c.arrays c.sizes
still_alone b c k h = rw (k.arrays, k.sizes) h

declared : (x : DeclTree) (s : Seen) (b : Base) → AreAlone b.arrays b.sizes → AreAlone (declare x s b).arrays (declare x s b).sizes
declared (ConstantDecl l n e) s b h = h
declared (IntegerDecl l n xs) s b h = integer_alone (dims_meant b.table l xs s) b (record { line = l; elements = 0 }) n h
declared (DecompDecl l n xs) s b h = h
declared (AlignDecl l n dummies target es) s b h = still_alone b (declare (AlignDecl l n dummies target es) s b) (align_keeps l n dummies target es s b) h
declared (DistributeDecl l n xs) s b h = still_alone b (declare (DistributeDecl l n xs) s b) (distribute_keeps l n xs s b) h

pub all_alone : (xs : List DeclTree) (s : Seen) (b : Base) → AreAlone b.arrays b.sizes → AreAlone (declare_all xs s b).arrays (declare_all xs s b).sizes
all_alone [] s b h = h
all_alone (x ∷ xs) s b h = all_alone xs (see_decl b x s) (declare x s b) (declared x s b h)

-- ---- an array is replicated in the program where it isn't dealt

-- whether a decomposition of this number is distributed
abbrev pub dist_at : List Decomp → ℕ → Option Dist
dist_at xs k = option_and_then (λ (x : Decomp). x.dist) (slice_get xs k)

none_or_some : (o : Option Dist) → is_none o ≡ not (is_some o)
none_or_some None = refl
none_or_some (Some d) = refl

spread_at : (xs : List Decomp) (sps : List Spread) (k : ℕ) → length sps ≡ length xs → is_none (dist_at (finished_decomps xs sps) k) ≡ not (is_spread_at (slice_get sps k))
spread_at [] [] k e = refl
spread_at [] (sp ∷ sps) k e = absurd (omega (arith, e))
spread_at (x ∷ xs) [] k e = absurd (omega (arith, e))
spread_at (x ∷ xs) (sp ∷ sps) zero e = none_or_some sp.dist
spread_at (x ∷ xs) (sp ∷ sps) (suc k) e = spread_at xs sps k (omega (arith, e))

-- the decompositions of a program are those declared, with their distributed dimensions
pub record IsFinished (p : CheckedProgram) (sps : List Spread) : Type 0 where
  pub at : (k : ℕ) → is_none (dist_at p.decomps k) ≡ not (is_spread_at (slice_get sps k))

pub finished : (p : CheckedProgram) (xs : List Decomp) (sps : List Spread) → p.decomps ≡ finished_decomps xs sps → length sps ≡ length xs → IsFinished p sps
finished p xs sps e same = record { at = λ k. ap (λ ds. is_none (dist_at ds k)) e ∙ spread_at xs sps k same }

alone : (p : CheckedProgram) (a : Array) → a.decomp ≡ None → is_replicated p a ≡ true
alone p a e = ap (λ o. is_none (option_and_then (λ d. option_and_then (λ (x : Decomp). x.dist) (slice_get p.decomps d)) o)) e

pub replicated_is : (p : CheckedProgram) (sps : List Spread) (a : Array) (g : Option Alignment) → IsFinished p sps → a.decomp ≡ None → is_replicated p (finished_array sps a g) ≡ not (is_dealt_by sps g)
replicated_is p sps a None f e = alone p a e
replicated_is p sps a (Some g) f e = f.at g.decomp

-- ---- sums

not_above : (n : ℕ) → nat_lt 65536 n ≡ false → n ≤ 65536
not_above n h = grind (arith, nat_tests)

within_by : (n : ℕ) (b : Bool) (c : Cause) → nat_lt 65536 n ≡ b → given b c ≡ [] → n ≤ 65536
within_by n true c e h = absurd cc
within_by n false c e h = not_above n e

pub few_replicated : (n : ℕ) → given (nat_lt 65536 n) (TooMany limits.Replicated) ≡ [] → n ≤ 65536
few_replicated n h = within_by n (nat_lt 65536 n) (TooMany limits.Replicated) refl h

not_past : (n : ℕ) → nat_lt 262144 n ≡ false → n ≤ 262144
not_past n h = grind (arith, nat_tests)

inside_by : (n : ℕ) (b : Bool) (c : Cause) → nat_lt 262144 n ≡ b → given b c ≡ [] → n ≤ 262144
inside_by n true c e h = absurd cc
inside_by n false c e h = not_past n e

pub few_distributed : (n : ℕ) → given (nat_lt 262144 n) (TooMany limits.Distributed) ≡ [] → n ≤ 262144
few_distributed n h = inside_by n (nat_lt 262144 n) (TooMany limits.Distributed) refl h

abbrev sum_from : ℕ → List Array → ℕ
sum_from n xs = fold (λ m (a : Array). m + size_of a.shape) n xs

-- the sums over all arrays, beginning at these, are within their limits
pub record AreFew (p : CheckedProgram) (xs : List Array) (t : Total) : Type 0 where
  pub replicated : sum_from t.replicated (filter (is_replicated p) xs) ≤ 65536
  pub distributed : sum_from t.distributed (filter (λ a. not (is_replicated p a)) xs) ≤ 262144

pub record IsTotal (t : Total) : Type 0 where
  pub replicated : t.replicated ≤ 65536
  pub distributed : t.distributed ≤ 262144

passed : (test : Array → Bool) (a : Array) (xs : List Array) → test a ≡ true → filter test (a ∷ xs) ≡ a ∷ filter test xs
passed test a xs e = ap (λ b. cond b (a ∷ filter test xs) (filter test xs)) e

dropped : (test : Array → Bool) (a : Array) (xs : List Array) → test a ≡ false → filter test (a ∷ xs) ≡ filter test xs
dropped test a xs e = ap (λ b. cond b (a ∷ filter test xs) (filter test xs)) e

at_most : (a b m : ℕ) → a ≡ b → b ≤ m → a ≤ m
at_most a b m e h = omega arith

one_more : (p : CheckedProgram) (a : Array) (xs : List Array) (y : Size) (d : Bool) (t : Total) → is_replicated p a ≡ not d → size_of a.shape ≡ y.elements → AreFew p xs (added d y.elements t) → AreFew p (a ∷ xs) t
one_more p a xs y true t e z h =
    let test : Array → Bool = λ x. not (is_replicated p x) in
    record {
      replicated = rw (dropped (is_replicated p) a xs e) h.replicated;
      distributed = at_most (sum_from t.distributed (filter test (a ∷ xs))) (sum_from (t.distributed + y.elements) (filter test xs)) 262144
          (ap (sum_from t.distributed) (passed test a xs (ap not e)) ∙ ap (λ m. sum_from (t.distributed + m) (filter test xs)) z) h.distributed;
    }
one_more p a xs y false t e z h =
    let test : Array → Bool = λ x. not (is_replicated p x) in
    record {
      replicated = at_most (sum_from t.replicated (filter (is_replicated p) (a ∷ xs))) (sum_from (t.replicated + y.elements) (filter (is_replicated p) xs)) 65536
          (ap (sum_from t.replicated) (passed (is_replicated p) a xs e) ∙ ap (λ m. sum_from (t.replicated + m) (filter (is_replicated p) xs)) z) h.replicated;
      distributed = rw (dropped test a xs (ap not e)) h.distributed;
    }

still_total : (y : Size) (d : Bool) (t : Total) → IsTotal t → at_line y.line (total_causes d (added d y.elements t)) ≡ [] → IsTotal (added d y.elements t)
still_total y true t h ok = record { replicated = h.replicated; distributed = few_distributed (t.distributed + y.elements) (clean y.line (total_causes true (added true y.elements t)) ok) }
still_total y false t h ok = record { replicated = few_replicated (t.replicated + y.elements) (clean y.line (total_causes false (added false y.elements t)) ok); distributed = h.distributed }

same_size : (sps : List Spread) (a : Array) (g : Option Alignment) → size_of (finished_array sps a g).shape ≡ size_of a.shape
same_size sps a None = refl
same_size sps a (Some g) = refl

pub few_elements : (p : CheckedProgram) (sps : List Spread) (xs : List Array) (zs : List Size) (gs : List (Option Alignment)) (t : Total) → IsFinished p sps → AreAlone xs zs → length gs ≡ length xs → total_refusals zs (map (is_dealt_by sps) gs) t ≡ [] → IsTotal t → AreFew p (finished_arrays sps xs gs) t
few_elements p sps [] [] gs t f h same ok few = record { replicated = few.replicated; distributed = few.distributed }
few_elements p sps [] (y ∷ ys) gs t f h same ok few = absurd h
few_elements p sps (a ∷ xs) [] gs t f h same ok few = absurd h
few_elements p sps (a ∷ xs) (y ∷ ys) [] t f h same ok few = absurd (omega (arith, same))
few_elements p sps (a ∷ xs) (y ∷ ys) (g ∷ gs) t f h same ok few =
    let d = is_dealt_by sps g in
    let own = at_line y.line (total_causes d (added d y.elements t)) in
    let rest = total_refusals ys (map (is_dealt_by sps) gs) (added d y.elements t) in
    one_more p (finished_array sps a g) (finished_arrays sps xs gs) y d t (replicated_is p sps a g f h.0) (same_size sps a g ∙ h.1)
    (few_elements p sps xs ys gs (added d y.elements t) f h.2 (omega (arith, same)) (no_right own rest ok) (still_total y d t few (no_left own rest ok)))

pub no_total : IsTotal no_elements
no_total = record { replicated = omega arith; distributed = omega arith }
