-- What is noted of a whole program.
use Rattle.std.proofs.Common.{◌≡◌, ℕ, zero, suc, ◌≤◌, Bool, true, List, [], ◌∷◌, ◌++◌, length, Option, Some, None, refl, sym, ap, ◌∙◌, arith}
use Rattle.std.specs.Prelude.{filter, flat_map, map, option_map, slice_get}
use Rattle.fd_base.specs.declared.numbering.Line.{Line}
use Rattle.fd_prog.specs.Programs.{CheckedProgram}
use Rattle.fd_prog.specs.Uses.{Use, first_uses, firsts_of, uses_by_node, uses_of}
use Rattle.section_num.specs.Noting.{Noted, at_start, nodes_noted}
use Rattle.section_num.proofs.Counts.{NodesCount, nodes_count}
use Rattle.section_num.proofs.Numbers.{fresh}
use Rattle.section_num.proofs.Past.{line_past, past_nodes}

filter_all : {A : Type 0} (xs : List A) → filter (λ x. true) xs ≡ xs
filter_all [] = refl
filter_all (x ∷ xs) = ap (λ ys. x ∷ ys) (filter_all xs)

-- to begin with all items are new
pub fresh_all : (us : List Use) → [] ++ fresh [] us ≡ first_uses us
fresh_all us = filter_all (first_uses us)

line_of : (r : Option Use) → line_past None r ≡ option_map (λ (u : Use). u.line) r
line_of None = refl
line_of (Some u) = refl

-- the line that is noted is that of the 513th item
pub line_noted : (p : CheckedProgram) → (nodes_noted (uses_by_node p) (at_start p.sites)).over ≡ option_map (λ (u : Use). u.line) (slice_get (firsts_of p) 512)
line_noted p =
    past_nodes (uses_by_node p) (at_start p.sites) (omega arith)
    ∙ (ap (λ xs. line_past None (slice_get xs 512)) (fresh_all (uses_of p)) ∙ line_of (slice_get (firsts_of p) 512))

-- where there are not too many items, all are noted by their numbers
pub all_counted : (p : CheckedProgram) → length (firsts_of p) ≤ 512 → NodesCount (firsts_of p) (uses_by_node p) (at_start p.sites) (nodes_noted (uses_by_node p) (at_start p.sites))
all_counted p h = nodes_count (firsts_of p) (uses_by_node p) (at_start p.sites) h refl (fresh_all (uses_of p))

few_by : (xs : List Use) → (r : Option Use) → slice_get xs 512 ≡ r → option_map (λ (u : Use). u.line) r ≡ None → slice_get xs 512 ≡ None
few_by xs None e h = e
few_by xs (Some u) e h = absurd cc

within : {A : Type 0} (xs : List A) (i : ℕ) → slice_get xs i ≡ None → length xs ≤ i
within [] i h = omega arith
within (x ∷ xs) zero h = absurd cc
within (x ∷ xs) (suc i) h = omega (arith, within xs i h)

-- where no line is noted, there are not too many
pub few_noted : (p : CheckedProgram) → (nodes_noted (uses_by_node p) (at_start p.sites)).over ≡ None → length (firsts_of p) ≤ 512
few_noted p h = within (firsts_of p) 512 (few_by (firsts_of p) (slice_get (firsts_of p) 512) refl (sym (line_noted p) ∙ h))
