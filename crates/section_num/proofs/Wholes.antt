-- The rows of all nodes of a program as tables.
use Rattle.std.proofs.Common.{◌≡◌, ℕ, ◌+◌, ◌*◌, ◌<◌, ◌≤◌, List, [], length, get_or, refl, sym, ap, ◌∙◌, subst, arith}
use Rattle.std.specs.Prelude.{All, map}
use Rattle.std.proofs.lemmas.List.{length-map}
use Rattle.fd_base.specs.declared.numbering.ItemNo.{ItemNo}
use Rattle.fd_sets.specs.Sets.{Subset}
use Rattle.fd_prog.specs.Checked.{size_among}
use Rattle.fd_prog.specs.Items.{item_names}
use Rattle.fd_prog.specs.Nodes.{node_count}
use Rattle.fd_prog.specs.Paths.{Marks}
use Rattle.fd_prog.specs.Programs.{CheckedProgram}
use Rattle.fd_prog.specs.Uses.{Use, items_of, steals, takes, uses_by_node}
use Rattle.section_num.specs.Changes.{changes_of, numbers_with}
use Rattle.section_num.specs.Numbers.{number_of_use}
use Rattle.section_num.specs.Tables.{IsTable}
use Rattle.section_num.specs.Views.{numbers_of}
use Rattle.fd_prog.proofs.Sizes.{few_among}
use Rattle.section_num.proofs.Changed.{changes_count, uses_count}
use Rattle.section_num.proofs.Filled.{is_one}
use Rattle.section_num.proofs.Stolen.{rows_within, stolen_is, stolen_within, taken_is, taken_within}

-- the rows are those of the items that the nodes take
abbrev pub AreTaken : CheckedProgram → List (List ItemNo) → Type 0
AreTaken p rows = map numbers_of rows ≡ map (map (number_of_use p)) (uses_by_node p)

-- the rows are those of the items that the nodes steal
abbrev pub AreStolen : CheckedProgram → List (List ItemNo) → Type 0
AreStolen p rows = map numbers_of rows ≡ map (numbers_with (map (item_names p) (items_of p))) (changes_of p)

same_length : {A : Type 0} (f : A → List ℕ) (rows : List (List ItemNo)) (xs : List A) → map numbers_of rows ≡ map f xs → length rows ≡ length xs
same_length f rows xs e = sym (length-map rows numbers_of) ∙ (ap length e ∙ length-map xs f)

pub taken_count : (p : CheckedProgram) (rows : List (List ItemNo)) → AreTaken p rows → length rows ≡ node_count p
taken_count p rows e = same_length (map (number_of_use p)) rows (uses_by_node p) e ∙ uses_count p

pub stolen_count : (p : CheckedProgram) (rows : List (List ItemNo)) → AreStolen p rows → length rows ≡ node_count p
stolen_count p rows e = same_length (numbers_with (map (item_names p) (items_of p))) rows (changes_of p) e ∙ changes_count p

-- there are few nodes
pub few_rows : (p : CheckedProgram) (rows : List (List ItemNo)) → length rows ≡ node_count p → size_among p.body ≤ 4096 → length rows < 65536
few_rows p rows e h = omega (arith, e, h, few_among p.body)

pub taken_inside : (p : CheckedProgram) (rows : List (List ItemNo)) (count : ℕ) → AreTaken p rows → count ≡ length (items_of p) → All (All (λ (k : ItemNo). k.0 ≤ count)) rows
taken_inside p rows count e f =
    subst (λ (m : ℕ). All (All (λ (k : ItemNo). k.0 ≤ m)) rows) (sym f) (rows_within rows (map (map (number_of_use p)) (uses_by_node p)) (length (items_of p)) e (taken_within p (uses_by_node p)))

pub stolen_inside : (p : CheckedProgram) (rows : List (List ItemNo)) (count : ℕ) → AreStolen p rows → count ≡ length (items_of p) → All (All (λ (k : ItemNo). k.0 ≤ count)) rows
stolen_inside p rows count e f =
    let names = map (item_names p) (items_of p) in
    let long : count ≡ length names = f ∙ sym (length-map (items_of p) (item_names p)) in
    subst (λ (m : ℕ). All (All (λ (k : ItemNo). k.0 ≤ m)) rows) (sym long) (rows_within rows (map (numbers_with names) (changes_of p)) (length names) e (stolen_within names (changes_of p)))

-- a table of rows is one of marks that say the same
table_for : (rows : List (List ItemNo)) (nodes count items : ℕ) (marks : Marks) (t : List Subset) → IsTable (length rows) count (λ n x. is_one (get_or rows n []) x) t → length rows ≡ nodes → count ≡ items
    → ((n x : ℕ) → is_one (get_or rows n []) x ≡ marks n x) → IsTable nodes items marks t
table_for rows nodes count items marks t h e f g = record {
  table = record { long = h.table.long ∙ e; sizes = λ n l. h.table.sizes n (omega (arith, l, e)) ∙ f };
  members = λ n x. h.members n x ∙ g n x;
}

pub taken_table : (p : CheckedProgram) (rows : List (List ItemNo)) (count items : ℕ) (t : List Subset) → AreTaken p rows → count ≡ items → IsTable (length rows) count (λ n x. is_one (get_or rows n []) x) t → IsTable (node_count p) items (takes p) t
taken_table p rows count items t e f h = table_for rows (node_count p) count items (takes p) t h (taken_count p rows e) f (λ n x. taken_is p rows n x e)

pub stolen_table : (p : CheckedProgram) (rows : List (List ItemNo)) (count items : ℕ) (t : List Subset) → AreStolen p rows → count ≡ items → IsTable (length rows) count (λ n x. is_one (get_or rows n []) x) t → IsTable (node_count p) items (steals p) t
stolen_table p rows count items t e f h = table_for rows (node_count p) count items (steals p) t h (stolen_count p rows e) f (λ n x. stolen_is p rows n x e)
