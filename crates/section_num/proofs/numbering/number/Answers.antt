use Rattle.std.proofs.Common.{◌≡◌, All, List, map, length, subst, sym, ap, ◌∙◌}
use Rattle.std.proofs.lemmas.List.{length-map}
use Rattle.fd_prog.specs.Items.{LinearItem, item_names, linear_item_of}
use Rattle.fd_prog.specs.Programs.{program_of}
use Rattle.fd_prog.specs.SoundForms.{IsSoundItem}
use Rattle.fd_prog.specs.WellFormed.{names_of}
use Rattle.fd_prog.specs.Uses.{items_of}
use Rattle.fd_prog.proofs.SoundForms.{items-sound}
use Rattle.section_num.specs.Changes.{changes_of, numbers_with}
use Rattle.section_num.specs.Views.{numbers_of}
use Rattle.section_num.proofs.Wholes.{AreStolen, AreTaken, few_rows, taken_count, taken_inside, taken_table, stolen_count, stolen_inside, stolen_table}
use Rattle.section_num.proofs.OneNumber.{are_alike}
use Rattle.section_num.proofs.numbering.number.Goals as goal

pub table_of-requires-clause-few : goal.table_of-requires-clause-few
table_of-requires-clause-few c =
    let p = program_of c.args.program.now in
    let rows : AreTaken p c.as_slice-2.result.now = ap (map numbers_of) c.as_slice-2.ensures ∙ c.in_ok-numbers.ensures.taken in
    few_rows p c.as_slice-2.result.now (taken_count p c.as_slice-2.result.now rows) c.requires.statements

pub table_of-requires-clause-inside : goal.table_of-requires-clause-inside
table_of-requires-clause-inside c =
    let p = program_of c.args.program.now in
    let rows : AreTaken p c.as_slice-2.result.now = ap (map numbers_of) c.as_slice-2.ensures ∙ c.in_ok-numbers.ensures.taken in
    let count : c.len-count.result ≡ length (items_of p) = c.len-count.ensures ∙ (sym (length-map c.in_ok-numbers.numbers.items linear_item_of) ∙ ap length c.in_ok-numbers.ensures.items) in
    taken_inside p c.as_slice-2.result.now c.len-count.result rows count

pub table_of-requires-2-clause-few : goal.table_of-requires-2-clause-few
table_of-requires-2-clause-few c =
    let p = program_of c.args.program.now in
    let items : map linear_item_of c.as_slice.result.now ≡ items_of p = ap (map linear_item_of) c.as_slice.ensures ∙ c.in_ok-numbers.ensures.items in
    let rows : AreStolen p c.as_slice-3.result.now =
    ap (map numbers_of) c.as_slice-3.ensures ∙ (c.in_ok-stolen.ensures ∙ ap (λ (xs : List LinearItem). map (numbers_with (map (item_names p) xs)) (changes_of p)) items) in
    few_rows p c.as_slice-3.result.now (stolen_count p c.as_slice-3.result.now rows) c.requires.statements

pub table_of-requires-2-clause-inside : goal.table_of-requires-2-clause-inside
table_of-requires-2-clause-inside c =
    let p = program_of c.args.program.now in
    let items : map linear_item_of c.as_slice.result.now ≡ items_of p = ap (map linear_item_of) c.as_slice.ensures ∙ c.in_ok-numbers.ensures.items in
    let rows : AreStolen p c.as_slice-3.result.now =
    ap (map numbers_of) c.as_slice-3.ensures ∙ (c.in_ok-stolen.ensures ∙ ap (λ (xs : List LinearItem). map (numbers_with (map (item_names p) xs)) (changes_of p)) items) in
    let count : c.len-count.result ≡ length (items_of p) = c.len-count.ensures ∙ (sym (length-map c.in_ok-numbers.numbers.items linear_item_of) ∙ ap length c.in_ok-numbers.ensures.items) in
    stolen_inside p c.as_slice-3.result.now c.len-count.result rows count

pub returns-clause-take : goal.returns-clause-take
returns-clause-take c =
    let p = program_of c.args.program.now in
    let rows : AreTaken p c.as_slice-2.result.now = ap (map numbers_of) c.as_slice-2.ensures ∙ c.in_ok-numbers.ensures.taken in
    taken_table p c.as_slice-2.result.now c.len-count.result (length c.in_ok-numbers.numbers.items) c.in_ok-take.take rows c.len-count.ensures c.in_ok-take.ensures

pub returns-clause-steal : goal.returns-clause-steal
returns-clause-steal c =
    let p = program_of c.args.program.now in
    let items : map linear_item_of c.as_slice.result.now ≡ items_of p = ap (map linear_item_of) c.as_slice.ensures ∙ c.in_ok-numbers.ensures.items in
    let rows : AreStolen p c.as_slice-3.result.now =
    ap (map numbers_of) c.as_slice-3.ensures ∙ (c.in_ok-stolen.ensures ∙ ap (λ (xs : List LinearItem). map (numbers_with (map (item_names p) xs)) (changes_of p)) items) in
    stolen_table p c.as_slice-3.result.now c.len-count.result (length c.in_ok-numbers.numbers.items) c.in_ok-steal.steal rows c.len-count.ensures c.in_ok-steal.ensures

pub returns-clause-alike : goal.returns-clause-alike
returns-clause-alike c = are_alike (program_of c.args.program.now) (numbers_of c.in_ok-numbers.numbers.of_site) c.in_ok-numbers.ensures.sites

pub returns-clause-sound : goal.returns-clause-sound
returns-clause-sound c = λ sound.
    let p = program_of c.args.program.now in
    let P : List LinearItem → Type 0 = All (IsSoundItem (names_of p)) in
    subst P (sym c.in_ok-numbers.ensures.items) (items-sound p sound)
