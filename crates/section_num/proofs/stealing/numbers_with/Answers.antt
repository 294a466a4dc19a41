use Rattle.std.proofs.Common.{◌≡◌, ℕ, ◌+◌, ◌++◌, List, drop, true, false, sym, ap, ◌∙◌}
use Rattle.std.specs.Prelude.{map}
use Rattle.fd_base.specs.declared.numbering.ItemNo.{ItemNo}
use Rattle.fd_prog.specs.Items.{is_among}
use Rattle.section_num.specs.declared.names.Name.{Name}
use Rattle.section_num.specs.Changes.{numbers_from}
use Rattle.section_num.specs.Views.{name_of, names_of, numbers_of}
use Rattle.section_num.proofs.NameLists.{any_name}
use Rattle.section_num.proofs.Stolen.{left_more, left_none}
use Rattle.section_num.proofs.stealing.numbers_with.Goals as goal
use Rattle.section_num.proofs.stealing.numbers_with.Goals.{then-has+in_ok-push, else-has}

pub loop-place-preserved : goal.loop-place-preserved
loop-place-preserved c =
    let own : List Name = c.index-names-place.result in
    let rest : List ℕ = numbers_from (c.loop-place.place + 1 + 1) (map names_of (drop (c.loop-place.place + 1) c.args.names.now)) (name_of c.args.name) in
    let both = left_more c.args.names.now c.loop-place.row c.loop-place.place own (name_of c.args.name) _ c.loop-place-test.true c.index-names-place.is c.loop-place.invariant in
    let tested : c.has.result ≡ is_among (names_of own) (name_of c.args.name) = c.has.ensures ∙ any_name c.args.name own in
    elim c.if-has.branch [
      | then-has+in_ok-push w ↦ ap (λ (r : List ItemNo). numbers_of r ++ rest) (w.row-is ∙ w.in_ok-push.ensures.ok) ∙ both.0 (sym tested ∙ w.if-has.true)
      | else-has w ↦ ap (λ (r : List ItemNo). numbers_of r ++ rest) w.row-is ∙ both.1 (sym tested ∙ w.if-has.false)
    ]

pub returns : goal.returns
returns c = left_none c.args.names.now c.loop-place.row c.loop-place.place (name_of c.args.name) _ c.loop-place-test.false c.loop-place.invariant
