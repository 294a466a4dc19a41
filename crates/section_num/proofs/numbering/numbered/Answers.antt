use Rattle.std.proofs.Common.{◌≡◌, ◌≤◌, None, length, map, refl, sym, ap, ◌∙◌, arith}
use Rattle.std.proofs.lemmas.List.{length-map}
use Rattle.fd_prog.specs.Items.{linear_item_of}
use Rattle.fd_prog.specs.Programs.{program_of}
use Rattle.fd_prog.specs.Uses as uses
use Rattle.fd_prog.specs.Uses.{firsts_of, uses_by_node, uses_of}
use Rattle.section_num.specs.declared.firsts.Use.{Use}
use Rattle.section_num.specs.Noting.{Noted, at_start, nodes_noted}
use Rattle.section_num.specs.Views.{use_of}
use Rattle.section_num.proofs.Noted.{all_counted, few_noted, line_noted}
use Rattle.section_num.proofs.Notings.{items_seen}
use Rattle.section_num.proofs.Sites.{all_sites}
use Rattle.section_num.proofs.numbering.numbered.Goals as goal

pub returns-in-Some-clause-refused : goal.returns-in-Some-clause-refused
returns-in-Some-clause-refused c =
    let p = program_of c.args.program.now in
    λ _. (sym (line_noted p) ∙ (sym (ap (λ (n : Noted). n.over) c.in_ok-book.ensures) ∙ c.in-Some.is), refl)

pub returns-in_ok-items-in-None-clause-few : goal.returns-in_ok-items-in-None-clause-few
returns-in_ok-items-in-None-clause-few c =
    let p = program_of c.args.program.now in
    let over : (nodes_noted (uses_by_node p) (at_start p.sites)).over ≡ None = sym (ap (λ (n : Noted). n.over) c.in_ok-book.ensures) ∙ c.in-None.is in
    let few : length (firsts_of p) ≤ 512 = few_noted p over in
    let firsts : map use_of c.in_ok-book.book.firsts ≡ firsts_of p = ap (λ (n : Noted). n.firsts) c.in_ok-book.ensures ∙ (all_counted p few).firsts in
    let items = ap length (c.in_ok-items-in-None.ensures ∙ ap (map (λ (u : Use). linear_item_of u.item)) c.into_uses.ensures) in
    omega (
      arith,
      few,
      ap length firsts,
      items,
      length-map c.in_ok-book.book.firsts use_of,
      length-map c.in_ok-book.book.firsts (λ (u : Use). linear_item_of u.item),
      length-map c.in_ok-items-in-None.items linear_item_of,
    )

pub returns-in_ok-items-in-None-clause-items : goal.returns-in_ok-items-in-None-clause-items
returns-in_ok-items-in-None-clause-items c =
    let p = program_of c.args.program.now in
    let over : (nodes_noted (uses_by_node p) (at_start p.sites)).over ≡ None = sym (ap (λ (n : Noted). n.over) c.in_ok-book.ensures) ∙ c.in-None.is in
    let firsts : map use_of c.in_ok-book.book.firsts ≡ firsts_of p = ap (λ (n : Noted). n.firsts) c.in_ok-book.ensures ∙ (all_counted p (few_noted p over)).firsts in
    c.in_ok-items-in-None.ensures ∙ (ap (map (λ (u : Use). linear_item_of u.item)) c.into_uses.ensures ∙ (items_seen c.in_ok-book.book.firsts ∙ ap (map (λ (u : uses.Use). u.item)) firsts))

pub returns-in_ok-items-in-None-clause-taken : goal.returns-in_ok-items-in-None-clause-taken
returns-in_ok-items-in-None-clause-taken c =
    let p = program_of c.args.program.now in
    let over : (nodes_noted (uses_by_node p) (at_start p.sites)).over ≡ None = sym (ap (λ (n : Noted). n.over) c.in_ok-book.ensures) ∙ c.in-None.is in
    ap (λ (n : Noted). n.rows) c.in_ok-book.ensures ∙ (all_counted p (few_noted p over)).rows

pub returns-in_ok-items-in-None-clause-sites : goal.returns-in_ok-items-in-None-clause-sites
returns-in_ok-items-in-None-clause-sites c =
    let p = program_of c.args.program.now in
    let over : (nodes_noted (uses_by_node p) (at_start p.sites)).over ≡ None = sym (ap (λ (n : Noted). n.over) c.in_ok-book.ensures) ∙ c.in-None.is in
    let counted = all_counted p (few_noted p over) in
    ap (λ (n : Noted). n.sites) c.in_ok-book.ensures ∙ (counted.sites ∙ all_sites (firsts_of p) (uses_of p) p.sites counted.numbered)
