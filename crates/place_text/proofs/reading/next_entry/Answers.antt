use Rattle.std.proofs.Common.{◌≡◌, ℕ, ◌+◌, Some, length, refl, subst, sym, ◌∙◌, ap}
use Rattle.std.specs.Option.{IfSome}
use Rattle.std.proofs.lemmas.Option.{slice_get_read}
use Rattle.place_text.specs.declared.entry.Entry.{Entry}
use Rattle.place_text.specs.declared.refusal.ListingRefusal.{ListingRefusal}
use Rattle.place_text.specs.Readings.{IsEntry, IsEntryLine, LastIs, NamesLine, entry_line, layout_of}
use Rattle.place_text.proofs.Readings.{entry_right, entry_wrong}
use Rattle.place_text.proofs.reading.next_entry.Goals as goal

pub returns-then-stands_behind-clause-right : goal.returns-then-stands_behind-clause-right
returns-then-stands_behind-clause-right c first last =
    let y = layout_of c.args.known.now in
    let h = c.in-Some.ensures.lookup in
    let found = slice_get_read c.args.lines.now (length c.args.lines.now) c.args.place c.in-Some.line.now refl h.3.0 h.1 in
    let heard = subst (λ o. IfSome o (λ (e : Entry). IsEntry y c.args.hoists e × (c.as_slice.result.now ≡ entry_line y e))) c.in-Some-2.is c.in_ok-entry.ensures.some in
    entry_right c.args.known.now c.requires.known c.args.hoists c.args.lines.now c.args.place c.args.last c.in-Some-2.entry heard.0 (found ∙ ap Some (sym c.as_slice.ensures ∙ heard.1))
    (sym c.stands_behind.ensures ∙ c.if-stands_behind.true) first last

pub returns-else-stands_behind-clause-wrong : goal.returns-else-stands_behind-clause-wrong
returns-else-stands_behind-clause-wrong c =
    let y = layout_of c.args.known.now in
    let h = c.in-Some.ensures.lookup in
    let found = slice_get_read c.args.lines.now (length c.args.lines.now) c.args.place c.in-Some.line.now refl h.3.0 h.1 in
    let heard = subst (λ o. IfSome o (λ (e : Entry). IsEntry y c.args.hoists e × (c.as_slice.result.now ≡ entry_line y e))) c.in-Some-2.is c.in_ok-entry.ensures.some in
    subst (λ (e : ListingRefusal). NamesLine e (λ line. (line ≡ c.args.place + 1) × ((first : ℕ) → LastIs y c.args.hoists c.args.lines.now first c.args.place c.args.last → IsEntryLine y c.args.hoists c.args.lines.now first c.args.place → ⊥)))
    (sym c.wrong-else-stands_behind.ensures) (
      refl,
      λ first last is. entry_wrong c.args.known.now c.requires.known c.args.hoists c.args.lines.now c.args.place c.args.last c.in-Some-2.entry heard.0 (found ∙ ap Some (sym c.as_slice.ensures ∙ heard.1))
          (sym c.stands_behind.ensures ∙ c.if-stands_behind.false) first last is,
    )
