use Rattle.std.proofs.Common.{Some, length, refl, sym, ◌∙◌, ap, true≢false}
use Rattle.std.specs.Cmp.Lexicographic.{same_text, other_text}
use Rattle.std.proofs.lemmas.Bool.{true_from_ne_false}
use Rattle.std.proofs.lemmas.Option.{slice_get_read, slice_get_past}
use Rattle.place_text.proofs.Readings.{some_text, none_some}
use Rattle.place_text.proofs.reading.stands_at.Goals as goal

pub returns-in-Some : goal.returns-in-Some
returns-in-Some c =
    let h = c.in-Some.ensures.lookup in
    let found = slice_get_read c.args.lines.now (length c.args.lines.now) c.args.place c.in-Some.line.now refl h.3.0 h.1 in (
      λ t. found ∙ ap Some (sym c.as_slice.ensures ∙ (same_text _ _ (sym t ∙ c.eq.ensures) ∙ c.as_slice-in-Some.ensures)),
      λ t. true_from_ne_false c.eq.result (λ f. other_text _ _ (sym f ∙ c.eq.ensures) (c.as_slice.ensures ∙ (some_text _ _ (sym found ∙ t) ∙ sym c.as_slice-in-Some.ensures))),
    )

pub returns-in-None : goal.returns-in-None
returns-in-None c =
    let h = c.in-None.ensures.lookup in
    (λ t. absurd (true≢false (sym t)), λ t. absurd (none_some _ (sym (slice_get_past c.args.lines.now c.args.place h.3) ∙ t)))
