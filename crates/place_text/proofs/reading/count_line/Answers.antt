use Rattle.std.proofs.Common.{◌≡◌, ℕ, ◌+◌, ◌++◌, Some, length, drop, refl, sym, ◌∙◌, ap, subst, arith}
use Rattle.std.specs.Cmp.Lexicographic.{same_text, other_text}
use Rattle.std.specs.List.{slice_get}
use Rattle.std.specs.Fmt.{decimal}
use Rattle.std.proofs.lemmas.Grind.{common_steps}
use Rattle.std.proofs.lemmas.Option.{slice_get_read}
use Rattle.place_text.specs.declared.refusal.ListingRefusal.{ListingRefusal}
use Rattle.place_text.specs.Readings.{IsCountLine, IsWrongOf, NamesLine, count_at}
use Rattle.place_text.proofs.Readings.{some_text, some_number, count_right, count_heard}
use Rattle.place_text.proofs.reading.count_line.Goals as goal

pub returns-then-eq-clause-right : goal.returns-then-eq-clause-right
returns-then-eq-clause-right c =
    let h = c.in-Some.ensures.lookup in
    let found = slice_get_read c.args.lines.now (length c.args.lines.now) c.args.place c.in-Some.line.now refl h.3.0 h.1 in
    let text : c.as_slice-2.result.now ≡ c.args.word.now ++ decimal c.in-Some-number_of.count = grind (arith, common_steps) in
    let same = same_text _ _ (sym c.if-eq.true ∙ c.eq.ensures) in
    let told : slice_get c.args.lines.now c.args.place ≡ Some (c.args.word.now ++ decimal c.in-Some-number_of.count) = found ∙ ap Some (sym c.as_slice-3.ensures ∙ (sym same ∙ text)) in
    count_right c.args.word.now c.args.lines.now c.args.place c.in-Some-number_of.count (omega arith) told

pub returns-clause-wrong : goal.returns-clause-wrong
returns-clause-wrong c =
    let h = c.in-Some.ensures.lookup in
    let found = slice_get_read c.args.lines.now (length c.args.lines.now) c.args.place c.in-Some.line.now refl h.3.0 h.1 in
    let text : c.as_slice-2.result.now ≡ c.args.word.now ++ decimal c.in-Some-number_of.count = grind (arith, common_steps) in
    let digits : c.behind.result.now ≡ drop (length c.args.word.now) c.in-Some.line.now = grind (arith, common_steps) in
    let differ = other_text _ _ (sym c.if-eq.false ∙ c.eq.ensures) in
    subst (λ (e : ListingRefusal). NamesLine e (IsWrongOf (IsCountLine c.args.word.now c.args.lines.now) c.args.place (c.args.place + 1) (length c.args.lines.now))) (sym c.wrong-else-eq.ensures)
    (record {
      place = c.args.place;
      low = omega arith;
      high = omega arith;
      there = c.requires.within;
      before = λ i lo hi. absurd (omega arith);
      wrong = λ is.
          let heard = count_heard c.args.word.now c.args.lines.now c.args.place c.in-Some.line.now found is in
          let count = some_number _ _ (c.in-Some-number_of.ensures (count_at c.args.word.now c.args.lines.now c.args.place) is.small (digits ∙ heard)) in
          differ (text ∙ (ap (λ (n : ℕ). c.args.word.now ++ decimal n) count ∙ (sym (some_text _ _ (sym found ∙ is.line)) ∙ sym c.as_slice-3.ensures)));
      is = refl;
    })
