use Rattle.std.proofs.Common.{◌≡◌, ℕ, ◌+◌, ◌-◌, ◌<◌, length, subst, sym, ◌∙◌, ap, arith, inl, inr}
use Rattle.std.specs.List.{slice_get}
use Rattle.std.proofs.lemmas.Bool.{cases_eq}
use Rattle.std.proofs.lemmas.Option.{slice_get_within}
use Rattle.std.proofs.lemmas.Result.{err_from_is_err_and}
use Rattle.place_text.specs.Readings.{IsEntryLine, layout_of}
use Rattle.place_text.proofs.Entries.{real_node, real_item}
use Rattle.place_text.proofs.Readings.{names, told_more}
use Rattle.place_text.proofs.reading.read_entries.Goals as goal

pub mark-requires-clause-inside : goal.mark-requires-clause-inside
mark-requires-clause-inside c =
    let at = c.in_ok-entry.ensures.right c.args.first c.loop-j.invariant.last in
    real_node (layout_of c.args.known.now) c.args.hoists c.in_ok-entry.entry at.real

pub mark-requires-clause-sized : goal.mark-requires-clause-sized
mark-requires-clause-sized c =
    let at = c.in_ok-entry.ensures.right c.args.first c.loop-j.invariant.last in
    real_item (layout_of c.args.known.now) c.args.hoists c.in_ok-entry.entry at.real

pub returns-in_err-entry-clause-wrong : goal.returns-in_err-entry-clause-wrong
returns-in_err-entry-clause-wrong c =
    let p = err_from_is_err_and c.from_residual.result c.from_residual.ensures.1 in
    rw (p.1, p.2) (names c.in_err-entry.field-0.0 _ _ (λ line w. record {
      place = c.args.first + c.loop-j.j;
      low = omega arith;
      high = omega arith;
      there = c.loop-j.invariant.there;
      before = c.loop-j.invariant.right;
      wrong = w.1 c.args.first c.loop-j.invariant.last;
      is = w.0;
    }) c.in_err-entry.ensures.wrong)

pub loop-j-preserved : goal.loop-j-preserved
loop-j-preserved c =
    let y = layout_of c.args.known.now in
    let at = c.in_ok-entry.ensures.right c.args.first c.loop-j.invariant.last in
    let here : c.args.first + c.loop-j.j < length c.args.lines.now = slice_get_within c.args.lines.now (c.args.first + c.loop-j.j) _ at.line in
    let back : c.args.first + (c.loop-j.j + 1) - 1 ≡ c.args.first + c.loop-j.j = omega arith in
    record {
      tables = c.mark.ensures.tables;
      right = λ i lo hi. elim (cases_eq i (c.args.first + c.loop-j.j)) [
        | inl same ↦ subst (λ (k : ℕ). IsEntryLine y c.args.hoists c.args.lines.now c.args.first k) (sym same) (c.in_ok-entry.entry, at)
        | inr other ↦ c.loop-j.invariant.right i lo (omega arith)
      ];
      there = omega arith;
      marks = λ o. told_more c.args.known.now c.requires.known c.args.hoists c.args.lines.now c.args.first c.loop-j.j c.in_ok-entry.entry at _ _ _ o (c.mark.ensures.marks o) (c.loop-j.invariant.marks o);
      last = (omega arith, at.real, ap (slice_get c.args.lines.now) back ∙ at.line);
    }
