use Rattle.std.proofs.Common.{subst, sym}
use Rattle.std.proofs.lemmas.Result.{err_from_is_err_and}
use Rattle.place_text.specs.declared.refusal.ListingRefusal.{ListingRefusal}
use Rattle.place_text.specs.Readings.{IsFirstWrong, NamesLine, layout_of}
use Rattle.place_text.proofs.Readings.{names}
use Rattle.place_text.proofs.Whole.{IsHalf, wrong_place, wrong_hoists, wrong_hoist, wrong_end, told_both, read_whole}
use Rattle.place_text.proofs.read.read_lines.Goals as goal

pub returns-in_err-read_entries-clause-wrong : goal.returns-in_err-read_entries-clause-wrong
returns-in_err-read_entries-clause-wrong c =
    let y = layout_of c.args.known.now in
    let p = err_from_is_err_and c.from_residual-in_err-read_entries.result c.from_residual-in_err-read_entries.ensures.1 in
    rw (p.1, p.2) (names c.in_err-read_entries.field-0.0 _ _
    (λ line w. wrong_place c.args.front.now y c.args.lines.now line c.in_ok-places.places c.in_ok-places.ensures.right.1 c.in_ok-match_front.ensures.right c.in_ok-places.ensures.right.0 w)
    c.in_err-read_entries.ensures.wrong)

pub returns-in_err-hoists-clause-wrong : goal.returns-in_err-hoists-clause-wrong
returns-in_err-hoists-clause-wrong c =
    let y = layout_of c.args.known.now in
    let p = err_from_is_err_and c.from_residual-in_err-hoists.result c.from_residual-in_err-hoists.ensures.1 in
    rw (p.1, p.2) (names c.in_err-hoists.field-0.0 _ _
    (λ line w. wrong_hoists c.args.front.now y c.args.lines.now line c.in_ok-places.places c.in_ok-places.ensures.right.1 c.in_ok-match_front.ensures.right c.in_ok-places.ensures.right.0 c.in_ok-read_entries.ensures.right w)
    c.in_err-hoists.ensures.wrong)

pub returns-in_err-read_entries-2-clause-wrong : goal.returns-in_err-read_entries-2-clause-wrong
returns-in_err-read_entries-2-clause-wrong c =
    let y = layout_of c.args.known.now in
    let half : IsHalf c.args.front.now y c.args.lines.now c.in_ok-places.places c.in_ok-hoists.hoists = record {
      places = c.in_ok-places.ensures.right.1;
      begins = c.in_ok-match_front.ensures.right;
      counted = c.in_ok-places.ensures.right.0;
      entries = c.in_ok-read_entries.ensures.right;
      second = c.in_ok-hoists.ensures.right.0;
      hoists = c.in_ok-hoists.ensures.right.1;
    } in
    let p = err_from_is_err_and c.from_residual-in_err-read_entries-2.result c.from_residual-in_err-read_entries-2.ensures.1 in
    rw (p.1, p.2) (names c.in_err-read_entries-2.field-0.0 _ _
    (λ line w. wrong_hoist c.args.front.now y c.args.lines.now line c.in_ok-places.places c.in_ok-hoists.hoists half w)
    c.in_err-read_entries-2.ensures.wrong)

pub returns-then-end-lines-clause-wrong : goal.returns-then-end-lines-clause-wrong
returns-then-end-lines-clause-wrong c =
    let y = layout_of c.args.known.now in
    let half : IsHalf c.args.front.now y c.args.lines.now c.in_ok-places.places c.in_ok-hoists.hoists = record {
      places = c.in_ok-places.ensures.right.1;
      begins = c.in_ok-match_front.ensures.right;
      counted = c.in_ok-places.ensures.right.0;
      entries = c.in_ok-read_entries.ensures.right;
      second = c.in_ok-hoists.ensures.right.0;
      hoists = c.in_ok-hoists.ensures.right.1;
    } in
    subst (λ (e : ListingRefusal). NamesLine e (IsFirstWrong c.args.front.now y c.args.lines.now)) (sym c.wrong.ensures)
    (wrong_end c.args.front.now y c.args.lines.now c.in_ok-places.places c.in_ok-hoists.hoists half c.in_ok-read_entries-2.ensures.right c.if-end-lines.true)

pub returns-else-end-lines-clause-read : goal.returns-else-end-lines-clause-read
returns-else-end-lines-clause-read c =
    let y = layout_of c.args.known.now in
    let half : IsHalf c.args.front.now y c.args.lines.now c.in_ok-places.places c.in_ok-hoists.hoists = record {
      places = c.in_ok-places.ensures.right.1;
      begins = c.in_ok-match_front.ensures.right;
      counted = c.in_ok-places.ensures.right.0;
      entries = c.in_ok-read_entries.ensures.right;
      second = c.in_ok-hoists.ensures.right.0;
      hoists = c.in_ok-hoists.ensures.right.1;
    } in
    read_whole c.args.front.now y c.args.lines.now c.in_ok-places.places c.in_ok-hoists.hoists _ half c.in_ok-read_entries-2.ensures.right c.in_ok-read_entries-2.ensures.there c.if-end-lines.false
    (λ e. told_both c.args.front.now y c.args.lines.now c.in_ok-places.places c.in_ok-hoists.hoists half e _ _ _ (c.in_ok-p.ensures.none e) (c.in_ok-read_entries.ensures.marks e) (c.in_ok-read_entries-2.ensures.marks e))
