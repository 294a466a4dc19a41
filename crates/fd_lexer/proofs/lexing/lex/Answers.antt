use Rattle.std.proofs.Common.{refl, ap, length}
use Rattle.fd_lexer.proofs.Outcomes.{reading_one, refusal_one, reading_refused}
use Rattle.fd_lexer.proofs.Texts.{none_left, line_found, found_at, open_reading, ended_reading, formed_of, read_refused, found_lie, read_ended, kept_is, read_more}
use Rattle.fd_lexer.proofs.lexing.lex.Goals as goal

pub returns-in_default-clause-reading : goal.returns-in_default-clause-reading
returns-in_default-clause-reading c =
    open_reading _ _ _ _ _ _ c.lines.invariant (none_left _ _ _ _ c.in_ok-line.ensures c.in_default.is) c.feed_count.ensures.value c.in_ok-made.ensures

pub returns-in_default-clause-well_formed : goal.returns-in_default-clause-well_formed
returns-in_default-clause-well_formed c =
    formed_of _ _ _ _ _ _ _ _ c.lines.invariant c.requires (none_left _ _ _ _ c.in_ok-line.ensures c.in_default.is).1 c.in_ok-made.ensures

pub returns-in_default-clause-only_reading : goal.returns-in_default-clause-only_reading
returns-in_default-clause-only_reading c =
    let r = open_reading _ _ _ _ _ _ c.lines.invariant (none_left _ _ _ _ c.in_ok-line.ensures c.in_default.is) c.feed_count.ensures.value c.in_ok-made.ensures in
    λ x s. reading_one _ _ x r s

pub returns-in_default-clause-only_refusal : goal.returns-in_default-clause-only_refusal
returns-in_default-clause-only_refusal c =
    let r = open_reading _ _ _ _ _ _ c.lines.invariant (none_left _ _ _ _ c.in_ok-line.ensures c.in_default.is) c.feed_count.ensures.value c.in_ok-made.ensures in
    λ line n s. reading_refused _ _ line n r s

pub returns-in-Some-cause-clause-only_reading : goal.returns-in-Some-cause-clause-only_reading
returns-in-Some-cause-clause-only_reading c =
    let f = read_refused _ _ _ c.lines.invariant _ _ _ (line_found _ _ _ _ _ _ c.in_ok-line.ensures c.in-Some.is) _ c.in-Some-cause.is in
    λ x s. reading_refused _ x _ _ s f

pub returns-in-Some-cause-clause-only_refusal : goal.returns-in-Some-cause-clause-only_refusal
returns-in-Some-cause-clause-only_refusal c =
    let f = read_refused _ _ _ c.lines.invariant _ _ _ (line_found _ _ _ _ _ _ c.in_ok-line.ensures c.in-Some.is) _ c.in-Some-cause.is in
    λ line n s. rw c.cause_number.ensures (refusal_one _ _ line _ n f s)

pub returns-in-Some-cause-clause-refused : goal.returns-in-Some-cause-clause-refused
returns-in-Some-cause-clause-refused c =
    rw c.cause_number.ensures (read_refused _ _ _ c.lines.invariant _ _ _ (line_found _ _ _ _ _ _ c.in_ok-line.ensures c.in-Some.is) _ c.in-Some-cause.is)

pub is_end-requires : goal.is_end-requires
is_end-requires c =
    found_lie _ _ _ c.lines.invariant _ _ _ (line_found _ _ _ _ _ _ c.in_ok-line.ensures c.in-Some.is) c.in_default-cause.is _
    (found_at _ _ _ _ _ c.split_at.ensures.back c.as_slice-from.ensures.value c.as_slice.ensures.value)

pub returns-then-is_end-clause-reading : goal.returns-then-is_end-clause-reading
returns-then-is_end-clause-reading c =
    let h = line_found _ _ _ _ _ _ c.in_ok-line.ensures c.in-Some.is in
    let f = found_at _ _ _ _ _ c.split_at.ensures.back c.as_slice-from.ensures.value c.as_slice.ensures.value in
    ended_reading _ _ _ _ _ _
    (read_ended _ _ _ c.lines.invariant _ _ _ h c.in_default-cause.is _ f (c.if-is_end.ensures.0 refl))
    (kept_is _ _ _ c.lines.invariant _ _ _ h c.in_default-cause.is _ f _ _ (ap length c.as_slice-from.ensures.value) c.truncate.ensures.items)
    c.in_ok-made-2.ensures

pub returns-then-is_end-clause-well_formed : goal.returns-then-is_end-clause-well_formed
returns-then-is_end-clause-well_formed c =
    let h = line_found _ _ _ _ _ _ c.in_ok-line.ensures c.in-Some.is in
    let f = found_at _ _ _ _ _ c.split_at.ensures.back c.as_slice-from.ensures.value c.as_slice.ensures.value in
    formed_of _ _ _ _ _ _ _ _ c.lines.invariant c.requires
    (kept_is _ _ _ c.lines.invariant _ _ _ h c.in_default-cause.is _ f _ _ (ap length c.as_slice-from.ensures.value) c.truncate.ensures.items)
    c.in_ok-made-2.ensures

pub returns-then-is_end-clause-only_reading : goal.returns-then-is_end-clause-only_reading
returns-then-is_end-clause-only_reading c =
    let h = line_found _ _ _ _ _ _ c.in_ok-line.ensures c.in-Some.is in
    let f = found_at _ _ _ _ _ c.split_at.ensures.back c.as_slice-from.ensures.value c.as_slice.ensures.value in
    let r = ended_reading _ _ _ _ _ _
    (read_ended _ _ _ c.lines.invariant _ _ _ h c.in_default-cause.is _ f (c.if-is_end.ensures.0 refl))
    (kept_is _ _ _ c.lines.invariant _ _ _ h c.in_default-cause.is _ f _ _ (ap length c.as_slice-from.ensures.value) c.truncate.ensures.items)
    c.in_ok-made-2.ensures in
    λ x s. reading_one _ _ x r s

pub returns-then-is_end-clause-only_refusal : goal.returns-then-is_end-clause-only_refusal
returns-then-is_end-clause-only_refusal c =
    let h = line_found _ _ _ _ _ _ c.in_ok-line.ensures c.in-Some.is in
    let f = found_at _ _ _ _ _ c.split_at.ensures.back c.as_slice-from.ensures.value c.as_slice.ensures.value in
    let r = ended_reading _ _ _ _ _ _
    (read_ended _ _ _ c.lines.invariant _ _ _ h c.in_default-cause.is _ f (c.if-is_end.ensures.0 refl))
    (kept_is _ _ _ c.lines.invariant _ _ _ h c.in_default-cause.is _ f _ _ (ap length c.as_slice-from.ensures.value) c.truncate.ensures.items)
    c.in_ok-made-2.ensures in
    λ line n s. reading_refused _ _ line n r s

pub lines-preserved : goal.lines-preserved
lines-preserved c =
    let h = line_found _ _ _ _ _ _ c.in_ok-line.ensures c.in-Some.is in
    let f = found_at _ _ _ _ _ c.split_at.ensures.back c.as_slice-from.ensures.value c.as_slice.ensures.value in
    rw c.in_ok-push.ensures.items (read_more _ _ _ c.lines.invariant _ _ _ h c.in_default-cause.is _ f (λ q. let z = c.if-is_end.ensures.1 q in absurd cc) _ c.line_end.ensures)
