use Rattle.std.proofs.Common.{◌≡◌, ◌+◌, Err, Ok, ap, ◌∙◌, arith, length, take, drop}
use Rattle.std.proofs.lemmas.List.{length-take, drop-drop}
use Rattle.std.proofs.lemmas.Result.{err_from_is_err_and}
use Rattle.std.specs.List.{slice_split}
use Rattle.fd_input.specs.Text.{is_white, input_numbers, parts_numbers, before}
use Rattle.fd_input.proofs.Parts.{taken_more, taken_last, taken_bad}
use Rattle.fd_input.proofs.Told.{told_bad, read_good}
use Rattle.fd_input.proofs.text.read_input.Goals as goal

pub returns-in_err-take_part-clause-numbers : goal.returns-in_err-take_part-clause-numbers
returns-in_err-take_part-clause-numbers c =
    let p = err_from_is_err_and c.from_residual.result c.from_residual.ensures.1 in
    let rest = c.split_at.result.1.now in
    let all = rw (← c.split_at.ensures.back) at c.loop-numbers.invariant.rest in
    taken_bad (Unit {0}) c.loop-numbers.at c.loop-numbers.numbers c.take_part.new.numbers (input_numbers c.args.bytes.now) rest c.split_at-in-loop-numbers.result.0.now c.word_len-count.result c.in_err-take_part.field-0.0 c.from_residual.result c.word_len-count.ensures.len c.word_len-count.ensures.within
    all c.split_at-in-loop-numbers.ensures.front c.in_err-take_part.ensures (p.1 ∙ ap Err p.2)

pub returns-in_err-take_part-clause-bad : goal.returns-in_err-take_part-clause-bad
returns-in_err-take_part-clause-bad c = told_bad c.args.bytes.now _ (returns-in_err-take_part-clause-numbers c)

pub returns-then-count-rest-clause-numbers : goal.returns-then-count-rest-clause-numbers
returns-then-count-rest-clause-numbers c =
    let rest = c.split_at.result.1.now in
    let all = rw (← c.split_at.ensures.back) at c.loop-numbers.invariant.rest in
    let taken = rw c.split_at-in-loop-numbers.ensures.front at c.in_ok-take_part.ensures in
    taken_last c.loop-numbers.at c.loop-numbers.numbers c.take_part.new.numbers (input_numbers c.args.bytes.now) rest c.word_len-count.result c.word_len-count.ensures.len c.if-count-rest.true all taken

pub returns-then-count-rest-clause-good : goal.returns-then-count-rest-clause-good
returns-then-count-rest-clause-good c = read_good c.args.bytes.now (Ok c.take_part.new.numbers) (returns-then-count-rest-clause-numbers c)

pub loop-numbers-preserved : goal.loop-numbers-preserved
loop-numbers-preserved c =
    let rest = c.split_at.result.1.now in
    let at = c.loop-numbers.at in
    let count = c.word_len-count.result in
    let bytes = c.args.bytes.now in
    let long : length rest + at ≡ length bytes = c.split_at.ensures.back_len in
    let all = rw (← c.split_at.ensures.back) at c.loop-numbers.invariant.rest in
    let taken = rw c.split_at-in-loop-numbers.ensures.front at c.in_ok-take_part.ensures in
    let more = taken_more bytes at c.loop-numbers.numbers c.take_part.new.numbers (input_numbers bytes) rest count c.word_len-count.ensures.len (omega arith) all taken in
    let there : at + length (take count rest) + 1 ≡ at + (count + 1) = simp length-take (omega arith) in
    let behind : drop (count + 1) rest ≡ drop (at + (count + 1)) bytes = ap (drop (count + 1)) c.split_at.ensures.back ∙ drop-drop (count + 1) at bytes in
    record {
      within = omega arith;
      rest = more ∙ ap (λ n. before c.take_part.new.numbers (parts_numbers n (slice_split is_white (drop (count + 1) rest)))) there ∙ ap (λ xs. before c.take_part.new.numbers (parts_numbers (at + (count + 1)) (slice_split is_white xs))) behind;
    }
