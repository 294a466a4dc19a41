use Rattle.std.proofs.Common.{ℕ, List, ◌+◌, ◌*◌, ◌≤◌, arith}
use Rattle.std.specs.Prelude.{Option, Some, None, IfSome, IfNone}
use Rattle.fd_sets.specs.Sets.{IsLeastIn, AreNoneFrom}
use Rattle.fd_sets.proofs.Bits.{AreNoneBetween, least_in_rest, least_on, none_in_rest, none_on, none_past}
use Rattle.fd_sets.proofs.words.least_from.Goals as goal

pub returns-then-place-words-clause-none : goal.returns-then-place-words-clause-none
returns-then-place-words-clause-none c = none_past c.args.words.now c.args.item (omega (arith, c.from-place.ensures))

pub overflow_add-result : goal.overflow_add-result
overflow_add-result c =
    let words = c.args.words.now in
    omega (arith, (least_in_rest words c.args.item c.from-place.result c.from-place.ensures (c.type_inv.words c.from-place.result).fits (omega arith)).0)

pub returns-then-rest-ne0-clause-some : goal.returns-then-rest-ne0-clause-some
returns-then-rest-ne0-clause-some c =
    (least_in_rest c.args.words.now c.args.item c.from-place.result c.from-place.ensures (c.type_inv.words c.from-place.result).fits (omega arith)).1

some_on : (words : List ℕ) (from next : ℕ) (o : Option ℕ) → from ≤ next → AreNoneBetween words from next → IfSome o (λ item. IsLeastIn words next item) → IfSome o (λ item. IsLeastIn words from item)
some_on words from next None l a h = h
some_on words from next (Some item) l a h = least_on words from next item l a h

no_more : (words : List ℕ) (from next : ℕ) (o : Option ℕ) → AreNoneBetween words from next → IfNone o (AreNoneFrom words next) → IfNone o (AreNoneFrom words from)
no_more words from next None a h = none_on words from next a h
no_more words from next (Some item) a h = h

pub returns-clause-some : goal.returns-clause-some
returns-clause-some c =
    let place = c.from-place.result in
    some_on c.args.words.now c.args.item (64 * (place + 1)) c.least_behind.result (omega (arith, c.from-place.ensures)) (none_in_rest c.args.words.now c.args.item place c.from-place.ensures (omega (arith, c.if-rest-ne0.false))) c.least_behind.ensures.some

pub returns-clause-none : goal.returns-clause-none
returns-clause-none c =
    let place = c.from-place.result in
    no_more c.args.words.now c.args.item (64 * (place + 1)) c.least_behind.result (none_in_rest c.args.words.now c.args.item place c.from-place.ensures (omega (arith, c.if-rest-ne0.false))) c.least_behind.ensures.none
