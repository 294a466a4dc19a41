use Rattle.std.proofs.Common.{◌≡◌, true, Some, sym, ◌∙◌, ap, arith, rules}
use Rattle.std.proofs.lemmas.Grind.{common_steps}
use Rattle.place_text.specs.declared.entry.Entry.{Entry}
use Rattle.place_text.specs.Readings.{entry_line, is_real, layout_of, line_of_node}
use Rattle.place_text.proofs.Entries.{real_node, real_item, words_heard}
use Rattle.place_text.proofs.known.Known.entry_at.Goals as goal

some_same : (d e : Entry) → Some d ≡ Some e → d ≡ e
some_same d e h = cc

pub returns-in_default-clause-none : goal.returns-in_default-clause-none
returns-in_default-clause-none c n e h told =
    let y = layout_of c.args.self.now in
    let words = words_heard c.args.self.now c.requires c.args.hoists e h c.args.line.now told c.as_slice.result.now (c.as_slice.ensures.value ∙ c.in_ok-words.ensures) in
    let found = c.entry_of.ensures.found e (line_of_node y e.node).0 h.kind (omega (arith, real_node y c.args.hoists e h, c.requires.few)) (omega (arith, real_item y c.args.hoists e h, c.requires.items)) words in
    absurd (c.in_default.not-Some e found)

pub returns-then-not-is_real-clause-none : goal.returns-then-not-is_real-clause-none
returns-then-not-is_real-clause-none c n e h told =
    let y = layout_of c.args.self.now in
    let words = words_heard c.args.self.now c.requires c.args.hoists e h c.args.line.now told c.as_slice.result.now (c.as_slice.ensures.value ∙ c.in_ok-words.ensures) in
    let found = c.in-Some.ensures.found e (line_of_node y e.node).0 h.kind (omega (arith, real_node y c.args.hoists e h, c.requires.few)) (omega (arith, real_item y c.args.hoists e h, c.requires.items)) words in
    let real : is_real y c.in-Some.entry ≡ true = ap (is_real y) (some_same c.in-Some.entry e found) ∙ h.real in
    grind (arith, common_steps)

pub returns-clause-none : goal.returns-clause-none
returns-clause-none c n e h told =
    let y = layout_of c.args.self.now in
    let words = words_heard c.args.self.now c.requires c.args.hoists e h c.args.line.now told c.as_slice.result.now (c.as_slice.ensures.value ∙ c.in_ok-words.ensures) in
    let found = c.in-Some.ensures.found e (line_of_node y e.node).0 h.kind (omega (arith, real_node y c.args.hoists e h, c.requires.few)) (omega (arith, real_item y c.args.hoists e h, c.requires.items)) words in
    let same : entry_line y c.in-Some.entry ≡ c.args.line.now = ap (entry_line y) (some_same c.in-Some.entry e found) ∙ sym told in
    first_of (grind (arith, common_steps), search rules)
