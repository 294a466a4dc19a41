use Rattle.std.proofs.Common.{◌≡◌, List, ℕ, length, get_or, sym, ◌∙◌, ap, arith, Some}
use Rattle.std.specs.Fmt.{decimal}
use Rattle.place_text.specs.declared.entry.Kind.{Kind}
use Rattle.place_text.specs.declared.entry.Kind.TheVariants.{Hoist}
use Rattle.place_text.proofs.Entries.{seven, sixth, node_of_hoist, hoist_is}
use Rattle.place_text.proofs.entry.hoist_of.Goals as goal

pub returns-then-words-ne7-clause-found : goal.returns-then-words-ne7-clause-found
returns-then-words-ne7-clause-found c e line h hn hx same =
    let long : length c.args.words.now ≡ 7 = ap length same ∙ seven e.kind (decimal e.node) (decimal line) (decimal e.item) in
    absurd (omega (arith, long, c.if-words-ne7.true))

pub returns-clause-found : goal.returns-clause-found
returns-clause-found c e line h hn hx same =
    let node : c.as_slice.result.now ≡ decimal e.node =
    c.as_slice.ensures ∙ (c.index-words-2.is ∙ (ap (λ (ws : List (List ℕ)). get_or ws 2 c.index-words-2.result) same ∙ node_of_hoist e.kind h (decimal e.node) (decimal line) (decimal e.item) c.index-words-2.result)) in
    let item : c.as_slice-2.result.now ≡ decimal e.item =
    c.as_slice-2.ensures ∙ (c.index-words-6.is ∙ (ap (λ (ws : List (List ℕ)). get_or ws 6 c.index-words-6.result) same ∙ sixth e.kind (decimal e.node) (decimal line) (decimal e.item) c.index-words-6.result)) in
    let kind : Hoist ≡ e.kind = sym (hoist_is e.kind h) in
    c.numbered.ensures.found e.node e.item hn hx node item ∙ ap (λ (k : Kind). Some (record { node = e.node; kind = k; item = e.item })) kind
