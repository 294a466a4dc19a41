use Rattle.std.proofs.Common.{◌≡◌, List, ℕ, length, get_or, ◌∙◌, ap, arith, Some}
use Rattle.std.specs.Fmt.{decimal}
use Rattle.place_text.specs.declared.entry.Kind.{Kind}
use Rattle.place_text.specs.Readings.{entry_words}
use Rattle.place_text.proofs.Entries.{seven, sixth, node_of_operation, kind_by, kind_read}
use Rattle.place_text.proofs.entry.operation_of.Goals as goal

pub returns-then-words-ne7-clause-found : goal.returns-then-words-ne7-clause-found
returns-then-words-ne7-clause-found c e line h hn hx same =
    let long : length c.args.words.now ≡ 7 = ap length same ∙ seven e.kind (decimal e.node) (decimal line) (decimal e.item) in
    absurd (omega (arith, long, c.if-words-ne7.true))

pub returns-clause-found : goal.returns-clause-found
returns-clause-found c e line h hn hx same =
    let place : c.as_slice.result.now ≡ get_or (entry_words line e) 4 c.index-words-4.result =
    c.as_slice.ensures ∙ (c.index-words-4.is ∙ ap (λ (ws : List (List ℕ)). get_or ws 4 c.index-words-4.result) same) in
    let operation : c.as_slice-2.result.now ≡ get_or (entry_words line e) 5 c.index-words-5.result =
    c.as_slice-2.ensures ∙ (c.index-words-5.is ∙ ap (λ (ws : List (List ℕ)). get_or ws 5 c.index-words-5.result) same) in
    let node : c.as_slice-3.result.now ≡ decimal e.node =
    c.as_slice-3.ensures ∙ (c.index-words-1.is ∙ (ap (λ (ws : List (List ℕ)). get_or ws 1 c.index-words-1.result) same ∙ node_of_operation e.kind h (decimal e.node) (decimal line) (decimal e.item) c.index-words-1.result)) in
    let item : c.as_slice-4.result.now ≡ decimal e.item =
    c.as_slice-4.ensures ∙ (c.index-words-6.is ∙ (ap (λ (ws : List (List ℕ)). get_or ws 6 c.index-words-6.result) same ∙ sixth e.kind (decimal e.node) (decimal line) (decimal e.item) c.index-words-6.result)) in
    let kind : c.kind_of-kind.result ≡ e.kind =
    c.kind_of-kind.ensures.is ∙ ((λ i. kind_by (place i) (operation i)) ∙ kind_read e.kind h (decimal e.node) (decimal line) (decimal e.item) c.index-words-4.result c.index-words-5.result) in
    c.numbered.ensures.found e.node e.item hn hx node item ∙ ap (λ (k : Kind). Some (record { node = e.node; kind = k; item = e.item })) kind
