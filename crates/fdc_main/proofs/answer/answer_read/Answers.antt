use Rattle.fdc_main.proofs.Told.{deck_fit}
use Rattle.fdc_main.proofs.answer.answer_read.Goals as goal

pub returns-clause-fits : goal.returns-clause-fits
returns-clause-fits g c =
    deck_fit c.answer_deck.result c.args.mode (g.S.Source.held c.args.deck.now) (g.S.Source.held c.read_deck.new.source) _ c.as_slice.result.now _ _
    c.in-Ok.ensures.bytes.0 c.in-Ok.ensures.bytes.1 c.as_slice.ensures c.answer_deck.ensures
