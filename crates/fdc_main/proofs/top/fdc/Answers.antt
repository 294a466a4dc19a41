use Rattle.fdc_main.proofs.Told.{status_fits, out_fits, err_fits, write_rose}
use Rattle.fdc_main.proofs.Exact.{status_exact, out_exact, err_exact}
use Rattle.fdc_main.proofs.top.fdc.Goals as goal

pub returns-in-Ok-clause-status : goal.returns-in-Ok-clause-status
returns-in-Ok-clause-status g c =
    status_fits c.in-Ok.answer c.tell.result _ (g.S.Source.held c.args.deck.now) (g.S.Source.faults c.args.deck.now) (g.S.Source.faults c.answer_words.new.deck)
    (g.E.Sink.taken c.args.err.now) (g.E.Sink.taken c.tell.new.err) (g.E.Sink.faults c.args.err.now) (g.E.Sink.faults c.tell.new.err) c.in-Ok.ensures.fits c.tell.ensures.err

pub returns-in-Ok-clause-out : goal.returns-in-Ok-clause-out
returns-in-Ok-clause-out g c =
    out_fits c.in-Ok.answer c.tell.result _ (g.S.Source.held c.args.deck.now) (g.S.Source.faults c.args.deck.now) (g.S.Source.faults c.answer_words.new.deck)
    (g.O.Sink.taken c.args.out.now) (g.O.Sink.taken c.tell.new.out) (g.E.Sink.taken c.args.err.now) (g.E.Sink.taken c.tell.new.err)
    (g.O.Sink.faults c.args.out.now) (g.O.Sink.faults c.tell.new.out) (g.E.Sink.faults c.args.err.now) (g.E.Sink.faults c.tell.new.err)
    c.in-Ok.ensures.fits c.tell.ensures.out c.tell.ensures.err

pub returns-in-Ok-clause-err : goal.returns-in-Ok-clause-err
returns-in-Ok-clause-err g c =
    err_fits c.in-Ok.answer c.tell.result _ (g.S.Source.held c.args.deck.now) (g.S.Source.faults c.args.deck.now) (g.S.Source.faults c.answer_words.new.deck)
    (g.E.Sink.taken c.args.err.now) (g.E.Sink.taken c.tell.new.err) (g.E.Sink.faults c.args.err.now) (g.E.Sink.faults c.tell.new.err) c.in-Ok.ensures.fits c.tell.ensures.err

pub returns-in-Ok-clause-exact : goal.returns-in-Ok-clause-exact
returns-in-Ok-clause-exact g c = status_exact c.tell.result _ _ (returns-in-Ok-clause-status g c)

pub returns-in-Ok-clause-exact_out : goal.returns-in-Ok-clause-exact_out
returns-in-Ok-clause-exact_out g c =
    out_exact c.tell.result _ _ (g.O.Sink.taken c.args.out.now) (g.O.Sink.taken c.tell.new.out) (g.O.Sink.faults c.args.out.now) (g.O.Sink.faults c.tell.new.out) (returns-in-Ok-clause-status g c) (returns-in-Ok-clause-out g c)
    (write_rose c.in-Ok.answer c.tell.result (g.O.Sink.taken c.args.out.now) (g.O.Sink.taken c.tell.new.out) (g.E.Sink.taken c.args.err.now) (g.E.Sink.taken c.tell.new.err)
    (g.O.Sink.faults c.args.out.now) (g.O.Sink.faults c.tell.new.out) (g.E.Sink.faults c.args.err.now) (g.E.Sink.faults c.tell.new.err) c.tell.ensures.out c.tell.ensures.err)

pub returns-in-Ok-clause-exact_err : goal.returns-in-Ok-clause-exact_err
returns-in-Ok-clause-exact_err g c =
    err_exact c.tell.result _ _ (g.E.Sink.taken c.args.err.now) (g.E.Sink.taken c.tell.new.err) (g.E.Sink.faults c.args.err.now) (g.E.Sink.faults c.tell.new.err) (returns-in-Ok-clause-status g c) (returns-in-Ok-clause-err g c)

pub returns-in-Err-clause-exact : goal.returns-in-Err-clause-exact
returns-in-Err-clause-exact g c = λ r w. absurd (w c.want_memory.ensures.status)

pub returns-in-Err-clause-exact_out : goal.returns-in-Err-clause-exact_out
returns-in-Err-clause-exact_out g c = λ r w. absurd (w c.want_memory.ensures.status)

pub returns-in-Err-clause-exact_err : goal.returns-in-Err-clause-exact_err
returns-in-Err-clause-exact_err g c = λ r f w. absurd (w c.want_memory.ensures.status)
