use Rattle.std.proofs.Common.{arith, length-take}
use Rattle.fd_io.proofs.Moves.{DeckRead-memory, Took-twice}
use Rattle.fd_io.proofs.deck.read_bytes.Goals as goal

pub returns-in_err-append-clause-bytes : goal.returns-in_err-append-clause-bytes
returns-in_err-append-clause-bytes g c =
    DeckRead-memory _ _ _ c.from_residual-in_err-append.ensures.1
    (Took-twice _ _ _ _ _ _ c.loop-buffer.invariant.taken c.in_ok-count.ensures.bytes.0 (omega (arith, c.in_ok-count.ensures.bound.0, c.in_ok-count.ensures.bound.1, simp length-take at c.read.auto.buf)))
