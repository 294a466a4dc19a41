use Rattle.std.proofs.Common.{arith}
use Rattle.std.proofs.lemmas.Grind.{common_steps}
use Rattle.fd_prog.specs.Programs.{program_of}
use Rattle.place_text.proofs.Lines.{items_more}
use Rattle.place_text.proofs.listing.item_lines.Goals as goal

pub loop-index-preserved : goal.loop-index-preserved
loop-index-preserved c =
    let more = items_more (program_of c.args.program.now) c.args.items.now c.loop-index.index c.index-items-index.result (omega arith) c.index-items-index.is in
    rw more (grind (arith, common_steps))
