use Rattle.std.proofs.Common.{◌∙◌, ap}
use Rattle.place_check.specs.Verdicts.{numbers_of}
use Rattle.place_check.proofs.Told.{told_path}
use Rattle.place_check.proofs.reached.Search.path.Goals as goal

pub returns : goal.returns
returns c =
    ap numbers_of (c.from_vec.ensures ∙ c.reverse.ensures.items)
    ∙ told_path c.args.self.now.reached.items c.loop-i.nodes.items c.push-2.new.self.items c.args.at c.args.last c.loop-i.i c.index-2.result.now c.requires.back c.requires.inside
    c.in_ok-push-3.ensures.items c.index-2.ensures c.loop-i-test.false c.loop-i.invariant.way
