use Rattle.fd_links.proofs.Added.{moves_both}
use Rattle.fd_links.proofs.links.move_to.Goals as goal

pub returns : goal.returns
returns c =
    moves_both c.args.nodes.now.items c.take_out.new.nodes.items c.append.new.nodes.items c.args.place c.args.head c.take_out.ensures.len c.append.ensures.len c.take_out.ensures.links c.take_out.ensures.back c.append.ensures.links c.append.ensures.back
