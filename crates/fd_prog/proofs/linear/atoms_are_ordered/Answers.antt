use Rattle.fd_prog.proofs.FormOrders.{atom_same}
use Rattle.fd_prog.proofs.TotalOrder.{atom_order_total}
use Rattle.fd_prog.proofs.linear.atoms_are_ordered.Goals as goal

pub returns-clause-order : goal.returns-clause-order
returns-clause-order c = atom_order_total

pub returns-clause-equal : goal.returns-clause-equal
returns-clause-equal c = atom_same
