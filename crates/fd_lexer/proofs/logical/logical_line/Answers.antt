use Rattle.std.proofs.Common.{refl, sym}
use Rattle.fd_lexer.proofs.Joined.{summed_none}
use Rattle.fd_lexer.proofs.Groups.{joining_first, joining_more, joined_last, joined_end}
use Rattle.fd_lexer.proofs.logical.logical_line.Goals as goal

pub parts-init : goal.parts-init
parts-init c = joining_first _ _ _ _ _ c.in-Some.ensures.some (summed_none _ _) refl

pub parts-preserved : goal.parts-preserved
parts-preserved c = joining_more _ _ _ _ _ _ _ c.parts.invariant _ _ c.in_ok-faults.ensures _ _ (sym c.if-not-continued.ensures) c.in-Some-next_line.ensures.some

pub returns-then-not-continued : goal.returns-then-not-continued
returns-then-not-continued c =
    let w = c.whole_line.ensures in
    joined_last _ _ _ _ _ _ _ c.parts.invariant _ _ c.in_ok-faults.ensures _ (sym c.if-not-continued.ensures) w.number w.end w.next w.cause

pub returns-in-None : goal.returns-in-None
returns-in-None c =
    let w = c.whole_line-in-None.ensures in
    joined_end _ _ _ _ _ _ _ c.parts.invariant _ _ c.in_ok-faults.ensures _ (sym c.if-not-continued.ensures) c.in-None.ensures.none w.number w.end w.next w.cause
