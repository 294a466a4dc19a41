use Rattle.std.proofs.Common.{arith}
use Rattle.fd_lexer.proofs.Places.{step_last, step_ended, without_shorter}
use Rattle.std.proofs.Common.{ap, length}
use Rattle.fd_lexer.proofs.scan.first_line.Goals as goal

pub returns-in-None : goal.returns-in-None
returns-in-None c =
    let len = c.line_len-len.ensures in
    let front = c.split_at.ensures.front_len in
    let back = c.split_at.ensures.back_len in
    let r = c.requires in
    record {
      counted = step_last _ _ _ _ _ _ len.value len.within c.split_at.ensures.front c.split_at.ensures.back c.in-None.ensures.cases;
      between = record {
        from = omega arith;
        bytes = omega (arith, front);
        to = omega arith;
        number = r.room.numbers;
        all = omega (arith, back);
        shorter = omega (arith, back, r.some, c.in-None.ensures.cases);
        numbers = omega (arith, r.room.numbers);
      };
    }

pub returns-in-Some : goal.returns-in-Some
returns-in-Some c =
    let len = c.line_len-len.ensures in
    let front = c.split_at.ensures.front_len in
    let back = c.split_at.ensures.back_len in
    let r = c.requires in
    let after = ap length c.in-Some.ensures.cases.0 in
    let short = without_shorter c.without_return.result.now c.split_at.result.0.now c.without_return.ensures in
    record {
      counted = step_ended _ _ _ _ _ _ _ _ _ len.value c.split_at.ensures.front c.split_at.ensures.back c.in-Some.ensures.cases.0 c.without_return.ensures;
      between = record {
        from = omega arith;
        bytes = omega (arith, front, short);
        to = omega arith;
        number = r.room.numbers;
        all = omega (arith, back, after);
        shorter = omega (arith, back, after);
        numbers = omega (arith, r.room.numbers);
      };
    }
