use Rattle.std.proofs.Common.{◌∙◌, sym, subst, arith, rules}
use Rattle.std.specs.Str.{IsUtf8}
use Rattle.std.proofs.lemmas.Fmt.{IsAscii-decimal, parse-decimal}
use Rattle.std.proofs.lemmas.Str.{IsUtf8-from_ascii}
use Rattle.std.proofs.lemmas.Grind.{common_steps}
use Rattle.place_text.proofs.cutting.number_of.Goals as goal

pub returns-in-Err : goal.returns-in-Err
returns-in-Err c n h e = absurd (c.in-Err.ensures.cases.0 (subst IsUtf8 (sym e) (IsUtf8-from_ascii _ (IsAscii-decimal n (omega arith)))))

pub returns-in-Ok : goal.returns-in-Ok
returns-in-Ok c n h e =
    let read = parse-decimal 32 n c.in-Ok.text.now c.parse.result h (omega arith) (c.in-Ok.ensures.cases.0 ∙ e) c.parse.ensures.value.0 in
    first_of (grind (arith, common_steps), search (rules, read), cc)
