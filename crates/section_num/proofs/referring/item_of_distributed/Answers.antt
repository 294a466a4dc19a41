use Rattle.std.proofs.Common.{◌≡◌, ◌++◌, ◌∙◌, [], length, sym, ap, Some, Ok, false, arith}
use Rattle.std.proofs.lemmas.List.{append-nil, length-map}
use Rattle.fd_prog.specs.Outcomes.{and_then}
use Rattle.fd_prog.specs.Expressions.{expressions_of}
use Rattle.fd_prog.specs.Items.{is_local, item_names, linear_item_of, widened_over}
use Rattle.owner_part.specs.Distributions.{view_of}
use Rattle.section_num.specs.Views.{counted_of, loops_of, names_of, program_in, setting_of}
use Rattle.section_num.proofs.Locals.{location_is, widened_item}
use Rattle.section_num.proofs.Reaches.{kept_fits}
use Rattle.section_num.proofs.referring.item_of_distributed.Goals as goal

pub item_over-requires-2-clause-kept : goal.item_over-requires-2-clause-kept
item_over-requires-2-clause-kept c =
    let p = program_in c.args.stand.now in
    let around = (setting_of c.args.stand.now).around in
    let names = names_of c.in_ok-names.names in
    let reached : c.reach.result ≡ length (widened_over p around []) = c.reach.ensures ∙ c.requires.reach.count in
    let loops : loops_of c.deref.result.now ≡ widened_over p around (names ++ []) = ap loops_of c.deref.ensures.value ∙ c.in_ok-loops.ensures.loops p [] reached in
    let count : c.len.result ≡ length (loops_of c.deref.result.now) = omega (arith, c.len.ensures, length-map c.deref.result.now counted_of, ap length c.deref.ensures.value) in
    kept_fits p c.args.stand.now.around.now names (loops_of c.deref.result.now) c.len.result c.forms_at-kept.result c.requires.reach loops count c.forms_at-kept.ensures

pub returns-in-Ok-clause-found : goal.returns-in-Ok-clause-found
returns-in-Ok-clause-found c =
    let p = program_in c.args.stand.now in
    let s = setting_of c.args.stand.now in
    let d = view_of c.args.distribution.now in
    let subs = expressions_of c.args.subs.now in
    let plain = linear_item_of c.in_ok-plain.plain in
    let location = location_is s d c.args.array subs plain _ c.in_ok-plain.ensures.found c.in_ok-location.ensures.found in
    let local : is_local d plain.subs plain.home ≡ false = sym (c.is_local.ensures plain.subs location) ∙ c.if-is_local.false in
    let reached : c.reach.result ≡ length (widened_over p s.around []) = c.reach.ensures ∙ c.requires.reach.count in
    let loops : loops_of c.deref.result.now ≡ widened_over p s.around (item_names p plain) =
    ap loops_of c.deref.ensures.value
    ∙ (c.in_ok-loops.ensures.loops p [] reached ∙ (ap (widened_over p s.around) (append-nil (names_of c.in_ok-names.names)) ∙ ap (widened_over p s.around) c.in_ok-names.ensures)) in
    widened_item p s d c.args.array subs plain (loops_of c.deref.result.now) c.in_ok-plain.ensures.found local loops
    ∙ ap (λ r. and_then r (λ x. Ok (Some x))) c.in-Ok.ensures.found

pub returns-clause-refused : goal.returns-clause-refused
returns-clause-refused c =
    let p = program_in c.args.stand.now in
    let s = setting_of c.args.stand.now in
    let d = view_of c.args.distribution.now in
    let subs = expressions_of c.args.subs.now in
    let plain = linear_item_of c.in_ok-plain.plain in
    let location = location_is s d c.args.array subs plain _ c.in_ok-plain.ensures.found c.in_ok-location.ensures.found in
    let local : is_local d plain.subs plain.home ≡ false = sym (c.is_local.ensures plain.subs location) ∙ c.if-is_local.false in
    let reached : c.reach.result ≡ length (widened_over p s.around []) = c.reach.ensures ∙ c.requires.reach.count in
    let loops : loops_of c.deref.result.now ≡ widened_over p s.around (item_names p plain) =
    ap loops_of c.deref.ensures.value
    ∙ (c.in_ok-loops.ensures.loops p [] reached ∙ (ap (widened_over p s.around) (append-nil (names_of c.in_ok-names.names)) ∙ ap (widened_over p s.around) c.in_ok-names.ensures)) in
    let whole = widened_item p s d c.args.array subs plain (loops_of c.deref.result.now) c.in_ok-plain.ensures.found local loops in
    λ h. whole ∙ ap (λ r. and_then r (λ x. Ok (Some x))) (c.in-Err.ensures.refused h)
