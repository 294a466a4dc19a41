use Rattle.std.proofs.Common.{◌+◌, ◌*◌, arith, refl, sym, ap, ◌∙◌}
use Rattle.fd_base.specs.Places.{owner_in}
use Rattle.fd_base.proofs.Places.{same_from_local}
use Rattle.decomp_map.proofs.Elements.{size_of_owners, owning_rank, element_inside, parts_fit, owner_at_spot, local_is}
use Rattle.decomp_map.proofs.map.Map.element_at.Goals as goal

pub spot_at-spot-requires : goal.spot_at-spot-requires
spot_at-spot-requires c =
    let m = c.self.inside in
    let h = owning_rank m.inner m.width m.outer m.positions c.args.self.now c.args.rank.0 c.args.local c.self.view_is c.requires in
    record { rank = h.0; small = c.self.invariant.positions_end; inner = h.1.0; per_row = h.1.1 }

pub overflow_mul-result : goal.overflow_mul-result
overflow_mul-result c =
    let m = c.self.inside in
    let s = c.spot_at-spot in
    let h = owning_rank m.inner m.width m.outer m.positions c.args.self.now c.args.rank.0 c.args.local c.self.view_is c.requires in
    let e = element_inside m.inner m.width m.outer m.positions c.args.self.now c.args.rank.0 c.args.local s.result.turn s.result.index s.result.rest c.self.view_is c.requires s.ensures.local s.ensures.index s.ensures.rest in
    omega (arith, c.self.invariant.elements, (parts_fit s.result.turn m.width s.result.index m.inner s.result.rest (m.outer * m.width * m.inner) h.1.0 e).0)

pub overflow_add-result : goal.overflow_add-result
overflow_add-result c =
    let m = c.self.inside in
    let s = c.spot_at-spot in
    let h = owning_rank m.inner m.width m.outer m.positions c.args.self.now c.args.rank.0 c.args.local c.self.view_is c.requires in
    let e = element_inside m.inner m.width m.outer m.positions c.args.self.now c.args.rank.0 c.args.local s.result.turn s.result.index s.result.rest c.self.view_is c.requires s.ensures.local s.ensures.index s.ensures.rest in
    omega (arith, c.self.invariant.elements, (parts_fit s.result.turn m.width s.result.index m.inner s.result.rest (m.outer * m.width * m.inner) h.1.0 e).1.0)

pub overflow_mul-result-2 : goal.overflow_mul-result-2
overflow_mul-result-2 c =
    let m = c.self.inside in
    let s = c.spot_at-spot in
    let h = owning_rank m.inner m.width m.outer m.positions c.args.self.now c.args.rank.0 c.args.local c.self.view_is c.requires in
    let e = element_inside m.inner m.width m.outer m.positions c.args.self.now c.args.rank.0 c.args.local s.result.turn s.result.index s.result.rest c.self.view_is c.requires s.ensures.local s.ensures.index s.ensures.rest in
    omega (arith, c.self.invariant.elements, (parts_fit s.result.turn m.width s.result.index m.inner s.result.rest (m.outer * m.width * m.inner) h.1.0 e).1.1)

pub overflow_add-result-2 : goal.overflow_add-result-2
overflow_add-result-2 c =
    let m = c.self.inside in
    let s = c.spot_at-spot in
    omega (arith, c.self.invariant.elements, element_inside m.inner m.width m.outer m.positions c.args.self.now c.args.rank.0 c.args.local s.result.turn s.result.index s.result.rest c.self.view_is c.requires s.ensures.local s.ensures.index s.ensures.rest)

pub returns-clause-inside : goal.returns-clause-inside
returns-clause-inside c =
    let m = c.self.inside in
    let s = c.spot_at-spot in
    omega (arith, size_of_owners m.inner m.width m.outer m.positions c.args.self.now c.self.view_is, element_inside m.inner m.width m.outer m.positions c.args.self.now c.args.rank.0 c.args.local s.result.turn s.result.index s.result.rest c.self.view_is c.requires s.ensures.local s.ensures.index s.ensures.rest)

pub returns-clause-owner : goal.returns-clause-owner
returns-clause-owner c =
    let m = c.self.inside in
    let s = c.spot_at-spot in
    let element = (s.result.turn * m.width + s.result.index) * m.inner + s.result.rest in
    let h = element_inside m.inner m.width m.outer m.positions c.args.self.now c.args.rank.0 c.args.local s.result.turn s.result.index s.result.rest c.self.view_is c.requires s.ensures.local s.ensures.index s.ensures.rest in
    sym (ap (λ owners. owner_in owners element) c.self.view_is) ∙ (owner_at_spot m.inner m.width m.outer m.positions element s.result.turn s.result.index s.result.rest refl s.ensures.index s.ensures.rest h ∙ s.ensures.owner)

pub returns-clause-local : goal.returns-clause-local
returns-clause-local c =
    let m = c.self.inside in
    let s = c.spot_at-spot in
    let element = (s.result.turn * m.width + s.result.index) * m.inner + s.result.rest in
    sym (local_is m.inner m.width m.outer m.positions c.args.self.now element s.result.turn s.result.index s.result.rest c.args.rank.0 c.self.view_is refl s.ensures.index s.ensures.rest (returns-clause-inside c) (sym s.ensures.owner)) ∙ s.ensures.local

pub returns-clause-only : goal.returns-clause-only
returns-clause-only c = λ other h o l. same_from_local c.args.self.now other _ h (returns-clause-inside c) (o ∙ sym (returns-clause-owner c)) (l ∙ sym (returns-clause-local c))
