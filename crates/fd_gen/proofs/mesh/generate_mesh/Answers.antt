use Rattle.std.proofs.Common.{◌∙◌, ap}
use Rattle.fd_gen.specs.Draws.{permutation, state_after}
use Rattle.fd_gen.proofs.Draws.{IsPermutation-permutation}
use Rattle.fd_gen.proofs.Programs.{mesh_is}
use Rattle.fd_gen.proofs.mesh.generate_mesh.Goals as goal

pub returns-clause-text : goal.returns-clause-text
returns-clause-text c =
    mesh_is c.args.size c.args.start c.as_slice.result.now c.as_slice-2.result.now
    c.in_ok-text.text c.append_lines.new.text c.append_lines-2.new.text
    c.in_ok-text.ensures (c.as_slice.ensures.value ∙ c.in_ok-map.ensures.values)
    (c.as_slice-2.ensures.value
    ∙ (c.in_ok-permutation.ensures ∙ ap (λ s. permutation s c.args.size) c.in_ok-map.ensures.state))
    c.in_ok-append_lines.ensures c.in_ok-append_lines-2.ensures

pub returns-clause-nodes : goal.returns-clause-nodes
returns-clause-nodes c = IsPermutation-permutation (state_after c.args.start c.args.size) c.args.size
