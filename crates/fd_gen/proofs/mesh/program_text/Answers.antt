use Rattle.fd_gen.specs.Mesh.{before_size, behind_size}
use Rattle.fd_gen.proofs.Programs.{program_is}
use Rattle.fd_gen.proofs.mesh.program_text.Goals as goal

pub returns : goal.returns
unfolding before_size behind_size
returns c =
    program_is c.args.size c.from.result c.in_ok-text.text c.append_number.new.self c.as_bytes.result.now c.append.new.self
    c.in_ok-text.ensures c.from.ensures c.in_ok-append_number.ensures c.as_bytes.ensures.value c.in_ok-append.ensures.ok
