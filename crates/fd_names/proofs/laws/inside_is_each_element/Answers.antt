use Rattle.fd_names.proofs.Insides.{inside_lies, lies_inside}
use Rattle.fd_names.proofs.laws.inside_is_each_element.Goals as goal

pub returns-clause-inside : goal.returns-clause-inside
returns-clause-inside c = inside_lies

pub returns-clause-outside : goal.returns-clause-outside
returns-clause-outside c = lies_inside
