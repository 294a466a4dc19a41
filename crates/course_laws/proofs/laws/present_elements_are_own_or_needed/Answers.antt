use Rattle.course_laws.proofs.Present.{present, sent}
use Rattle.course_laws.proofs.laws.present_elements_are_own_or_needed.Goals as goal

pub returns-clause-present : goal.returns-clause-present
returns-clause-present c = present

pub returns-clause-sent : goal.returns-clause-sent
returns-clause-sent c = sent
