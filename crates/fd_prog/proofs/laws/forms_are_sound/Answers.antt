use Rattle.fd_prog.proofs.SoundForms.{form-sound, items-sound}
use Rattle.fd_prog.proofs.laws.forms_are_sound.Goals as goal

pub returns-clause-forms : goal.returns-clause-forms
returns-clause-forms c = form-sound

pub returns-clause-items : goal.returns-clause-items
returns-clause-items c = items-sound
