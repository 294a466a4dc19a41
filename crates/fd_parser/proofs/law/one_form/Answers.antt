use Rattle.fd_parser.proofs.OneForm as forms
use Rattle.fd_parser.proofs.law.one_form.Goals as goal

pub returns : goal.returns
returns c = λ l ts f g. forms.one_form
