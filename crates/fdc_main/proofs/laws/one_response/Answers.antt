use Rattle.fdc_main.proofs.OneResponse as responses
use Rattle.fdc_main.proofs.laws.one_response.Goals as goal

pub returns : goal.returns
returns c = responses.one_response
