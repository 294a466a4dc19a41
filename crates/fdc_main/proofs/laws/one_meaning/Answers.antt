use Rattle.fdc_main.proofs.Meanings as meanings
use Rattle.fdc_main.proofs.laws.one_meaning.Goals as goal

pub returns : goal.returns
returns c = meanings.one_meaning
