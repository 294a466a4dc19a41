use Rattle.fd_prog.proofs.StoredWords.{passed-words}
use Rattle.program_laws.proofs.WordsStored.{stored}
use Rattle.program_laws.proofs.laws.accepted_stores_are_words.Goals as goal

pub returns-clause-run : goal.returns-clause-run
returns-clause-run c = λ t now h given passed. passed-words t now given h.words passed

pub returns-clause-step : goal.returns-clause-step
returns-clause-step c = λ p input node s next h given here words step. stored p input node s next h.words given here words step
