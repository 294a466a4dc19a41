use Rattle.std.proofs.Common.{refl}
use Rattle.fd_prog.proofs.StoredWords.{passed-words}
use Rattle.fd_prog.proofs.laws.stores_are_words.Goals as goal

pub returns-clause-words : goal.returns-clause-words
returns-clause-words c = λ t p given has passed. passed-words t p given has passed

pub returns-clause-one : goal.returns-clause-one
returns-clause-one c = λ p s array site n. refl
