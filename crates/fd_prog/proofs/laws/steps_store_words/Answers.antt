use Rattle.fd_prog.proofs.StoredWords.{assigned-words, first-stored, gained-words, read-words}
use Rattle.fd_prog.proofs.laws.steps_store_words.Goals as goal

pub returns-clause-assignment : goal.returns-clause-assignment
returns-clause-assignment c = assigned-words

pub returns-clause-reading : goal.returns-clause-reading
returns-clause-reading c = read-words

pub returns-clause-start : goal.returns-clause-start
returns-clause-start c = first-stored

pub returns-clause-gain : goal.returns-clause-gain
returns-clause-gain c = gained-words
