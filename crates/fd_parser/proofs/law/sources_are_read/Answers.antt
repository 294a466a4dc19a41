use Rattle.fd_parser.proofs.Bytes as bytes
use Rattle.fd_parser.proofs.law.sources_are_read.Goals as goal

pub returns-clause-read : goal.returns-clause-read
returns-clause-read c = bytes.read_source

pub returns-clause-reading : goal.returns-clause-reading
returns-clause-reading c = λ text t k rest s. let p = bytes.source_read text t k rest s in (p.lexed, p.reading)

pub returns-clause-text : goal.returns-clause-text
returns-clause-text c = bytes.source_text
