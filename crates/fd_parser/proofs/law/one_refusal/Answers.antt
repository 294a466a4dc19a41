use Rattle.fd_parser.proofs.Refusals as refusal
use Rattle.fd_parser.proofs.law.one_refusal.Goals as goal

pub returns-clause-refusal : goal.returns-clause-refusal
returns-clause-refusal c = refusal.one_refusal

pub returns-clause-text : goal.returns-clause-text
returns-clause-text c = refusal.fine_text_stands
