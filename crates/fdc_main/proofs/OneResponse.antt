-- A mode has at most one response to what a deck means.
use Rattle.std.proofs.Common.{◌≡◌, List, ℕ, sym, ◌∙◌, ap, subst}
use Rattle.fd_prog.specs.Programs.{CheckedProgram}
use Rattle.fdc_main.specs.Meaning.{Meaning, TooLong, Refused, PastLimit, Accepted, DeckMeans}
use Rattle.fdc_main.specs.Responses.{Response, AcceptedBy, Responds, done_with, finding_told}
use Rattle.fdc_main.specs.declared.command_line.DeckMode.{DeckMode}
use Rattle.fdc_main.specs.declared.command_line.DeckMode.TheVariants.{Seq, Map, Plan, Check}
use Rattle.fdc_main.proofs.Listed.{one_listing}
use Rattle.fdc_main.proofs.Meanings.{one_meaning}
use Rattle.fdc_main.proofs.OneFinding.{one_finding}

accepted_one : (mode : DeckMode) (p : CheckedProgram) (rest : List ℕ) (r s : Response) → AcceptedBy mode p rest r → AcceptedBy mode p rest s → r ≡ s
accepted_one (Seq steps) p rest r s h k = h ∙ sym k
accepted_one (Map ranks) p rest r s h k = h ∙ sym k
accepted_one Plan p rest r s (a, e) (b, f) = e ∙ ap done_with (one_listing p r.out s.out a b) ∙ sym f
accepted_one Check p rest r s (a, found, e) (b, also, f) = e ∙ ap finding_told (one_finding p rest a b found also) ∙ sym f

pub one_response : (mode : DeckMode) (m : Meaning) (r s : Response) → Responds mode m r → Responds mode m s → r ≡ s
one_response mode TooLong r s h k = h ∙ sym k
one_response mode (Refused line number) r s h k = h ∙ sym k
one_response mode (PastLimit line limit) r s h k = h ∙ sym k
one_response mode (Accepted p rest) r s h k = accepted_one mode p rest r s h k

-- the same by what bytes mean
pub same_response : (mode : DeckMode) (bytes : List ℕ) (m n : Meaning) (r s : Response) → DeckMeans bytes m → DeckMeans bytes n → Responds mode m r → Responds mode n s → s ≡ r
same_response mode bytes m n r s p q h k = one_response mode m s r (subst (λ (x : Meaning). Responds mode x s) (one_meaning bytes n m q p) k) h
