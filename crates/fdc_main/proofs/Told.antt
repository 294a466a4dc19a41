-- What is said of an answer and of how it is told holds of the one call.
use Rattle.std.proofs.Common.{◌≡◌, ℕ, List, Option, None, Some, Result, Ok, Err, IfOk, sym, ap, subst}
use Rattle.std.specs.Io.KnownBytes.{Appends, Consumes, IsAtEnd}
use Rattle.std.proofs.KnownBytes.{Consumes-whole}
use Rattle.fd_io.specs.Causes.{Rose}
use Rattle.fd_io.specs.Piece.{GainsPrefix}
use Rattle.fd_base.specs.declared.memory.Memory.{Memory}
use Rattle.fdc_main.specs.Meaning.{Meaning, TooLong, DeckMeans}
use Rattle.fdc_main.specs.Responses.{Response, Responds, mesh_told}
use Rattle.fdc_main.specs.Texts.{too_long_text}
use Rattle.fdc_main.specs.Top.{Asks, ReadsDeck, StatusFits, OutFits, ErrFits, Told}
use Rattle.fdc_main.specs.Answers.{Stands, AnswersDeck, AnswerFits, AnswerOut, AnswerErr}
use Rattle.fdc_main.specs.declared.command_line.DeckMode.{DeckMode}
use Rattle.fdc_main.specs.declared.command_line.Mode.{Mode}
use Rattle.fdc_main.specs.declared.command_line.Mode.TheVariants.{Deck, Gen}
use Rattle.fdc_main.specs.declared.answer.Answer.{Answer}
use Rattle.fdc_main.specs.declared.answer.Answer.TheVariants as answer
use Rattle.fdc_main.specs.declared.status.Status.{Status}
use Rattle.fdc_main.specs.declared.status.Status.TheVariants as status

-- ---- an answer

-- a deck that was read whole
pub fits_deck : (a : Answer) (mode : DeckMode) (old new : Option (List ℕ)) (bytes : List ℕ) (before now : ℕ) → Consumes old new bytes → IsAtEnd new → AnswersDeck mode bytes a → AnswerFits a (Some (Deck mode)) old before now
fits_deck answer.Usage mode old new bytes before now took end (m, means, (r, responds, h)) = absurd h
fits_deck answer.ReadFault mode old new bytes before now took end (m, means, (r, responds, h)) = absurd h
fits_deck a mode old new bytes before now took end h = Consumes-whole old new bytes (λ bs. (m : Meaning) × DeckMeans bs m × ((r : Response) × Responds mode m r × Stands a r)) took end h

-- ---- what is told

asks_also : (mode : Option Mode) (held : Option (List ℕ)) (P Q : Response → Type 0) → ((r : Response) → P r → Q r) → Asks mode held P → Asks mode held Q
asks_also None held P Q f h = absurd h
asks_also (Some (Gen nodes start)) held P Q f h = f (mesh_told nodes start) h
asks_also (Some (Deck mode)) None P Q f h = tt
asks_also (Some (Deck mode)) (Some bytes) P Q f (m, means, (r, responds, h)) = (m, means, (r, responds, f r h))

-- the response for which an answer stands has this status
by_status : (s t : Status) (mode : Option Mode) (held : Option (List ℕ)) (P : Response → Type 0) → ((r : Response) → P r → r.status ≡ t) → (Asks mode held (λ r. r.status ≡ t) → StatusFits mode held t) → s ≡ t → Asks mode held P → StatusFits mode held s
by_status s t mode held P f same is h = subst (λ s. StatusFits mode held s) (sym is) (same (asks_also mode held P (λ r. r.status ≡ t) f h))

pub status_fits : (a : Answer) (s : Status) (mode : Option Mode) (held : Option (List ℕ)) (b n : ℕ) (old new : Option (List ℕ)) (before now : ℕ)
    → AnswerFits a mode held b n → AnswerErr a s old new before now → StatusFits mode held s
status_fits answer.Usage s mode held b n old new before now fits (is, told) = subst (λ s. StatusFits mode held s) (sym is) fits
status_fits answer.ReadFault s mode held b n old new before now fits (is, told) = subst (λ s. StatusFits mode held s) (sym is) fits.0
status_fits answer.TooLong s mode held b n old new before now fits (is, told) = by_status s status.Source mode held (Stands answer.TooLong) (λ r h. ap (λ (r : Response). r.status) h) (λ h. h) is fits
status_fits (answer.Source line) s mode held b n old new before now fits (is, told) = by_status s status.Source mode held (Stands (answer.Source line)) (λ r h. ap (λ (r : Response). r.status) h) (λ h. h) is fits
status_fits (answer.Input line) s mode held b n old new before now fits (is, told) = by_status s status.Input mode held (Stands (answer.Input line)) (λ r h. ap (λ (r : Response). r.status) h) (λ h. h) is fits
status_fits (answer.Listing line) s mode held b n old new before now fits (is, told) = by_status s status.Listing mode held (Stands (answer.Listing line)) (λ r h. ap (λ (r : Response). r.status) h) (λ h. h) is fits
status_fits (answer.RunFault out line) s mode held b n old new before now fits (is, told) = by_status s status.RunFault mode held (Stands (answer.RunFault out line)) (λ r h. ap (λ (r : Response). r.status) h) (λ h. h) is fits
status_fits (answer.Done out) status.Done mode held b n old new before now fits told = asks_also mode held (Stands (answer.Done out)) (λ r. r.status ≡ status.Done) (λ r h. ap (λ (r : Response). r.status) h) fits
status_fits (answer.Done out) status.WriteFault mode held b n old new before now fits told = asks_also mode held (Stands (answer.Done out)) (λ r. r.status ≡ status.Done) (λ r h. ap (λ (r : Response). r.status) h) fits
status_fits (answer.Done out) s mode held b n old new before now fits told = absurd told

-- 6 only where a write failed
pub write_rose : (a : Answer) (s : Status) (old new old' new' : Option (List ℕ)) (before now before' now' : ℕ)
    → AnswerOut a s old new before now → AnswerErr a s old' new' before' now' → s ≡ status.WriteFault → Rose before now
write_rose answer.Usage s old new old' new' before now before' now' out err e = absurd (cc (err.0, e))
write_rose answer.ReadFault s old new old' new' before now before' now' out err e = absurd (cc (err.0, e))
write_rose answer.TooLong s old new old' new' before now before' now' out err e = absurd (cc (err.0, e))
write_rose (answer.Source line) s old new old' new' before now before' now' out err e = absurd (cc (err.0, e))
write_rose (answer.Input line) s old new old' new' before now before' now' out err e = absurd (cc (err.0, e))
write_rose (answer.Listing line) s old new old' new' before now before' now' out err e = absurd (cc (err.0, e))
write_rose (answer.RunFault text line) s old new old' new' before now before' now' out err e = absurd (cc (err.0, e))
write_rose (answer.Done text) s old new old' new' before now before' now' out err e = (subst (λ s. AnswerOut (answer.Done text) s old new before now) e out).1

-- what standard output gained
pub out_fits : (a : Answer) (s : Status) (mode : Option Mode) (held : Option (List ℕ)) (b n : ℕ) (old new old' new' : Option (List ℕ)) (before now before' now' : ℕ)
    → AnswerFits a mode held b n → AnswerOut a s old new before now → AnswerErr a s old' new' before' now' → OutFits mode held s old new before now
out_fits answer.Usage s mode held b n old new old' new' before now before' now' fits out (is, told) = subst (λ s. OutFits mode held s old new before now) (sym is) out
out_fits answer.ReadFault s mode held b n old new old' new' before now before' now' fits out (is, told) = subst (λ s. OutFits mode held s old new before now) (sym is) out
out_fits answer.TooLong s mode held b n old new old' new' before now before' now' fits out (is, told) = subst (λ s. OutFits mode held s old new before now) (sym is) out
out_fits (answer.Source line) s mode held b n old new old' new' before now before' now' fits out (is, told) = subst (λ s. OutFits mode held s old new before now) (sym is) out
out_fits (answer.Input line) s mode held b n old new old' new' before now before' now' fits out (is, told) = subst (λ s. OutFits mode held s old new before now) (sym is) out
out_fits (answer.Listing line) s mode held b n old new old' new' before now before' now' fits out (is, told) = subst (λ s. OutFits mode held s old new before now) (sym is) out
out_fits (answer.RunFault text line) s mode held b n old new old' new' before now before' now' fits out (is, told) =
    subst (λ s. OutFits mode held s old new before now) (sym is)
    (asks_also mode held (Stands (answer.RunFault text line)) (λ r. Told old new before now r.out) (λ r h. subst (λ (x : List ℕ). Told old new before now x) (sym (ap (λ (r : Response). r.out) h)) out) fits)
out_fits (answer.Done text) status.Done mode held b n old new old' new' before now before' now' fits out told =
    asks_also mode held (Stands (answer.Done text)) (λ r. Appends old new r.out) (λ r h. subst (λ (x : List ℕ). Appends old new x) (sym (ap (λ (r : Response). r.out) h)) out) fits
out_fits (answer.Done text) status.WriteFault mode held b n old new old' new' before now before' now' fits out told =
    asks_also mode held (Stands (answer.Done text)) (λ r. GainsPrefix old new r.out) (λ r h. subst (λ (x : List ℕ). GainsPrefix old new x) (sym (ap (λ (r : Response). r.out) h)) out.0) fits
out_fits (answer.Done text) s mode held b n old new old' new' before now before' now' fits out told = absurd told

-- what standard error was told
by_line : (s t : Status) (line : List ℕ) (mode : Option Mode) (held : Option (List ℕ)) (old new : Option (List ℕ)) (before now : ℕ) (P : Response → Type 0) → ((r : Response) → P r → r.err ≡ line)
    → (Asks mode held (λ r. Told old new before now r.err) → ErrFits mode held t old new before now) → s ≡ t → Asks mode held P → Told old new before now line → ErrFits mode held s old new before now
by_line s t line mode held old new before now P f same is fits told =
    subst (λ s. ErrFits mode held s old new before now) (sym is) (same
    (asks_also mode held P (λ r. Told old new before now r.err) (λ r h. subst (λ (x : List ℕ). Told old new before now x) (sym (f r h)) told) fits))

pub err_fits : (a : Answer) (s : Status) (mode : Option Mode) (held : Option (List ℕ)) (b n : ℕ) (old new : Option (List ℕ)) (before now : ℕ)
    → AnswerFits a mode held b n → AnswerErr a s old new before now → ErrFits mode held s old new before now
err_fits answer.Usage s mode held b n old new before now fits (is, told) = subst (λ s. ErrFits mode held s old new before now) (sym is) told
err_fits answer.ReadFault s mode held b n old new before now fits (is, told) = subst (λ s. ErrFits mode held s old new before now) (sym is) told
err_fits answer.TooLong s mode held b n old new before now fits (is, told) = by_line s status.Source too_long_text mode held old new before now (Stands answer.TooLong) (λ r h. ap (λ (r : Response). r.err) h) (λ h. h) is fits told
err_fits (answer.Source line) s mode held b n old new before now fits (is, told) = by_line s status.Source line mode held old new before now (Stands (answer.Source line)) (λ r h. ap (λ (r : Response). r.err) h) (λ h. h) is fits told
err_fits (answer.Input line) s mode held b n old new before now fits (is, told) = by_line s status.Input line mode held old new before now (Stands (answer.Input line)) (λ r h. ap (λ (r : Response). r.err) h) (λ h. h) is fits told
err_fits (answer.Listing line) s mode held b n old new before now fits (is, told) = by_line s status.Listing line mode held old new before now (Stands (answer.Listing line)) (λ r h. ap (λ (r : Response). r.err) h) (λ h. h) is fits told
err_fits (answer.RunFault text line) s mode held b n old new before now fits (is, told) = by_line s status.RunFault line mode held old new before now (Stands (answer.RunFault text line)) (λ r h. ap (λ (r : Response). r.err) h) (λ h. h) is fits told
err_fits (answer.Done text) status.Done mode held b n old new before now fits told = told
err_fits (answer.Done text) status.WriteFault mode held b n old new before now fits told = told
err_fits (answer.Done text) s mode held b n old new before now fits told = absurd told

-- the answer of a mode on a deck that was read whole
pub deck_fit : (result : Result Answer Memory) (mode : DeckMode) (old new : Option (List ℕ)) (bytes seen : List ℕ) (before now : ℕ) → Consumes old new bytes → IsAtEnd new → seen ≡ bytes
    → IfOk result (AnswersDeck mode seen) → IfOk result (λ a. AnswerFits a (Some (Deck mode)) old before now)
deck_fit (Ok a) mode old new bytes seen before now took end same h =
    fits_deck a mode old new seen before now (subst (λ (bs : List ℕ). Consumes old new bs) (sym same) took) end h
deck_fit (Err m) mode old new bytes seen before now took end same h = tt

-- the answer to words that are a mode
pub words_fit : (result : Result Answer Memory) (mode : Mode) (wanted : Option Mode) (old : Option (List ℕ)) (before now : ℕ) → wanted ≡ Some mode
    → IfOk result (λ a. AnswerFits a (Some mode) old before now) → IfOk result (λ a. AnswerFits a wanted old before now)
words_fit result mode wanted old before now is h = subst (λ (w : Option Mode). IfOk result (λ a. AnswerFits a w old before now)) (sym is) h

-- words that are a mode that reads the deck
pub reads : (mode : DeckMode) (wanted : Option Mode) → wanted ≡ Some (Deck mode) → ReadsDeck wanted
reads mode wanted is = subst ReadsDeck (sym is) tt

-- words that are a mode that reads nothing
pub reads_not : (nodes start : ℕ) (wanted : Option Mode) → wanted ≡ Some (Gen nodes start) → ReadsDeck wanted → ⊥
reads_not nodes start wanted is h = subst ReadsDeck is h
