-- The one response to what a deck means decides what is answered.
use Rattle.std.proofs.Common.{◌≡◌, ◌⊎◌, ℕ, ℤ, ◌≤◌, List, [], ◌++◌, length, take, Option, None, Some, Result, Ok, Err, inl, inr, refl, sym, ◌∙◌, ap, subst, arith}
use Rattle.std.specs.Io.KnownBytes.{Keeps, Appends}
use Rattle.std.proofs.lemmas.List.{take_all, append-nil}
use Rattle.fd_io.specs.Causes.{Rose}
use Rattle.fd_io.specs.Piece.{GainsPrefix}
use Rattle.fd_prog.specs.declared.run.Outcome.{Outcome}
use Rattle.fd_prog.specs.declared.run.Outcome.TheVariants.{Done, Fault}
use Rattle.fd_prog.specs.Programs.{CheckedProgram}
use Rattle.fd_prog.specs.Run.{lines_text}
use Rattle.fd_prog.specs.Sequence.{sequential_run}
use Rattle.fd_gen.specs.Mesh.{mesh_text}
use Rattle.fd_input.specs.Text.{input_numbers}
use Rattle.fdc_main.specs.Meaning.{Meaning, TooLong, Refused, PastLimit, Accepted, DeckMeans}
use Rattle.place_check.specs.declared.verdict.Verdict.{Verdict}
use Rattle.place_check.specs.declared.verdict.Verdict.TheVariants.{Good, Bad}
use Rattle.fdc_main.specs.Responses.{Response, AcceptedBy, Responds, run_on, run_ended, verdict_told, finding_told}
use Rattle.fdc_main.specs.Top.{StatusFits, OutFits, ErrFits, IsAnswered, Told, EachResponse}
use Rattle.fdc_main.specs.declared.check.Finding.{Finding}
use Rattle.fdc_main.specs.declared.check.Finding.TheVariants.{WrongLine, Judged}
use Rattle.fdc_main.specs.declared.command_line.DeckMode.{DeckMode}
use Rattle.fdc_main.specs.declared.command_line.DeckMode.TheVariants.{Seq, Map, Plan, Check}
use Rattle.fdc_main.specs.declared.command_line.Mode.{Mode}
use Rattle.fdc_main.specs.declared.command_line.Mode.TheVariants.{Deck, Gen}
use Rattle.fdc_main.specs.declared.status.Status.{Status}
use Rattle.fdc_main.specs.declared.status.Status.TheVariants as status
use Rattle.fdc_main.proofs.OneResponse.{same_response}

-- ---- the status

-- the one response has this status
same : (t : Status) (mode : DeckMode) (bytes : List ℕ) (m n : Meaning) (r x : Response) → DeckMeans bytes m → DeckMeans bytes n → Responds mode m r → Responds mode n x → x.status ≡ t → r.status ≡ t
same t mode bytes m n r x p q h k is = sym (ap (λ (y : Response). y.status) (same_response mode bytes m n r x p q h k)) ∙ is

status_is : (s : Status) (mode : DeckMode) (bytes : List ℕ) (m : Meaning) (r : Response) → StatusFits (Some (Deck mode)) (Some bytes) s → DeckMeans bytes m → Responds mode m r
    → (s ≡ status.ReadFault → ⊥) → (s ≡ status.Memory → ⊥) → IsAnswered r.status s
status_is status.Memory mode bytes m r h p k e w = absurd (w refl)
status_is status.ReadFault mode bytes m r h p k e w = absurd (e refl)
status_is status.Usage mode bytes m r h p k e w = absurd (cc h)
status_is status.WriteFault mode bytes m r (n, q, (x, also, is)) p k e w = inr (same status.Done mode bytes m n r x p q k also is, refl)
status_is status.Done mode bytes m r (n, q, (x, also, is)) p k e w = inl (sym (same status.Done mode bytes m n r x p q k also is))
status_is status.RunFault mode bytes m r (n, q, (x, also, is)) p k e w = inl (sym (same status.RunFault mode bytes m n r x p q k also is))
status_is status.Source mode bytes m r (n, q, (x, also, is)) p k e w = inl (sym (same status.Source mode bytes m n r x p q k also is))
status_is status.Input mode bytes m r (n, q, (x, also, is)) p k e w = inl (sym (same status.Input mode bytes m n r x p q k also is))
status_is status.Listing mode bytes m r (n, q, (x, also, is)) p k e w = inl (sym (same status.Listing mode bytes m n r x p q k also is))

-- ---- standard output

-- a response prints with 0 and 1 alone
abbrev PrintsRightly : Response → Type 0
PrintsRightly r = (r.status ≡ status.Done) ⊎ ((r.status ≡ status.RunFault) ⊎ (r.out ≡ []))

ended_rightly : (text : List ℕ) (o : Outcome) → PrintsRightly (run_ended text o)
ended_rightly text Done = inl refl
ended_rightly text (Fault step line kind) = inr (inl refl)

run_rightly : (p : CheckedProgram) (limit : ℕ) (x : Result (List ℤ) ℕ) → PrintsRightly (run_on p limit x)
run_rightly p limit (Ok xs) = ended_rightly (lines_text (sequential_run p xs limit).lines) (sequential_run p xs limit).outcome
run_rightly p limit (Err k) = inr (inr refl)

verdict_rightly : (v : Verdict) → PrintsRightly (verdict_told v)
verdict_rightly Good = inl refl
verdict_rightly (Bad c x ns) = inr (inr refl)

finding_rightly : (f : Finding) → PrintsRightly (finding_told f)
finding_rightly (WrongLine line) = inr (inr refl)
finding_rightly (Judged v) = verdict_rightly v

same_rightly : (r s : Response) → r ≡ s → PrintsRightly s → PrintsRightly r
same_rightly r s e h = subst PrintsRightly (sym e) h

accepted_rightly : (mode : DeckMode) (p : CheckedProgram) (rest : List ℕ) (r : Response) → AcceptedBy mode p rest r → PrintsRightly r
accepted_rightly (Seq steps) p rest r h = same_rightly r _ h (run_rightly p steps (input_numbers rest))
accepted_rightly (Map ranks) p rest r h = same_rightly r _ h (inl refl)
accepted_rightly Plan p rest r (listed, e) = same_rightly r _ e (inl refl)
accepted_rightly Check p rest r (found, is, e) = same_rightly r _ e (finding_rightly found)

response_rightly : (mode : DeckMode) (m : Meaning) (r : Response) → Responds mode m r → PrintsRightly r
response_rightly mode TooLong r h = same_rightly r _ h (inr (inr refl))
response_rightly mode (Refused line n) r h = same_rightly r _ h (inr (inr refl))
response_rightly mode (PastLimit line limit) r h = same_rightly r _ h (inr (inr refl))
response_rightly mode (Accepted p rest) r h = accepted_rightly mode p rest r h

nothing : (r : Response) (t : Status) → PrintsRightly r → r.status ≡ t → (t ≡ status.Done → ⊥) → (t ≡ status.RunFault → ⊥) → r.out ≡ []
nothing r t (inl is) e d f = absurd (d (sym e ∙ is))
nothing r t (inr (inl is)) e d f = absurd (f (sym e ∙ is))
nothing r t (inr (inr is)) e d f = is

told_nothing : (old new : Option (List ℕ)) (before now : ℕ) → Keeps old new → Told old new before now []
told_nothing None new before now k = record { whole = λ _. tt; front = (0, omega arith, tt) }
told_nothing (Some xs) None before now k = absurd k
told_nothing (Some xs) (Some ys) before now k =
    let e : ys ≡ xs ++ [] = k ∙ sym (append-nil xs) in
    record { whole = λ _. e; front = (0, omega arith, e) }

told_whole : (old new : Option (List ℕ)) (before now : ℕ) (text : List ℕ) → Appends old new text → Told old new before now text
told_whole old new before now text a =
    record { whole = λ _. a; front = (length text, omega arith, subst (λ (t : List ℕ). Appends old new t) (sym (take_all (length text) text (omega arith))) a) }

kept : (t : Status) (mode : DeckMode) (m : Meaning) (r : Response) (old new : Option (List ℕ)) (before now : ℕ) → Responds mode m r → r.status ≡ t → (t ≡ status.Done → ⊥) → (t ≡ status.RunFault → ⊥) → Keeps old new → Told old new before now r.out
kept t mode m r old new before now h e d f k =
    subst (λ (t : List ℕ). Told old new before now t) (sym (nothing r t (response_rightly mode m r h) e d f)) (told_nothing old new before now k)

-- what holds of the one response
moved : (mode : DeckMode) (bytes : List ℕ) (m n : Meaning) (r x : Response) (P : Response → Type 0) → DeckMeans bytes m → DeckMeans bytes n → Responds mode m r → Responds mode n x → P x → P r
moved mode bytes m n r x P p q h k held = subst P (same_response mode bytes m n r x p q h k) held

out_is : (s : Status) (mode : DeckMode) (bytes : List ℕ) (m : Meaning) (r : Response) (old new : Option (List ℕ)) (before now : ℕ)
    → StatusFits (Some (Deck mode)) (Some bytes) s → OutFits (Some (Deck mode)) (Some bytes) s old new before now → (s ≡ status.WriteFault → Rose before now) → DeckMeans bytes m → Responds mode m r
    → (s ≡ status.ReadFault → ⊥) → (s ≡ status.Memory → ⊥) → Told old new before now r.out
out_is status.Memory mode bytes m r old new before now h out rose p k e w = absurd (w refl)
out_is status.ReadFault mode bytes m r old new before now h out rose p k e w = absurd (e refl)
out_is status.Usage mode bytes m r old new before now h out rose p k e w = absurd (cc h)
out_is status.Done mode bytes m r old new before now h (n, q, (x, also, a)) rose p k e w =
    told_whole old new before now r.out (moved mode bytes m n r x (λ y. Appends old new y.out) p q k also a)
out_is status.RunFault mode bytes m r old new before now h (n, q, (x, also, t)) rose p k e w = moved mode bytes m n r x (λ y. Told old new before now y.out) p q k also t
out_is status.WriteFault mode bytes m r old new before now h (n, q, (x, also, g)) rose p k e w =
    record { whole = λ steady. absurd (steady (rose refl)); front = moved mode bytes m n r x (λ y. GainsPrefix old new y.out) p q k also g }
out_is status.Source mode bytes m r old new before now (n, q, (x, also, is)) out rose p k e w = kept status.Source mode m r old new before now k (same status.Source mode bytes m n r x p q k also is) (λ e. cc) (λ e. cc) out
out_is status.Input mode bytes m r old new before now (n, q, (x, also, is)) out rose p k e w = kept status.Input mode m r old new before now k (same status.Input mode bytes m n r x p q k also is) (λ e. cc) (λ e. cc) out
out_is status.Listing mode bytes m r old new before now (n, q, (x, also, is)) out rose p k e w = kept status.Listing mode m r old new before now k (same status.Listing mode bytes m n r x p q k also is) (λ e. cc) (λ e. cc) out

-- ---- standard error

ended_quietly : (text : List ℕ) (o : Outcome) → (run_ended text o).status ≡ status.Done → (run_ended text o).err ≡ []
ended_quietly text Done e = refl
ended_quietly text (Fault step line kind) e = absurd (cc e)

run_quietly : (p : CheckedProgram) (limit : ℕ) (x : Result (List ℤ) ℕ) → (run_on p limit x).status ≡ status.Done → (run_on p limit x).err ≡ []
run_quietly p limit (Ok xs) e = ended_quietly (lines_text (sequential_run p xs limit).lines) (sequential_run p xs limit).outcome e
run_quietly p limit (Err k) e = absurd (cc e)

verdict_quietly : (v : Verdict) → (verdict_told v).status ≡ status.Done → (verdict_told v).err ≡ []
verdict_quietly Good e = refl
verdict_quietly (Bad c x ns) e = absurd (cc e)

finding_quietly : (f : Finding) → (finding_told f).status ≡ status.Done → (finding_told f).err ≡ []
finding_quietly (WrongLine line) e = absurd (cc e)
finding_quietly (Judged v) e = verdict_quietly v e

same_quietly : (r s : Response) → r ≡ s → (s.status ≡ status.Done → s.err ≡ []) → r.status ≡ status.Done → r.err ≡ []
same_quietly r s e h = subst (λ (x : Response). x.status ≡ status.Done → x.err ≡ []) (sym e) h

accepted_quietly : (mode : DeckMode) (p : CheckedProgram) (rest : List ℕ) (r : Response) → AcceptedBy mode p rest r → r.status ≡ status.Done → r.err ≡ []
accepted_quietly (Seq steps) p rest r h = same_quietly r _ h (run_quietly p steps (input_numbers rest))
accepted_quietly (Map ranks) p rest r h = same_quietly r _ h (λ e. refl)
accepted_quietly Plan p rest r (listed, e) = same_quietly r _ e (λ e. refl)
accepted_quietly Check p rest r (found, is, e) = same_quietly r _ e (finding_quietly found)

response_quietly : (mode : DeckMode) (m : Meaning) (r : Response) → Responds mode m r → r.status ≡ status.Done → r.err ≡ []
response_quietly mode TooLong r h = same_quietly r _ h (λ e. absurd (cc e))
response_quietly mode (Refused line n) r h = same_quietly r _ h (λ e. absurd (cc e))
response_quietly mode (PastLimit line limit) r h = same_quietly r _ h (λ e. absurd (cc e))
response_quietly mode (Accepted p rest) r h = accepted_quietly mode p rest r h

err_is : (s : Status) (mode : DeckMode) (bytes : List ℕ) (m : Meaning) (r : Response) (old new : Option (List ℕ)) (before now : ℕ)
    → StatusFits (Some (Deck mode)) (Some bytes) s → ErrFits (Some (Deck mode)) (Some bytes) s old new before now → DeckMeans bytes m → Responds mode m r
    → (s ≡ status.ReadFault → ⊥) → (s ≡ status.WriteFault → ⊥) → (s ≡ status.Memory → ⊥) → Told old new before now r.err
err_is status.Memory mode bytes m r old new before now h err p k e f w = absurd (w refl)
err_is status.ReadFault mode bytes m r old new before now h err p k e f w = absurd (e refl)
err_is status.WriteFault mode bytes m r old new before now h err p k e f w = absurd (f refl)
err_is status.Usage mode bytes m r old new before now h err p k e f w = absurd (cc h)
err_is status.Done mode bytes m r old new before now (n, q, (x, also, is)) kept p k e f w =
    subst (λ (t : List ℕ). Told old new before now t) (sym (response_quietly mode m r k (same status.Done mode bytes m n r x p q k also is))) (told_nothing old new before now kept)
err_is status.RunFault mode bytes m r old new before now h (n, q, (x, also, t)) p k e f w = moved mode bytes m n r x (λ y. Told old new before now y.err) p q k also t
err_is status.Source mode bytes m r old new before now h (n, q, (x, also, t)) p k e f w = moved mode bytes m n r x (λ y. Told old new before now y.err) p q k also t
err_is status.Input mode bytes m r old new before now h (n, q, (x, also, t)) p k e f w = moved mode bytes m n r x (λ y. Told old new before now y.err) p q k also t
err_is status.Listing mode bytes m r old new before now h (n, q, (x, also, t)) p k e f w = moved mode bytes m n r x (λ y. Told old new before now y.err) p q k also t

-- ---- a mode that reads nothing

mesh_status : (s : Status) (nodes start : ℕ) (held : Option (List ℕ)) → StatusFits (Some (Gen nodes start)) held s
    → (s ≡ status.ReadFault → ⊥) → (s ≡ status.Memory → ⊥) → IsAnswered status.Done s
mesh_status status.Memory nodes start held h f w = absurd (w refl)
mesh_status status.ReadFault nodes start held h f w = absurd h
mesh_status status.Usage nodes start held h f w = absurd (cc h)
mesh_status status.WriteFault nodes start held h f w = inr (refl, refl)
mesh_status status.Done nodes start held h f w = inl refl
mesh_status status.RunFault nodes start held h f w = absurd (cc h)
mesh_status status.Source nodes start held h f w = absurd (cc h)
mesh_status status.Input nodes start held h f w = absurd (cc h)
mesh_status status.Listing nodes start held h f w = absurd (cc h)

mesh_out : (s : Status) (nodes start : ℕ) (held old new : Option (List ℕ)) (before now : ℕ) → StatusFits (Some (Gen nodes start)) held s
    → OutFits (Some (Gen nodes start)) held s old new before now → (s ≡ status.WriteFault → Rose before now)
    → (s ≡ status.Memory → ⊥) → Told old new before now (mesh_text nodes start)
mesh_out status.Memory nodes start held old new before now h out rose w = absurd (w refl)
mesh_out status.ReadFault nodes start held old new before now h out rose w = absurd h
mesh_out status.Usage nodes start held old new before now h out rose w = absurd (cc h)
mesh_out status.WriteFault nodes start held old new before now h out rose w = record { whole = λ steady. absurd (steady (rose refl)); front = out }
mesh_out status.Done nodes start held old new before now h out rose w = told_whole old new before now (mesh_text nodes start) out
mesh_out status.RunFault nodes start held old new before now h out rose w = absurd (cc h)
mesh_out status.Source nodes start held old new before now h out rose w = absurd (cc h)
mesh_out status.Input nodes start held old new before now h out rose w = absurd (cc h)
mesh_out status.Listing nodes start held old new before now h out rose w = absurd (cc h)

mesh_err : (s : Status) (nodes start : ℕ) (held old new : Option (List ℕ)) (before now : ℕ) → StatusFits (Some (Gen nodes start)) held s
    → ErrFits (Some (Gen nodes start)) held s old new before now → (s ≡ status.WriteFault → ⊥) → (s ≡ status.Memory → ⊥) → Told old new before now []
mesh_err status.Memory nodes start held old new before now h err g w = absurd (w refl)
mesh_err status.WriteFault nodes start held old new before now h err g w = absurd (g refl)
mesh_err status.ReadFault nodes start held old new before now h err g w = absurd h
mesh_err status.Usage nodes start held old new before now h err g w = absurd (cc h)
mesh_err status.Done nodes start held old new before now h err g w = told_nothing old new before now err
mesh_err status.RunFault nodes start held old new before now h err g w = absurd (cc h)
mesh_err status.Source nodes start held old new before now h err g w = absurd (cc h)
mesh_err status.Input nodes start held old new before now h err g w = absurd (cc h)
mesh_err status.Listing nodes start held old new before now h err g w = absurd (cc h)

-- ---- for any words and any deck

pub status_exact : (s : Status) (words : Option Mode) (held : Option (List ℕ)) → StatusFits words held s
    → (s ≡ status.ReadFault → ⊥) → (s ≡ status.Memory → ⊥) → EachResponse words held (λ r. IsAnswered r.status s)
status_exact s None held fits f w = tt
status_exact s (Some (Gen nodes start)) held fits f w = mesh_status s nodes start held fits f w
status_exact s (Some (Deck mode)) held fits f w = λ bytes m r d p k.
    status_is s mode bytes m r (subst (λ (x : Option (List ℕ)). StatusFits (Some (Deck mode)) x s) d fits) p k f w

pub out_exact : (s : Status) (words : Option Mode) (held old new : Option (List ℕ)) (before now : ℕ) → StatusFits words held s → OutFits words held s old new before now → (s ≡ status.WriteFault → Rose before now)
    → (s ≡ status.ReadFault → ⊥) → (s ≡ status.Memory → ⊥) → EachResponse words held (λ r. Told old new before now r.out)
out_exact s None held old new before now fits out rose f w = tt
out_exact s (Some (Gen nodes start)) held old new before now fits out rose f w = mesh_out s nodes start held old new before now fits out rose w
out_exact s (Some (Deck mode)) held old new before now fits out rose f w = λ bytes m r d p k.
    out_is s mode bytes m r old new before now (subst (λ (x : Option (List ℕ)). StatusFits (Some (Deck mode)) x s) d fits)
    (subst (λ (x : Option (List ℕ)). OutFits (Some (Deck mode)) x s old new before now) d out) rose p k f w

pub err_exact : (s : Status) (words : Option Mode) (held old new : Option (List ℕ)) (before now : ℕ) → StatusFits words held s → ErrFits words held s old new before now
    → (s ≡ status.ReadFault → ⊥) → (s ≡ status.WriteFault → ⊥) → (s ≡ status.Memory → ⊥) → EachResponse words held (λ r. Told old new before now r.err)
err_exact s None held old new before now fits err f g w = tt
err_exact s (Some (Gen nodes start)) held old new before now fits err f g w = mesh_err s nodes start held old new before now fits err g w
err_exact s (Some (Deck mode)) held old new before now fits err f g w = λ bytes m r d p k.
    err_is s mode bytes m r old new before now (subst (λ (x : Option (List ℕ)). StatusFits (Some (Deck mode)) x s) d fits)
    (subst (λ (x : Option (List ℕ)). ErrFits (Some (Deck mode)) x s old new before now) d err) p k f g w
