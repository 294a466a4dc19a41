-- The text of printed lines, one line after another.
use Rattle.std.proofs.Common.{◌≡◌, ℕ, List, [], ◌∷◌, ◌++◌, refl, ap, ◌∙◌, sym, append_assoc}
use Rattle.fd_prog.specs.declared.run.Printed.{Printed}
use Rattle.fd_prog.specs.Run.{lines_text}

lines_text-push : (done : List Printed) (line : Printed) → lines_text (done ++ line ∷ []) ≡ lines_text done ++ (line.text ++ 10 ∷ [])
lines_text-push [] line = refl
lines_text-push (l ∷ done) line = rw (lines_text-push done line, append_assoc) refl

-- the text of some lines, and of one more
pub lines_text-next : (done : List Printed) (line : Printed) (text : List ℕ) → text ≡ lines_text done → (text ++ line.text) ++ 10 ∷ [] ≡ lines_text (done ++ line ∷ [])
lines_text-next done line text before =
    append_assoc text line.text (10 ∷ []) ∙ ap (λ t. t ++ (line.text ++ 10 ∷ [])) before ∙ sym (lines_text-push done line)
