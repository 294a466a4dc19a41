-- There is one thing at most to find in a text.
use Rattle.std.proofs.Common.{◌≡◌, ℕ, ◌+◌, ◌-◌, ◌<◌, ◌≤◌, inl, inr, Bool, true, false, IsTrue, List, length, refl, sym, ap, subst, arith}
use Rattle.std.specs.Prelude.{◌↔◌}
use Rattle.std.proofs.lemmas.Bool.{cases_lt}
use Rattle.fd_prog.specs.Programs.{CheckedProgram}
use Rattle.fd_prog.specs.Nodes.{nodes_among}
use Rattle.fd_prog.specs.Paths.{Places}
use Rattle.place_text.specs.declared.entry.Kind.{Kind}
use Rattle.place_text.specs.declared.entry.Kind.TheVariants.{SendIn, RecvIn, SendOut, RecvOut, Hoist}
use Rattle.place_text.specs.Readings.{Layout, IsReadAs, IsFirstWrong, by_kind}
use Rattle.place_check.specs.declared.verdict.Verdict.{Verdict}
use Rattle.place_check.specs.Verdicts.{IsVerdict}
use Rattle.place_check.proofs.One as verdicts
use Rattle.fdc_main.specs.declared.check.Finding.{Finding}
use Rattle.fdc_main.specs.declared.check.Finding.TheVariants.{WrongLine, Judged}
use Rattle.fdc_main.specs.Checks.{IsJudged, IsFound}
use Rattle.program_laws.specs.Plans.{plan_of}
use Rattle.fdc_main.proofs.Same.{same_places}

-- ---- the first wrong line

not_before : (front : List (List ℕ)) (y : Layout) (ls : List (List ℕ)) (a b : ℕ) → IsFirstWrong front y ls a → IsFirstWrong front y ls b → a < b → ⊥
not_before front y ls a b v w lt = let low : 1 ≤ a = v.low in v.wrong (w.before (a - 1) (omega arith))

one_line : (front : List (List ℕ)) (y : Layout) (ls : List (List ℕ)) (a b : ℕ) → IsFirstWrong front y ls a → IsFirstWrong front y ls b → a ≡ b
one_line front y ls a b v w = elim (cases_lt a b) [
  | inl lt ↦ absurd (not_before front y ls a b v w lt)
  | inr ge ↦ elim (cases_lt b a) [
    | inl lt ↦ absurd (not_before front y ls b a w v lt)
    | inr le ↦ omega arith
  ]
]

-- what is read has no wrong line
none_wrong : (front : List (List ℕ)) (y : Layout) (ls : List (List ℕ)) (places : Places) (line : ℕ) → IsReadAs front y ls places → IsFirstWrong front y ls line → ⊥
none_wrong front y ls places line read w =
    let high : line ≤ length ls + 1 = w.high in
    w.wrong (read.right (line - 1) (omega arith))

-- ---- the places that are read

same_mark : (a b : Bool) (T : Type 0) → IsTrue a ↔ T → IsTrue b ↔ T → a ≡ b
same_mark true b T h k = sym (k.1 (h.0 refl))
same_mark false true T h k = h.1 (k.0 refl)
same_mark false false T h k = refl

marks_alike : (front : List (List ℕ)) (y : Layout) (ls : List (List ℕ)) (a b : Places) → IsReadAs front y ls a → IsReadAs front y ls b → (kind : Kind) (n x : ℕ) → by_kind a kind n x ≡ by_kind b kind n x
marks_alike front y ls a b v w kind n x =
    same_mark (by_kind a kind n x) (by_kind b kind n x) _ (v.told (record { node = n; kind = kind; item = x })) (w.told (record { node = n; kind = kind; item = x }))

one_reading : (front : List (List ℕ)) (y : Layout) (ls : List (List ℕ)) (a b : Places) → IsReadAs front y ls a → IsReadAs front y ls b → a ≡ b
one_reading front y ls a b v w =
    let alike = marks_alike front y ls a b v w in
    same_places a b (record { send_in = alike SendIn; recv_in = alike RecvIn; send_out = alike SendOut; recv_out = alike RecvOut; hoists = alike Hoist })

-- ---- the verdict on them

one_verdict : (p : CheckedProgram) (text : List ℕ) (v w : Verdict) → IsJudged p text v → IsJudged p text w → v ≡ w
one_verdict p text v w h k =
    let same : h.places ≡ k.places = one_reading _ _ _ h.places k.places h.read k.read in
    verdicts.one (plan_of p k.places) (nodes_among p.body + 1) v w (subst (λ (q : Places). IsVerdict (plan_of p q) (nodes_among p.body + 1) v) same h.verdict) k.verdict

pub one_finding : (p : CheckedProgram) (text : List ℕ) (a b : Finding) → IsFound p text a → IsFound p text b → a ≡ b
one_finding p text (WrongLine k) (WrongLine l) h w = ap (λ (n : ℕ). WrongLine (record { 0 = n })) (one_line _ _ _ k.0 l.0 h w)
one_finding p text (WrongLine k) (Judged v) h w = absurd (none_wrong _ _ _ w.places k.0 w.read h)
one_finding p text (Judged v) (WrongLine l) h w = absurd (none_wrong _ _ _ h.places l.0 h.read w)
one_finding p text (Judged u) (Judged v) h w = ap Judged (one_verdict p text u v h w)
