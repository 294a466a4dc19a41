-- Where the machine only goes on to another position: operations and jumps.
use Rattle.std.proofs.Common.{◌≡◌, ℕ, suc, ◌+◌, Bool, List, [], ◌∷◌, ◌++◌, map, length, Some, None, refl, sym, ap, ◌∙◌, subst, arith, length-append, append_assoc}
use Rattle.std.specs.Prelude.{filter}
use Rattle.std.specs.List.{range_with_len}
use Rattle.std.proofs.lemmas.List.{map-append}
use Rattle.fd_base.specs.declared.numbering.ItemNo.{ItemNo}
use Rattle.fd_base.specs.declared.numbering.Line.{Line}
use Rattle.fd_prog.specs.declared.item.Event.{Event}
use Rattle.fd_prog.specs.declared.item.Event.TheVariants as event
use Rattle.fd_prog.specs.Paths as paths
use Rattle.fd_prog.specs.Paths.{Plan, for_each}
use Rattle.fd_prog.specs.Sequence.{Progress, Onward}
use Rattle.exec_code.specs.Instructions.{Instruction, Jump, Send, Recv, FlatJob}
use Rattle.fd_prog.specs.Mappings.{Mapping}
use Rattle.exec_code.specs.Machine.{OpenLoop, Configuration, Goes, act, act_where, effect, instruction_at, line_at}
use Rattle.exec_code.specs.Passing.{Mark, Happens, instruction_marks, marks_where, marks_at, has_begun, way, way_where, decided}
use Rattle.exec_code.specs.Trails.{leaving}
use Rattle.exec_code.proofs.Trips.{standing, Trip, goes}
use Rattle.executor_gen.specs.Layout.{for_items, operations, at_in, at_out}
use Rattle.executor_gen.proofs.Trailing.{Lay, Along, Aim, good_at, append_none, in_marks}

-- a trip along the trails of a lay
abbrev pub Go : Lay → ℕ → List OpenLoop → Aim → Configuration → List Mark → Onward → Type 0
Go l to outer aim c ms o = Trip l.job (Along l) to outer (good_at l aim) c ms o

pub go_same : (l : Lay) (to : ℕ) (outer : List OpenLoop) (aim : Aim) (c : Configuration) (ms ns : List Mark) (o : Onward) → ms ≡ ns → Go l to outer aim c ms o → Go l to outer aim c ns o
go_same l to outer aim c ms ns o e h = subst (λ (x : List Mark). Go l to outer aim c x o) e h

-- these instructions, all of one line, stand at a position
abbrev pub Has : FlatJob → ℕ → Line → List Instruction → Type 0
Has j a line [] = Unit {0}
Has j a line (i ∷ is) = (instruction_at j a ≡ Some i) × (line_at j a ≡ line) × Has j (suc a) line is

pub has_first : (j : FlatJob) (a : ℕ) (line : Line) (xs ys : List Instruction) → Has j a line (xs ++ ys) → Has j a line xs
has_first j a line [] ys h = tt
has_first j a line (x ∷ xs) ys h = (h.0, h.1, has_first j (suc a) line xs ys h.2)

pub has_then : (j : FlatJob) (a : ℕ) (line : Line) (xs ys : List Instruction) → Has j a line (xs ++ ys) → Has j (a + length xs) line ys
has_then j a line [] ys h = let e : a ≡ a + 0 = omega arith in subst (λ n. Has j n line ys) e h
has_then j a line (x ∷ xs) ys h =
    let e : suc a + length xs ≡ a + length (x ∷ xs) = omega arith in
    subst (λ n. Has j n line ys) e (has_then j (suc a) line xs ys h.2)

-- from one position the machine comes to another, passing these marks, and nothing else changes
abbrev pub Skips : Lay → ℕ → ℕ → List Mark → Type 0
Skips l a b xs = (to : ℕ) (outer : List OpenLoop) (aim : Aim) (loops : List OpenLoop) (now : Progress) (mapping : Mapping) (ms : List Mark) (o : Onward)
    → Go l to outer aim (standing b now mapping loops) (ms ++ xs) o → Go l to outer aim (standing a now mapping loops) ms o

pub skips_to : (l : Lay) (a b c : ℕ) (xs : List Mark) → b ≡ c → Skips l a b xs → Skips l a c xs
skips_to l a b c xs e h = subst (λ n. Skips l a n xs) e h

pub skips_same : (l : Lay) (a b : ℕ) (xs ys : List Mark) → xs ≡ ys → Skips l a b xs → Skips l a b ys
skips_same l a b xs ys e h = subst (λ (zs : List Mark). Skips l a b zs) e h

-- no way at all
pub skips_not : (l : Lay) (a b : ℕ) → a ≡ b → Skips l a b []
skips_not l a b e = skips_to l a a b [] e (λ to outer aim loops now mapping ms o trip. go_same l to outer aim (standing a now mapping loops) (ms ++ []) ms o (append_none ms) trip)

pub skips_then : (l : Lay) (a b c : ℕ) (xs ys : List Mark) → Skips l a b xs → Skips l b c ys → Skips l a c (xs ++ ys)
skips_then l a b c xs ys h k = λ to outer aim loops now mapping ms o trip. h to outer aim loops now mapping ms o
    (k to outer aim loops now mapping (ms ++ xs) o (go_same l to outer aim (standing c now mapping loops) (ms ++ (xs ++ ys)) ((ms ++ xs) ++ ys) o (sym (append_assoc ms xs ys)) trip))

-- an instruction that only goes on
skips_one : (l : Lay) (a b : ℕ) (line : Line) (i : Instruction) (xs : List Mark) → instruction_at l.job a ≡ Some i → line_at l.job a ≡ line
    → ((now : Progress) (mapping : Mapping) (loops : List OpenLoop) → act l.job i (standing a now mapping loops) ≡ Goes (standing b now mapping loops)) → ((begun : Bool) → instruction_marks l.job begun line i ≡ xs)
    → ((c : Configuration) → way l.job i c ≡ None) → Skips l a b xs
skips_one l a b line i xs here of_line on passed no_test = λ to outer aim loops now mapping ms o trip.
    let j = l.job in
    let c = standing a now mapping loops in
    let e : effect j c ≡ Goes (standing b now mapping loops) = ap (λ x. act_where j x c) here ∙ on now mapping loops in
    let m : marks_at j c ≡ xs =
    ap (λ x. marks_where j (has_begun loops) (line_at j a) x ++ decided (way_where j x c) (effect j c)) here ∙ ap (λ x. instruction_marks j (has_begun loops) x i ++ decided (way j i c) (effect j c)) of_line
    ∙ ap (λ x. x ++ decided (way j i c) (effect j c)) (passed (has_begun loops)) ∙ ap (λ w. xs ++ decided w (effect j c)) (no_test c) ∙ append_none xs in
    goes (standing b now mapping loops) e (go_same l to outer aim (standing b now mapping loops) (ms ++ xs) (ms ++ marks_at j c) o (ap (λ x. ms ++ x) (sym m)) trip)

pub skips_jump : (l : Lay) (a b : ℕ) (line : Line) → instruction_at l.job a ≡ Some (Jump b) → line_at l.job a ≡ line → Skips l a b []
skips_jump l a b line here of_line = skips_one l a b line (Jump b) [] here of_line (λ now mapping loops. refl) (λ begun. refl) (λ c. refl)

-- operations only go on to the next
skips_each : (l : Lay) (make : ItemNo → Instruction) (tell : ItemNo → Event)
    → ((x : ItemNo) (a : ℕ) (now : Progress) (mapping : Mapping) (loops : List OpenLoop) → act l.job (make x) (standing a now mapping loops) ≡ Goes (standing (suc a) now mapping loops))
    → ((x : ItemNo) (line : Line) (begun : Bool) → instruction_marks l.job begun line (make x) ≡ Happens (tell x) ∷ [])
    → ((x : ItemNo) (c : Configuration) → way l.job (make x) c ≡ None) → (a : ℕ) (line : Line) (xs : List ℕ)
    → Has l.job a line (map (λ x. make (record { 0 = x })) xs) → Skips l a (a + length (map (λ x. make (record { 0 = x })) xs)) (map Happens (map (λ x. tell (record { 0 = x })) xs))
skips_each l make tell on passed no_test a line [] h = let e : a ≡ a + 0 = omega arith in skips_not l a (a + 0) e
skips_each l make tell on passed no_test a line (x ∷ xs) h =
    let rest = map (λ y. make (record { 0 = y })) xs in
    let y : ItemNo = record { 0 = x } in
    let e : suc a + length rest ≡ a + length (make y ∷ rest) = omega arith in
    let one = skips_one l a (suc a) line (make y) (Happens (tell y) ∷ []) h.0 h.1 (on y a) (passed y line) (no_test y) in
    skips_to l a (suc a + length rest) (a + length (make y ∷ rest)) (Happens (tell y) ∷ map Happens (map (λ z. tell (record { 0 = z })) xs)) e
    (skips_then l a (suc a) (suc a + length rest) (Happens (tell y) ∷ []) (map Happens (map (λ z. tell (record { 0 = z })) xs)) one (skips_each l make tell on passed no_test (suc a) line xs h.2))

skips_operations : (l : Lay) (items : ℕ) (sent received : ℕ → Bool) (a : ℕ) (line : Line) → Has l.job a line (operations items sent received)
    → Skips l a (a + length (operations items sent received)) (map Happens (paths.operations items sent received))
skips_operations l items sent received a line h =
    let sends = for_items Send items sent in
    let recvs = for_items Recv items received in
    let said = for_each event.Send items sent in
    let heard = for_each event.Recv items received in
    let e : a + length sends + length recvs ≡ a + length (sends ++ recvs) = omega (arith, length-append sends recvs) in
    skips_same l a (a + length (sends ++ recvs)) (map Happens said ++ map Happens heard) (map Happens (said ++ heard)) (sym (map-append Happens said heard))
    (skips_to l a (a + length sends + length recvs) (a + length (sends ++ recvs)) (map Happens said ++ map Happens heard) e
    (skips_then l a (a + length sends) (a + length sends + length recvs) (map Happens said) (map Happens heard)
    (skips_each l (λ x. Send x) (λ x. event.Send x) (λ x b now mapping loops. refl) (λ x ln begun. refl) (λ x c. refl) a line (filter sent (range_with_len 1 items)) (has_first l.job a line sends recvs h))
    (skips_each l (λ x. Recv x) (λ x. event.Recv x) (λ x b now mapping loops. refl) (λ x ln begun. refl) (λ x c. refl) (a + length sends) line (filter received (range_with_len 1 items)) (has_then l.job a line sends recvs h))))

pub skips_in : (l : Lay) (n a : ℕ) (line : Line) → Has l.job a line (at_in l.plan n) → Skips l a (a + length (at_in l.plan n)) (in_marks l n)
skips_in l n a line h = skips_operations l l.plan.items (l.plan.places.send_in n) (l.plan.places.recv_in n) a line h

pub skips_out : (l : Lay) (n a : ℕ) (line : Line) → Has l.job a line (at_out l.plan n) → Skips l a (a + length (at_out l.plan n)) (leaving l.plan n)
skips_out l n a line h = skips_operations l l.plan.items (l.plan.places.send_out n) (l.plan.places.recv_out n) a line h
