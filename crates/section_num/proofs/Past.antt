-- The line of the first item past the limit, while uses are noted.
use Rattle.std.proofs.Common.{◌≡◌, ℕ, zero, suc, ◌+◌, ◌<◌, ◌≤◌, Bool, true, false, List, [], ◌∷◌, ◌++◌, length, Option, Some, None, refl, sym, ap, ◌∙◌, arith}
use Rattle.std.specs.Prelude.{flat_map, nat_lt, slice_get}
use Rattle.std.specs.List.{position}
use Rattle.std.proofs.lemmas.Bool.{ltb-false, ltb-true}
use Rattle.std.proofs.lemmas.List.{append-nil, append_assoc, length-append}
use Rattle.fd_base.specs.declared.numbering.Line.{Line}
use Rattle.fd_prog.specs.Items.{LinearItem, is_same_item}
use Rattle.fd_prog.specs.Uses.{Use}
use Rattle.section_num.specs.Noting.{Noted, all_noted, closed, first_line, nodes_noted, noted, noted_at, noted_new, with_number}
use Rattle.section_num.proofs.Places.{none_passes, one_passes}
use Rattle.section_num.proofs.Numbers.{fresh, fresh_known, fresh_new}

-- the line that was noted, or else that of a use, if there is one
abbrev pub line_past : Option Line → Option Use → Option Line
line_past (Some line) r = Some line
line_past None (Some u) = Some u.line
line_past None None = None

-- the line that will be noted, where these uses follow: that of the 513th item
abbrev pub past : Noted → List Use → Option Line
past n behind = line_past n.over (slice_get (n.firsts ++ fresh n.firsts behind) 512)

abbrev has : LinearItem → Use → Bool
has x u = is_same_item u.item x

get_behind : {A : Type 0} (xs : List A) (y : A) (ys : List A) (i : ℕ) → i ≡ length xs → slice_get (xs ++ y ∷ ys) i ≡ Some y
get_behind [] y ys zero e = refl
get_behind [] y ys (suc i) e = absurd (omega arith)
get_behind (x ∷ xs) y ys zero e = absurd (omega arith)
get_behind (x ∷ xs) y ys (suc i) e = get_behind xs y ys i (omega arith)

get_none : {A : Type 0} (xs : List A) (i : ℕ) → length xs ≤ i → slice_get xs i ≡ None
get_none [] i h = refl
get_none (x ∷ xs) zero h = absurd (omega arith)
get_none (x ∷ xs) (suc i) h = get_none xs i (omega arith)

first_stays : (over : Option Line) (u : Use) (r : Option Use) → line_past (first_line over u.line) r ≡ line_past over (Some u)
first_stays None u r = refl
first_stays (Some line) u r = refl

past_new : (u : Use) (behind : List Use) (n : Noted) (b : Bool) → length n.firsts ≤ 512 → nat_lt (length n.firsts) 512 ≡ b → position (has u.item) n.firsts ≡ None
    → (past (noted_new b u n) behind ≡ past n (u ∷ behind)) × (length (noted_new b u n).firsts ≤ 512)
past_new u behind n true h e at =
    let firsts = n.firsts ++ u ∷ [] in
    let whole : firsts ++ fresh firsts behind ≡ n.firsts ++ fresh n.firsts (u ∷ behind) =
    append_assoc n.firsts (u ∷ []) (fresh firsts behind) ∙ ap (λ xs. n.firsts ++ xs) (sym (fresh_new n.firsts u behind (none_passes (has u.item) n.firsts at))) in
    (ap (λ xs. line_past n.over (slice_get xs 512)) whole, omega (arith, ltb-true (length n.firsts) 512 e, length-append n.firsts (u ∷ [])))
past_new u behind n false h e at =
    let full : 512 ≡ length n.firsts = omega (arith, ltb-false (length n.firsts) 512 e) in
    let next = fresh (n.firsts ++ u ∷ []) behind in
    let found : slice_get (n.firsts ++ fresh n.firsts (u ∷ behind)) 512 ≡ Some u =
    ap (λ xs. slice_get (n.firsts ++ xs) 512) (fresh_new n.firsts u behind (none_passes (has u.item) n.firsts at)) ∙ get_behind n.firsts u next 512 full in
    (first_stays n.over u (slice_get (n.firsts ++ fresh n.firsts behind) 512) ∙ ap (line_past n.over) (sym found), h)

past_at : (u : Use) (behind : List Use) (n : Noted) (r : Option ℕ) → length n.firsts ≤ 512 → position (has u.item) n.firsts ≡ r
    → (past (noted_at r u n) behind ≡ past n (u ∷ behind)) × (length (noted_at r u n).firsts ≤ 512)
past_at u behind n (Some k) h at =
    (ap (λ xs. line_past n.over (slice_get (n.firsts ++ xs) 512)) (sym (fresh_known n.firsts u behind (one_passes (has u.item) n.firsts k at))), h)
past_at u behind n None h at = past_new u behind n (nat_lt (length n.firsts) 512) h refl at

-- while uses are noted, the line that will be noted stays
pub past_noted : (us behind : List Use) (n : Noted) → length n.firsts ≤ 512 → (past (all_noted us n) behind ≡ past n (us ++ behind)) × (length (all_noted us n).firsts ≤ 512)
past_noted [] behind n h = (refl, h)
past_noted (u ∷ us) behind n h =
    let one = past_at u (us ++ behind) n (position (has u.item) n.firsts) h refl in
    let rest = past_noted us behind (noted u n) one.1 in
    (rest.0 ∙ one.0, rest.1)

line_only : (over : Option Line) → line_past over None ≡ over
line_only None = refl
line_only (Some line) = refl

-- when all nodes are noted, it is noted
pub past_nodes : (nodes : List (List Use)) (n : Noted) → length n.firsts ≤ 512 → (nodes_noted nodes n).over ≡ past n (flat_map (λ us. us) nodes)
past_nodes [] n h =
    let none : slice_get (n.firsts ++ []) 512 ≡ None = ap (λ xs. slice_get xs 512) (append-nil n.firsts) ∙ get_none n.firsts 512 h in
    sym (line_only n.over) ∙ ap (line_past n.over) (sym none)
past_nodes (us ∷ nodes) n h =
    let one = past_noted us (flat_map (λ (vs : List Use). vs) nodes) n h in
    past_nodes nodes (closed (all_noted us n)) one.1 ∙ one.0
