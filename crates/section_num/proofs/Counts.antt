-- The numbers that a program's uses get while they are noted, where there are not too many items.
use Rattle.std.proofs.Common.{◌≡◌, ◌≢◌, ℕ, suc, ◌+◌, ◌<◌, ◌≤◌, Bool, true, false, List, [], ◌∷◌, ◌++◌, length, Option, Some, None, refl, sym, ap, ◌∙◌, subst, arith}
use Rattle.std.specs.Prelude.{flat_map, map, nat_lt, option_map, unwrap_or}
use Rattle.std.specs.List.{position}
use Rattle.std.proofs.lemmas.Bool.{lt-ltb}
use Rattle.std.proofs.lemmas.List.{append-nil, append_assoc, length-append}
use Rattle.fd_prog.specs.Items.{LinearItem, is_same_item}
use Rattle.fd_prog.specs.Uses.{Use, number_in}
use Rattle.section_num.specs.Noting.{Noted, all_noted, closed, nodes_noted, noted_at, noted_new, with_number, with_site}
use Rattle.section_num.proofs.Places.{place_kept, place_pushed, place_same, none_passes, one_passes}
use Rattle.section_num.proofs.SameItems.{item_self}
use Rattle.section_num.proofs.Numbers.{fresh, fresh_known, fresh_new, is_known, same_back}

-- the number of a use's item by the first uses of all items
abbrev pub number_by : List Use → Use → ℕ
number_by firsts u = number_in (map (λ (v : Use). v.item) firsts) u.item

-- each reference by its number gets the number of its item, where it has none yet
abbrev pub sites_by : List Use → List Use → List ℕ → List ℕ
sites_by firsts [] sites = sites
sites_by firsts (u ∷ us) sites = sites_by firsts us (with_site (number_by firsts u) u.site sites)

pub sites_by-append : (firsts us vs : List Use) (sites : List ℕ) → sites_by firsts (us ++ vs) sites ≡ sites_by firsts vs (sites_by firsts us sites)
sites_by-append firsts [] vs sites = refl
sites_by-append firsts (u ∷ us) vs sites = sites_by-append firsts us vs (with_site (number_by firsts u) u.site sites)

-- the items of the uses have numbers
abbrev pub Numbered : List Use → List Use → Type 0
Numbered firsts [] = Unit {0}
Numbered firsts (u ∷ us) = (number_by firsts u ≢ 0) × Numbered firsts us

numbered-append : (firsts us vs : List Use) → Numbered firsts us → Numbered firsts vs → Numbered firsts (us ++ vs)
numbered-append firsts [] vs h g = g
numbered-append firsts (u ∷ us) vs h g = (h.0, numbered-append firsts us vs h.1 g)

-- the use has the item
abbrev has : LinearItem → Use → Bool
has x u = is_same_item u.item x

number_at : (firsts : List Use) (u : Use) (k : ℕ) → position (has u.item) firsts ≡ Some k → number_by firsts u ≡ k + 1
number_at firsts u k e =
    let one : suc k ≡ k + 1 = omega arith in
    let seen : position (is_same_item u.item) (map (λ (v : Use). v.item) firsts) ≡ Some k = sym (place_same (has u.item) (is_same_item u.item) (λ (v : Use). v.item) firsts (λ v. same_back v.item u.item)) ∙ e in
    ap (λ r. unwrap_or (option_map suc r) 0) seen ∙ one

-- what is noted of uses, where all first uses are those so far and those of the uses behind
pub record Counts (all us behind : List Use) (before after : Noted) : Type 0 where
  pub left : after.firsts ++ fresh after.firsts behind ≡ all
  pub row : after.row ≡ before.row ++ map (number_by all) us
  pub sites : after.sites ≡ sites_by all us before.sites
  pub rows : after.rows ≡ before.rows
  pub numbered : Numbered all us

counts_known : (all us behind : List Use) (u : Use) (n : Noted) (k : ℕ) → n.firsts ++ fresh n.firsts (u ∷ (us ++ behind)) ≡ all
    → ((m : Noted) → m.firsts ++ fresh m.firsts (us ++ behind) ≡ all → Counts all us behind m (all_noted us m))
    → position (has u.item) n.firsts ≡ Some k → Counts all (u ∷ us) behind n (all_noted us (with_number (k + 1) u.site n))
counts_known all us behind u n k e rest at =
    let same : n.firsts ++ fresh n.firsts (us ++ behind) ≡ all =
    ap (λ xs. n.firsts ++ xs) (sym (fresh_known n.firsts u (us ++ behind) (one_passes (has u.item) n.firsts k at))) ∙ e in
    let c = rest (with_number (k + 1) u.site n) same in
    let number : number_by all u ≡ k + 1 = number_at all u k (ap (position (has u.item)) (sym same) ∙ place_kept (has u.item) n.firsts (fresh n.firsts (us ++ behind)) k at) in
    record {
      left = c.left;
      row = c.row ∙ (append_assoc n.row ((k + 1) ∷ []) (map (number_by all) us) ∙ ap (λ j. n.row ++ j ∷ map (number_by all) us) (sym number));
      sites = c.sites ∙ ap (λ j. sites_by all us (with_site j u.site n.sites)) (sym number);
      rows = c.rows;
      numbered = (λ z. omega (arith, number, z), c.numbered);
    }

counts_new : (all us behind : List Use) (u : Use) (n : Noted) → length all ≤ 512 → n.firsts ++ fresh n.firsts (u ∷ (us ++ behind)) ≡ all
    → ((m : Noted) → m.firsts ++ fresh m.firsts (us ++ behind) ≡ all → Counts all us behind m (all_noted us m))
    → position (has u.item) n.firsts ≡ None → Counts all (u ∷ us) behind n (all_noted us (noted_new (nat_lt (length n.firsts) 512) u n))
counts_new all us behind u n h e rest at =
    let firsts = n.firsts ++ u ∷ [] in
    let number = length n.firsts + 1 in
    let m : Noted = with_number number u.site (record n { firsts = firsts }) in
    let whole : n.firsts ++ u ∷ fresh firsts (us ++ behind) ≡ all =
    ap (λ xs. n.firsts ++ xs) (sym (fresh_new n.firsts u (us ++ behind) (none_passes (has u.item) n.firsts at))) ∙ e in
    let long : length (n.firsts ++ u ∷ fresh firsts (us ++ behind)) ≡ length all = ap length whole in
    let room : length n.firsts < 512 = omega (arith, long, length-append n.firsts (u ∷ fresh firsts (us ++ behind))) in
    let c = rest m (append_assoc n.firsts (u ∷ []) (fresh firsts (us ++ behind)) ∙ whole) in
    let counted : number_by all u ≡ number =
    number_at all u (length n.firsts) (ap (position (has u.item)) (sym whole) ∙ place_pushed (has u.item) n.firsts u (fresh firsts (us ++ behind)) at (item_self u.item)) in
    let P : Bool → Type 0 = λ b. Counts all (u ∷ us) behind n (all_noted us (noted_new b u n)) in
    subst P (sym (lt-ltb (length n.firsts) 512 room)) (record {
      left = c.left;
      row = c.row ∙ (append_assoc n.row (number ∷ []) (map (number_by all) us) ∙ ap (λ j. n.row ++ j ∷ map (number_by all) us) (sym counted));
      sites = c.sites ∙ ap (λ j. sites_by all us (with_site j u.site n.sites)) (sym counted);
      rows = c.rows;
      numbered = (λ z. omega (arith, counted, z), c.numbered);
    })

counts_next : (all us behind : List Use) (u : Use) (n : Noted) → length all ≤ 512 → n.firsts ++ fresh n.firsts (u ∷ (us ++ behind)) ≡ all
    → ((m : Noted) → m.firsts ++ fresh m.firsts (us ++ behind) ≡ all → Counts all us behind m (all_noted us m))
    → (r : Option ℕ) → position (has u.item) n.firsts ≡ r → Counts all (u ∷ us) behind n (all_noted us (noted_at r u n))
counts_next all us behind u n h e rest (Some k) at = counts_known all us behind u n k e rest at
counts_next all us behind u n h e rest None at = counts_new all us behind u n h e rest at

pub counts : (all us behind : List Use) (n : Noted) → length all ≤ 512 → n.firsts ++ fresh n.firsts (us ++ behind) ≡ all → Counts all us behind n (all_noted us n)
counts all [] behind n h e = record { left = e; row = sym (append-nil n.row); sites = refl; rows = refl; numbered = tt }
counts all (u ∷ us) behind n h e = counts_next all us behind u n h e (λ m f. counts all us behind m h f) (position (has u.item) n.firsts) refl

-- ---- nodes

-- what is noted of nodes, where all first uses are those so far and those of the nodes
pub record NodesCount (all : List Use) (nodes : List (List Use)) (before after : Noted) : Type 0 where
  pub firsts : after.firsts ≡ all
  pub sites : after.sites ≡ sites_by all (flat_map (λ us. us) nodes) before.sites
  pub rows : after.rows ≡ before.rows ++ map (map (number_by all)) nodes
  pub numbered : Numbered all (flat_map (λ us. us) nodes)

pub nodes_count : (all : List Use) (nodes : List (List Use)) (n : Noted) → length all ≤ 512 → n.row ≡ [] → n.firsts ++ fresh n.firsts (flat_map (λ us. us) nodes) ≡ all → NodesCount all nodes n (nodes_noted nodes n)
nodes_count all [] n h r e = record { firsts = sym (append-nil n.firsts) ∙ e; sites = refl; rows = sym (append-nil n.rows); numbered = tt }
nodes_count all (us ∷ nodes) n h r e =
    let behind = flat_map (λ (vs : List Use). vs) nodes in
    let c = counts all us behind n h e in
    let m : Noted = all_noted us n in
    let d = nodes_count all nodes (closed m) h refl c.left in
    let row : m.row ≡ map (number_by all) us = c.row ∙ ap (λ xs. xs ++ map (number_by all) us) r in
    record {
      firsts = d.firsts;
      sites = d.sites ∙ (ap (sites_by all behind) c.sites ∙ sym (sites_by-append all us behind n.sites));
      rows = d.rows ∙ (append_assoc m.rows (m.row ∷ []) (map (map (number_by all)) nodes) ∙ (ap (λ xs. xs ++ m.row ∷ map (map (number_by all)) nodes) c.rows ∙ ap (λ x. n.rows ++ x ∷ map (map (number_by all)) nodes) row));
      numbered = numbered-append all us behind c.numbered d.numbered;
    }
