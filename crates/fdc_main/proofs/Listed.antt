-- A program has one listing.
use Rattle.std.proofs.Common.{◌≡◌, ℕ, ◌+◌, Bool, true, false, List, [], ◌∷◌, ◌++◌, map, filter, length, codes, cond, refl, sym, ◌∙◌, ap}
use Rattle.std.specs.Fmt.{decimal}
use Rattle.std.specs.List.{range_with_len}
use Rattle.fd_base.specs.declared.numbering.Line.{Line}
use Rattle.fd_prog.specs.Programs.{CheckedProgram}
use Rattle.fd_prog.specs.Flow.{graph_of}
use Rattle.fd_prog.specs.Items.{LinearItem}
use Rattle.fd_prog.specs.Nodes.{Node, nodes_of, nodes_among}
use Rattle.fd_prog.specs.Paths.{Places}
use Rattle.fd_prog.specs.Uses.{items_of}
use Rattle.interval_graph.proofs.Laid.{flow, last}
use Rattle.gnt_solver.specs.Same.{AreSamePlaces}
use Rattle.gnt_solver.proofs.Unique.{one_placement}
use Rattle.place_text.specs.Listings.{marked_lines, front_text, place_lines, hoist_lines, by_node, item_lines, counted_lines, listing}
use Rattle.program_laws.specs.Plans.{node_uses}
use Rattle.fdc_main.specs.Plans.{IsListing}

filter_same : (p q : ℕ → Bool) → ((x : ℕ) → p x ≡ q x) → (xs : List ℕ) → filter p xs ≡ filter q xs
filter_same p q e [] = refl
filter_same p q e (x ∷ xs) =
    ap (λ (b : Bool). cond b (x ∷ filter p xs) (filter p xs)) (e x) ∙ ap (λ (ys : List ℕ). cond (q x) (x ∷ ys) ys) (filter_same p q e xs)

marked_same : (front : List ℕ) (items : ℕ) (p q : ℕ → Bool) → ((x : ℕ) → p x ≡ q x) → marked_lines front items p ≡ marked_lines front items q
marked_same front items p q e = ap (map (λ x. front ++ decimal x)) (filter_same p q e (range_with_len 1 items))

by_node_same : (f g : ℕ → Line → List (List ℕ)) → ((n : ℕ) (line : Line) → f n line ≡ g n line) → (n : ℕ) (lines : List Line) → by_node f n lines ≡ by_node g n lines
by_node_same f g e n [] = refl
by_node_same f g e n (line ∷ more) = ap (λ (ls : List (List ℕ)). ls ++ by_node f (n + 1) more) (e n line) ∙ ap (λ (ls : List (List ℕ)). g n line ++ ls) (by_node_same f g e (n + 1) more)

four_same : (a b c d w x y z : List (List ℕ)) → a ≡ w → b ≡ x → c ≡ y → d ≡ z → (a ++ b) ++ (c ++ d) ≡ (w ++ x) ++ (y ++ z)
four_same a b c d w x y z e f g h =
    ap (λ (t : List (List ℕ)). (t ++ b) ++ (c ++ d)) e ∙ ap (λ (t : List (List ℕ)). (w ++ t) ++ (c ++ d)) f
    ∙ ap (λ (t : List (List ℕ)). (w ++ x) ++ (t ++ d)) g ∙ ap (λ (t : List (List ℕ)). (w ++ x) ++ (y ++ t)) h

places_same : (items : ℕ) (a b : Places) → AreSamePlaces a b → (n : ℕ) (line : Line) → place_lines items a n line ≡ place_lines items b n line
places_same items a b s n line =
    four_same _ _ _ _ _ _ _ _
    (marked_same (front_text [] n line (codes " in send ")) items (a.send_in n) (b.send_in n) (s.send_in n))
    (marked_same (front_text [] n line (codes " in recv ")) items (a.recv_in n) (b.recv_in n) (s.recv_in n))
    (marked_same (front_text [] n line (codes " out send ")) items (a.send_out n) (b.send_out n) (s.send_out n))
    (marked_same (front_text [] n line (codes " out recv ")) items (a.recv_out n) (b.recv_out n) (s.recv_out n))

hoists_same : (items : ℕ) (a b : Places) → AreSamePlaces a b → (n : ℕ) (line : Line) → hoist_lines items a n line ≡ hoist_lines items b n line
hoists_same items a b s n line = marked_same (front_text (codes "hoist ") n line (codes " item ")) items (a.hoists n) (b.hoists n) (s.hoists n)

-- the listing reads the places at nodes and items alone
listing_same : (p : CheckedProgram) (xs : List LinearItem) (lines : List Line) (a b : Places) → AreSamePlaces a b → listing p xs lines a ≡ listing p xs lines b
listing_same p xs lines a b s =
    ap (λ (ls : List (List ℕ)). counted_lines (codes "items ") (item_lines p 1 xs) ++ (counted_lines (codes "places ") ls ++ counted_lines (codes "hoists ") (by_node (hoist_lines (length xs) a) 0 lines)))
    (by_node_same (place_lines (length xs) a) (place_lines (length xs) b) (places_same (length xs) a b s) 0 lines)
    ∙ ap (λ (ls : List (List ℕ)). counted_lines (codes "items ") (item_lines p 1 xs) ++ (counted_lines (codes "places ") (by_node (place_lines (length xs) b) 0 lines) ++ counted_lines (codes "hoists ") ls))
    (by_node_same (hoist_lines (length xs) a) (hoist_lines (length xs) b) (hoists_same (length xs) a b s) 0 lines)

pub one_listing : (p : CheckedProgram) (s t : List ℕ) → IsListing p s → IsListing p t → s ≡ t
one_listing p s t a b =
    let same = one_placement (graph_of (nodes_of p)) (nodes_among p.body + 1) (node_uses p) a.places b.places (flow p) (last p) a.solved b.solved in
    a.is ∙ listing_same p (items_of p) (map (λ (n : Node). n.line) (nodes_of p)) a.places b.places same ∙ sym b.is
