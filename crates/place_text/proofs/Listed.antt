-- What a listing is read as, by a graph and by items.
use Rattle.std.proofs.Common.{◌≡◌, ℕ, ◌+◌, ◌<◌, ◌^◌, List, length, Result, Ok, Err, IfOk, refl, sym, ◌∙◌, ap, subst}
use Rattle.std.specs.Prelude.{IfErr}
use Rattle.fd_sets.specs.Sets.{Subset}
use Rattle.fd_base.specs.declared.numbering.Line.{Line}
use Rattle.fd_prog.specs.Programs.{CheckedProgram}
use Rattle.fd_prog.specs.Items.{LinearItem}
use Rattle.fd_prog.specs.Paths.{Places, taken_inside}
use Rattle.fd_prog.specs.declared.item.Item.{Item}
use Rattle.interval_graph.specs.declared.node.Row.{Row}
use Rattle.interval_graph.specs.Rows.{flow_of}
use Rattle.gnt_solver.specs.Columns.{at, col}
use Rattle.gnt_solver.specs.Placed.{AreTables, places_of}
use Rattle.gnt_solver.specs.declared.tables.Size.{Size}
use Rattle.gnt_solver.specs.declared.solving.Placement.{Placement}
use Rattle.place_text.specs.declared.known.Known.{Known}
use Rattle.place_text.specs.declared.refusal.ListingRefusal.{ListingRefusal}
use Rattle.place_text.specs.declared.refusal.ListingRefusal.TheVariants as refused
use Rattle.place_text.specs.Listings.{listing}
use Rattle.place_text.specs.Readings.{AreBack, IsFirstWrong, IsKnown, IsListingOf, IsReadAs, Layout, NamesLine, layout_by, layout_of, lines_in, opening}
use Rattle.place_text.specs.Tables.{lines_of}
use Rattle.place_text.proofs.Written.{AreMade, all_hoists, all_operations, made_back, none_wrong, written}

-- what is known of a graph and of items
pub layout_is : (rows : List Row) (items : List Item) (take : List Subset) (lines : List Line) (count : ℕ) (taken : List Subset) → lines ≡ lines_of rows → count ≡ length items
    → ((n x : ℕ) → at (col taken x) n ≡ taken_inside (flow_of rows) (λ m q. at (col take q) m) n x) → record { lines = lines; items = count; taken = λ n x. at (col taken x) n } ≡ layout_by rows items take
layout_is rows items take lines count taken same long is = λ i. record { lines = same i; items = long i; taken = λ n x. is n x i }

-- the same of equal lines
pub read_as : (result : Result Placement ListingRefusal) (f g : List (List ℕ)) (y z : Layout) (ls ms : List (List ℕ)) → f ≡ g → y ≡ z → ls ≡ ms
    → IfOk result (λ p. IsReadAs f y ls (places_of p)) → IfOk result (λ p. IsReadAs g z ms (places_of p))
read_as result f g y z ls ms a b c h =
    subst (λ t. IfOk result (λ p. IsReadAs g z t (places_of p))) c (subst (λ t. IfOk result (λ p. IsReadAs g t ls (places_of p))) b (subst (λ t. IfOk result (λ p. IsReadAs t y ls (places_of p))) a h))

pub wrong_as : (result : Result Placement ListingRefusal) (f g : List (List ℕ)) (y z : Layout) (ls ms : List (List ℕ)) → f ≡ g → y ≡ z → ls ≡ ms
    → IfErr result (λ e. NamesLine e (IsFirstWrong f y ls)) → IfErr result (λ e. NamesLine e (IsFirstWrong g z ms))
wrong_as result f g y z ls ms a b c h =
    subst (λ t. IfErr result (λ e. NamesLine e (IsFirstWrong g z t))) c (subst (λ t. IfErr result (λ e. NamesLine e (IsFirstWrong g t ls))) b (subst (λ t. IfErr result (λ e. NamesLine e (IsFirstWrong t y ls))) a h))

pub tables_as : (result : Result Placement ListingRefusal) (s t : Size) → s ≡ t → IfOk result (λ p. AreTables s p) → IfOk result (λ p. AreTables t p)
tables_as result s t e h = subst (λ u. IfOk result (λ p. AreTables u p)) e h

-- ---- a listing that was written

listing_made : (k : Known) → IsKnown k → (rows : List Row) → k.lines.items ≡ lines_of rows → (p : CheckedProgram) (xs : List LinearItem) → length xs ≡ k.items → (places : Places) (text : List ℕ)
    → IsListingOf p xs (layout_of k) places text → length text + 1 < 2 ^ 32 → AreMade k places (opening p xs) (lines_in text) (all_operations k places rows) (all_hoists k places rows)
listing_made k known rows e p xs n places text l short =
    written k known rows e p xs n places l.unbroken l.hoists text (l.text ∙ ap (λ (ls : List Line). listing p xs ls places) e) short

refusal_is : (k : Known) → IsKnown k → (rows : List Row) → k.lines.items ≡ lines_of rows → (p : CheckedProgram) (xs : List LinearItem) → length xs ≡ k.items → (places : Places) (text : List ℕ)
    → IsListingOf p xs (layout_of k) places text → length text + 1 < 2 ^ 32 → (r : ListingRefusal) → NamesLine r (IsFirstWrong (opening p xs) (layout_of k) (lines_in text)) → r ≡ refused.Memory
refusal_is k known rows e p xs n places text l short (refused.Bad line) w =
    absurd (none_wrong k known places (opening p xs) (lines_in text) (all_operations k places rows) (all_hoists k places rows) (listing_made k known rows e p xs n places text l short) line.0 w)
refusal_is k known rows e p xs n places text l short refused.Memory w = refl

-- it isn't refused
pub accepted : (k : Known) → IsKnown k → (rows : List Row) → k.lines.items ≡ lines_of rows → (p : CheckedProgram) (xs : List LinearItem) → length xs ≡ k.items → (text : List ℕ) → length text + 1 < 2 ^ 32
    → (y : Layout) → layout_of k ≡ y → (result : Result Placement ListingRefusal) → IfErr result (λ e. NamesLine e (IsFirstWrong (opening p xs) y (lines_in text)))
    → IfErr result (λ r. (places : Places) → IsListingOf p xs y places text → r ≡ refused.Memory)
accepted k known rows e p xs n text short y same (Ok a) h = tt
accepted k known rows e p xs n text short y same (Err r) h = λ places l.
    refusal_is k known rows e p xs n places text (subst (λ (z : Layout). IsListingOf p xs z places text) (sym same) l) short r
    (subst (λ (z : Layout). NamesLine r (IsFirstWrong (opening p xs) z (lines_in text))) (sym same) h)

-- it tells the places that were written
pub read_back : (k : Known) → IsKnown k → (rows : List Row) → k.lines.items ≡ lines_of rows → (p : CheckedProgram) (xs : List LinearItem) → length xs ≡ k.items → (text : List ℕ) → length text + 1 < 2 ^ 32
    → (y : Layout) → layout_of k ≡ y → (result : Result Placement ListingRefusal) → IfOk result (λ a. IsReadAs (opening p xs) y (lines_in text) (places_of a))
    → IfOk result (λ a. (places : Places) → IsListingOf p xs y places text → AreBack y places (places_of a))
read_back k known rows e p xs n text short y same (Err r) h = tt
read_back k known rows e p xs n text short y same (Ok a) h = λ places l.
    subst (λ (z : Layout). AreBack z places (places_of a)) same
    (made_back k known places (places_of a) (opening p xs) (lines_in text) (all_operations k places rows) (all_hoists k places rows)
    (listing_made k known rows e p xs n places text (subst (λ (z : Layout). IsListingOf p xs z places text) (sym same) l) short)
    (subst (λ (z : Layout). IsReadAs (opening p xs) z (lines_in text) (places_of a)) (sym same) h))
