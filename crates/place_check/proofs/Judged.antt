-- What the searches find, taken together, is the verdict.
use Rattle.std.proofs.Common.{◌≡◌, ℕ, ◌+◌, ◌-◌, ◌<◌, ◌≤◌, ◌==◌, Bool, true, false, inl, inr, List, ◌∷◌, length, Option, Some, None, refl, sym, ◌∙◌, ap, subst, arith, true≢false}
use Rattle.std.proofs.lemmas.Bool.{cases_eq}
use Rattle.fd_base.specs.declared.numbering.NodeNo.{NodeNo}
use Rattle.fd_sets.specs.Sets.{Subset}
use Rattle.fd_prog.specs.Flow.{FlowGraph}
use Rattle.fd_prog.specs.Paths.{Plan}
use Rattle.fd_prog.specs.PathConditions.{IsGoodPlan}
use Rattle.interval_graph.specs.declared.node.EdgeKind.{EdgeKind}
use Rattle.interval_graph.specs.declared.node.EdgeKind.TheVariants.{Forward, Entry, Cycle}
use Rattle.interval_graph.specs.declared.node.Row.{Row}
use Rattle.interval_graph.specs.Rows.{flow_of, AreRows}
use Rattle.interval_graph.specs.Structure.{IsFlow, IsLast}
use Rattle.gnt_solver.specs.declared.solving.Placement.{Placement}
use Rattle.gnt_solver.proofs.Items.{IsItem}
use Rattle.gnt_solver.proofs.Rows.{flow, last}
use Rattle.place_check.specs.declared.column.Column.{Column}
use Rattle.place_check.specs.declared.marks.Doings.{Doings}
use Rattle.place_check.specs.declared.verdict.Condition.{Condition}
use Rattle.place_check.specs.declared.verdict.Condition.TheVariants.{Balanced, Covered, Used}
use Rattle.place_check.specs.declared.verdict.Verdict.{Verdict}
use Rattle.place_check.specs.declared.verdict.Verdict.TheVariants.{Good, Bad}
use Rattle.place_check.specs.Verdicts.{numbers_of, place_of, IsHeld, IsShown, IsShownAt, IsVerdict, IsNamed, is_bad}
use Rattle.place_check.specs.Marks.{Machine, onward, after, ended, arrival, departure, doings_at}
use Rattle.place_check.specs.Walks.{along, IsWalk, begin, go, IsFirstWalk}
use Rattle.place_check.specs.Columns.{plan_of, doings_of, machine_of}
use Rattle.place_check.specs.Trails.{IsSearched}
use Rattle.place_check.proofs.Paths.{machine, shown_by, held_by, held_keeps}

-- ---- walks with marks that move alike

pub record AreAlike (v w : Machine) : Type 0 where
  pub arriving : (n : ℕ) (mark : Bool) → v.arriving n mark ≡ w.arriving n mark
  pub leaving : (n : ℕ) (mark : Bool) → v.leaving n mark ≡ w.leaving n mark

alike_back : (v w : Machine) → AreAlike v w → AreAlike w v
alike_back v w a = record { arriving = λ n m. sym (a.arriving n m); leaving = λ n m. sym (a.leaving n m) }

onward_alike : (o : Option Bool) (f g : Bool → Option Bool) → ((m : Bool) → f m ≡ g m) → onward o f ≡ onward o g
onward_alike None f g e = refl
onward_alike (Some m) f g e = e m

along_alike : (v w : Machine) → AreAlike v w → (kind : EdgeKind) (n s : ℕ) (mark : Bool) → along v kind n s mark ≡ along w kind n s mark
along_alike v w a Forward n s mark = ap (λ (o : Option Bool). onward o (v.arriving s)) (a.leaving n mark) ∙ onward_alike (w.leaving n mark) (v.arriving s) (w.arriving s) (a.arriving s)
along_alike v w a Entry n s mark = a.arriving s mark
along_alike v w a Cycle n s mark = refl

pub walk_alike : (g : FlowGraph) (v w : Machine) → AreAlike v w → (ns : List ℕ) (n : ℕ) (o : Option Bool) → IsWalk g v ns n o → IsWalk g w ns n o
walk_alike g v w a ns n o begin = subst (λ (z : Option Bool). IsWalk g w ns n z) (sym (a.arriving 0 false)) begin
walk_alike g v w a ns n o (go {ns = ms} {n = m} {mark = mark} kind s walk e) =
    subst (λ (z : Option Bool). IsWalk g w (s ∷ ms) s z) (sym (along_alike v w a kind m s mark)) (go kind s (walk_alike g v w a ms m (Some mark) walk) e)

first_alike : (g : FlowGraph) (v w : Machine) → AreAlike v w → (ns : List ℕ) → IsFirstWalk g v ns → IsFirstWalk g w ns
first_alike g v w a ns f = record {
  node = f.node;
  walk = walk_alike g v w a ns f.node None f.walk;
  first = λ ms m walk. f.first ms m (walk_alike g w v (alike_back v w a) ms m None walk);
}

-- ---- one item

-- what happens to an item at the nodes moves the mark as the plan does
column_alike : (p : Plan) (count x : ℕ) (c : Condition) (column : Column) → column.condition ≡ c → length column.nodes.items ≡ count
    → ((n : ℕ) → doings_at column.nodes.items n ≡ doings_of p x n) → AreAlike (machine_of column) (machine p (count - 1) c x)
column_alike p count x c column e l d = record {
  arriving = λ n mark.
      ap (λ (z : Condition). ended z (n == (length column.nodes.items - 1)) (after z (arrival (doings_at column.nodes.items n)) mark)) e
      ∙ (ap (λ (z : ℕ). ended c (n == (z - 1)) (after c (arrival (doings_at column.nodes.items n)) mark)) l
      ∙ ap (λ (z : Doings). ended c (n == (count - 1)) (after c (arrival z) mark)) (d n));
  leaving = λ n mark.
      ap (λ (z : Condition). after z (departure (doings_at column.nodes.items n)) mark) e
      ∙ ap (λ (z : Doings). after c (departure z) mark) (d n);
}

pub shown_at : (rows : List Row) (take steal : List Subset) (p : Placement) (x : ℕ) (c : Condition) (column : Column) (found : Option (List NodeNo)) → AreRows rows
    → 1 ≤ x → x ≤ (plan_of rows take steal p).items → column.condition ≡ c → length column.nodes.items ≡ length rows
    → ((n : ℕ) → doings_at column.nodes.items n ≡ doings_of (plan_of rows take steal p) x n) → IsSearched (flow_of rows) (machine_of column) found
    → IsShownAt (plan_of rows take steal p) (length rows - 1) c x found
shown_at rows take steal p x c column None h low high e l d none =
    let plan = plan_of rows take steal p in
    let alike = column_alike plan (length rows) x c column e l d in
    held_by plan (length rows - 1) c x (record { low = low; high = high }) (flow rows h) (last rows h)
    (λ ns n walk. none ns n (walk_alike (flow_of rows) _ _ (alike_back _ _ alike) ns n None walk))
shown_at rows take steal p x c column (Some nodes) h low high e l d found =
    let plan = plan_of rows take steal p in
    let alike = column_alike plan (length rows) x c column e l d in
    subst (λ (ns : List ℕ). IsShown plan (length rows - 1) c x ns) (sym found.2)
    (shown_by plan (length rows - 1) c x (record { low = low; high = high }) (flow rows h) (last rows h) found.0 (first_alike (flow_of rows) _ _ alike found.0 found.1))

-- ---- all items and conditions

abbrev pub AreHeld : Plan → ℕ → Condition → Type 0
AreHeld p last c = (x : ℕ) → 1 ≤ x → x ≤ p.items → IsHeld p last c x

pub held_more : (p : Plan) (last : ℕ) (c : Condition) (n : ℕ) → ((y : ℕ) → 1 ≤ y → y < n + 1 → IsHeld p last c y) → IsHeld p last c (n + 1)
    → (y : ℕ) → 1 ≤ y → y < n + 1 + 1 → IsHeld p last c y
held_more p last c n old new y lo hi = elim (cases_eq y (n + 1)) [
  | inl e ↦ subst (λ (z : ℕ). IsHeld p last c z) (sym e) new
  | inr e ↦ old y lo (omega (arith, hi, e))
]

pub all_held : (p : Plan) (last : ℕ) (c : Condition) (v : Verdict) → IsNamed p last c v → is_bad v ≡ false → AreHeld p last c
all_held p last c Good named good = named
all_held p last c (Bad d x ns) named good = absurd (true≢false good)

pub named_bad : (p : Plan) (last : ℕ) (c : Condition) (v : Verdict) → IsNamed p last c v → is_bad v ≡ true → ((d : Condition) → place_of d < place_of c → AreHeld p last d) → IsVerdict p last v
named_bad p last c Good named bad before = absurd (true≢false (sym bad))
named_bad p last c (Bad d x ns) named bad before = record {
  low = named.1;
  high = named.2;
  shown = subst (λ (z : Condition). IsShown p last z x.0 (numbers_of ns)) (sym named.0) named.3;
  conditions = λ e less y lo hi. before e (subst (λ (z : Condition). place_of e < place_of z) named.0 less) y lo hi;
  items = λ y lo hi. subst (λ (z : Condition). IsHeld p last z y) (sym named.0) (named.4 y lo hi);
}

pub before_balanced : (p : Plan) (last : ℕ) (d : Condition) → place_of d < place_of Balanced → AreHeld p last d
before_balanced p last d less = absurd (omega (arith, less))

pub before_covered : (p : Plan) (last : ℕ) → AreHeld p last Balanced → (d : Condition) → place_of d < place_of Covered → AreHeld p last d
before_covered p last held Balanced less = held
before_covered p last held Covered less = absurd (omega (arith, less))
before_covered p last held Used less = absurd (omega (arith, less))

pub before_used : (p : Plan) (last : ℕ) → AreHeld p last Balanced → AreHeld p last Covered → (d : Condition) → place_of d < place_of Used → AreHeld p last d
before_used p last held covered Balanced less = held
before_used p last held covered Covered less = covered
before_used p last held covered Used less = absurd (omega (arith, less))

is_good : (p : Plan) (last : ℕ) → IsFlow p.graph → IsLast p.graph last → AreHeld p last Balanced → AreHeld p last Covered → AreHeld p last Used → IsGoodPlan p last
is_good p last flow ends balanced covered used ns n es path x low high =
    let item : IsItem p x = record { low = low; high = high } in
    record {
      balanced = held_keeps p last Balanced x item flow ends ns n es (balanced x low high) path;
      covered = held_keeps p last Covered x item flow ends ns n es (covered x low high) path;
      used = held_keeps p last Used x item flow ends ns n es (used x low high) path;
    }

-- the last condition decides
pub judged : (p : Plan) (last : ℕ) (v : Verdict) → IsFlow p.graph → IsLast p.graph last → AreHeld p last Balanced → AreHeld p last Covered → IsNamed p last Used v → IsVerdict p last v
judged p last Good flow ends balanced covered named = is_good p last flow ends balanced covered named
judged p last (Bad d x ns) flow ends balanced covered named = named_bad p last Used (Bad d x ns) named refl (before_used p last balanced covered)

-- where no path shows it, the item keeps the condition
pub shown_none : (p : Plan) (last : ℕ) (c : Condition) (x : ℕ) (found : Option (List NodeNo)) → IsShownAt p last c x found → ((ns : List NodeNo) → found ≡ Some ns → ⊥) → IsHeld p last c x
shown_none p last c x None h none = h
shown_none p last c x (Some ns) h none = absurd (none ns refl)
