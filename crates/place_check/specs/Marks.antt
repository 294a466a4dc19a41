-- What a path does to an item, kept in one mark for each condition.
use Rattle.std.specs.Prelude.{ℕ, Bool, true, false, not, ◌&&◌, ◌==◌, List, [], ◌∷◌, ◌++◌, get_or, Option, Some, None}
use Rattle.fd_prog.specs.Paths.{Happening, Sent, Received, Taken, Hoisted, Stolen}
use Rattle.place_check.specs.declared.verdict.Condition.{Condition}
use Rattle.place_check.specs.declared.verdict.Condition.TheVariants.{Balanced, Covered, Used}
use Rattle.place_check.specs.declared.marks.Doings.{Doings}

-- what happens to the mark, or nothing where the condition is broken. The mark says of Balanced that a send is open, of Covered that the item has come and wasn't stolen since,
-- and of Used that a send wasn't used yet
abbrev pub moved : Condition → Happening → Bool → Option Bool
moved Balanced Sent true = None
moved Balanced Sent false = Some true
moved Balanced Received true = Some false
moved Balanced Received false = None
moved Balanced Taken mark = Some mark
moved Balanced Hoisted mark = Some mark
moved Balanced Stolen true = None
moved Balanced Stolen false = Some false
moved Covered Sent mark = Some mark
moved Covered Received mark = Some true
moved Covered Taken true = Some true
moved Covered Taken false = None
moved Covered Hoisted mark = Some mark
moved Covered Stolen mark = Some false
moved Used Sent mark = Some true
moved Used Received mark = Some mark
moved Used Taken mark = Some false
moved Used Hoisted mark = Some false
moved Used Stolen true = None
moved Used Stolen false = Some false

-- one step after another, unless the first breaks the condition
abbrev pub onward : Option Bool → (Bool → Option Bool) → Option Bool
onward None step = None
onward (Some mark) step = step mark

-- the mark after all that happens
abbrev pub after : Condition → List Happening → Bool → Option Bool
after c [] mark = Some mark
after c (h ∷ hs) mark = onward (moved c h mark) (after c hs)

-- the mark that a path may have at End
abbrev pub may_end : Condition → Bool → Bool
may_end Balanced mark = not mark
may_end Covered mark = true
may_end Used mark = not mark

abbrev pub unless : Bool → Bool → Option Bool
unless true mark = None
unless false mark = Some mark

-- the mark, unless the path ends here and may not
abbrev pub ended : Condition → Bool → Option Bool → Option Bool
ended c at_end mark = onward mark (λ m. unless (at_end && not (may_end c m)) m)

abbrev pub if_so : Bool → Happening → List Happening
if_so true h = h ∷ []
if_so false h = []

-- what happens to the item at the `in` of a node and at it, and at its `out`
abbrev pub arrival : Doings → List Happening
arrival d = (if_so d.sent_in Sent ++ if_so d.received_in Received) ++ (if_so d.taken Taken ++ (if_so d.hoisted Hoisted ++ if_so d.stolen Stolen))

abbrev pub departure : Doings → List Happening
departure d = if_so d.sent_out Sent ++ if_so d.received_out Received

-- a node where nothing happens to the item
abbrev pub quiet : Doings
quiet = record { sent_in = false; received_in = false; taken = false; hoisted = false; stolen = false; sent_out = false; received_out = false }

-- how the mark moves on arrival at nodes and on leaving them
pub record Machine : Type 0 where
  pub arriving : ℕ → Bool → Option Bool
  pub leaving : ℕ → Bool → Option Bool

abbrev pub machine_by : Condition → ℕ → (ℕ → Doings) → Machine
machine_by c last d = record {
  arriving = λ n mark. ended c (n == last) (after c (arrival (d n)) mark);
  leaving = λ n mark. after c (departure (d n)) mark;
}

abbrev pub doings_at : List Doings → ℕ → Doings
doings_at ds n = get_or ds n quiet
