-- What is wanted, by the sets that it is joined from.
use Rattle.std.proofs.Common.{◌≡◌, ℕ, suc, Bool, true, false, not, ◌&&◌, ◌||◌, List, refl, sym, ◌∙◌, ap, ap₂}
use Rattle.fd_prog.specs.Flow.{Around, is_around}
use Rattle.interval_graph.specs.declared.node.Row.{Row}
use Rattle.interval_graph.specs.Rows.{leads_at}
use Rattle.gnt_solver.specs.Passes.{to_of, inner_of, ti_of}

or_swap : (a b : Bool) → (a || b) ≡ (b || a)
or_swap true true = refl
or_swap true false = refl
or_swap false true = refl
or_swap false false = refl

-- what is taken, or wanted for a body
pub needed_by : (b body took take inner : Bool) → b ≡ (body || took) → body ≡ inner → took ≡ take → b ≡ (take || inner)
needed_by b body took take inner e i t = e ∙ (or_swap body took ∙ ap₂ (λ (x : Bool) (y : Bool). x || y) t i)

-- what is wanted at the top pad of a loop, and what is taken in the body and wanted behind it
inner_is : (to any top st : Bool) → (((to && any) || top) && not st) ≡ ((top && not st) || ((to && any) && not st))
inner_is true true true true = refl
inner_is true true true false = refl
inner_is true true false true = refl
inner_is true true false false = refl
inner_is true false true true = refl
inner_is true false true false = refl
inner_is true false false true = refl
inner_is true false false false = refl
inner_is false any true true = refl
inner_is false any true false = refl
inner_is false any false st = refl

pub inner_by : (rows : List Row) (st any ti : ℕ → Bool) (n m c : ℕ) (b united met to kept top stole : Bool) → leads_at rows n ≡ Around c → m ≡ suc n → b ≡ (united && not stole)
    → united ≡ (met || top) → met ≡ (to && kept) → to ≡ to_of (leads_at rows n) n ti → kept ≡ any n → top ≡ ti m → stole ≡ st n → b ≡ inner_of rows st any ti n
inner_by rows st any ti n m c b united met to kept top stole loop em eb eu ek et ea ep es =
    let inside : Bool = (ti (suc n) && not (st n)) || ((to_of (leads_at rows n) n ti && any n) && not (st n)) in
    let met_is : met ≡ (to_of (leads_at rows n) n ti && any n) = ek ∙ ap₂ (λ (x : Bool) (y : Bool). x && y) et ea in
    let united_is : united ≡ ((to_of (leads_at rows n) n ti && any n) || ti (suc n)) = eu ∙ ap₂ (λ (x : Bool) (y : Bool). x || y) met_is (ep ∙ ap ti em) in
    let all : b ≡ inside = eb ∙ (ap₂ (λ (x : Bool) (y : Bool). x && not y) united_is es ∙ inner_is (to_of (leads_at rows n) n ti) (any n) (ti (suc n)) (st n)) in
    all ∙ ap (λ (x : Bool). x && inside) (sym (ap is_around loop))

-- what a loop wants to keep over its body is wanted behind it
wanted_is : (to around st take top any : Bool) → (((to || (around && top)) && not st) || take) ≡ ((take || (around && ((top && not st) || ((to && any) && not st)))) || (to && not st))
wanted_is false false st true top any = refl
wanted_is false false st false top any = refl
wanted_is false true true true true any = refl
wanted_is false true true true false any = refl
wanted_is false true true false true any = refl
wanted_is false true true false false any = refl
wanted_is false true false true true any = refl
wanted_is false true false true false any = refl
wanted_is false true false false true any = refl
wanted_is false true false false false any = refl
wanted_is true false true true top any = refl
wanted_is true false true false top any = refl
wanted_is true false false true top any = refl
wanted_is true false false false top any = refl
wanted_is true true true true top any = refl
wanted_is true true false true top any = refl
wanted_is true true true false true true = refl
wanted_is true true true false true false = refl
wanted_is true true true false false true = refl
wanted_is true true true false false false = refl
wanted_is true true false false true any = refl
wanted_is true true false false false true = refl
wanted_is true true false false false false = refl

pub wanted_by : (rows : List Row) (take st any ti : ℕ → Bool) (n : ℕ) (b lost united to took stole : Bool) → b ≡ (lost || took) → lost ≡ (united && not stole)
    → united ≡ (to || (is_around (leads_at rows n) && ti (suc n))) → to ≡ to_of (leads_at rows n) n ti → took ≡ take n → stole ≡ st n → b ≡ ti_of rows take st any ti n
wanted_by rows take st any ti n b lost united to took stole eb el eu et ek es =
    eb ∙ (ap₂ (λ (x : Bool) (y : Bool). x || y) (el ∙ ap₂ (λ (x : Bool) (y : Bool). x && not y) (eu ∙ ap (λ (x : Bool). x || (is_around (leads_at rows n) && ti (suc n))) et) es) ek
    ∙ wanted_is (to_of (leads_at rows n) n ti) (is_around (leads_at rows n)) (st n) (take n) (ti (suc n)) (any n))
