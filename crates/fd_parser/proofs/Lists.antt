-- Lists from left to right: the things so far, and what is still to come.
use Rattle.std.proofs.Common.{◌≡◌, List, [], ◌∷◌, ◌++◌, refl, sym, ◌∙◌, ap, subst, append_assoc}
use Rattle.std.proofs.lemmas.List.{append-nil}
use Rattle.fd_lexer.specs.declared.token.SignKind.{SignKind}
use Rattle.fd_lexer.specs.declared.token.SignKind.TheVariants.{ParRight, Comma}
use Rattle.fd_lexer.specs.View.{Tok, Sign}
use Rattle.fd_parser.specs.Expressions.{EndsExprAt, EndsExpr, EndsPrimary}
use Rattle.fd_parser.proofs.LeftToRight.{EndsTerm-primary, EndsExpr-term}
use Rattle.fd_parser.specs.Lists.{AreListed, last_one, one_more, EndsElementAt, EndsElement, EndsListAt, EndsList}

EndsListAt-element : (s : SignKind) → EndsListAt s → EndsElementAt s
EndsListAt-element ParRight h = h
EndsListAt-element s h = absurd h

pub EndsList-element : (ts : List Tok) → EndsList ts → EndsElement ts
unfolding EndsList EndsElement
EndsList-element [] h = tt
EndsList-element (Sign s ∷ ts) h = EndsListAt-element s h
EndsList-element (t ∷ ts) h = absurd h

EndsElementAt-expr : (s : SignKind) → EndsElementAt s → EndsExprAt s
EndsElementAt-expr Comma h = h
EndsElementAt-expr ParRight h = h
EndsElementAt-expr s h = absurd h

pub EndsElement-expr : (ts : List Tok) → EndsElement ts → EndsExpr ts
unfolding EndsElement EndsExpr
EndsElement-expr [] h = tt
EndsElement-expr (Sign s ∷ ts) h = EndsElementAt-expr s h
EndsElement-expr (t ∷ ts) h = absurd h

pub EndsElement-primary : (ts : List Tok) → EndsElement ts → EndsPrimary ts
EndsElement-primary ts h = EndsTerm-primary ts (EndsExpr-term ts (EndsElement-expr ts h))

pub comma_ends : (ts : List Tok) → EndsElement (Sign Comma ∷ ts)
unfolding EndsElement
comma_ends ts = tt

pub right_ends : (ts : List Tok) → EndsElement (Sign ParRight ∷ ts)
unfolding EndsElement
right_ends ts = tt

pub nothing_ends : EndsElement []
unfolding EndsElement
nothing_ends = tt

pub list_right : (ts : List Tok) → EndsList (Sign ParRight ∷ ts)
unfolding EndsList
list_right ts = tt

pub list_nothing : EndsList []
unfolding EndsList
list_nothing = tt

comma_goes_on : (ts : List Tok) → EndsList (Sign Comma ∷ ts) → ⊥
unfolding EndsList
comma_goes_on ts h = h

-- ---- what stands behind the first things of a list

pub data RestListed {X : Type 0} (IsOne : List Tok → X → List Tok → Type 0) : List Tok → List X → List Tok → Type 0 where
  no_thing : {us : List Tok} → RestListed IsOne us [] us
  thing : {us vs ws : List Tok} {y : X} {ys : List X} → IsOne us y vs → RestListed IsOne vs ys ws → RestListed IsOne (Sign Comma ∷ us) (y ∷ ys) ws

pub rest_ends : {X : Type 0} {IsOne : List Tok → X → List Tok → Type 0} {ts us : List Tok} {xs : List X} → RestListed IsOne ts xs us → EndsList us → EndsElement ts
rest_ends (no_thing {us = us}) h = EndsList-element us h
rest_ends (thing {us = us} d m) h = comma_ends us

pub record ListParts {X : Type 0} (IsOne : List Tok → X → List Tok → Type 0) (ts : List Tok) (xs : List X) (us : List Tok) : Type 0 where
  pub first : X
  pub rest : List Tok
  pub others : List X
  pub is : first ∷ others ≡ xs
  pub head : IsOne ts first rest
  pub more : RestListed IsOne rest others us

pub list_parts : {X : Type 0} {IsOne : List Tok → X → List Tok → Type 0} {ts us : List Tok} {xs : List X} → AreListed IsOne ts xs us → ListParts IsOne ts xs us
list_parts (last_one {us = us} {x = x} d) = record { first = x; rest = us; others = []; is = refl; head = d; more = no_thing }
list_parts (one_more {us = us} {x = x} {xs = xs} d a) = let q = list_parts a in record { first = x; rest = Sign Comma ∷ us; others = q.first ∷ q.others; is = ap (λ ys. x ∷ ys) q.is; head = d; more = thing q.head q.more }

-- one more at the end
pub listed_push : {X : Type 0} {IsOne : List Tok → X → List Tok → Type 0} {ts us vs ws : List Tok} {xs : List X} {y : X} → AreListed IsOne ts xs us → us ≡ Sign Comma ∷ vs → IsOne vs y ws → AreListed IsOne ts (xs ++ y ∷ []) ws
listed_push {IsOne = IsOne} {ts = ts} (last_one {x = x} d) e p = one_more (subst (λ us. IsOne ts x us) e d) (last_one p)
listed_push (one_more d a) e p = one_more d (listed_push a e p)

pub record ThingParts {X : Type 0} (IsOne : List Tok → X → List Tok → Type 0) (us : List Tok) (xs : List X) (ws : List Tok) : Type 0 where
  pub first : X
  pub rest : List Tok
  pub others : List X
  pub is : first ∷ others ≡ xs
  pub head : IsOne us first rest
  pub more : RestListed IsOne rest others ws

thing_parts : {X : Type 0} {IsOne : List Tok → X → List Tok → Type 0} {us ws : List Tok} {xs : List X} → RestListed IsOne (Sign Comma ∷ us) xs ws → EndsList ws → ThingParts IsOne us xs ws
thing_parts {us = us} no_thing h = absurd (comma_goes_on us h)
thing_parts (thing {vs = vs} {y = y} {ys = ys} d m) h = record { first = y; rest = vs; others = ys; is = refl; head = d; more = m }

pub thing_parts_at : {X : Type 0} {IsOne : List Tok → X → List Tok → Type 0} {ts us ws : List Tok} {xs : List X} → ts ≡ Sign Comma ∷ us → RestListed IsOne ts xs ws → EndsList ws → ThingParts IsOne us xs ws
thing_parts_at {IsOne = IsOne} {ws = ws} {xs = xs} e m h = thing_parts (subst (λ (ts : List Tok). RestListed IsOne ts xs ws) e m) h

nothing_more : {X : Type 0} {IsOne : List Tok → X → List Tok → Type 0} {ts us : List Tok} {ys : List X} → ((vs : List Tok) → ts ≡ Sign Comma ∷ vs → ⊥) → RestListed IsOne ts ys us → (ys ≡ []) × (ts ≡ us)
nothing_more n no_thing = (refl, refl)
nothing_more n (thing {us = us} d m) = absurd (n us refl)

-- the things so far and those behind them are the list
pub record ListSeen {X : Type 0} (IsOne : List Tok → X → List Tok → Type 0) (ts : List Tok) (done : List X) (rest : List Tok) : Type 0 where
  pub found : AreListed IsOne ts done rest
  pub only : (xs : List X) (us : List Tok) → AreListed IsOne ts xs us → EndsList us → (ys : List X) × (done ++ ys ≡ xs) × RestListed IsOne rest ys us

-- what a function that reads one thing says
abbrev pub IsOnly : {X : Type 0} → (List Tok → X → List Tok → Type 0) → List Tok → X → List Tok → Type 0
IsOnly {X} IsOne ts y rest = (x : X) (r : List Tok) → IsOne ts x r → EndsElement r → (y ≡ x) × (rest ≡ r)

pub list_begun : {X : Type 0} {IsOne : List Tok → X → List Tok → Type 0} {ts rest : List Tok} {x : X} → IsOne ts x rest → IsOnly IsOne ts x rest → ListSeen IsOne ts (x ∷ []) rest
list_begun {IsOne = IsOne} d only = record {
  found = last_one d;
  only = λ xs us a h.
      let q = list_parts a in
      let e = only q.first q.rest q.head (rest_ends q.more h) in
      (q.others, rw e.0 q.is, rw e.1 q.more);
}

push-then : {X : Type 0} (done : List X) (y z : X) (zs ys xs : List X) → y ≡ z → z ∷ zs ≡ ys → done ++ ys ≡ xs → (done ++ y ∷ []) ++ zs ≡ xs
push-then done y z zs ys xs e f g = rw (e, append_assoc done (z ∷ []) zs, f) g

nil-then : {X : Type 0} (done ys xs : List X) → ys ≡ [] → done ++ ys ≡ xs → done ≡ xs
nil-then done ys xs e f = sym (append-nil done) ∙ (ap (λ zs. done ++ zs) (sym e) ∙ f)

pub list_more : {X : Type 0} {IsOne : List Tok → X → List Tok → Type 0} {ts rest us vs : List Tok} {done : List X} {y : X} → ListSeen IsOne ts done rest → rest ≡ Sign Comma ∷ us → IsOne us y vs → IsOnly IsOne us y vs → ListSeen IsOne ts (done ++ y ∷ []) vs
list_more {done = done} {y = y} s c d only = record {
  found = listed_push s.found c d;
  only = λ xs us a h.
      let q = s.only xs us a h in
      let p = thing_parts_at c q.2 h in
      let e = only p.first p.rest p.head (rest_ends p.more h) in
      (p.others, push-then done y p.first p.others q.0 xs e.0 p.is q.1, rw e.1 p.more);
}

pub list_over : {X : Type 0} {IsOne : List Tok → X → List Tok → Type 0} {ts rest us : List Tok} {done xs : List X} → ListSeen IsOne ts done rest → ((vs : List Tok) → rest ≡ Sign Comma ∷ vs → ⊥) → AreListed IsOne ts xs us → EndsList us → (done ≡ xs) × (rest ≡ us)
list_over {us = us} {done = done} {xs = xs} s n a h =
    let q = s.only xs us a h in
    let e = nothing_more n q.2 in
    (nil-then done q.0 xs e.0 q.1, e.1)
