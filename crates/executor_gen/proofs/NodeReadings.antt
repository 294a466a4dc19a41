-- The references that the nodes of a program read.
use Rattle.std.proofs.Common.{◌≡◌, ℕ, ◌+◌, List, [], ◌∷◌, ◌++◌, map, flat_map, None, refl, sym, ap, ◌∙◌}
use Rattle.std.specs.List.{AllByRecursion}
use Rattle.std.proofs.lemmas.List.{map-append}
use Rattle.fd_base.specs.declared.numbering.Line.{Line}
use Rattle.fd_prog.specs.Checked.{Reference, references_in, condition_references, target_references, statement_references, statements_references}
use Rattle.fd_prog.specs.Conditions.{Condition}
use Rattle.fd_prog.specs.Expressions.{Expression}
use Rattle.fd_prog.specs.Items.{Enclosing, Side, Repeated}
use Rattle.fd_prog.specs.Nodes as nodes
use Rattle.fd_prog.specs.Nodes.{Node, at_line, nodes_in, nodes_among, nodes_from, all_nodes_from, nodes_of}
use Rattle.fd_prog.specs.Programs.{CheckedProgram}
use Rattle.fd_prog.specs.Statements.{Target, ToScalar, ToElement, Statement, Assign, If, Do, While, Read, Print, Continue, Distribute, Statements, Empty, Then}
use Rattle.fd_prog.specs.Uses.{Use, Stand, for_all_ranks, for_home_of, counted, condition_uses, uses_in, uses_among, uses_by_node}
use Rattle.exec_code.specs.Passing.{sites_in, condition_sites}
use Rattle.executor_gen.specs.Uses.{role_sites}
use Rattle.executor_gen.proofs.Readings.{Reading, uses_in_all, sites_of, reference_sites, expression_readings, expressions_readings, condition_readings, target_readings, print_readings, condition_used, prints_used, assign_used, read_used, bounds_used, expression_told, expressions_told, condition_told, target_told, prints_told, assign_told, bounds_told, expression_referred, expressions_referred, condition_referred, prints_referred}

-- what there is of each node of an IF and of a loop
abbrev fork : {A : Type 0} → A → A → List A → List A → List A
fork none c so otherwise = c ∷ (none ∷ (so ++ (none ∷ (none ∷ (otherwise ++ (none ∷ (none ∷ [])))))))

abbrev loop : {A : Type 0} → A → A → List A → A → List A
loop none c body last = c ∷ (none ∷ (body ++ (last ∷ [])))

abbrev mutual
  -- the references that the nodes of a statement read, in order of the nodes
  pub readings_in : CheckedProgram → List Enclosing → Statement → List (List Reading)
  readings_in p around (Assign line target e) = (target_readings (for_all_ranks p around line) target ++ expression_readings (for_home_of p around line (Assign line target e)) e) ∷ []
  readings_in p around (If line c so otherwise) = fork [] (condition_readings (for_all_ranks p around line) c) (readings_among p (Side ∷ around) so) (readings_among p (Side ∷ around) otherwise)
  readings_in p around (Do line var first last by body) =
      loop [] (expression_readings (for_all_ranks p around line) first ++ (expression_readings (for_all_ranks p around line) last ++ expression_readings (for_all_ranks p around line) by))
      (readings_among p (counted var first last by body ∷ around) body) []
  readings_in p around (While line c body) =
      loop [] (condition_readings (for_all_ranks p around line) c) (readings_among p (Repeated ∷ around) body) (condition_readings (for_all_ranks p around line) c)
  readings_in p around (Read line target) = target_readings (for_all_ranks p around line) target ∷ []
  readings_in p around (Print line items) = flat_map (print_readings (for_home_of p around line (Print line items))) items ∷ []
  readings_in p around (Continue line) = [] ∷ []
  readings_in p around (Distribute line decomp given) = [] ∷ []

  pub readings_among : CheckedProgram → List Enclosing → Statements → List (List Reading)
  readings_among p around Empty = []
  readings_among p around (Then s ss) = readings_in p around s ++ readings_among p around ss

-- the same of all nodes of a program
abbrev pub readings_by_node : CheckedProgram → List (List Reading)
readings_by_node p = [] ∷ (readings_among p [] p.body ++ ([] ∷ []))

map_fork : {A B : Type 0} (f : A → B) (none c : A) (so otherwise : List A) → map f (fork none c so otherwise) ≡ fork (f none) (f c) (map f so) (map f otherwise)
map_fork f none c so otherwise =
    ap (λ xs. f c ∷ (f none ∷ xs))
    (map-append f so (none ∷ (none ∷ (otherwise ++ (none ∷ (none ∷ []))))) ∙ ap (λ xs. map f so ++ (f none ∷ (f none ∷ xs))) (map-append f otherwise (none ∷ (none ∷ []))))

map_loop : {A B : Type 0} (f : A → B) (none c last : A) (body : List A) → map f (loop none c body last) ≡ loop (f none) (f c) (map f body) (f last)
map_loop f none c last body = ap (λ xs. f c ∷ (f none ∷ xs)) (map-append f body (last ∷ []))

-- ---- what they use

fork_used : (c : List Use) (cs : List Reading) (us vs : List (List Use)) (rs ss : List (List Reading)) → c ≡ uses_in_all cs → us ≡ map uses_in_all rs → vs ≡ map uses_in_all ss
    → fork [] c us vs ≡ map uses_in_all (fork [] cs rs ss)
fork_used c cs us vs rs ss e f g =
    ap (λ x. fork [] x us vs) e ∙ ap (λ x. fork [] (uses_in_all cs) x vs) f ∙ ap (λ x. fork [] (uses_in_all cs) (map uses_in_all rs) x) g ∙ sym (map_fork uses_in_all [] cs rs ss)

loop_used : (c d : List Use) (cs ds : List Reading) (us : List (List Use)) (rs : List (List Reading)) → c ≡ uses_in_all cs → d ≡ uses_in_all ds → us ≡ map uses_in_all rs → loop [] c us d ≡ map uses_in_all (loop [] cs rs ds)
loop_used c d cs ds us rs e f g =
    ap (λ x. loop [] x us d) e ∙ ap (λ x. loop [] (uses_in_all cs) us x) f ∙ ap (λ x. loop [] (uses_in_all cs) x (uses_in_all ds)) g ∙ sym (map_loop uses_in_all [] cs ds rs)

mutual
  statement_used : (p : CheckedProgram) (around : List Enclosing) (s : Statement) → uses_in p around s ≡ map uses_in_all (readings_in p around s)
  statement_used p around (Assign line target e) = ap (λ us. us ∷ []) (assign_used (for_all_ranks p around line) (for_home_of p around line (Assign line target e)) target e)
  statement_used p around (If line c so otherwise) =
      fork_used (condition_uses (for_all_ranks p around line) c) (condition_readings (for_all_ranks p around line) c) (uses_among p (Side ∷ around) so) (uses_among p (Side ∷ around) otherwise)
      (readings_among p (Side ∷ around) so) (readings_among p (Side ∷ around) otherwise) (condition_used (for_all_ranks p around line) c) (statements_used p (Side ∷ around) so) (statements_used p (Side ∷ around) otherwise)
  statement_used p around (Do line var first last by body) =
      loop_used _ [] (expression_readings (for_all_ranks p around line) first ++ (expression_readings (for_all_ranks p around line) last ++ expression_readings (for_all_ranks p around line) by)) []
      (uses_among p (counted var first last by body ∷ around) body) (readings_among p (counted var first last by body ∷ around) body)
      (bounds_used (for_all_ranks p around line) first last by) refl (statements_used p (counted var first last by body ∷ around) body)
  statement_used p around (While line c body) =
      loop_used (condition_uses (for_all_ranks p around line) c) (condition_uses (for_all_ranks p around line) c) (condition_readings (for_all_ranks p around line) c) (condition_readings (for_all_ranks p around line) c)
      (uses_among p (Repeated ∷ around) body) (readings_among p (Repeated ∷ around) body)
      (condition_used (for_all_ranks p around line) c) (condition_used (for_all_ranks p around line) c) (statements_used p (Repeated ∷ around) body)
  statement_used p around (Read line target) = ap (λ us. us ∷ []) (read_used (for_all_ranks p around line) target)
  statement_used p around (Print line items) = ap (λ us. us ∷ []) (prints_used (for_home_of p around line (Print line items)) items)
  statement_used p around (Continue line) = refl
  statement_used p around (Distribute line decomp given) = refl

  statements_used : (p : CheckedProgram) (around : List Enclosing) (ss : Statements) → uses_among p around ss ≡ map uses_in_all (readings_among p around ss)
  statements_used p around Empty = refl
  statements_used p around (Then s ss) =
      ap (λ us. us ++ uses_among p around ss) (statement_used p around s) ∙ ap (λ us. map uses_in_all (readings_in p around s) ++ us) (statements_used p around ss)
      ∙ sym (map-append uses_in_all (readings_in p around s) (readings_among p around ss))

pub program_used : (p : CheckedProgram) → uses_by_node p ≡ map uses_in_all (readings_by_node p)
program_used p = ap (λ us. [] ∷ us) (ap (λ us. us ++ ([] ∷ [])) (statements_used p [] p.body) ∙ sym (map-append uses_in_all (readings_among p [] p.body) ([] ∷ [])))

-- ---- their numbers

abbrev node_sites : Node → List ℕ
node_sites n = role_sites n.role

fork_nodes : (a : ℕ) (line : Line) (c : Condition) (m : ℕ) (so : ℕ → List Node) (k : ℕ) (otherwise : ℕ → List Node)
    → map node_sites (nodes.fork_from a line c m so k otherwise) ≡ fork [] (condition_sites c) (map node_sites (so (a + 2))) (map node_sites (otherwise (a + m + 4)))
fork_nodes a line c m so k otherwise =
    let last : List Node = at_line line nodes.Pad ∷ (at_line line nodes.Join ∷ []) in
    ap (λ xs. condition_sites c ∷ ([] ∷ xs))
    (map-append node_sites (so (a + 2)) (at_line line (nodes.YesEnd (a + m + k + 5)) ∷ (at_line line nodes.Pad ∷ (otherwise (a + m + 4) ++ last)))
    ∙ ap (λ xs. map node_sites (so (a + 2)) ++ ([] ∷ ([] ∷ xs))) (map-append node_sites (otherwise (a + m + 4)) last))

loop_nodes : (a : ℕ) (line : Line) (s : Statement) (m : ℕ) (body : ℕ → List Node)
    → map node_sites (nodes.loop_from a line s m body) ≡ loop [] (role_sites (nodes.Loop s (a + m + 2))) (map node_sites (body (a + 2))) (role_sites (nodes.Latch s a))
loop_nodes a line s m body = ap (λ xs. role_sites (nodes.Loop s (a + m + 2)) ∷ ([] ∷ xs)) (map-append node_sites (body (a + 2)) (at_line line (nodes.Latch s a) ∷ []))

fork_told : (c : List ℕ) (cs : List Reading) (us vs : List (List ℕ)) (rs ss : List (List Reading)) → sites_of cs ≡ c → map sites_of rs ≡ us → map sites_of ss ≡ vs → map sites_of (fork [] cs rs ss) ≡ fork [] c us vs
fork_told c cs us vs rs ss e f g =
    map_fork sites_of [] cs rs ss ∙ ap (λ x. fork [] x (map sites_of rs) (map sites_of ss)) e ∙ ap (λ x. fork [] c x (map sites_of ss)) f ∙ ap (λ x. fork [] c us x) g

loop_told : (c d : List ℕ) (cs ds : List Reading) (us : List (List ℕ)) (rs : List (List Reading)) → sites_of cs ≡ c → sites_of ds ≡ d → map sites_of rs ≡ us → map sites_of (loop [] cs rs ds) ≡ loop [] c us d
loop_told c d cs ds us rs e f g =
    map_loop sites_of [] cs ds rs ∙ ap (λ x. loop [] x (map sites_of rs) (sites_of ds)) e ∙ ap (λ x. loop [] c (map sites_of rs) x) f ∙ ap (λ x. loop [] c x d) g

mutual
  statement_told : (p : CheckedProgram) (around : List Enclosing) (s : Statement) (a : ℕ) → map sites_of (readings_in p around s) ≡ map node_sites (nodes_from a s)
  statement_told p around (Assign line target e) a = ap (λ xs. xs ∷ []) (assign_told (for_all_ranks p around line) (for_home_of p around line (Assign line target e)) target e)
  statement_told p around (If line c so otherwise) a =
      fork_told (condition_sites c) (condition_readings (for_all_ranks p around line) c) (map node_sites (all_nodes_from (a + 2) so)) (map node_sites (all_nodes_from (a + nodes_among so + 4) otherwise))
      (readings_among p (Side ∷ around) so) (readings_among p (Side ∷ around) otherwise) (condition_told (for_all_ranks p around line) c)
      (statements_told p (Side ∷ around) so (a + 2)) (statements_told p (Side ∷ around) otherwise (a + nodes_among so + 4))
      ∙ sym (fork_nodes a line c (nodes_among so) (λ b. all_nodes_from b so) (nodes_among otherwise) (λ b. all_nodes_from b otherwise))
  statement_told p around (Do line var first last by body) a =
      loop_told (sites_in first ++ (sites_in last ++ sites_in by)) []
      (expression_readings (for_all_ranks p around line) first ++ (expression_readings (for_all_ranks p around line) last ++ expression_readings (for_all_ranks p around line) by)) []
      (map node_sites (all_nodes_from (a + 2) body)) (readings_among p (counted var first last by body ∷ around) body)
      (bounds_told (for_all_ranks p around line) first last by) refl (statements_told p (counted var first last by body ∷ around) body (a + 2))
      ∙ sym (loop_nodes a line (Do line var first last by body) (nodes_among body) (λ b. all_nodes_from b body))
  statement_told p around (While line c body) a =
      loop_told (condition_sites c) (condition_sites c) (condition_readings (for_all_ranks p around line) c) (condition_readings (for_all_ranks p around line) c)
      (map node_sites (all_nodes_from (a + 2) body)) (readings_among p (Repeated ∷ around) body)
      (condition_told (for_all_ranks p around line) c) (condition_told (for_all_ranks p around line) c) (statements_told p (Repeated ∷ around) body (a + 2))
      ∙ sym (loop_nodes a line (While line c body) (nodes_among body) (λ b. all_nodes_from b body))
  statement_told p around (Read line target) a = ap (λ xs. xs ∷ []) (target_told (for_all_ranks p around line) target)
  statement_told p around (Print line items) a = ap (λ xs. xs ∷ []) (prints_told (for_home_of p around line (Print line items)) items)
  statement_told p around (Continue line) a = refl
  statement_told p around (Distribute line decomp given) a = refl

  statements_told : (p : CheckedProgram) (around : List Enclosing) (ss : Statements) (a : ℕ) → map sites_of (readings_among p around ss) ≡ map node_sites (all_nodes_from a ss)
  statements_told p around Empty a = refl
  statements_told p around (Then s ss) a =
      map-append sites_of (readings_in p around s) (readings_among p around ss) ∙ ap (λ xs. xs ++ map sites_of (readings_among p around ss)) (statement_told p around s a)
      ∙ ap (λ xs. map node_sites (nodes_from a s) ++ xs) (statements_told p around ss (a + nodes_in s)) ∙ sym (map-append node_sites (nodes_from a s) (all_nodes_from (a + nodes_in s) ss))

pub program_told : (p : CheckedProgram) → map sites_of (readings_by_node p) ≡ map (λ (n : Node). role_sites n.role) (nodes_of p)
program_told p =
    ap (λ xs. [] ∷ xs) (map-append sites_of (readings_among p [] p.body) ([] ∷ []) ∙ ap (λ xs. xs ++ ([] ∷ [])) (statements_told p [] p.body 1)
    ∙ sym (map-append node_sites (all_nodes_from 1 p.body) (at_line p.end_line nodes.End ∷ [])))

-- ---- each of them once, with the references of targets

abbrev target_once : Stand → Target → List Reading
target_once t (ToScalar s) = []
target_once t (ToElement array subs site) = record { line = t.line; site = site; item = None } ∷ expressions_readings t subs

abbrev mutual
  pub once_in : CheckedProgram → List Enclosing → Statement → List Reading
  once_in p around (Assign line target e) = target_once (for_all_ranks p around line) target ++ expression_readings (for_home_of p around line (Assign line target e)) e
  once_in p around (If line c so otherwise) = condition_readings (for_all_ranks p around line) c ++ (once_among p (Side ∷ around) so ++ once_among p (Side ∷ around) otherwise)
  once_in p around (Do line var first last by body) =
      expression_readings (for_all_ranks p around line) first ++ (expression_readings (for_all_ranks p around line) last ++ (expression_readings (for_all_ranks p around line) by
      ++ once_among p (counted var first last by body ∷ around) body))
  once_in p around (While line c body) = condition_readings (for_all_ranks p around line) c ++ once_among p (Repeated ∷ around) body
  once_in p around (Read line target) = target_once (for_all_ranks p around line) target
  once_in p around (Print line items) = flat_map (print_readings (for_home_of p around line (Print line items))) items
  once_in p around (Continue line) = []
  once_in p around (Distribute line decomp given) = []

  pub once_among : CheckedProgram → List Enclosing → Statements → List Reading
  once_among p around Empty = []
  once_among p around (Then s ss) = once_in p around s ++ once_among p around ss

-- readings and references with the same numbers
abbrev Same : List Reading → List Reference → Type 0
Same rs xs = sites_of rs ≡ reference_sites xs

both_same : (rs ss : List Reading) (xs ys : List Reference) → Same rs xs → Same ss ys → Same (rs ++ ss) (xs ++ ys)
both_same rs ss xs ys e f =
    map-append (λ (r : Reading). r.site) rs ss ∙ ap (λ zs. zs ++ sites_of ss) e ∙ ap (λ zs. reference_sites xs ++ zs) f ∙ sym (map-append (λ (r : Reference). r.site) xs ys)

expression_same : (t : Stand) (e : Expression) → Same (expression_readings t e) (references_in e)
expression_same t e = expression_told t e ∙ sym (expression_referred e)

condition_same : (t : Stand) (c : Condition) → Same (condition_readings t c) (condition_references c)
condition_same t c = condition_told t c ∙ sym (condition_referred c)

target_same : (t : Stand) (target : Target) → Same (target_once t target) (target_references target)
target_same t (ToScalar s) = refl
target_same t (ToElement array subs site) = ap (λ xs. site ∷ xs) (expressions_told t subs ∙ sym (expressions_referred subs))

mutual
  statement_same : (p : CheckedProgram) (around : List Enclosing) (s : Statement) → Same (once_in p around s) (statement_references s)
  statement_same p around (Assign line target e) =
      both_same (target_once (for_all_ranks p around line) target) (expression_readings (for_home_of p around line (Assign line target e)) e) (target_references target) (references_in e)
      (target_same (for_all_ranks p around line) target) (expression_same (for_home_of p around line (Assign line target e)) e)
  statement_same p around (If line c so otherwise) =
      both_same (condition_readings (for_all_ranks p around line) c) (once_among p (Side ∷ around) so ++ once_among p (Side ∷ around) otherwise) (condition_references c) (statements_references so ++ statements_references otherwise)
      (condition_same (for_all_ranks p around line) c)
      (both_same (once_among p (Side ∷ around) so) (once_among p (Side ∷ around) otherwise) (statements_references so) (statements_references otherwise)
      (statements_same p (Side ∷ around) so) (statements_same p (Side ∷ around) otherwise))
  statement_same p around (Do line var first last by body) =
      let t = for_all_ranks p around line in
      let inner = counted var first last by body ∷ around in
      both_same (expression_readings t first) (expression_readings t last ++ (expression_readings t by ++ once_among p inner body)) (references_in first) (references_in last ++ (references_in by ++ statements_references body))
      (expression_same t first)
      (both_same (expression_readings t last) (expression_readings t by ++ once_among p inner body) (references_in last) (references_in by ++ statements_references body) (expression_same t last)
      (both_same (expression_readings t by) (once_among p inner body) (references_in by) (statements_references body) (expression_same t by) (statements_same p inner body)))
  statement_same p around (While line c body) =
      both_same (condition_readings (for_all_ranks p around line) c) (once_among p (Repeated ∷ around) body) (condition_references c) (statements_references body)
      (condition_same (for_all_ranks p around line) c) (statements_same p (Repeated ∷ around) body)
  statement_same p around (Read line target) = target_same (for_all_ranks p around line) target
  statement_same p around (Print line items) = prints_told (for_home_of p around line (Print line items)) items ∙ sym (prints_referred items)
  statement_same p around (Continue line) = refl
  statement_same p around (Distribute line decomp given) = refl

  pub statements_same : (p : CheckedProgram) (around : List Enclosing) (ss : Statements) → Same (once_among p around ss) (statements_references ss)
  statements_same p around Empty = refl
  statements_same p around (Then s ss) =
      both_same (once_in p around s) (once_among p around ss) (statement_references s) (statements_references ss) (statement_same p around s) (statements_same p around ss)

-- ---- what holds of each holds of each that a node reads

pub all_left : {A : Type 0} (P : A → Type 0) (xs ys : List A) → AllByRecursion P (xs ++ ys) → AllByRecursion P xs
all_left P [] ys h = tt
all_left P (x ∷ xs) ys h = (h.0, all_left P xs ys h.1)

pub all_right : {A : Type 0} (P : A → Type 0) (xs ys : List A) → AllByRecursion P (xs ++ ys) → AllByRecursion P ys
all_right P [] ys h = h
all_right P (x ∷ xs) ys h = all_right P xs ys h.1

pub all_both : {A : Type 0} (P : A → Type 0) (xs ys : List A) → AllByRecursion P xs → AllByRecursion P ys → AllByRecursion P (xs ++ ys)
all_both P [] ys h k = k
all_both P (x ∷ xs) ys h k = (h.0, all_both P xs ys h.1 k)

-- at each node
abbrev pub AllOf : (Reading → Type 0) → List (List Reading) → Type 0
AllOf P rows = AllByRecursion (λ (rs : List Reading). AllByRecursion P rs) rows

rows_both : (P : Reading → Type 0) (xs ys : List (List Reading)) → AllOf P xs → AllOf P ys → AllOf P (xs ++ ys)
rows_both P xs ys h k = all_both (λ (rs : List Reading). AllByRecursion P rs) xs ys h k

fork_all : (P : Reading → Type 0) (cs : List Reading) (rs ss : List (List Reading)) → AllByRecursion P cs → AllOf P rs → AllOf P ss → AllOf P (fork [] cs rs ss)
fork_all P cs rs ss h k l = (h, (tt, rows_both P rs ([] ∷ ([] ∷ (ss ++ ([] ∷ ([] ∷ []))))) k (tt, (tt, rows_both P ss ([] ∷ ([] ∷ [])) l (tt, (tt, tt))))))

loop_all : (P : Reading → Type 0) (cs ds : List Reading) (rs : List (List Reading)) → AllByRecursion P cs → AllByRecursion P ds → AllOf P rs → AllOf P (loop [] cs rs ds)
loop_all P cs ds rs h k l = (h, (tt, rows_both P rs (ds ∷ []) l (k, tt)))

target_all : (P : Reading → Type 0) (t : Stand) (target : Target) → AllByRecursion P (target_once t target) → AllByRecursion P (target_readings t target)
target_all P t (ToScalar s) h = tt
target_all P t (ToElement array subs site) h = h.1

mutual
  statement_all : (P : Reading → Type 0) (p : CheckedProgram) (around : List Enclosing) (s : Statement) → AllByRecursion P (once_in p around s) → AllOf P (readings_in p around s)
  statement_all P p around (Assign line target e) h =
      let t = for_all_ranks p around line in
      let own = expression_readings (for_home_of p around line (Assign line target e)) e in
      (all_both P (target_readings t target) own (target_all P t target (all_left P (target_once t target) own h)) (all_right P (target_once t target) own h), tt)
  statement_all P p around (If line c so otherwise) h =
      let cs = condition_readings (for_all_ranks p around line) c in
      let left = once_among p (Side ∷ around) so in
      let right = once_among p (Side ∷ around) otherwise in
      let rest = all_right P cs (left ++ right) h in
      fork_all P cs (readings_among p (Side ∷ around) so) (readings_among p (Side ∷ around) otherwise) (all_left P cs (left ++ right) h)
      (statements_all P p (Side ∷ around) so (all_left P left right rest)) (statements_all P p (Side ∷ around) otherwise (all_right P left right rest))
  statement_all P p around (Do line var first last by body) h =
      let t = for_all_ranks p around line in
      let inner = counted var first last by body ∷ around in
      let a = expression_readings t first in
      let b = expression_readings t last in
      let c = expression_readings t by in
      let d = once_among p inner body in
      let rest = all_right P a (b ++ (c ++ d)) h in
      let more = all_right P b (c ++ d) rest in
      loop_all P (a ++ (b ++ c)) [] (readings_among p inner body)
      (all_both P a (b ++ c) (all_left P a (b ++ (c ++ d)) h) (all_both P b c (all_left P b (c ++ d) rest) (all_left P c d more))) tt (statements_all P p inner body (all_right P c d more))
  statement_all P p around (While line c body) h =
      let cs = condition_readings (for_all_ranks p around line) c in
      let rest = once_among p (Repeated ∷ around) body in
      loop_all P cs cs (readings_among p (Repeated ∷ around) body) (all_left P cs rest h) (all_left P cs rest h) (statements_all P p (Repeated ∷ around) body (all_right P cs rest h))
  statement_all P p around (Read line target) h = (target_all P (for_all_ranks p around line) target h, tt)
  statement_all P p around (Print line items) h = (h, tt)
  statement_all P p around (Continue line) h = (tt, tt)
  statement_all P p around (Distribute line decomp given) h = (tt, tt)

  statements_all : (P : Reading → Type 0) (p : CheckedProgram) (around : List Enclosing) (ss : Statements) → AllByRecursion P (once_among p around ss) → AllOf P (readings_among p around ss)
  statements_all P p around Empty h = tt
  statements_all P p around (Then s ss) h =
      rows_both P (readings_in p around s) (readings_among p around ss) (statement_all P p around s (all_left P (once_in p around s) (once_among p around ss) h))
      (statements_all P p around ss (all_right P (once_in p around s) (once_among p around ss) h))

pub program_all : (P : Reading → Type 0) (p : CheckedProgram) → AllByRecursion P (once_among p [] p.body) → AllOf P (readings_by_node p)
program_all P p h = (tt, rows_both P (readings_among p [] p.body) ([] ∷ []) (statements_all P p [] p.body h) (tt, tt))
