-- Walks over the attributes of a DISTRIBUTE, from the front.
use Rattle.std.proofs.Common.{◌≡◌, List, [], ◌∷◌, ◌++◌, sym, ap, ◌∙◌, Option, append_assoc}
use Rattle.fd_base.specs.declared.numbering.Line.{Line}
use Rattle.fd_base.specs.declared.shapes.Dist.{Dist}
use Rattle.fd_ast.specs.Tree.{AttrTree}
use Rattle.fd_names.specs.declared.book.Seen.{Seen}
use Rattle.fd_names.specs.declared.refusal.Refusal.{Refusal}
use Rattle.fd_names.specs.Distributions.{attr_causes, attr_meant, attrs_causes, attrs_meant, see_attr, see_attrs}
use Rattle.fd_names.specs.First.{noted}
use Rattle.fd_names.specs.Names.{Declared}
use Rattle.fd_names.proofs.Noted.{noted-append}

-- what the walk over all attributes gives is what the walk over these gives from here on
pub record AreRead (d : Declared) (l : Line) (all : List AttrTree) (s0 : Seen) (w0 : Option Refusal) (rest : List AttrTree) (s : Seen) (w : Option Refusal) (rs : List (Option Dist)) : Type 0 where
  pub seen : see_attrs d l all s0 ≡ see_attrs d l rest s
  pub worst : noted l (attrs_causes d l all s0) w0 ≡ noted l (attrs_causes d l rest s) w
  pub made : attrs_meant d l all s0 ≡ rs ++ attrs_meant d l rest s

pub read_one : (d : Declared) (l : Line) (all : List AttrTree) (s0 : Seen) (w0 : Option Refusal) (rest more : List AttrTree) (x : AttrTree) (s : Seen) (w : Option Refusal) (rs : List (Option Dist)) (t : Seen) (v : Option Refusal) (r : Option Dist) (qs : List (Option Dist)) →
    AreRead d l all s0 w0 rest s w rs → rest ≡ x ∷ more → t ≡ see_attr d l x s → v ≡ noted l (attr_causes d l x s) w → r ≡ attr_meant d l x s → qs ≡ rs ++ r ∷ [] → AreRead d l all s0 w0 more t v qs
read_one d l all s0 w0 rest more x s w rs t v r qs h e ts vs made is = rw (is, made, ts, vs) (record {
  seen = h.seen ∙ ap (λ y. see_attrs d l y s) e;
  worst = h.worst ∙ (ap (λ y. noted l (attrs_causes d l y s) w) e ∙ noted-append l (attr_causes d l x s) (attrs_causes d l more (see_attr d l x s)) w);
  made = h.made ∙ (ap (λ y. rs ++ attrs_meant d l y s) e ∙ sym (append_assoc rs (attr_meant d l x s ∷ []) (attrs_meant d l more (see_attr d l x s))));
})
