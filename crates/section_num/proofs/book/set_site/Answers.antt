use Rattle.std.proofs.Common.{◌≡◌, true, sym, ap, ◌∙◌, arith, length, ◌<◌, refl}
use Rattle.section_num.specs.Noting.{is_free}
use Rattle.section_num.specs.Views.{numbers_of}
use Rattle.section_num.proofs.Notings.{free_within, set_free}
use Rattle.section_num.proofs.book.set_site.Goals as goal

pub set-requires : goal.set-requires
set-requires c =
    let h : is_free (numbers_of c.args.sites.now) c.args.site ≡ true = sym c.is_unset.ensures ∙ c.if-is_unset.true in
    free_within c.args.sites.now c.args.site h

pub returns-then-is_unset : goal.returns-then-is_unset
returns-then-is_unset c =
    let h : is_free (numbers_of c.args.sites.now) c.args.site ≡ true = sym c.is_unset.ensures ∙ c.if-is_unset.true in
    ap numbers_of c.set.ensures ∙ set_free c.args.sites.now c.args.site c.args.number h
