use Rattle.std.proofs.Common.{◌≡◌, List, sym, ap, ◌∙◌}
use Rattle.section_num.specs.declared.names.Name.{Name}
use Rattle.section_num.specs.KeptNames.{has}
use Rattle.section_num.proofs.NameOrders.{found}
use Rattle.section_num.proofs.setting.SetNames.has.Goals as goal

pub returns : goal.returns
returns c =
    c.contains.ensures ∙ (found c.args.name c.self.inside.index.keys ∙ (c.self.invariant c.args.name ∙ ap (λ (xs : List Name). has xs c.args.name) c.self.view_is))
