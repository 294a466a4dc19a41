use Rattle.std.proofs.Common.{◌≡◌, ◌∙◌, refl, sym, subst, OnOk}
use Rattle.fd_names.specs.Names.{Lines}
use Rattle.fd_names.proofs.Made.{grown_is, new_is}
use Rattle.fd_names.proofs.names.Lines.add.Goals as goal

pub returns-in_ok-insert-in-Some : goal.returns-in_ok-insert-in-Some
returns-in_ok-insert-in-Some c = grown_is (λ k. k.items) (λ s. s.keys) c.self.inside.lines.entries _ _ _ c.args.line c.in-Some.index c.index_mut.result.now c.insert.new.self c.self.view_is (sym c.in-Some.ensures.index) (sym c.in-Some.ensures.value ∙ c.index_mut.ensures.value) c.in_ok-insert-in-Some.ensures.keys refl

pub returns-in-None : goal.returns-in-None
returns-in-None c = subst (λ (t : Lines). OnOk c.put.result (c.put.new.self ≡ t)) (new_is (λ k. k.items) (λ s. s.keys) c.self.inside.lines.entries c.args.self.now c.args.name.now c.args.line c.self.view_is (sym c.in-None.ensures.found)) c.put.ensures
