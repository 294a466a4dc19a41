use Rattle.std.proofs.Common.{◌≡◌, ◌++◌, take}
use Rattle.fdc_main.specs.Texts.{path_text}
use Rattle.fdc_main.proofs.texts.append_path.Given as goal

-- the nodes before the index are printed
abbrev pub invariant-loop-node : goal.invariant-loop-node
invariant-loop-node l = l.text ≡ l.initial.text ++ path_text (take l.node-index l.path)
