use Rattle.std.proofs.Common.{◌≡◌, ◌<◌, ◌++◌, ◌∷◌, [], List, ℤ, pos, map, take, length, get_or, replicate, rules, arith, ap, ◌∙◌, sym}
use Rattle.std.proofs.Math.ListN.{get_or-map}
use Rattle.std.proofs.lemmas.List.{take_more, length-map}
use Rattle.fd_base.specs.Shapes.{size_of}
use Rattle.fd_prog.specs.declared.program.Array.{Array}
use Rattle.seq_meaning.proofs.store.zeros.Goals as goal

pub loop-array-preserved : goal.loop-array-preserved
loop-array-preserved c =
    let i = c.loop-array.array-index in
    let item = c.array-item.result in
    let all = c.args.program.now.arrays in
    let zeros : Array → List ℤ = λ a. replicate (size_of a.shape) (pos 0) in
    let at : item ≡ get_or all i item = rw c.as_slice-array-items.ensures at c.array-item.is in
    let here : get_or (map zeros all) i (zeros item) ≡ zeros item = get_or-map zeros all i item ∙ ap zeros (sym at) in
    let within : i < length (map zeros all) = rw length-map (omega (arith, ap length c.as_slice-array-items.ensures)) in
    let pushed : c.push.new.self.items ≡ take i (map zeros all) ++ zeros item ∷ [] = search rules in
    rw (take_more (map zeros all) i (zeros item) within, here) pushed
