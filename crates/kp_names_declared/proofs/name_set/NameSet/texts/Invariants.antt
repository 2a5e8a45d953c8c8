use Rattle.std.proofs.Common.{◌≡◌, map, take}
use Rattle.kp_names_declared.proofs.name_set.NameSet.texts.Given as goal

abbrev pub invariant-loop-name : goal.invariant-loop-name
invariant-loop-name l = l.texts ≡ map (λ k. k.now) (take l.name-index l.name-items)
