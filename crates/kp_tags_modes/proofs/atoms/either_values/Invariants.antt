use Rattle.std.proofs.Common.{◌≡◌, map, take}
use Rattle.kp_base.specs.Relevance.{either_value}
use Rattle.kp_tags_modes.proofs.atoms.either_values.Given as goal

abbrev pub invariant-loop-l : goal.invariant-loop-l
invariant-loop-l l = l.row ≡ map (λ x. either_value x.atom.0) (take l.l-index l.atoms)
