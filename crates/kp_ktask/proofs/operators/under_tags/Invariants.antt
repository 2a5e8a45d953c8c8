use Rattle.std.proofs.Common.{◌≡◌, ◌++◌, drop, map}
use Rattle.kp_law_ktask.specs.Task.{number}
use Rattle.kp_ktask.proofs.operators.under_tags.Given as goal

-- with the tags that are left come all
abbrev pub invariant-loop-tag : goal.invariant-loop-tag
invariant-loop-tag l = l.row ++ map (λ t. number l.atoms (record { tag = t; lit = l.lit })) (drop l.tag-index l.tags) ≡ map (λ t. number l.atoms (record { tag = t; lit = l.lit })) l.tags
