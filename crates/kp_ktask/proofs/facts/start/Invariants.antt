use Rattle.std.proofs.Common.{◌≡◌, ◌++◌, drop, map}
use Rattle.kp_law_ktask.specs.Task.{number, starts_from}
use Rattle.kp_ktask.proofs.facts.start.Given as goal

-- with the tags that are left come all
abbrev pub invariant-loop-tag : goal.invariant-loop-tag
invariant-loop-tag l = l.row ++ map (number l.atoms) (starts_from l.number (drop l.tag-index l.tags)) ≡ map (number l.atoms) (starts_from 0 l.tags)
