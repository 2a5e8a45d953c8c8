use Rattle.std.proofs.Common.{◌≡◌, ◌++◌, ◌-◌, map, length}
use Rattle.kp_law_ktask.specs.Task.{name_of_fact, lits_from, facts_from}
use Rattle.kp_ktask.proofs.facts.fact_names.Given as goal

-- with the tags that are left come all
abbrev pub invariant-loop-tag : goal.invariant-loop-tag
invariant-loop-tag l = l.row ++ map (name_of_fact l.atoms) (facts_from l.tag (l.tags - l.tag) (lits_from 0 (length l.atoms))) ≡ map (name_of_fact l.atoms) (facts_from 0 l.tags (lits_from 0 (length l.atoms)))
