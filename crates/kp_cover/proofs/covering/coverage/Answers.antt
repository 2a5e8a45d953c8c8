use Rattle.std.proofs.Common.{◌∙◌, ap}
use Rattle.kp_base.specs.Implicates.{are_below}
use Rattle.kp_cover.proofs.Deciding.{targets_below, covered_all}
use Rattle.kp_cover.proofs.covering.coverage.Goals as goal

pub uncovered-requires-clause-below : goal.uncovered-requires-clause-below
uncovered-requires-clause-below c = ap (are_below c.args.primes.now.atoms) c.slice.ensures ∙ targets_below c.args.ground.now c.args.primes.now.atoms c.in_ok-targets.targets c.requires.of_its_atoms c.requires.atoms c.in_ok-targets.ensures

pub returns : goal.returns
returns c = covered_all c.args.ground.now c.args.relevance.now c.args.primes.now c.args.table.now c.in_ok-targets.targets c.in_ok-uncovered.uncovered c.answer.result
    (record { of_ground = c.requires.relevance; atoms = c.requires.atoms; right = c.requires.table })
    c.in_ok-targets.ensures (rw c.slice.ensures at c.in_ok-uncovered.ensures) c.answer.ensures.uncovered c.answer.ensures.complete
