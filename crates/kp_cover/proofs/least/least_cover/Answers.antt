use Rattle.std.proofs.Common.{ℕ, subst}
use Rattle.kp_cover_subsets.specs.Sizes.{AnswersLeast}
use Rattle.kp_cover.specs.Tested.{tells_cover}
use Rattle.kp_cover.proofs.Larger.{further}
use Rattle.kp_cover.proofs.least.least_cover.Goals as goal

-- the number of clauses is counted, and no larger set has to be tried
pub returns : goal.returns
returns c =
    let p = tells_cover c.args.primes.now c.args.clauses.now in
    subst (λ (n : ℕ). AnswersLeast p n c.args.limit c.args.skips c.args.first c.args.last c.in_ok-found.found) c.in_ok-n.ensures.number
    (further p c.in_ok-n.n c.args.limit c.args.skips c.args.first c.args.last c.lesser.result c.lesser.ensures c.in_ok-found.found c.in_ok-found.ensures)
