use Rattle.std.proofs.Common.{◌≡◌, arith}
use Rattle.kp_primes.specs.Held.{formula}
use Rattle.kp_primes_first_model.specs.Asked.{passes_one}
use Rattle.kp_primes_first_model.proofs.Choosing.{chosen_none, chosen_all}
use Rattle.kp_primes_first_model.proofs.least.choose.Goals as goal

pub loop-p-init : goal.loop-p-init
loop-p-init g c = rw (c.new-tag.ensures, c.new-present.ensures) (chosen_none c.args.primes.now.atoms (formula c.args.primes.now) (passes_one (g.T.Question.tests c.args.question.now)) c.args.start c.requires.witness)

pub returns : goal.returns
returns g c =
    let i = formula c.args.primes.now in
    let passes = passes_one (g.T.Question.tests c.args.question.now) in
    let end : c.loop-p.p ≡ c.args.primes.now.atoms = omega (arith, c.loop-p-test.false, c.loop-p.auto.p-end, c.atoms-atoms.ensures) in
    chosen_all c.args.primes.now.atoms i passes c.loop-p.tag c.loop-p.found c.loop-p.present c.clauses-clauses.ensures.whole.of_atoms (rw end at c.loop-p.invariant)
