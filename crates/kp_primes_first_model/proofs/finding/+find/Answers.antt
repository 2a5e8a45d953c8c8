use Rattle.std.proofs.Common.{true, false, arith}
use Rattle.std.proofs.lemmas.Result.{IfOk-weaker}
use Rattle.kp_base.specs.Lit.{negative, positive}
use Rattle.kp_primes.specs.Held.{formula}
use Rattle.kp_primes_first_model.specs.Asked.{test_at}
use Rattle.kp_primes_first_model.proofs.Tags.{falls, more_below}
use Rattle.kp_primes_first_model.proofs.Splitting.{found_more, split}
use Rattle.kp_primes_first_model.proofs.finding.+find.Goals as goal

-- what is found without the atom is within the tag
pub find_either_way-returns-in-Some : goal.find_either_way-returns-in-Some
find_either_way-returns-in-Some g t c =
    let found = rw c.in-Some.is at c.in_ok-found.ensures in
    found_more c.args.primes.now.atoms (formula c.args.primes.now) (test_at (g.T.Question.tests c.args.question.now) c.args.number) (negative c.args.atom.0) c.args.tag c.in-Some.found found

-- where nothing is found without it, what is found with it decides
pub find_either_way-returns-in-None : goal.find_either_way-returns-in-None
find_either_way-returns-in-None g t c =
    let none = rw c.in-None.is at c.in_ok-found.ensures in
    IfOk-weaker c.find_present.result _ _ (λ found rest. split c.args.primes.now.atoms (formula c.args.primes.now) (test_at (g.T.Question.tests c.args.question.now) c.args.number) c.args.atom.0 c.args.tag found none rest) c.find_present.ensures

-- fewer atoms are left
pub find_absent-find-requires : goal.find_absent-find-requires
find_absent-find-requires g t c κs within =
    let less = falls c.args.atom.0 false c.args.tag.now c.args.primes.now.atoms c.requires.open_below c.requires.undecided in
    (rw c.in_ok-without.ensures (omega (arith, less, c.decreases)), (within, (c.requires.ready, (c.requires.atoms, (c.requires.in_range, rw c.in_ok-without.ensures (more_below c.args.primes.now.atoms (negative c.args.atom.0) c.args.tag.now c.requires.below c.requires.open_below))))))

pub find_present-find-requires : goal.find_present-find-requires
find_present-find-requires g t c κs within =
    let less = falls c.args.atom.0 true c.args.tag c.args.primes.now.atoms c.requires.open_below c.requires.undecided in
    (rw c.in_ok-with.ensures (omega (arith, less, c.decreases)), (within, (c.requires.ready, (c.requires.atoms, (c.requires.in_range, rw c.in_ok-with.ensures (more_below c.args.primes.now.atoms (positive c.args.atom.0) c.args.tag c.requires.below c.requires.open_below))))))
