use Rattle.std.proofs.lemmas.Option.{IfSome_then}
use Rattle.kp_primes.specs.Held.{formula}
use Rattle.kp_primes_first_model.specs.Asked.{test_at}
use Rattle.kp_primes_first_model.proofs.Splitting.{judges_tag, same_of_models}
use Rattle.kp_primes_first_model.proofs.finding.judge_tag.Goals as goal

pub returns-in_ok-seen-in-Some-clause-truth : goal.returns-in_ok-seen-in-Some-clause-truth
returns-in_ok-seen-in-Some-clause-truth g c =
    let closed = rw c.in-Some.is at c.in_ok-known.ensures in
    judges_tag c.args.primes.now.atoms (formula c.args.primes.now) (test_at (g.T.Question.tests c.args.question.now) c.args.number) c.args.tag.now c.in-Some.known closed.1 c.requires.below closed.0 c.in_ok-seen-in-Some.seen.truth (rw c.requires.atoms at c.in_ok-seen-in-Some.ensures.truth)

-- the tag's models make its closure true
pub returns-in_ok-seen-in-Some-clause-same : goal.returns-in_ok-seen-in-Some-clause-same
returns-in_ok-seen-in-Some-clause-same g c =
    let closed = rw c.in-Some.is at c.in_ok-known.ensures in
    IfSome_then c.in_ok-seen-in-Some.seen.less c.in_ok-seen-in-Some.ensures.same (λ less same.
    same_of_models c.args.primes.now.atoms (formula c.args.primes.now) (test_at (g.T.Question.tests c.args.question.now) c.args.number) c.args.tag.now c.in-Some.known closed.1 (g.T.Question.tests c.args.question.now) (g.T.Question.tests less) same)
