use Rattle.std.proofs.Common.{List, Err, subst}
use Rattle.kp_primes.specs.Held.{formula}
use Rattle.kp_tags_files.specs.declared.merge.FileMerge.{FileMerge}
use Rattle.kp_tags.specs.Answers.{AnswersMerges}
use Rattle.kp_tags.proofs.Faults.{stops_table}
use Rattle.kp_tags.proofs.accepting.accept_merges.Goals as goal

-- a merge is at fault, or memory ran out
pub returns-in-Err : goal.returns-in-Err
returns-in-Err c =
    stops_table c.args.primes.now.atoms (formula c.args.primes.now) c.args.merges.now c.args.limits.now.tags c.in-Err.stop
    (subst (λ (ms : List FileMerge). AnswersMerges c.args.primes.now.atoms (formula c.args.primes.now) ms (Err c.in-Err.stop)) c.slice.ensures (rw c.in-Err.is at c.judge_all.ensures))
