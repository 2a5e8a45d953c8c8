use Rattle.std.proofs.Common.{arith}
use Rattle.std.proofs.lemmas.Result.{err_from_is_err_and}
use Rattle.kp_tags_files.specs.Grammar.{merge}
use Rattle.kp_tags_files.specs.Numbers.{IsMerge}
use Rattle.kp_tags_files.specs.Parts.{numbers_of}
use Rattle.kp_tags_files.proofs.Contexts.{none_so_far}
use Rattle.kp_tags_files.proofs.Tagged.{walk_merge}
use Rattle.kp_tags_files.proofs.MergesFound.{next_stands, merge_fails, more_left, none_left}
use Rattle.kp_tags_files.proofs.reading.merges.Goals as goal

pub merges-init : goal.merges-init
merges-init c = record { within = omega arith; so_far = rw c.new-merges.ensures (none_so_far _) }

-- the next merge is refused
pub returns-in_err-behind : goal.returns-in_err-behind
returns-in_err-behind c =
    let p = err_from_is_err_and c.from_residual.result c.from_residual.ensures.1 in
    rw (p.1, p.2) (merge_fails (numbers_of c.args.table.now) c.args.tokens.now c.merges.at _ c.merges.invariant.so_far c.in_err-behind.field-0.0 c.merges-test.ensures.test c.in_err-behind.ensures.stopped)

pub merges-preserved : goal.merges-preserved
merges-preserved c = record {
  within = c.in_ok-behind.ensures.onward.1;
  so_far = next_stands (numbers_of c.args.table.now) (λ _. 0) merge (IsMerge (numbers_of c.args.table.now)) c.args.tokens.now 0 _ _ c.merges.at c.in_ok-behind.behind c.merges-test.ensures.test (λ y tree is h d. walk_merge y is h)
      c.in_ok-behind.ensures.found c.merges.invariant.so_far;
}

-- no token is left
pub returns-in-None : goal.returns-in-None
returns-in-None c = none_left (numbers_of c.args.table.now) c.args.tokens.now c.merges.at _ c.merges.invariant.so_far c.in-None.ensures.none

-- a token is left
pub returns-in-Some : goal.returns-in-Some
returns-in-Some c = more_left (numbers_of c.args.table.now) c.args.tokens.now c.merges.at _ c.merges.invariant.so_far _ _ c.in-Some.ensures.found c.merges-test.ensures.test
