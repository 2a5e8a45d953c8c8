use Rattle.std.proofs.Common.{suc, arith}
use Rattle.std.proofs.lemmas.Result.{err_from_is_err_and}
use Rattle.kp_tags_files.specs.Grammar.{tag}
use Rattle.kp_tags_files.specs.Numbers.{IsTag}
use Rattle.kp_tags_files.specs.Parts.{numbers_of}
use Rattle.kp_tags_files.proofs.Contexts.{none_so_far}
use Rattle.kp_tags_files.proofs.Tagged.{walk_tag}
use Rattle.kp_tags_files.proofs.MergesFound.{next_fails, next_stands, all_stand}
use Rattle.kp_tags_files.proofs.reading.tags_at.Goals as goal

pub tags-init : goal.tags-init
tags-init c = record { onward = omega arith; within = c.requires; so_far = rw c.new-tags.ensures (none_so_far _) }

-- the next tag is refused
pub returns-in_err-behind-clause-stopped : goal.returns-in_err-behind-clause-stopped
returns-in_err-behind-clause-stopped c =
    let p = err_from_is_err_and c.from_residual.result c.from_residual.ensures.1 in
    rw (p.1, p.2) (λ d. next_fails (numbers_of c.args.table.now) suc tag (IsTag (numbers_of c.args.table.now)) c.args.tokens.now c.args.start _ c.tags.at c.in_err-behind.field-0.0 d c.tags-test.ensures.test (c.in_err-behind.ensures.stopped d) c.tags.invariant.so_far)

pub tags-preserved : goal.tags-preserved
tags-preserved c = record {
  onward = omega (arith, c.tags.invariant.onward, c.in_ok-behind.ensures.onward.0);
  within = c.in_ok-behind.ensures.onward.1;
  so_far = next_stands (numbers_of c.args.table.now) suc tag (IsTag (numbers_of c.args.table.now)) c.args.tokens.now c.args.start _ _ c.tags.at c.in_ok-behind.behind c.tags-test.ensures.test (λ y tree is h d. walk_tag y is h)
      c.in_ok-behind.ensures.found c.tags.invariant.so_far;
}

-- no further tag stands there
pub returns-clause-found : goal.returns-clause-found
returns-clause-found c = all_stand (numbers_of c.args.table.now) suc tag (IsTag (numbers_of c.args.table.now)) c.args.tokens.now c.args.start _ c.tags.at c.tags-test.ensures.test c.tags.invariant.so_far
