use Rattle.std.proofs.Common.{sym}
use Rattle.std.proofs.Math.Nat.{sub-zero}
use Rattle.std.specs.List.{range_with_len}
use Rattle.kp_cover_subsets.specs.Subsets.{subsets}
use Rattle.kp_cover_subsets.proofs.Searching.{found_first, none_first}
use Rattle.kp_cover_subsets.proofs.search.first_set.Goals as goal

pub returns-then-branch : goal.returns-then-branch
returns-then-branch g c = sym (found_first (g.T.Test.passes c.args.test.now) (subsets c.args.k (range_with_len 0 c.args.n)) _ _ _ c.if-branch.true c.new-chosen.ensures.items (rw (sub-zero c.args.n) at c.in_ok-search.ensures))

pub returns-else-branch : goal.returns-else-branch
returns-else-branch g c = sym (none_first (g.T.Test.passes c.args.test.now) (subsets c.args.k (range_with_len 0 c.args.n)) _ _ _ c.if-branch.false c.new-chosen.ensures.items (rw (sub-zero c.args.n) at c.in_ok-search.ensures))
