use Rattle.std.proofs.Common.{true, false, refl}
use Rattle.kp_cover.proofs.covering.add_uncovered.Goals as goal

pub returns-then-covered : goal.returns-then-covered
returns-then-covered c = record { covered = true; tells = rw c.if-covered.true at c.in_ok-covered.ensures; are = refl }

pub returns : goal.returns
returns c = record { covered = false; tells = rw c.if-covered.false at c.in_ok-covered.ensures; are = c.in_ok-push.ensures.ok }
