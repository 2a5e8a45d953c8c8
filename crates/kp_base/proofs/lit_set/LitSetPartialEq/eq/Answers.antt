use Rattle.kp_base.proofs.Ascending.{equal_iff}
use Rattle.kp_base.proofs.lit_set.LitSetPartialEq.eq.Goals as goal

-- the comparison is that of the lists
pub returns-clause-same : goal.returns-clause-same
returns-clause-same c = rw (c.is_eq.ensures, c.cmp.ensures) (equal_iff c.args.self.now c.args.other.now)
