use Rattle.std.proofs.Common.{refl}
use Rattle.std.proofs.lemmas.Bool.{ne_eqb}
use Rattle.kp_plans.proofs.Decoded.{opens, stands, doubles, ends}
use Rattle.kp_plans.proofs.decoding.Parts.take.Goals as goal

-- the second underscore
pub returns-in_ok-push-in-true-eq95 : goal.returns-in_ok-push-in-true-eq95
returns-in_ok-push-in-true-eq95 c = doubles _ _ _ c.in-true-eq95.is-1 c.in-true-eq95.is-0 refl c.in_ok-push-in-true-eq95.ensures.ok refl

-- the dash behind an underscore
pub returns-in_ok-end-in-true-eq45 : goal.returns-in_ok-end-in-true-eq45
returns-in_ok-end-in-true-eq45 c = let e = c.in_ok-end-in-true-eq45.ensures in ends _ _ _ c.in-true-eq45.is-1 c.in-true-eq45.is-0 e.ended e.last e.escaped

-- the first underscore
pub returns-in-false-eq95 : goal.returns-in-false-eq95
returns-in-false-eq95 c = opens _ _ _ c.in-false-eq95.is-1 c.in-false-eq95.is-0 refl refl refl

-- another byte
pub returns-in_ok-push-in-false-default : goal.returns-in_ok-push-in-false-default
returns-in_ok-push-in-false-default c = stands _ _ _ c.in-false-default.is-0 (ne_eqb _ _ c.in-false-default.is-1.1) refl c.in_ok-push-in-false-default.ensures.ok c.in-false-default.is-0
