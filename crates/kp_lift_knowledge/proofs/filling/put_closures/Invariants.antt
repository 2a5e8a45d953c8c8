use Rattle.std.proofs.Common.{◌&&◌, ◌||◌, nat_lt, slice_get}
use Rattle.kp_base.specs.Lit.{has}
use Rattle.kp_base.specs.Machine.{closure_of}
use Rattle.kp_lift_knowledge.specs.Known.{known}
use Rattle.kp_lift_knowledge.specs.Tabled.{Turns}
use Rattle.kp_lift_knowledge.proofs.filling.put_closures.Given as goal

-- the closures of the tags below t are noted
abbrev pub invariant-loop-t : goal.invariant-loop-t
invariant-loop-t l = Turns l.fn.table l.table (λ s x. known l.fn.table s x || (nat_lt s l.t && has (closure_of (slice_get l.tags s)) x))
