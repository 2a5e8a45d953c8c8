use Rattle.std.proofs.Common.{◌≡◌, drop, filter}
use Rattle.kp_ground.specs.Gathered.{gather}
use Rattle.kp_names.specs.View.{lifted_view}
use Rattle.kp_ground.specs.Passes.{is_open}
use Rattle.kp_ground.proofs.gathering.add_all_open.Given as goal

-- with the literals that are left come all
abbrev pub invariant-loop-lit : goal.invariant-loop-lit
invariant-loop-lit l = gather l.limit l.atoms (filter (is_open (lifted_view l.statics)) (drop l.lit-index l.lits)) ≡ gather l.limit l.fn.atoms (filter (is_open (lifted_view l.statics)) l.lits)
