use Rattle.std.proofs.Common.{◌≡◌, map, drop}
use Rattle.kp_ground.specs.Gathered.{gather}
use Rattle.kp_ground_flatten.specs.Literals.{lit_view}
use Rattle.kp_ground.proofs.effect_atoms.note_all.Given as goal

-- with the literals that are left come all
abbrev pub invariant-loop-lit : goal.invariant-loop-lit
invariant-loop-lit l = gather l.limit l.atoms (map lit_view (drop l.lit-index l.lits)) ≡ gather l.limit l.fn.atoms (map lit_view l.lits)
