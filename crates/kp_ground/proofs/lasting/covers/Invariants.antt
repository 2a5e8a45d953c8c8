use Rattle.std.proofs.Common.{◌≡◌, map, drop}
use Rattle.kp_ground.specs.Adds.{covered}
use Rattle.kp_ground.proofs.lasting.covers.Given as goal

-- the adds that are left decide
abbrev pub invariant-loop-add : goal.invariant-loop-add
invariant-loop-add l = covered l.pre l.effect (map (λ add. add.now) (drop l.add-index l.adds)) ≡ covered l.pre l.effect (map (λ add. add.now) l.adds)
