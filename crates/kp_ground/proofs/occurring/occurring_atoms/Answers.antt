use Rattle.std.proofs.Common.{◌≤◌, [], length, refl, ap, subst, arith}
use Rattle.kp_base.specs.Atoms.{IsSortOf}
use Rattle.kp_ground.specs.Gathered.{gather}
use Rattle.kp_names.specs.View.{lifted_view}
use Rattle.kp_ground.specs.Passes.{noted}
use Rattle.kp_ground.proofs.Numbering.{gathered_le, sorted_is}
use Rattle.kp_ground.proofs.occurring.occurring_atoms.Goals as goal

pub returns-then-limit-len : goal.returns-then-limit-len
returns-then-limit-len c =
    let le = gathered_le (lifted_view c.args.statics.now) c.args.limit in
    let same = ap length c.in_ok-atoms.ensures in
    (refl, omega (arith, le, same, c.if-limit-len.true, c.len.ensures))

pub returns : goal.returns
returns c =
    let l = lifted_view c.args.statics.now in
    let sort : IsSortOf (gather c.args.limit [] (noted l)) c.sort.new.self = subst (λ g. IsSortOf g c.sort.new.self) c.in_ok-atoms.ensures c.in_ok-sort.ensures in
    let same = ap length c.in_ok-atoms.ensures in
    let few : length (gather c.args.limit [] (noted l)) ≤ c.args.limit = omega (arith, same, c.if-limit-len.false, c.len.ensures) in
    let is = sorted_is l c.args.limit c.sort.new.self few sort in
    (is, omega (arith, few, sort.long, ap length is))
