use Rattle.std.proofs.Common.{sym, subst, refl}
use Rattle.kp_search.specs.Turns.{IsBehind}
use Rattle.kp_search.proofs.Slices.{read_at}
use Rattle.kp_search.proofs.Origins.{known_within, step_known, behind_known, behind_more, behind_all}
use Rattle.kp_search.proofs.course.Search.ops_to.Goals as goal

pub back-preserved : goal.back-preserved
back-preserved c =
    let known = behind_known c.args.task.now c.args.self.now c.args.number c.back.at c.back.back.items c.requires c.back.invariant in
    let origin = read_at c.args.self.now.origins.items c.back.at _ _ (known_within c.args.task.now c.args.self.now c.back.at known) c.index.ensures c.in-Step.is in
    let ok = step_known c.args.task.now c.args.self.now c.back.at c.in-Step.place c.in-Step.op known origin in
    let entry = read_at c.args.self.now.expanded.items c.in-Step.place _ _ ok.2 c.index-at.ensures refl in
    subst (IsBehind c.args.task.now c.args.self.now c.args.number c.index-at.result.now) (sym c.in_ok-push-in-Step.ensures.items)
    (behind_more c.args.task.now c.args.self.now c.args.number c.back.at c.in-Step.place c.in-Step.op c.back.back.items c.index-at.result.now c.back.invariant origin entry)

pub returns-in-Start : goal.returns-in-Start
returns-in-Start c =
    let known = behind_known c.args.task.now c.args.self.now c.args.number c.back.at c.back.back.items c.requires c.back.invariant in
    let origin = read_at c.args.self.now.origins.items c.back.at _ _ (known_within c.args.task.now c.args.self.now c.back.at known) c.index.ensures c.in-Start.is in
    rw c.from_vec.ensures (rw c.reverse.ensures.items (behind_all c.args.task.now c.args.self.now c.args.number c.back.at c.back.back.items c.back.invariant origin))
