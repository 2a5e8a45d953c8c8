use Rattle.std.proofs.Common.{◌≡◌, ◌∷◌, [], set, true, subst, sym, arith}
use Rattle.kp_guide.specs.Waiting.{Waits, count_at}
use Rattle.kp_guide.proofs.Waiting.{waits_now}
use Rattle.kp_guide.proofs.settle.wait.Goals as goal

-- one more waits
pub returns : goal.returns
returns c =
    let met : count_at c.args.counts.now c.args.number ≡ 0 = omega arith in
    subst (Waits c.args.counts.now (c.args.number ∷ []) c.args.waits.now c.args.next.now.items (set c.args.waits.now c.args.number true)) (sym c.in_ok-push.ensures.items) (waits_now c.args.counts.now c.args.number c.args.waits.now c.args.next.now.items c.requires.number met)
