use Rattle.std.proofs.Common.{◌∙◌, ◌++◌, ◌∷◌, [], ap, sym}
use Rattle.kp_base.specs.Lists.{only_if}
use Rattle.kp_classic.specs.States.{has}
use Rattle.kp_classic.proofs.States.{those_more}
use Rattle.kp_classic.proofs.said.held.Goals as goal

-- one fact more
pub loop-fact-preserved : goal.loop-fact-preserved
loop-fact-preserved c =
    let h = has c.args.state.now.hold in
    c.in_ok-push_held.ensures ∙ (ap (λ fs. fs ++ only_if (h c.loop-fact.fact) (c.loop-fact.fact ∷ [])) c.loop-fact.invariant ∙ sym (those_more c.loop-fact.fact h))
