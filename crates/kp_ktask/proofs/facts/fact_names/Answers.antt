use Rattle.kp_ktask.proofs.Rows.{facts_left}
use Rattle.kp_ktask.proofs.facts.fact_names.Goals as goal

pub loop-tag-preserved : goal.loop-tag-preserved
loop-tag-preserved c = facts_left c.args.atoms.now c.loop-tag.tag c.args.tags _ _ _ c.loop-tag-test.true c.loop-tag.invariant c.in_ok-push_facts.ensures
