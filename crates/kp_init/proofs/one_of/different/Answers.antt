use Rattle.std.proofs.Common.{sym, fold, ◌∙◌, arith}
use Rattle.std.proofs.lemmas.List.{at_drop_all}
use Rattle.kp_base.specs.Lit.{same_lit}
use Rattle.kp_base.proofs.Lits.{same_lits}
use Rattle.kp_base.proofs.Once.{added, once_by_one}
use Rattle.kp_init.proofs.one_of.different.Goals as goal

pub returns : goal.returns
returns c =
    let lits = c.args.lits.now in
    sym (at_drop_all (fold (added same_lit) c.loop-lit.set.keys) lits c.loop-lit.lit-index (omega arith)) ∙ (c.loop-lit.invariant ∙ once_by_one same_lit same_lits lits)
