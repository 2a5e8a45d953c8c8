use Rattle.std.proofs.Common.{sym, ap, subst}
use Rattle.kp_base.specs.declared.limits.Mode.{Mode}
use Rattle.kp_words.specs.Asked.{Asked, source_of}
use Rattle.kp_run_inputs.specs.declared.origin.Origin.TheVariants as origins
use Rattle.kp_run_inputs.specs.SourceTables.{IsOrigin}
use Rattle.kp_run.specs.CommandParts.{AreMerges}
use Rattle.kp_run.proofs.Reading.{origin_is}
use Rattle.kp_run.proofs.inputs.origin_of.Goals as goal

pub returns-in-Some : goal.returns-in-Some
returns-in-Some c held texts are fronts =
    let own = c.args.asked.now in
    origin_is own.mode own.merges held texts _ are (subst (AreMerges texts) c.in-Some.is fronts)

pub returns-in-None : goal.returns-in-None
returns-in-None c held texts are fronts =
    let own = c.args.asked.now in
    subst (λ (m : Mode). IsOrigin (source_of own) texts (origins.Mode m)) (sym (ap (λ (k : Asked). k.mode) c.asked.view_is))
    (origin_is own.mode own.merges held texts _ are (subst (AreMerges texts) c.in-None.is fronts))
