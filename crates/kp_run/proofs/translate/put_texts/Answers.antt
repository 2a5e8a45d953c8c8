use Rattle.kp_run_inputs.specs.Tabled.{ground_in, formula_in}
use Rattle.kp_run.proofs.Translations.{table_put}
use Rattle.kp_run.proofs.translate.put_texts.Goals as goal

pub returns : goal.returns
returns c =
    let t = c.args.tabled.now in
    table_put c.args.command.now (ground_in t) (formula_in t) t.table c.slice.result.now c.translates.result (rw c.slice.ensures c.in_ok-coverage.ensures.uncovered) (c.translates.ensures t.table c.requires)
