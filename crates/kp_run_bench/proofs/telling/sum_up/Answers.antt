use Rattle.std.proofs.Common.{ap, ◌∙◌}
use Rattle.kp_run_inputs.specs.Tabled.{ground_in, formula_in}
use Rattle.kp_run_outcome.specs.Printing.{prints}
use Rattle.kp_run_bench.proofs.Told.{summary_printed}
use Rattle.kp_run_bench.proofs.telling.sum_up.Goals as goal

pub returns : goal.returns
returns c =
    let t = c.args.translated.now.tabled in
    summary_printed c.args.command.now (ground_in t) (formula_in t) t.table c.slice-2.result.now c.args.steps c.args.expanded c.print_summary.result
    (rw c.slice-2.ensures c.in_ok-coverage.ensures.uncovered) (c.print_summary.ensures ∙ ap prints (c.in_ok-text.ensures t.table (c.slice.ensures ∙ c.in_ok-counts.ensures)))
