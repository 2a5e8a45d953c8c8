use Rattle.std.proofs.Common.{subst}
use Rattle.kp_words.specs.Asked.{Asked}
use Rattle.kp_search.specs.Ends.{Tells}
use Rattle.kp_run_inputs.specs.Tabled.{ground_in, formula_in}
use Rattle.kp_run_solve.specs.Solving.{Finds}
use Rattle.kp_run_solve.proofs.Public.{search_is_told}
use Rattle.kp_run_bench.specs.Bench.{TellsBench}
use Rattle.kp_run_bench.proofs.running.bench_task.Goals as goal

pub returns : goal.returns
returns c =
    let t = c.args.command.now in
    let x = c.args.translated.now in
    search_is_told t.budget x.task (TellsBench t (ground_in x.tabled) (formula_in x.tabled) x.tabled.table) c.in_ok-found.found c.tell_found.result
    (subst (λ (k : Asked). Finds x.task k.budget c.in_ok-found.found) c.command.view_is c.in_ok-found.ensures.finds) c.tell_found.ensures

pub tell_found-requires-clause-tells : goal.tell_found-requires-clause-tells
tell_found-requires-clause-tells c = subst (λ (k : Asked). Tells c.args.translated.now.task k.budget c.in_ok-found.found) c.command.view_is c.in_ok-found.ensures.tells
