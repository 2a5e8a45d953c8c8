use Rattle.std.proofs.Common.{◌≡◌, List, true, length, nat_lt, sym, ap, ◌∙◌, subst, IfOk}
use Rattle.std.specs.List.{list_all}
use Rattle.kp_base.specs.declared.lit.Lit.{Lit}
use Rattle.kp_base.specs.Covering.{AreUncovered}
use Rattle.kp_base.specs.Steps.{IsGroundPlan}
use Rattle.kp_check.specs.Judging.{IsVerdict}
use Rattle.kp_run_inputs.specs.Tabled.{ground_in, formula_in}
use Rattle.kp_run_solve.specs.Operators.{acts_among}
use Rattle.kp_run_bench.specs.Summary.{summary_text}
use Rattle.kp_run_outcome.specs.Printing.{prints}
use Rattle.kp_run_bench.specs.Working.{ArePlan}
use Rattle.kp_run_bench.proofs.Working.{below, work, pass}
use Rattle.kp_run_bench.proofs.Told.{plan_told}
use Rattle.kp_run_bench.proofs.telling.tell_plan.Goals as goal

-- the actions among the operators are actions
pub judge-requires : goal.judge-requires
judge-requires c =
    let n = length (ground_in c.args.translated.now.tabled).actions in
    subst (λ ns. list_all (λ m. nat_lt m n) ns ≡ true) (sym c.in_ok-numbers.ensures) (below n c.slice.result.now)

-- the check says yes
pub returns : goal.returns
returns c =
    let t = c.args.translated.now.tabled in
    let g = ground_in t in
    let i = formula_in t in
    let a = c.args.command.now in
    let ns = c.in_ok-numbers.numbers in
    plan_told a g i t.table c.args.operators.now ns c.args.expanded c.sum_up.result (c.in_ok-numbers.ensures ∙ ap (acts_among (length g.actions)) c.slice.ensures)
    (subst (IsVerdict t.related.prepared.primes.atoms g i ns) c.in-Yes.is c.in_ok-judge.ensures)
    (subst (λ n. IfOk c.sum_up.result (λ o. (uncovered : List Lit) × AreUncovered g i t.table uncovered × (o ≡ prints (summary_text a g t.table uncovered n c.args.expanded)))) c.len.ensures c.sum_up.ensures)

-- it can't say no
pub unreachable-requires : goal.unreachable-requires
unreachable-requires c =
    let x = c.args.translated.now in
    let t = x.tabled in
    let g = ground_in t in
    let i = formula_in t in
    let ns = c.in_ok-numbers.numbers in
    let works = subst (IsGroundPlan g i) (sym (c.in_ok-numbers.ensures ∙ ap (acts_among (length g.actions)) c.slice.ensures)) (work g i t.table c.args.operators.now c.requires.safe (subst (λ task. ArePlan task c.args.operators.now) x.is_task c.requires.plan)) in
    pass t.related.prepared.primes.atoms g i ns _ _ _ works (subst (IsVerdict t.related.prepared.primes.atoms g i ns) c.in-No.is c.in_ok-judge.ensures)
