use Rattle.std.proofs.Common.{◌||◌, ap, sym, ◌∙◌, arith}
use Rattle.std.proofs.lemmas.List.{drop_all}
use Rattle.kp_classic.specs.States.{has}
use Rattle.kp_classic.specs.Steps.{start}
use Rattle.kp_classic.proofs.States.{is_state}
use Rattle.kp_classic.proofs.runs.start.Goals as goal

pub returns : goal.returns
returns c =
    let none = drop_all c.loop-fact.fact-index c.slice-fact-items.result.now (omega arith) in
    is_state c.loop-fact.state _ (start c.args.task.now) c.ascends.ensures c.loop-fact.invariant.0 (λ f lt.
    ap (λ xs. has xs f || has c.loop-fact.state.hold f) (sym none) ∙ c.loop-fact.invariant.2 f lt)
