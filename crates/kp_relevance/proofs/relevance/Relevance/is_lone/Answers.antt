use Rattle.std.proofs.Common.{◌∙◌, [], ap, get_or, arith}
use Rattle.std.proofs.lemmas.List.{get_or_default}
use Rattle.kp_relevance.proofs.Exact.{code_below}
use Rattle.kp_relevance.proofs.Lonely.{lone_marked}
use Rattle.kp_relevance.proofs.relevance.Relevance.is_lone.Goals as goal

pub returns-then-target-self : goal.returns-then-target-self
returns-then-target-self c = λ is.
    let r = c.self.inside in
    let rows = r.rows.items in
    let code = c.code.ensures in
    let below = code_below r.atoms c.args.target c.if-target-self.true in
    let row = c.index.ensures ∙ (get_or_default rows c.code.result c.index.result.now [] (omega (arith, below, code, c.self.invariant.square.many)) ∙ ap (λ k. get_or rows k []) code) in
    rw (← c.self.view_is) (lone_marked r.atoms c.code-then-target-self.result rows c.index.result.now c.args.target row c.code-then-target-self.ensures (c.is_lone.ensures is))
