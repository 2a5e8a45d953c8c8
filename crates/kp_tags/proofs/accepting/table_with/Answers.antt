use Rattle.std.proofs.Common.{◌<◌, length, ap, subst, ◌∙◌, arith}
use Rattle.kp_tags.specs.Answers.{RefusesTable}
use Rattle.kp_tags.proofs.accepting.table_with.Goals as goal

-- the limit is passed
pub returns-then-len-limit : goal.returns-then-len-limit
returns-then-len-limit c =
    let over : c.args.limit < c.len.result = omega (arith, c.if-len-limit.true) in
    RefusesTable.tags_over c.requires.acceptable (subst (λ n. c.args.limit < n) (c.len.ensures ∙ ap length c.requires.used) over)
