use Rattle.std.proofs.Common.{◌∙◌}
use Rattle.kp_write.proofs.Public.{domain_put_is_its_text}
use Rattle.kp_write.specs.Named.{named_ops}
use Rattle.kp_law_ktask.specs.Task.{task_of}
use Rattle.kp_ktask_texts.proofs.domain.domain_text.Goals as goal

pub returns : goal.returns
returns c =
    let task = task_of c.args.ground.now c.args.table.now in
    c.from_vec.ensures
    ∙ domain_put_is_its_text _ _ _ _ task.facts (named_ops task) c.new-out.ensures.items (rw c.requires at c.in_ok-put_domain_front.ensures)
    (rw c.requires at c.in_ok-put_operators.ensures) c.in_ok-put_domain_end.ensures
