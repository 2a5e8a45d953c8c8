use Rattle.std.proofs.Common.{◌∙◌}
use Rattle.kp_write.proofs.Pieces.{problem_is}
use Rattle.kp_write.specs.Named.{named_start, named_goal}
use Rattle.kp_write.proofs.writing.problem_text.Goals as goal

pub returns : goal.returns
returns c =
    c.from_vec.ensures
    ∙ problem_is _ _ _ _ _ (named_start c.args.task.now) (named_goal c.args.task.now) (rw c.new-out.ensures.items at c.in_ok-put.ensures)
    (rw (c.slice.ensures, c.slice-2.ensures) at c.in_ok-put_lines.ensures) c.in_ok-put-2.ensures
    (rw (c.slice-3.ensures, c.slice-4.ensures) at c.in_ok-put_lines-2.ensures) c.in_ok-put-3.ensures
