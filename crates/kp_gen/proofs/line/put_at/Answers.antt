use Rattle.std.proofs.Common.{◌++◌, ap, ◌∙◌}
use Rattle.std.specs.List.{range_with_len}
use Rattle.kp_gen.proofs.Spelled.{at_cells}
use Rattle.kp_gen.proofs.line.put_at.Goals as goal

pub returns : goal.returns
returns c = c.in_ok-put_each.ensures ∙ ap (λ z. c.args.out.now.items ++ z) (at_cells (range_with_len 1 c.args.n))
