use Rattle.std.proofs.Common.{◌++◌, ap, ◌∙◌}
use Rattle.std.specs.List.{range_with_len}
use Rattle.kp_gen.proofs.Spelled.{cells}
use Rattle.kp_gen.proofs.line.put_cells.Goals as goal

pub returns : goal.returns
returns c = c.in_ok-put_each.ensures ∙ ap (λ z. c.args.out.now.items ++ z) (cells (range_with_len 1 c.args.n))
