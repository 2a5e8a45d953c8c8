use Rattle.std.proofs.Common.{◌++◌, ap, ◌∙◌}
use Rattle.std.specs.List.{range_with_len}
use Rattle.kp_gen.proofs.Spelled.{all_armed}
use Rattle.kp_gen.proofs.bombs.put_armed.Goals as goal

pub returns : goal.returns
returns c = c.in_ok-put_each.ensures ∙ ap (λ z. c.args.out.now.items ++ z) (all_armed (range_with_len 1 c.args.n))
