use Rattle.std.proofs.Common.{[], ◌∷◌, ◌++◌, codes, map}
use Rattle.std.specs.List.{range_with_len}
use Rattle.kp_gen.specs.Bombs.{disarmed}
use Rattle.kp_gen.proofs.Spelled.{more}
use Rattle.kp_gen.proofs.bombs.put_goal.Goals as goal

pub returns : goal.returns
returns c =
    let front = codes "(:goal (and" ∷ [] in
    let lines = map disarmed (range_with_len 1 c.args.n) in
    more c.args.out.now.items c.put_disarmed.new.out.items c.put-2.new.out.items (front ++ lines) (codes "))" ∷ [])
    (more c.args.out.now.items c.put.new.out.items c.put_disarmed.new.out.items front lines c.in_ok-put.ensures c.in_ok-put_disarmed.ensures) c.in_ok-put-2.ensures
