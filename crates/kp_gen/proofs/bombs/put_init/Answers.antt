use Rattle.std.proofs.Common.{[], ◌∷◌, ◌++◌, codes, map}
use Rattle.std.specs.List.{range_with_len}
use Rattle.kp_gen.specs.Bombs.{armed}
use Rattle.kp_gen.proofs.Spelled.{more}
use Rattle.kp_gen.proofs.bombs.put_init.Goals as goal

pub returns : goal.returns
returns c =
    let front = codes "(:init" ∷ codes "(oneof" ∷ [] in
    let lines = map armed (range_with_len 1 c.args.n) in
    more c.args.out.now.items c.put_armed.new.out.items c.put-2.new.out.items (front ++ lines) (codes ")" ∷ codes ")" ∷ [])
    (more c.args.out.now.items c.put.new.out.items c.put_armed.new.out.items front lines c.in_ok-put.ensures c.in_ok-put_armed.ensures) c.in_ok-put-2.ensures
