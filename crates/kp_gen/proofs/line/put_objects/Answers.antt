use Rattle.std.proofs.Common.{[], ◌∷◌, ◌++◌, codes, map}
use Rattle.std.specs.List.{range_with_len}
use Rattle.kp_gen.specs.Line.{cell}
use Rattle.kp_gen.proofs.Spelled.{more}
use Rattle.kp_gen.proofs.line.put_objects.Goals as goal

pub returns : goal.returns
returns c =
    let front = codes "(:objects" ∷ [] in
    let lines = map cell (range_with_len 1 c.args.n) in
    more c.args.out.now.items c.put_cells.new.out.items c.put-2.new.out.items (front ++ lines) (codes "- cell)" ∷ [])
    (more c.args.out.now.items c.put.new.out.items c.put_cells.new.out.items front lines c.in_ok-put.ensures c.in_ok-put_cells.ensures) c.in_ok-put-2.ensures
