use Rattle.std.proofs.Common.{[], ◌∷◌, ◌++◌, ◌-◌, codes, map}
use Rattle.std.specs.List.{range_with_len}
use Rattle.kp_gen.specs.Line.{oneof_lines, next_cell}
use Rattle.kp_gen.proofs.Spelled.{more}
use Rattle.kp_gen.proofs.line.put_init.Goals as goal

pub returns : goal.returns
returns c =
    let old = c.args.out.now.items in
    let front = codes "(:init" ∷ [] in
    let one = oneof_lines c.args.n in
    let next = map next_cell (range_with_len 2 (c.args.n - 1)) in
    more old c.put_all_next.new.out.items c.put-2.new.out.items (front ++ one ++ next) (codes ")" ∷ [])
    (more old c.put_oneof.new.out.items c.put_all_next.new.out.items (front ++ one) next
    (more old c.put.new.out.items c.put_oneof.new.out.items front one c.in_ok-put.ensures c.in_ok-put_oneof.ensures) c.in_ok-put_all_next.ensures) c.in_ok-put-2.ensures
