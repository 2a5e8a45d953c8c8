use Rattle.std.proofs.Common.{[], ◌∷◌, ◌++◌, codes}
use Rattle.kp_gen.specs.Bombs.{objects_lines, init_lines, goal_lines}
use Rattle.kp_gen.proofs.Spelled.{more}
use Rattle.kp_gen.proofs.bombs.put_problem.Goals as goal

pub returns : goal.returns
returns c =
    let front = codes "(define (problem bombs)" ∷ codes "(:domain bombs)" ∷ [] in
    let objects = objects_lines c.args.n in
    let init = init_lines c.args.n in
    let wanted = goal_lines c.args.n in
    more c.args.out.now.items c.put_goal.new.out.items c.put-2.new.out.items (front ++ objects ++ init ++ wanted) (codes ")" ∷ [])
    (more c.args.out.now.items c.put_init.new.out.items c.put_goal.new.out.items (front ++ objects ++ init) wanted
    (more c.args.out.now.items c.put_objects.new.out.items c.put_init.new.out.items (front ++ objects) init
    (more c.args.out.now.items c.put.new.out.items c.put_objects.new.out.items front objects c.in_ok-put.ensures c.in_ok-put_objects.ensures) c.in_ok-put_init.ensures) c.in_ok-put_goal.ensures) c.in_ok-put-2.ensures
