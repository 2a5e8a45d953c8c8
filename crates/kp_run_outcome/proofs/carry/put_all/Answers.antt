use Rattle.std.proofs.Common.{◌+◌, drop, subst, ◌∙◌}
use Rattle.kp_run_outcome.proofs.Fronts.{ArePut, left_at, put_next}
use Rattle.kp_run_outcome.proofs.carry.put_all.Goals as goal

-- one file more is put
pub loop-file-preserved : goal.loop-file-preserved
loop-file-preserved g c =
    let old = g.S.Shelf.contents c.args.shelf.now in
    let now = g.S.Shelf.contents c.loop-file.shelf in
    let here = subst (ArePut old now c.args.puts.now) (left_at c.args.puts.now c.loop-file.file-index c.file-item.result c.loop-file-test.true c.file-item.is) c.loop-file.invariant.0 in (
      put_next old now (g.S.Shelf.contents c.put.new.self) c.args.puts.now (drop (c.loop-file.file-index + 1) c.args.puts.now) c.file-item.result (rw (c.slice.ensures, c.slice-in-loop-file.ensures) at c.in_ok-put.ensures.put) here,
      λ q. c.in_ok-put.ensures.faults q ∙ c.loop-file.invariant.1 q,
      λ q. c.in_ok-put.ensures.get_faults q ∙ c.loop-file.invariant.2 q,
    )
