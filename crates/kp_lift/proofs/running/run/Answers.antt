use Rattle.std.proofs.Common.{◌≡◌, true, sym, subst}
use Rattle.std.specs.List.{list_all}
use Rattle.kp_base.specs.Implicates.{are_below}
use Rattle.kp_base.specs.Machine.{start}
use Rattle.kp_lift.proofs.Items.{closures_below}
use Rattle.kp_lift.proofs.running.run.Goals as goal

pub start-requires-clause-below : goal.start-requires-clause-below
start-requires-clause-below c =
    subst (λ n. list_all (λ row. are_below n row.closure) c.args.table.now.tags ≡ true) (sym c.len.ensures) (closures_below c.args.ground.now c.args.table.now c.requires.on)

-- at the start what is known is what the closures have
pub returns : goal.returns
returns c = c.in_ok-at.ensures.ends (start c.args.table.now) c.in_ok-knowing.ensures.says
