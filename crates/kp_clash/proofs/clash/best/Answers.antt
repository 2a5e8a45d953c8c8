use Rattle.std.proofs.Common.{◌≡◌, false, not, sym, ◌∙◌}
use Rattle.std.specs.List.{list_any}
use Rattle.kp_base.specs.declared.ground.Effect.{Effect}
use Rattle.kp_clash_exclusive.specs.Paired.{is_pair}
use Rattle.kp_clash.proofs.Deletes.{nothing_best}
use Rattle.kp_clash.proofs.clash.best.Goals as goal

-- nothing is deleted
pub returns-then-not-deletes_some : goal.returns-then-not-deletes_some
returns-then-not-deletes_some c =
    let none : list_any (λ (e : Effect). not e.result.positive) c.args.action.now.effects ≡ false = rw c.slice.ensures at (sym c.deletes_some.ensures ∙ c.if-not-deletes_some.true) in
    sym (nothing_best (is_pair c.args.pairs.now) c.args.number c.args.action.now none 0 c.args.action.now.effects)
