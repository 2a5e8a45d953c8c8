use Rattle.std.proofs.Common.{sym, ◌∙◌}
use Rattle.kp_clash_exclusive.specs.Paired.{is_pair}
use Rattle.kp_clash.proofs.Deletes.{nothing_found}
use Rattle.kp_clash.proofs.clash.found_at.Goals as goal

-- nothing deletes the atom of the add
pub returns-then-not-may_be_deleted : goal.returns-then-not-may_be_deleted
returns-then-not-may_be_deleted c =
    nothing_found (is_pair c.args.pairs.now) c.args.slots.now c.args.action.now c.args.effect.now c.requires.noted (sym c.may_be_deleted.ensures ∙ c.if-not-may_be_deleted.true) c.args.number c.args.place
