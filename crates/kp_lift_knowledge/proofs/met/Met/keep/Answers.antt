use Rattle.std.proofs.Common.{◌&&◌, Bool, List, false, length, get_or, sym, ap, subst, ◌∙◌}
use Rattle.kp_lift_knowledge.specs.Known.{known}
use Rattle.kp_lift_knowledge.specs.Tabled.{Tells, AreEnds}
use Rattle.kp_lift_knowledge.proofs.Tables.{as_wide, tells_both}
use Rattle.kp_lift_knowledge.proofs.met.Met.keep.Goals as goal

pub invariant_of-self : goal.invariant_of-self
invariant_of-self c =
    subst (λ m. AreEnds m c.self.inside.none c.self.inside.all)
    (sym (as_wide (λ a b. a && b) c.args.table.now.tags c.self.inside.row c.row.result.now c.and_with.new.self _ (ap length c.self.view_is ∙ c.requires.wide) c.row.ensures c.and_with.ensures))
    c.self.invariant

pub returns : goal.returns
returns c =
    subst (λ (row : List Bool). Tells c.args.table.now.tags c.and_with.new.self (λ t. get_or row t false && known c.args.table.now t c.args.lit)) c.self.view_is
    (tells_both (λ a b. a && b) c.args.table.now.tags c.self.inside.row c.row.result.now c.and_with.new.self _ (ap length c.self.view_is ∙ c.requires.wide) c.row.ensures c.and_with.ensures)
