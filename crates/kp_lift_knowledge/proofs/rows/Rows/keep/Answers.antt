use Rattle.std.proofs.Common.{◌&&◌, ◌||◌, not}
use Rattle.kp_lift_knowledge.proofs.Tables.{row_changed, keeps_row}
use Rattle.kp_lift_knowledge.proofs.rows.Rows.keep.Goals as goal

pub invariant_of-self : goal.invariant_of-self
invariant_of-self c =
    (row_changed (λ a b. a && b) (λ s a b. a && (not s || b)) keeps_row _ c.args.self.now c.self.view_is c.self.invariant c.args.lit c.requires.lit c.args.only.now c.requires.wide c.code.result c.code.ensures c.index_mut.result.now c.index_mut.ensures.value c.and_with.new.self c.and_with.ensures).0

pub returns : goal.returns
returns c =
    (row_changed (λ a b. a && b) (λ s a b. a && (not s || b)) keeps_row _ c.args.self.now c.self.view_is c.self.invariant c.args.lit c.requires.lit c.args.only.now c.requires.wide c.code.result c.code.ensures c.index_mut.result.now c.index_mut.ensures.value c.and_with.new.self c.and_with.ensures).1
