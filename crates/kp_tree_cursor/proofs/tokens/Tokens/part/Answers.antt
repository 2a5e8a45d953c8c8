use Rattle.std.proofs.Common.{◌-◌}
use Rattle.std.proofs.lemmas.List.Elements.{All-take, All-drop}
use Rattle.kp_tree_cursor.specs.Spans.{IsWordIn}
use Rattle.kp_tree_cursor.proofs.Seen.{seen_part}
use Rattle.kp_tree_cursor.proofs.tokens.Tokens.part.Goals as goal

pub invariant_of-result : goal.invariant_of-result
invariant_of-result c = All-take (IsWordIn c.self.inside.lower.now) _ _ (All-drop (IsWordIn c.self.inside.lower.now) _ _ c.self.invariant)

pub returns : goal.returns
returns c = rw (← c.self.view_is) (seen_part c.self.inside.lower.now c.self.inside.spans.now (c.args.end - c.args.start) c.args.start)
