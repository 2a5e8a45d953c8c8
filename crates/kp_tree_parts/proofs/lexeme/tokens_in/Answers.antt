use Rattle.std.proofs.Common.{◌∙◌}
use Rattle.kp_tree_cursor.proofs.Public.{lexed_as_seen}
use Rattle.kp_tree_parts.proofs.lexeme.tokens_in.Goals as goal

pub new-requires : goal.new-requires
new-requires c = record { text = c.args.bytes.now; lowered = c.into_bump_slice.ensures ∙ c.in_ok-lower.ensures; cut = c.requires }

-- tokens from the text in lower case are the tokens of the text
pub returns : goal.returns
returns c = rw (← lexed_as_seen c.args.bytes.now c.into_bump_slice.result.now c.args.spans.now (c.into_bump_slice.ensures ∙ c.in_ok-lower.ensures)) c.new.ensures
