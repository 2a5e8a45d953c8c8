use Rattle.std.proofs.Common.{◌≡◌, map}
use Rattle.kp_lex.proofs.Public.{spans_in_order}
use Rattle.kp_tree_cursor.specs.Lexemes.{lexed}
use Rattle.kp_plans.proofs.WholePlans.{tokens_ascend, of_tokens}
use Rattle.kp_plans.proofs.reading.read_tokens.Goals as goal

pub steps-requires-clause-ascends : goal.steps-requires-clause-ascends
steps-requires-clause-ascends c =
    let read : c.new-seen.result ≡ map (lexed c.in_ok-lower.lower.items) c.args.tokens.now = rw (← c.deref.ensures.value) c.new-seen.ensures in
    tokens_ascend c.args.bytes.now c.in_ok-lower.lower.items c.args.tokens.now c.new-seen.result c.in_ok-lower.ensures read (spans_in_order c.requires.cut)

pub returns : goal.returns
returns c =
    let read : c.new-seen.result ≡ map (lexed c.in_ok-lower.lower.items) c.args.tokens.now = rw (← c.deref.ensures.value) c.new-seen.ensures in
    of_tokens c.args.bytes.now c.in_ok-lower.lower.items c.args.tokens.now c.new-seen.result c.in_ok-lower.ensures read c.steps.result c.steps.ensures
