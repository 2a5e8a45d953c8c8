use Rattle.std.proofs.Common.{◌≡◌}
use Rattle.kp_base.specs.declared.refused.Part.TheVariants as parts
use Rattle.kp_tree_grammar.specs.Grammar.{domain}
use Rattle.kp_tree_grammar.specs.Symbols.{all_seen_in}
use Rattle.kp_tree_arena.specs.Nodes.{domain_view}
use Rattle.kp_tree.proofs.Told.{read_ok, read_err}
use Rattle.kp_tree.proofs.parse.parse_domain.Goals as goal

pub returns-in-Ok-clause-answer : goal.returns-in-Ok-clause-answer
returns-in-Ok-clause-answer c =
    let seen : c.in_ok-tokens.tokens ≡ all_seen_in c.args.bytes.now c.args.tokens.now = rw c.slice-spans.ensures at c.in_ok-tokens.ensures in
    read_ok parts.Domain domain domain_view c.args.bytes.now c.args.tokens.now c.in_ok-tokens.tokens seen c.in-Ok.domain c.in-Ok.ensures

pub returns-in-Err-clause-answer : goal.returns-in-Err-clause-answer
returns-in-Err-clause-answer c =
    let seen : c.in_ok-tokens.tokens ≡ all_seen_in c.args.bytes.now c.args.tokens.now = rw c.slice-spans.ensures at c.in_ok-tokens.ensures in
    read_err parts.Domain domain domain_view c.args.bytes.now c.args.tokens.now c.in_ok-tokens.tokens seen c.in-Err.halt c.told.result c.in-Err.ensures (rw c.slice-spans.ensures at c.told.ensures.told)
