use Rattle.std.proofs.Common.{◌≡◌, rules}
use Rattle.kp_tree_cursor.specs.Lexemes.{tok}
use Rattle.kp_plans.proofs.WordsNamed.{named}
use Rattle.kp_plans.proofs.words.name_of.Goals as goal

pub returns : goal.returns
returns c =
    let head : c.in_ok-head.head ≡ c.token.result.text.now = search rules in
    named c.args.words.now (tok c.token.result) c.len.result c.in_ok-head.head c.in_ok-objects.objects c.token.ensures c.len.ensures head (rw c.part.ensures at c.in_ok-objects.ensures)
