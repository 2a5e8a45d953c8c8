use Rattle.std.proofs.Common.{◌≡◌, [], rules}
use Rattle.kp_tree_cursor.specs.Lexemes.{word_of}
use Rattle.kp_tree_cursor.proofs.Public.{seen_one_more, seen_all}
use Rattle.kp_plans.proofs.words.texts.Goals as goal

pub each-preserved : goal.each-preserved
each-preserved c =
    let made : c.in_ok-from_slice.field-0 ≡ c.in-Some.word.text.now = search rules in
    seen_one_more (λ w. (word_of w).text) c.args.words.now [] c.each.at _ _ _ _ _ c.in-Some.ensures.found c.in_ok-push.ensures.ok made c.each.invariant

pub returns : goal.returns
returns c = seen_all (λ w. (word_of w).text) c.args.words.now [] c.each.at _ c.in_default.ensures.none c.each.invariant
