use Rattle.std.proofs.Common.{◌≡◌, ◌++◌, ◌∷◌, [], map}
use Rattle.std.proofs.lemmas.List.{map_push}
use Rattle.kp_tree_cursor.proofs.Public.{seen_one_more, seen_all}
use Rattle.kp_tree_parts.specs.Lexemes.{word_of}
use Rattle.kp_tree_arena.specs.Nodes.{word_view}
use Rattle.kp_tree_parts.proofs.runs.keep_words.Goals as goal

pub each-preserved : goal.each-preserved
each-preserved c =
    let e : map word_view c.push.new.self.items ≡ map word_view c.each.words.items ++ word_view c.word_node.result ∷ [] = rw c.in_ok-push.ensures.items (map_push word_view c.each.words.items c.word_node.result) in
    seen_one_more word_of c.args.run.now [] c.each.at _ _ _ _ _ c.in-Some.ensures.found e c.word_node.ensures c.each.invariant

pub returns : goal.returns
returns c = rw c.into_bump_slice.ensures (seen_all word_of c.args.run.now [] c.each.at _ c.in_default.ensures.none c.each.invariant)
