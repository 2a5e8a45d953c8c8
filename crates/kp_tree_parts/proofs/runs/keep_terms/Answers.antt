use Rattle.std.proofs.Common.{◌≡◌, ◌++◌, ◌∷◌, [], map}
use Rattle.std.proofs.lemmas.List.{map_push}
use Rattle.kp_tree_cursor.proofs.Public.{seen_one_more, seen_all}
use Rattle.kp_tree_parts.specs.Lexemes.{term_of}
use Rattle.kp_tree_arena.specs.Nodes.{term_view}
use Rattle.kp_tree_parts.proofs.runs.keep_terms.Goals as goal

pub each-preserved : goal.each-preserved
each-preserved c =
    let e : map term_view c.push.new.self.items ≡ map term_view c.each.terms.items ++ term_view c.term_node.result ∷ [] = rw c.in_ok-push.ensures.items (map_push term_view c.each.terms.items c.term_node.result) in
    seen_one_more term_of c.args.run.now [] c.each.at _ _ _ _ _ c.in-Some.ensures.found e c.term_node.ensures c.each.invariant

pub returns : goal.returns
returns c = rw c.into_bump_slice.ensures (seen_all term_of c.args.run.now [] c.each.at _ c.in_default.ensures.none c.each.invariant)
