use Rattle.std.proofs.Common.{◌≡◌, ◌++◌, ◌∷◌, [], map, ap}
use Rattle.std.proofs.lemmas.List.{map_push}
use Rattle.kp_tree_grammar.specs.declared.tree.Word.{Word}
use Rattle.kp_tree_cursor.proofs.Public.{seen_one_more, seen_all}
use Rattle.kp_tree_arena.specs.declared.node.TypedNode.{TypedNode}
use Rattle.kp_tree_arena.specs.Nodes.{word_view, typed_view}
use Rattle.kp_tree_parts.proofs.Loops.{typed_of, all_declared}
use Rattle.kp_tree_parts.proofs.typed_lists.declare.Goals as goal

pub each-preserved : goal.each-preserved
each-preserved c =
    let ks = map word_view c.args.kinds.now in
    let node : TypedNode = record { word = c.word_node.result; kinds = c.args.kinds } in
    let e : map typed_view c.push.new.self.items ≡ map typed_view c.each.typed.items ++ typed_view node ∷ [] = rw c.in_ok-push.ensures.items (map_push typed_view c.each.typed.items node) in
    seen_one_more (typed_of ks) c.args.run.now (map typed_view c.args.typed.now.items) c.each.at _ _ _ _ _ c.in-Some.ensures.found e (ap (λ (w : Word). record { word = w; kinds = ks }) c.word_node.ensures) c.each.invariant

pub returns : goal.returns
returns c = all_declared (map word_view c.args.kinds.now) c.args.run.now _ _ (seen_all (typed_of (map word_view c.args.kinds.now)) c.args.run.now _ c.each.at _ c.in_default.ensures.none c.each.invariant)
