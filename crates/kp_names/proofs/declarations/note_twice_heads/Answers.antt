use Rattle.std.proofs.Common.{◌≡◌, ◌∷◌, ◌+◌, ◌∙◌, List, map, drop, sym, ap, ap₂, arith}
use Rattle.std.proofs.lemmas.Grind.{common_steps}
use Rattle.kp_tree_grammar.specs.declared.tree.Word.{Word}
use Rattle.kp_tree_grammar.specs.View.{pred_view}
use Rattle.kp_names_semantics.specs.Faults.{repeated}
use Rattle.kp_names.specs.Noted.{noted, heads_of}
use Rattle.kp_names.proofs.Scopes.{noted_repeat}
use Rattle.kp_names.proofs.declarations.note_twice_heads.Goals as goal

pub loop-predicate-preserved : goal.loop-predicate-preserved
loop-predicate-preserved c =
    let i = c.loop-predicate.predicate-index in
    let rest : List Word = heads_of (map pred_view (drop (i + 1) c.args.predicates.now)) in
    let here : drop i c.args.predicates.now ≡ c.predicate-item.result ∷ drop (i + 1) c.args.predicates.now = grind (arith, common_steps) in
    ap₂ (λ o seen. noted o (repeated seen rest)) c.in_ok-note_repeat.ensures.noted c.in_ok-note_repeat.ensures.seen
    ∙ (noted_repeat c.loop-predicate.first c.loop-predicate.seen c.predicate-item.result.head rest
    ∙ (ap (λ l. noted c.loop-predicate.first (repeated c.loop-predicate.seen (heads_of (map pred_view l)))) (sym here) ∙ c.loop-predicate.invariant))
