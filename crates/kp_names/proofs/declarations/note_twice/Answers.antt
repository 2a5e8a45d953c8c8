use Rattle.std.proofs.Common.{◌≡◌, ◌∷◌, ◌+◌, ◌∙◌, List, map, drop, sym, ap, ap₂, arith}
use Rattle.std.proofs.lemmas.Grind.{common_steps}
use Rattle.kp_tree_grammar.specs.declared.tree.Word.{Word}
use Rattle.kp_tree_grammar.specs.View.{typed_view}
use Rattle.kp_names_semantics.specs.Faults.{repeated, words}
use Rattle.kp_names.specs.Noted.{noted}
use Rattle.kp_names.proofs.Scopes.{noted_repeat}
use Rattle.kp_names.proofs.declarations.note_twice.Goals as goal

pub loop-line-preserved : goal.loop-line-preserved
loop-line-preserved c =
    let i = c.loop-line.line-index in
    let rest : List Word = words (map typed_view (drop (i + 1) c.args.lines.now)) in
    let here : drop i c.args.lines.now ≡ c.line-item.result ∷ drop (i + 1) c.args.lines.now = grind (arith, common_steps) in
    ap₂ (λ o seen. noted o (repeated seen rest)) c.in_ok-note_repeat.ensures.noted c.in_ok-note_repeat.ensures.seen
    ∙ (noted_repeat c.loop-line.first c.loop-line.seen c.line-item.result.word rest
    ∙ (ap (λ l. noted c.loop-line.first (repeated c.loop-line.seen (words (map typed_view l)))) (sym here) ∙ c.loop-line.invariant))
