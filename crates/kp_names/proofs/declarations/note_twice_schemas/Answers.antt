use Rattle.std.proofs.Common.{◌≡◌, ◌∷◌, ◌+◌, ◌∙◌, List, map, drop, sym, ap, ap₂, arith}
use Rattle.std.proofs.lemmas.Grind.{common_steps}
use Rattle.kp_tree_grammar.specs.declared.tree.Word.{Word}
use Rattle.kp_tree_grammar.specs.View.{schema_view}
use Rattle.kp_names_semantics.specs.Faults.{repeated}
use Rattle.kp_names.specs.Noted.{noted, names_of}
use Rattle.kp_names.proofs.Scopes.{noted_repeat}
use Rattle.kp_names.proofs.declarations.note_twice_schemas.Goals as goal

pub loop-schema-preserved : goal.loop-schema-preserved
loop-schema-preserved c =
    let i = c.loop-schema.schema-index in
    let rest : List Word = names_of (map schema_view (drop (i + 1) c.args.schemas.now)) in
    let here : drop i c.args.schemas.now ≡ c.schema-item.result ∷ drop (i + 1) c.args.schemas.now = grind (arith, common_steps) in
    ap₂ (λ o seen. noted o (repeated seen rest)) c.in_ok-note_repeat.ensures.noted c.in_ok-note_repeat.ensures.seen
    ∙ (noted_repeat c.loop-schema.first c.loop-schema.seen c.schema-item.result.name rest
    ∙ (ap (λ l. noted c.loop-schema.first (repeated c.loop-schema.seen (names_of (map schema_view l)))) (sym here) ∙ c.loop-schema.invariant))
