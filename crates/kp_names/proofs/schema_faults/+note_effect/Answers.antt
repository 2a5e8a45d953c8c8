use Rattle.std.proofs.Common.{◌≡◌, ◌∙◌, map, sym, ap, ap₂}
use Rattle.kp_tree_grammar.specs.declared.tree.Word.{Word}
use Rattle.kp_tree_grammar.specs.declared.tree.EffTree.TheOpen.{EffTree-F}
use Rattle.kp_tree_grammar.specs.declared.tree.EffTree.TheFolds.{fold-roll-EffTree}
use Rattle.kp_tree_grammar.specs.declared.tree.EffTree.TheVariants as effs
use Rattle.kp_tree_grammar.specs.View.{typed_view, eff_step, eff_view}
use Rattle.kp_tree_grammar.specs.Trees.{Eff}
use Rattle.kp_names_semantics.specs.Faults.{eff_faults}
use Rattle.kp_names_declared.specs.Collected.{domain_of, problem_of}
use Rattle.kp_names.specs.Noted.{noted}
use Rattle.kp_names.proofs.Scopes.{noted_each}
use Rattle.kp_names.proofs.schema_faults.+note_effect.Goals as goal

pub returns-in_ok-note_effect-in-Each-clause-noted : goal.returns-in_ok-note_effect-in-Each-clause-noted
returns-in_ok-note_effect-in-Each-clause-noted t c =
    let d = domain_of c.args.names.now in
    let p = problem_of c.args.names.now in
    let xs = map typed_view c.slice.result.now in
    let e = eff_view c.deref-in-Each.result.now in
    let is : Eff.each xs e ≡ eff_view c.args.effect.now =
    ap₂ (λ vs b. Eff.each (map typed_view vs) (eff_view b)) c.slice.ensures c.deref-in-Each.ensures
    ∙ sym (ap eff_view (c.in-Each.is ∙ sym (effs.rolls-Each c.in-Each.variables c.in-Each.body)) ∙ fold-roll-EffTree (Eff Word) eff_step (EffTree-F.Each c.in-Each.variables c.in-Each.body)) in
    c.in_ok-note_effect-in-Each.ensures.noted
    ∙ (ap₂ (λ o s. noted o (eff_faults d p s e)) c.in_ok-note_scope-in-Each.ensures.noted c.in_ok-note_scope-in-Each.ensures.scope
    ∙ (noted_each d p c.args.first.now c.args.scope.now xs e ∙ ap (λ x. noted c.args.first.now (eff_faults d p c.args.scope.now x)) is))
