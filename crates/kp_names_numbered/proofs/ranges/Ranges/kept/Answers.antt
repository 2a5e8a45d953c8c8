use Rattle.std.proofs.Common.{◌≡◌, ◌∷◌, [], ◌∙◌, sym, subst, IfOk}
use Rattle.kp_tree_grammar.specs.View.{domain_view, problem_view}
use Rattle.kp_names_semantics.specs.Names.{Name, same}
use Rattle.indexmap.specs.IndexMap.{insert_entry}
use Rattle.kp_names_declared.specs.Steps.{range_of}
use Rattle.kp_names_numbered.proofs.KnownTypes.{found_right, insert_right, both_right}
use Rattle.kp_names_numbered.proofs.ranges.Ranges.kept.Goals as goal

pub returns-in-Some-clause-row : goal.returns-in-Some-clause-row
returns-in-Some-clause-row c =
    let self = c.args.self.now in
    let objects = λ (t : Name). range_of (domain_view self.names.domain) (problem_view self.names.problem) (t ∷ []) in
    subst (λ z. IfOk c.from_slice.result (λ row. row ≡ z)) (c.slice.ensures ∙ found_right (λ k. k.now) objects self.known.entries c.args.name.now _ (sym c.in-Some.ensures.value) self.known_right) c.from_slice.ensures

pub invariant_of-self-clause-known_right : goal.invariant_of-self-clause-known_right
invariant_of-self-clause-known_right c =
    let self = c.args.self.now in
    let objects = λ (t : Name). range_of (domain_view self.names.domain) (problem_view self.names.problem) (t ∷ []) in
    both_right (λ k. k.now) objects c.insert.result self.known.entries c.insert.new.self.entries (insert_entry (λ i j. same i.now j.now) self.known.entries c.args.name c.in_ok-objects.objects) c.insert.ensures.entries c.insert.ensures.err self.known_right
    (insert_right (λ k. k.now) objects self.known.entries c.args.name c.in_ok-objects.objects c.in_ok-objects.ensures self.known_right)
