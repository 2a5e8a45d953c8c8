use Rattle.std.proofs.Common.{◌≡◌, ◌∙◌, ap, map, subst, eqb, arith}
use Rattle.std.specs.List.{dedup}
use Rattle.std.proofs.lemmas.Grind.{common_steps}
use Rattle.std.proofs.lemmas.List.Filters.{dedup_is}
use Rattle.kp_tree_grammar.specs.View.{domain_view, problem_view}
use Rattle.kp_names_semantics.specs.Numbering.{index_of}
use Rattle.kp_names_semantics.specs.Types.{objects}
use Rattle.kp_names_declared.specs.Steps.{IsRowOf}
use Rattle.kp_names_declared.proofs.ObjectsOfTypes.{sorted_row}
use Rattle.kp_names_declared.proofs.objects.numbers.Goals as goal

-- the numbers are sorted, and repeats are taken out
pub returns : goal.returns
returns c =
    let os = objects (domain_view c.args.names.now.domain) (problem_view c.args.names.now.problem) in
    let all : c.loop-name.numbers.items ≡ map (index_of os) (map (λ n. n.now) c.names-name-items.result.now) = grind (arith, common_steps, c.loop-name.invariant) in
    let is = dedup_is eqb c.sort_unstable.new.self.items c.dedup.new.self.items c.dedup.ensures.filtered in
    rw c.from_vec.ensures (rw is
    (subst (λ z. IsRowOf z (dedup eqb c.sort_unstable.new.self.items)) (all ∙ ap (map (index_of os)) c.names-name-items.ensures)
    (sorted_row c.loop-name.numbers.items c.sort_unstable.new.self.items c.sort_unstable.ensures.permutation c.sort_unstable.ensures.sorted)))
