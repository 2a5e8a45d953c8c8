use Rattle.std.proofs.Common.{◌≡◌, ◌∙◌, Some, None, length, ap}
use Rattle.kp_tree_grammar.specs.View.{domain_view, problem_view}
use Rattle.kp_names_semantics.specs.Types.{objects}
use Rattle.kp_names_declared.specs.NameTables.{number_of}
use Rattle.kp_names_declared.proofs.NumbersOfNames.{found_number, missing_number}
use Rattle.kp_names_declared.proofs.tables.Names.number_of.Goals as goal

pub returns-in-Some : goal.returns-in-Some
returns-in-Some c =
    let os = objects (domain_view c.self.inside.domain.now) (problem_view c.self.inside.problem.now) in
    let found : Some c.in-Some.number ≡ number_of os c.args.name.now = cc (c.in-Some.ensures, c.self.invariant.objects_known) in
    rw (← c.self.view_is) (found_number os c.args.name.now c.in-Some.number found)

pub returns-in-None : goal.returns-in-None
returns-in-None c =
    let os = objects (domain_view c.self.inside.domain.now) (problem_view c.self.inside.problem.now) in
    let none : None ≡ number_of os c.args.name.now = cc (c.in-None.ensures, c.self.invariant.objects_known) in
    rw (← c.self.view_is) (c.len.ensures ∙ (ap (λ ns. length ns) c.self.invariant.objects_known ∙ missing_number os c.args.name.now none))
