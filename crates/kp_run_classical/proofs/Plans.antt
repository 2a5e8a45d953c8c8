-- Operators succeed exactly where their actions' names are a plan.
use Rattle.std.proofs.Common.{◌≡◌, ◌∙◌, ℕ, true, List, [], ◌∷◌, Option, Some, None, map, slice_get, length, refl, sym, ap, subst}
use Rattle.std.proofs.lemmas.Bool.{and_parts, false≢true}
use Rattle.kp_base.specs.declared.ground.Action.{Action}
use Rattle.kp_base.specs.declared.ground.Ground.{Ground}
use Rattle.kp_base.specs.declared.ground.GroundName.{GroundName}
use Rattle.kp_base.specs.Steps as on_atoms
use Rattle.kp_base.specs.Steps.{IsGroundPlan}
use Rattle.kp_tree_grammar.specs.declared.tree.Word.{Word}
use Rattle.kp_tree_grammar.specs.Trees.{Domain, Problem}
use Rattle.kp_names_semantics.specs.Numbering.{numbered_problem}
use Rattle.kp_base.specs.ActionNames.{action_name}
use Rattle.kp_init.proofs.Public.{plan_of_texts}
use Rattle.kp_classic.specs.Grounded.{SaysOneState, DoesTheSame}
use Rattle.kp_classic.specs.Steps.{start}
use Rattle.kp_classic.proofs.Public.{task_succeeds_the_same, task_does_the_same}
use Rattle.kp_law_translation.specs.OfTrees.{ground_of, initial_of}
use Rattle.kp_law_translation.proofs.Public.{initial_states_are_models}
use Rattle.kp_run_prepare.specs.Texts.{HaveTrees}
use Rattle.kp_run_prepare.proofs.Public.{problem_of_trees, numbers_of_names_once}
use Rattle.kp_run_classical.specs.Classical.{IsClassicalProblem, task_of}
use Rattle.kp_run_classical.specs.Laws.{SuccessesArePlans, SuccessesHaveNames, PlansAreSuccesses}
use Rattle.kp_run_classical.proofs.Facts.{certain_facts, says_at_most_one}
use Rattle.kp_run_classical.proofs.Counted.{is_of_atoms}

-- ---- the task

-- the formula says one state
says_one : (domain problem : List ℕ) (d : Domain Word) (p : Problem Word) → HaveTrees domain problem d p → IsClassicalProblem d p → SaysOneState (length (ground_of d p).atoms) (initial_of d p)
says_one domain problem d p trees c =
    let one = says_at_most_one (numbered_problem d p) (certain_facts d p c.certain) in
    record { of_atoms = one.of_atoms; units = one.units; each_known = one.each_known; consistent = (initial_states_are_models d p trees.no_fault).0 c.initial }

does_the_same : (domain problem : List ℕ) (d : Domain Word) (p : Problem Word) → HaveTrees domain problem d p → IsClassicalProblem d p → DoesTheSame (ground_of d p) (initial_of d p) (task_of d p)
does_the_same domain problem d p trees c = task_does_the_same (ground_of d p) (initial_of d p) (is_of_atoms (numbered_problem d p) (ground_of d p) c.small) (says_one domain problem d p trees c)

-- ---- names

-- actions that run have names
named : (g : Ground) (ns : List ℕ) (s : on_atoms.State) → on_atoms.succeeds g s ns ≡ true → (steps : List GroundName) × (map (action_name g) ns ≡ map Some steps)
named g [] s h = ([], refl)
named g (n ∷ ns) s h =
    let parts = and_parts (on_atoms.applicable (slice_get g.actions n) s) (on_atoms.succeeds g (on_atoms.next (slice_get g.actions n) s) ns) h in
    let rest = named g ns (on_atoms.next (slice_get g.actions n) s) parts.1 in
    go (slice_get g.actions n) refl parts.0 rest.0 rest.1
  where
    go : (o : Option Action) → slice_get g.actions n ≡ o → on_atoms.applicable o s ≡ true → (steps : List GroundName) → map (action_name g) ns ≡ map Some steps → (all : List GroundName) × (map (action_name g) (n ∷ ns) ≡ map Some all)
    go None is may steps are = absurd (false≢true may)
    go (Some a) is may steps are = (a.name ∷ steps, (let first : action_name g n ≡ Some a.name = ap (λ o. name_of o) is in cc (first, are)))
      where
        name_of : Option Action → Option GroundName
        name_of None = None
        name_of (Some b) = Some b.name

pub have_names : SuccessesHaveNames
have_names d p ns h = named (ground_of d p) ns (start (task_of d p)) (sym (task_succeeds_the_same (ground_of d p) (initial_of d p) ns (start (task_of d p))) ∙ h)

-- ---- plans

pub are_plans : SuccessesArePlans
are_plans domain problem d p trees c ns steps names =
    let model = (initial_states_are_models d p trees.no_fault).0 c.initial in
    let texts = plan_of_texts domain problem (problem_of_trees domain problem d p trees) model.state model.model steps in
    let same = (does_the_same domain problem d p trees c).plans in (
      λ h. texts.1 (ns, record { names = names; plan = (same ns).0 h }),
      λ plan. (let run = texts.0 plan in (same ns).1 (subst (IsGroundPlan (ground_of d p) (initial_of d p)) (numbers_of_names_once d p trees.no_fault steps run.0 ns run.1.names names) run.1.plan)),
    )

pub are_successes : PlansAreSuccesses
are_successes domain problem d p trees c steps plan =
    let model = (initial_states_are_models d p trees.no_fault).0 c.initial in
    let run = (plan_of_texts domain problem (problem_of_trees domain problem d p trees) model.state model.model steps).0 plan in
    (run.0, run.1.names, ((does_the_same domain problem d p trees c).plans run.0).1 run.1.plan)
