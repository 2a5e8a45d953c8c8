-- Three cells of which exactly one is full: with a tag for each cell and a merge the table is complete, so each plan of the texts lifts. With the empty tag alone none does.
use Rattle.std.proofs.Common.{◌≡◌, ◌<◌, ℕ, zero, suc, Bool, true, false, not, ◌||◌, List, [], ◌∷◌, Some, map, codes, nat_eq, refl, sym, subst, ◌∙◌, inl, inr, arith}
use Rattle.std.proofs.lemmas.Fmt.{decimal_digit}
use Rattle.std.specs.List.{list_any}
use Rattle.kp_base.specs.declared.lit.Lit.{Lit}
use Rattle.kp_base.specs.declared.ground.Action.{Action}
use Rattle.kp_base.specs.declared.ground.Ground.{Ground}
use Rattle.kp_base.specs.declared.ground.Initial.{Initial}
use Rattle.kp_base.specs.declared.ground.Merge.{Merge}
use Rattle.kp_base.specs.declared.ground.TagRow.{TagRow}
use Rattle.kp_base.specs.Planning.{Member, positive, negative, State, holds, is_model, IsGroundPlan, HasModel, IsOfItsAtoms, IsCandidate, IsClauseFor, Meets, Covers, tags_of, IsTarget, IsCovered, IsComplete, accepts, start, one_tag_table, action_name}
use Rattle.kp_base.specs.Lit.{has}
use Rattle.kp_base.proofs.Lists.{any_member}
use Rattle.kp_law_tagged_machine.proofs.Public as machine
use Rattle.kp_law_tagged_machine.proofs.Public.{accepted_lists_are_plans, relevant_is_of_the_atoms}
use Rattle.kp_law_tagged_machine.specs.Lifts.{lift_of}
use Rattle.kp_names_semantics.specs.Steps.{Step}
use Rattle.kp_names_semantics.specs.Initial.{HasInitialState}
use Rattle.kp_names_semantics.specs.Plans.{IsPlan}
use Rattle.kp_names_semantics.proofs.Public.{domain_of_text, problem_of_text, cells_domain, one_cell_problem}
use Rattle.kp_init.proofs.Public.{plan_of_texts}
use Rattle.kp_law_ktask.specs.Accepted.{IsAccepted}
use Rattle.kp_law_ktask.proofs.Public as tagged
use Rattle.kp_law_translation.specs.OfTrees.{ground_of, initial_of}
use Rattle.kp_law_translation.specs.Tables.{empty_tag}
use Rattle.kp_law_translation.proofs.Starts.{states_are_models as initial_states_are_models}
use Rattle.kp_law_translation.specs.Laws.{IsWrittenLift, Lifts}
use Rattle.kp_law_translation.proofs.Lifting.{lifts_written, plans_lift}
use Rattle.kp_law_translation.proofs.ExampleCells.{its_ground, its_formula, its_start, its_problem, no_fault, table_for, unmet}

-- ---- the table is complete

of_atoms : IsOfItsAtoms machine.cells_ground
of_atoms = record { few_atoms = omega arith; few_actions = omega arith; actions = refl; goal = refl }

-- a candidate clause has a true literal in each model
candidate_true : (s : State) → is_model machine.one_cell_is_full s ≡ true → (c : List Lit) → IsCandidate 3 machine.one_cell_is_full c → list_any (holds s) c ≡ true
candidate_true s model _ (IsCandidate.implicate c prime longer) = prime.implicate.holds_always s model
candidate_true s model _ (IsCandidate.unsettled p below differs) = by (s p)
  where
    by : (b : Bool) → (b || (not b || false)) ≡ true
    by true = refl
    by false = refl

-- a closure has just what is true in a state, by cases
same_by : (closure : List Lit) (s : State) → holds s (positive 0) ≡ has closure (positive 0) → holds s (negative 0) ≡ has closure (negative 0) → holds s (positive 1) ≡ has closure (positive 1) → holds s (negative 1) ≡ has closure (negative 1) → holds s (positive 2) ≡ has closure (positive 2) → holds s (negative 2) ≡ has closure (negative 2) → (l : Lit) → l.atom.0 < 3 → holds s l ≡ has closure l
same_by closure s a b c d e f l = by l.atom.0 l.positive
  where
    by : (p : ℕ) (sign : Bool) → p < 3 → holds s (record { atom = record { 0 = p }; positive = sign }) ≡ has closure (record { atom = record { 0 = p }; positive = sign })
    by zero true below = a
    by zero false below = b
    by (suc zero) true below = c
    by (suc zero) false below = d
    by (suc (suc zero)) true below = e
    by (suc (suc zero)) false below = f
    by (suc (suc (suc p))) sign below = absurd (omega arith)

-- a tag whose closure has what is true in some model meets each clause, since that model makes one of its literals true
meets_by : (row : TagRow) (s : State) → Member machine.cells_table.tags row → is_model machine.one_cell_is_full s ≡ true → ((l : Lit) → l.atom.0 < 3 → holds s l ≡ has row.closure l) → (c : List Lit) → IsClauseFor machine.cells_ground.actions 3 machine.one_cell_is_full (positive 0) c → Meets machine.one_cell_is_full row.lits c
meets_by row s there model same c for =
    let r = any_member (holds s) c (candidate_true s model c for.candidate) in
    let below = relevant_is_of_the_atoms machine.cells_ground of_atoms r.0 (positive 0) (for.relevant r.0 r.1) (omega arith) in
    record { lit = r.0; of_clause = r.1; entailed = (machine.cells_table_is_right.closures row there).entailed r.0 (sym (same r.0 below) ∙ r.2) }

abbrev merge : Merge
merge = record { target = positive 0; tags = 1 ∷ 2 ∷ 3 ∷ [] }

-- each tag has one model, in which its cell alone is full
merge_covers : Covers machine.cells_ground machine.one_cell_is_full (tags_of machine.cells_table merge) (positive 0)
merge_covers tag c (inl e) for = subst (λ (t : List Lit). Meets machine.one_cell_is_full t c) e (meets_by (record { lits = positive 0 ∷ []; closure = machine.first_cell_full }) (nat_eq 0) (inr (inl refl)) refl (same_by machine.first_cell_full (nat_eq 0) refl refl refl refl refl refl) c for)
merge_covers tag c (inr (inl e)) for = subst (λ (t : List Lit). Meets machine.one_cell_is_full t c) e (meets_by (record { lits = positive 1 ∷ []; closure = machine.second_cell_full }) (nat_eq 1) (inr (inr (inl refl))) refl (same_by machine.second_cell_full (nat_eq 1) refl refl refl refl refl refl) c for)
merge_covers tag c (inr (inr (inl e))) for = subst (λ (t : List Lit). Meets machine.one_cell_is_full t c) e (meets_by (record { lits = positive 2 ∷ []; closure = machine.third_cell_full }) (nat_eq 2) (inr (inr (inr (inl refl)))) refl (same_by machine.third_cell_full (nat_eq 2) refl refl refl refl refl refl) c for)
merge_covers tag c (inr (inr (inr n))) for = absurd n

-- the first cell is what is asked for
target_is : (l : Lit) → IsTarget machine.cells_ground l → positive 0 ≡ l
target_is l (IsTarget.of_goal (inl e)) = e
target_is l (IsTarget.of_goal (inr n)) = absurd n
target_is l (IsTarget.of_precondition a (inl e) in-pre) = subst (λ (b : Action). Member b.pre l → positive 0 ≡ l) e (λ n. absurd n) in-pre
target_is l (IsTarget.of_precondition a (inr n) in-pre) = absurd n

complete : IsComplete machine.cells_ground machine.one_cell_is_full machine.cells_table
complete = record { each = λ l target. subst (IsCovered machine.cells_ground machine.one_cell_is_full machine.cells_table) (target_is l target) (IsCovered.by_merge merge (inl refl) refl (machine.cells_merges_are_valid.each merge (inl refl)) merge_covers) }

-- ---- the premises, of the texts

some_model : HasModel machine.one_cell_is_full
some_model = record { state = nat_eq 0; model = refl; all_true = refl }

some_state : HasInitialState (problem_of_text one_cell_problem)
some_state = (initial_states_are_models (domain_of_text cells_domain) (problem_of_text one_cell_problem) no_fault).1 (rw its_formula some_model)

texts_of_atoms : IsOfItsAtoms (ground_of (domain_of_text cells_domain) (problem_of_text one_cell_problem))
texts_of_atoms = rw its_ground of_atoms

texts_complete : IsComplete (ground_of (domain_of_text cells_domain) (problem_of_text one_cell_problem)) (initial_of (domain_of_text cells_domain) (problem_of_text one_cell_problem)) machine.cells_table
texts_complete = rw (its_ground, its_formula) complete

-- two steps to the left
abbrev two_steps : List Step
two_steps = record { head = codes "left"; objects = [] } ∷ record { head = codes "left"; objects = [] } ∷ []

two_names : map (action_name (ground_of (domain_of_text cells_domain) (problem_of_text one_cell_problem))) (0 ∷ 0 ∷ []) ≡ map Some two_steps
two_names = subst (λ (g : Ground). map (action_name g) (0 ∷ 0 ∷ []) ≡ map Some two_steps) (sym its_ground) refl

two_run : IsGroundPlan (ground_of (domain_of_text cells_domain) (problem_of_text one_cell_problem)) (initial_of (domain_of_text cells_domain) (problem_of_text one_cell_problem)) (0 ∷ 0 ∷ [])
two_run = subst (λ (g : Ground). IsGroundPlan g (initial_of (domain_of_text cells_domain) (problem_of_text one_cell_problem)) (0 ∷ 0 ∷ [])) (sym its_ground) (subst (λ (i : Initial). IsGroundPlan machine.cells_ground i (0 ∷ 0 ∷ [])) (sym its_formula) (accepted_lists_are_plans machine.cells_ground machine.one_cell_is_full machine.cells_table machine.cells_table_is_right machine.cells_merges_are_valid machine.cells_never_clash machine.cells_accepted refl))

first_model : is_model (initial_of (domain_of_text cells_domain) (problem_of_text one_cell_problem)) (nat_eq 0) ≡ true
first_model = subst (λ (i : Initial). is_model i (nat_eq 0) ≡ true) (sym its_formula) refl

two_are_a_plan : IsPlan cells_domain one_cell_problem two_steps
unfolding its_problem
two_are_a_plan = (plan_of_texts cells_domain one_cell_problem its_problem (nat_eq 0) first_model two_steps).1 (0 ∷ 0 ∷ [], record { names = two_names; plan = two_run })

-- ---- it lifts

two_lift : Lifts (domain_of_text cells_domain) (problem_of_text one_cell_problem) machine.cells_table two_steps
unfolding its_problem
two_lift = plans_lift cells_domain one_cell_problem its_problem machine.cells_table some_state texts_of_atoms table_for texts_complete two_steps two_are_a_plan

-- the merge goes behind the two actions
merge_is_last : lift_of machine.cells_ground machine.cells_table (0 ∷ 0 ∷ []) ≡ machine.cells_accepted
merge_is_last = refl

lift_accepted : IsAccepted (ground_of (domain_of_text cells_domain) (problem_of_text one_cell_problem)) machine.cells_table tagged.cells_steps (lift_of (ground_of (domain_of_text cells_domain) (problem_of_text one_cell_problem)) machine.cells_table (0 ∷ 0 ∷ []))
lift_accepted = subst (λ (g : Ground). IsAccepted g machine.cells_table tagged.cells_steps (lift_of g machine.cells_table (0 ∷ 0 ∷ []))) (sym its_ground) (record { steps_are = rw (decimal_digit 0 (omega arith)) refl; accepted = refl })

-- and the three steps are a plan of what is written
lift_written : IsWrittenLift (domain_of_text cells_domain) (problem_of_text one_cell_problem) machine.cells_table (0 ∷ 0 ∷ []) tagged.cells_steps
unfolding its_problem
lift_written = lifts_written cells_domain one_cell_problem its_problem machine.cells_table table_for (0 ∷ 0 ∷ []) tagged.cells_steps lift_accepted

-- ---- without tags

-- with the empty tag alone no list of steps lifts, so that table isn't complete
none_lifts : (plan : List Step) → Lifts (domain_of_text cells_domain) (problem_of_text one_cell_problem) (empty_tag (domain_of_text cells_domain) (problem_of_text one_cell_problem)) plan → ⊥
none_lifts plan l = unmet (lift_of machine.cells_ground (one_tag_table []) l.numbers) (start (one_tag_table [])) (λ m. refl) there
  where
    there : accepts machine.cells_ground (one_tag_table []) (lift_of machine.cells_ground (one_tag_table []) l.numbers) ≡ true
    there = rw (its_ground, its_start) at l.accepted.accepted
