-- A run of `bench line 2 --mode models`: it ends with Done, with a plan of one step, merged over the two cells.
use Rattle.std.proofs.Common.{◌≡◌, ◌<◌, ◌≤◌, ◌⊎◌, ℕ, zero, suc, Bool, ◌||◌, true, false, not, nat_eq, List, [], ◌∷◌, Some, Vec, filter, map, slice_get, codes, inl, inr, refl, sym, ap, ◌∙◌, subst, arith}
use Rattle.std.proofs.lemmas.Bool.{and_parts, or_cases, eqb-true, false≢true, false_from_ne_true}
use Rattle.std.specs.List.{list_any}
use Rattle.std.specs.FinMap.{empty}
use Rattle.std.specs.Fmt.{digits}
use Rattle.std.specs.declared.alloc.Global.{Global}
use lib.Utf8.{encode}
use Rattle.kp_base.specs.declared.ground.Action.{Action}
use Rattle.kp_base.specs.declared.ground.Effect.{Effect}
use Rattle.kp_base.specs.declared.ground.TagRow.{TagRow}
use Rattle.kp_base.specs.declared.ground.TagTable.{TagTable}
use Rattle.kp_base.specs.declared.limits.Mode.TheVariants as modes
use Rattle.kp_base.specs.declared.lit.Lit.{Lit}
use Rattle.kp_base.specs.Planning.{Meets, IsTarget, IsCovered, AreUncovered, AreTagsOfClauses, of_goal, IsConsistent, IsImplicate, IsPrime, Member, choices, each_once, signed, MachineStep, positive, negative, set_of, same_set, IsRelevant, either_value, IsCandidate, AreRelevant, IsClauseFor, AreClausesFor, State, holds, is_model}
use Rattle.kp_base.specs.declared.ground.Merge.{Merge}
use Rattle.kp_base.specs.Lit.{has as has_lit}
use Rattle.kp_base.specs.LitSet.{is_within}
use Rattle.kp_base.proofs.Lists.{all_member, any_member}
use Rattle.kp_base.proofs.Lits.{has-member, member-has}
use Rattle.kp_law_tagged_machine.proofs.Public.{no_clash_under_exclusive_pairs as never_clashes}
use Rattle.kp_base.proofs.Closures.{closure_over_first_atoms}
use Rattle.kp_classic.specs.declared.task.Task.{Task}
use Rattle.kp_classic.specs.Fits.{IsFit}
use Rattle.kp_classic.specs.States.{FactSet, has}
use Rattle.kp_classic.specs.Steps.{Holding}
use Rattle.kp_guide.specs.declared.rule.Rule.{Rule}
use Rattle.kp_guide.specs.Added.{rules_of, goal_of, Costs}
use Rattle.kp_guide.specs.Added.Costs.{none, given, by_rule}
use Rattle.kp_search.specs.declared.found.Found.TheVariants.{Plan}
use Rattle.kp_search.specs.Trace.{Entry, Course, first, step, one_entry, entry_after, is_taken, IsNext, WasTaken, with_expanded, IsCourse}
use Rattle.kp_search.specs.Trace.Enters.{none as none_entered, off, enter}
use Rattle.kp_search.specs.Trace.IsCourse.{begun, spread}
use Rattle.kp_search.specs.Ends.{by_added}
use Rattle.kp_cover.specs.Targets.{AreTargets}
use Rattle.kp_tags_files.specs.declared.merge.FileMerge.{FileMerge}
use Rattle.kp_tags_modes.specs.declared.way.Way.{Way}
use Rattle.kp_tags_modes.specs.Assignments.{HasAtom, AreAtomsOf}
use Rattle.kp_tags_modes.specs.Modes.{AreMergesBy, AreMergesInTurn, AreMergesOf, AreOtherwise, merge_of}
use Rattle.kp_tags.specs.MergeTables.{HasClosure}
use Rattle.kp_tags.specs.Made.{IsMade}
use Rattle.kp_law_decidable.proofs.Public.{clauses_decided, tags_decided}
use Rattle.kp_law_decidable.specs.Laws.{AreProper, TellsOfTags}
use Rattle.kp_law_ktask.specs.Task.{task_of}
use Rattle.kp_ktask.specs.Translated.{FitsLimits}
use Rattle.kp_law_translation.specs.Tables.{IsTableFor}
use Rattle.kp_law_translation.proofs.Public.{formulas_speak_of_ground_atoms, tables_can_be_written}
use Rattle.kp_gen.specs.Lines.{text}
use Rattle.kp_gen.specs.Line as line
use Rattle.kp_outside.specs.Outside.{with_bytes}
use Rattle.kp_run_outcome.specs.declared.outcome.Outcome.{Outcome}
use Rattle.kp_run_outcome.specs.declared.status.Status.TheVariants as status
use Rattle.kp_run_outcome.specs.Ends.{Outside, whole}
use Rattle.kp_run_outcome.specs.Printing.{prints}
use Rattle.kp_words_options.specs.Words.{nothing, a_word, apart as apart_words, word as said_word, option as said_option}
use Rattle.kp_words.specs.declared.source.Family.TheVariants as families
use Rattle.kp_words.specs.Asked.{of_mode, Asked}
use Rattle.kp_words.specs.declared.verb.Verb.TheVariants as verbs
use Rattle.kp_words.specs.Command.{IsCall}
use Rattle.kp_words.proofs.Public.{word_of_bytes, call_by_words, files_by_computing, usual_numbers}
use Rattle.kp_words.specs.Owned.{bare}
use Rattle.kp_run_prepare.specs.Prepared.{usual, later}
use Rattle.kp_run_inputs.specs.SourceTables.{by_mode, with_table}
use Rattle.kp_run_inputs.proofs.Public.{table_of_source_is_for_trees}
use Rattle.kp_run_solve.specs.Solving.{Finds}
use Rattle.kp_run_solve.proofs.Public.{ends_are_true, task_of_trees_fits}
use Rattle.kp_run_bench.specs.Summary.{summary_text}
use Rattle.kp_run_bench.specs.Working.{IsSafe}
use Rattle.kp_run_inputs.specs.Tasks.{with_task}
use Rattle.kp_run_bench.specs.Bench.{Benches}
use Rattle.kp_run_bench.proofs.Public.{succeeding_actions_are_plan}
use Rattle.kp_run.specs.Ends.{Ends, came}
use Rattle.kp_run.proofs.Public.{prepared_is_proper as proper, due_by}
use Rattle.kp_run_prepare.proofs.Public.{problem_of_trees}
use Rattle.kp_law_runs.specs.Bench.{IsSolvedBench}
use Rattle.kp_law_runs.proofs.Benches.{benches_are_true}
use Rattle.kp_law_runs.proofs.ExampleCourses.{leading}
use Rattle.kp_law_runs.proofs.ExampleBenches.{cells_tree, two_tree, trees, g, i, left, at_first, first_start, at_second, second_start, not_second, prepared, relevant, second_for, not_met, only_target}

-- ---- words

abbrev running : Asked
running = record (bare verbs.Bench) { family = families.Line; size = 2; mode = modes.Models; budget = 10000 }

abbrev bench_words : List (Vec ℕ Global)
bench_words = word_of_bytes (codes "bench") (omega arith) ∷ word_of_bytes (codes "line") (omega arith) ∷ word_of_bytes (codes "2") (omega arith) ∷ word_of_bytes (codes "--mode") (omega arith) ∷ word_of_bytes (codes "models") (omega arith) ∷ []

is_bench : IsCall verbs.Bench bench_words running
unfolding encode digits
is_bench =
    call_by_words verbs.Bench _ _ _ (said_word (codes "line") ∷ said_word (codes "2") ∷ said_option (codes "mode") (codes "models") ∷ []) ((codes "bench", (refl, refl)), ((codes "line", (refl, refl)), ((codes "2", (refl, refl)), ((codes "--mode", (refl, refl)), ((codes "models", (refl, refl)), tt))))) refl (a_word _ _ _ refl (a_word _ _ _ refl (apart_words (codes "mode") (codes "models") _ _ refl refl nothing))) refl refl refl refl
    (record { files = files_by_computing refl tt; source = record { mode = refl; merges = refl; one_source = tt }; numbers = usual_numbers refl; generated = record { family = refl; size = (record { at_least = omega arith; at_most = omega arith }, refl) } })

-- ---- the atoms of the relevant clauses

fine : AreProper g i
fine = proper 20000 cells_tree two_tree trees.no_fault prepared

-- it is at one of the cells
abbrev pub either_cell : List Lit
either_cell = positive 0 ∷ positive 1 ∷ []

first_only : (l : Lit) → Member either_cell l → holds at_first l ≡ true → positive 0 ≡ l
first_only l (inl e) h = e
first_only l (inr (inl e)) h = absurd (false≢true (sym not_second ∙ subst (λ z. holds at_first z ≡ true) (sym e) h))
first_only l (inr (inr never)) h = absurd never

not_first : at_second 0 ≡ false
unfolding at_second
not_first = refl

second_only : (l : Lit) → Member either_cell l → holds at_second l ≡ true → positive 1 ≡ l
second_only l (inl e) h = absurd (false≢true (sym not_first ∙ subst (λ z. holds at_second z ≡ true) (sym e) h))
second_only l (inr (inl e)) h = e
second_only l (inr (inr never)) h = absurd never

pub prime : IsPrime i either_cell
prime = record {
  ascending = (omega arith, tt);
  implicate = record { proper = refl; holds_always = λ s model. (and_parts _ _ (and_parts _ _ model).0).0 };
  least = λ d implicate within. let one = found d at_first first_start implicate within in let two = found d at_second second_start implicate within in rw (subst (λ z. has_lit d z ≡ true) (sym (first_only one.0 one.2 one.3)) one.1, subst (λ z. has_lit d z ≡ true) (sym (second_only two.0 two.2 two.3)) two.1) refl;
}
  where
    found : (d : List Lit) (s : State) → is_model i s ≡ true → IsImplicate i d → is_within d either_cell ≡ true → (l : Lit) × (has_lit d l ≡ true) × Member either_cell l × (holds s l ≡ true)
    found d s model implicate within =
        let l = any_member (holds s) d (implicate.holds_always s model) in
        (l.0, has-member d l.0 l.1, member-has either_cell l.0 (all_member (has_lit either_cell) d l.0 l.1 within), l.2)

-- what is relevant to a literal of these atoms is one of them
pub below : (l m : Lit) → IsRelevant g.actions l m → m.atom.0 < 2 → l.atom.0 < 2
below l _ (IsRelevant.itself _) lt = lt
below l m (IsRelevant.condition _ _ h) lt = by h.action h.action_in h.effect h.effect_in h.condition
  where
    by : (a : Action) → Member (left ∷ []) a → (e : Effect) → Member a.effects e → Member e.cond l → l.atom.0 < 2
    by a (inr never) e k c = absurd never
    by a (inl same) e k c = of_these e (subst (λ (x : Action). Member x.effects e) (sym same) k) c
      where
        second : Member (positive 1 ∷ []) l → l.atom.0 < 2
        second (inl is) = subst (λ (z : Lit). z.atom.0 < 2) is (omega arith)
        second (inr never) = absurd never

        of_these : (e : Effect) → Member left.effects e → Member e.cond l → l.atom.0 < 2
        of_these e (inl is) c = second (subst (λ (x : Effect). Member x.cond l) (sym is) c)
        of_these e (inr (inl is)) c = second (subst (λ (x : Effect). Member x.cond l) (sym is) c)
        of_these e (inr (inr never)) c = absurd never
below l n (IsRelevant.onward _ m _ h k) lt = below l m h (below m n k lt)
below _ _ (IsRelevant.negation l m h) lt = below l m h lt

pub cells_for : IsClauseFor g.actions 2 i (positive 0) either_cell
cells_for = record { candidate = IsCandidate.implicate either_cell prime (omega arith); relevant = each }
  where
    each : (l : Lit) → Member either_cell l → IsRelevant g.actions l (positive 0)
    each l (inl e) = subst (λ z. IsRelevant g.actions z (positive 0)) e (IsRelevant.itself (positive 0))
    each l (inr (inl e)) = relevant l (inl e)
    each l (inr (inr never)) = absurd never

module _ (cs : List (List Lit)) (are : AreClausesFor g.actions 2 i (positive 0) cs) where
  second_there : Member cs (either_value 1)
  second_there = (are.exact (either_value 1)).1 second_for

  cells_there : Member cs either_cell
  cells_there = (are.exact either_cell).1 cells_for

  are_atoms : AreAtomsOf cs (0 ∷ 1 ∷ [])
  are_atoms = record { exact = λ p. (there p, one p); ascending = (omega arith, tt) }
    where
      there : (p : ℕ) → Member (0 ∷ 1 ∷ []) p → HasAtom cs p
      there p (inl e) = record { clause = either_cell; lit = positive 0; clause_in = cells_there; lit_in = inl refl; of_atom = e }
      there p (inr (inl e)) = record { clause = either_cell; lit = positive 1; clause_in = cells_there; lit_in = inr (inl refl); of_atom = e }
      there p (inr (inr never)) = absurd never

      in_two : (p : ℕ) → p < 2 → Member (0 ∷ 1 ∷ []) p
      in_two zero lt = inl refl
      in_two (suc zero) lt = inr (inl refl)
      in_two (suc (suc p)) lt = absurd (omega (arith, lt))

      one : (p : ℕ) → HasAtom cs p → Member (0 ∷ 1 ∷ []) p
      one p h = subst (Member (0 ∷ 1 ∷ [])) h.of_atom (in_two h.lit.atom.0 (below h.lit (positive 0) (((are.exact h.clause).0 h.clause_in).relevant h.lit h.lit_in) (omega arith)))

-- ---- the tags: it is at the first cell alone, or at the second

abbrev one : List Lit
one = positive 0 ∷ negative 1 ∷ []

abbrev other : List Lit
other = negative 0 ∷ positive 1 ∷ []

pub told_of : TellsOfTags i
told_of = tags_decided 2 i (formulas_speak_of_ground_atoms cells_tree two_tree)

abbrev pub test : List Lit → Bool
test = told_of.test

one_passes : test one ≡ true
unfolding at_first
one_passes = (told_of.tells one).1 (record { state = at_first; model = first_start; all_true = refl })

other_passes : test other ≡ true
unfolding at_second
other_passes = (told_of.tells other).1 (record { state = at_second; model = second_start; all_true = refl })

-- it isn't at both, nor at none
abbrev both : List Lit
both = positive 0 ∷ positive 1 ∷ []

abbrev pub neither : List Lit
neither = negative 0 ∷ negative 1 ∷ []

pub not_so : (s : State) (k : ℕ) → s k ≡ true → not (s k) ≡ true → ⊥
not_so s k e f = false≢true (sym (ap not e) ∙ f)

-- a clause of the formula has a literal that holds
pub some_holds : (s : State) → is_model i s ≡ true → (c : List Lit) → Member i.clauses c → (l : Lit) × Member c l × (holds s l ≡ true)
some_holds s model c there = any_member (holds s) c (all_member (list_any (holds s)) i.clauses c there (and_parts _ _ model).0)

both_fail : test both ≡ false
both_fail = false_from_ne_true (test both) (λ passes. by ((told_of.tells both).0 passes))
  where
    by : IsConsistent i both → ⊥
    by c = let l = some_holds c.state c.model neither (inr (inl refl)) in of_one l.0 l.1 l.2
      where
        of_one : (l : Lit) → Member neither l → holds c.state l ≡ true → ⊥
        of_one l (inl e) h = not_so c.state 0 (all_member (holds c.state) both (positive 0) (inl refl) c.all_true) (subst (λ z. holds c.state z ≡ true) (sym e) h)
        of_one l (inr (inl e)) h = not_so c.state 1 (all_member (holds c.state) both (positive 1) (inr (inl refl)) c.all_true) (subst (λ z. holds c.state z ≡ true) (sym e) h)
        of_one l (inr (inr never)) h = absurd never

none_fails : test neither ≡ false
none_fails = false_from_ne_true (test neither) (λ passes. by ((told_of.tells neither).0 passes))
  where
    by : IsConsistent i neither → ⊥
    by c = let l = some_holds c.state c.model both (inl refl) in of_one l.0 l.1 l.2
      where
        of_one : (l : Lit) → Member both l → holds c.state l ≡ true → ⊥
        of_one l (inl e) h = not_so c.state 0 (subst (λ z. holds c.state z ≡ true) (sym e) h) (all_member (holds c.state) neither (negative 0) (inl refl) c.all_true)
        of_one l (inr (inl e)) h = not_so c.state 1 (subst (λ z. holds c.state z ≡ true) (sym e) h) (all_member (holds c.state) neither (negative 1) (inr (inl refl)) c.all_true)
        of_one l (inr (inr never)) h = absurd never

are_cov : AreTagsOfClauses i (either_value 0 ∷ either_value 1 ∷ []) (one ∷ other ∷ [])
are_cov = record { test = test; tells = told_of.tells; are = these test one_passes other_passes both_fail none_fails }
  where
    these : (test : List Lit → Bool) → test one ≡ true → test other ≡ true → test both ≡ false → test neither ≡ false → (one ∷ other ∷ []) ≡ each_once same_set (filter test (map set_of (choices (either_value 0 ∷ either_value 1 ∷ []))))
    these test a b c d = rw (a, b, c, d) refl

-- ---- the table

abbrev merges : List FileMerge
merges = merge_of (positive 0) (one ∷ other ∷ []) ∷ []

abbrev way : Way
way = record { greatest = 0; skips = true; by_models = true }

pub are_targets : AreTargets g (positive 0 ∷ [])
are_targets = record { exact = λ l. (there l, λ t. inl (only_target l t)); ascending = tt }
  where
    there : (l : Lit) → Member (positive 0 ∷ []) l → IsTarget g l
    there l (inl e) = of_goal (inl e)
    there l (inr never) = absurd never

of_mode_models : AreMergesOf usual.sets g i (Some way) merges
of_mode_models = by (clauses_decided g i (positive 0) fine (omega arith))
  where
    by : ((cs : List (List Lit)) × AreClausesFor g.actions 2 i (positive 0) cs) → AreMergesOf usual.sets g i (Some way) merges
    by (cs, are) = AreMergesOf.of_targets way (positive 0 ∷ []) merges are_targets (AreMergesInTurn.more (positive 0) [] ((one ∷ other ∷ []) ∷ []) [] (record { clauses = cs; are_clauses = are; by_clauses = by_all }) AreMergesInTurn.done)
      where
        by_all : AreMergesBy way usual.sets i cs ((one ∷ other ∷ []) ∷ [])
        by_all =
            AreMergesBy.otherwise ((one ∷ other ∷ []) ∷ []) (λ all. not_met (all [] (either_value 1) (inl refl) (second_there cs are))) (λ v some few. absurd (omega (arith, some, few)))
            (AreOtherwise.by_models (one ∷ other ∷ []) (record { atoms = 0 ∷ 1 ∷ []; are_atoms = are_atoms cs are; are = are_cov }))

abbrev table : TagTable
table = record { tags = record { lits = []; closure = [] } ∷ record { lits = one; closure = one } ∷ record { lits = other; closure = other } ∷ []; merges = record { target = positive 0; tags = 1 ∷ 2 ∷ [] } ∷ [] }

is_made : IsMade modes.Models usual g i table
is_made = record {
  merges = merges;
  of_mode = of_mode_models;
  within_limit = omega arith;
  is_table = record { tags = refl; closures = closures; merges = refl };
}
  where
    closures : (row : TagRow) → Member table.tags row → HasClosure 2 i row
    closures row (inl e) = let exact = closure_over_first_atoms i 2 (formulas_speak_of_ground_atoms cells_tree two_tree) [] refl in subst (HasClosure 2 i) e (record { closure = exact.closure; ascending = exact.ascending })
    closures row (inr (inl e)) = let exact = closure_over_first_atoms i 2 (formulas_speak_of_ground_atoms cells_tree two_tree) one refl in subst (HasClosure 2 i) e (record { closure = exact.closure; ascending = exact.ascending })
    closures row (inr (inr (inl e))) = let exact = closure_over_first_atoms i 2 (formulas_speak_of_ground_atoms cells_tree two_tree) other refl in subst (HasClosure 2 i) e (record { closure = exact.closure; ascending = exact.ascending })
    closures row (inr (inr (inr never))) = absurd never

-- ---- the task

abbrev task : Task
task = task_of g table

fits : FitsLimits task usual
fits = record { facts = omega arith; weight = omega arith }

for : IsTableFor cells_tree two_tree table
for = table_of_source_is_for_trees cells_tree two_tree (of_mode modes.Models) [] table prepared.started.small fits (by_mode modes.Models table is_made)

safe : IsSafe g i table
safe = record { writable = tables_can_be_written (text line.domain_lines) (text (line.problem_lines 2)) (problem_of_trees (text line.domain_lines) (text (line.problem_lines 2)) cells_tree two_tree trees) table for; right = for.right; valid = for.valid; never_clashes = never_clashes g i prepared.clash_free }

fit : IsFit task
fit = task_of_trees_fits cells_tree two_tree table prepared.started.small fits safe.writable

-- ---- the search: the action, and then the merge

-- what doesn't hold costs something
some_cost : (rules : List Rule) (s : Holding) (f : ℕ) (fs xs : List ℕ) (n : ℕ) → s f ≡ false → Costs rules s xs n → xs ≡ f ∷ fs → 1 ≤ n
some_cost rules s f fs _ _ lacks none e = absurd cc
some_cost rules s f fs _ _ lacks (given x gs n holds_it rest) e = let same : x ≡ f = cc in absurd (false≢true (sym lacks ∙ subst (λ z. s z ≡ true) same holds_it))
some_cost rules s f fs _ _ lacks (by_rule r m gs n of_rules needs rest) e = omega arith

some_estimate : (s : FactSet) (h : ℕ) → has s.hold 0 ≡ false → by_added task s (Some h) → 1 ≤ h
some_estimate s h lacks is = let cost = some_cost (rules_of task) (has s.hold) 0 [] (goal_of task) is.0.0 lacks is.0.1 refl in let least = is.0.2 in omega (arith, cost, least)

abbrev moved : FactSet
moved = step task 0 (first task)

abbrev again : FactSet
again = step task 0 moved

abbrev merged : FactSet
merged = step task 1 moved

at_begin : (h : ℕ) × by_added task (first task) (Some h)
at_begin = leading task fit (first task) (0 ∷ 1 ∷ []) refl

at_moved : (h : ℕ) × by_added task moved (Some h)
at_moved = leading task fit moved (1 ∷ []) refl

at_again : (h : ℕ) × by_added task again (Some h)
at_again = leading task fit again (1 ∷ []) refl

at_merged : by_added task merged (Some 0)
at_merged = ((0, given 0 [] 0 refl none, refl), λ n c. omega arith)

abbrev begin : Entry
begin = record { state = first task; estimate = at_begin.0; ops = [] }

abbrev after_move : Entry
after_move = entry_after task begin 0 at_moved.0

abbrev after_again : Entry
after_again = entry_after task after_move 0 at_again.0

abbrev after_merge : Entry
after_merge = entry_after task after_move 1 0

abbrev course_one : Course
course_one = one_entry (first task) at_begin.0

abbrev course_two : Course
course_two = with_expanded course_one 0 (after_move ∷ [])

abbrev course_three : Course
course_three = with_expanded course_two 1 (after_again ∷ after_merge ∷ [])

-- they differ in a fact
apart : (s u : FactSet) (f : ℕ) → has s.hold f ≡ false → has u.hold f ≡ true → s ≡ u → ⊥
apart s u f lacks holds_it e = false≢true (sym lacks ∙ (ap (λ (z : FactSet). has z.hold f) e ∙ holds_it))

begin_next : IsNext course_one 0 begin
begin_next = record { waits = record { there = refl; untaken = refl }; least = λ m d w. by m d w.there }
  where
    by : (m : ℕ) (d : Entry) → slice_get (begin ∷ []) m ≡ Some d → (at_begin.0 < d.estimate) ⊎ ((at_begin.0 ≡ d.estimate) × (0 ≤ m))
    by zero d there = let same : begin ≡ d = cc in inr (ap (λ (z : Entry). z.estimate) same, omega arith)
    by (suc m) d there = absurd cc

is_two : IsCourse task (by_added task) 10000 course_two
is_two = spread course_one 0 begin (after_move ∷ []) (begun at_begin.0 at_begin.1) begin_next (λ w. false≢true w.taken) refl (omega arith) (off 1 (after_move ∷ []) (enter 0 [] at_moved.0 none_entered refl at_moved.1) refl)

move_next : IsNext course_two 1 after_move
move_next = record { waits = record { there = refl; untaken = refl }; least = λ m d w. by m d w.there w.untaken }
  where
    by : (m : ℕ) (d : Entry) → slice_get (begin ∷ after_move ∷ []) m ≡ Some d → is_taken course_two m ≡ false → (at_moved.0 < d.estimate) ⊎ ((at_moved.0 ≡ d.estimate) × (1 ≤ m))
    by zero d there untaken = absurd (false≢true (sym untaken))
    by (suc zero) d there untaken = let same : after_move ≡ d = cc in inr (ap (λ (z : Entry). z.estimate) same, omega arith)
    by (suc (suc m)) d there untaken = absurd cc

move_new : WasTaken course_two moved → ⊥
move_new w = by w.number w.entry w.taken w.there w.same
  where
    by : (n : ℕ) (e : Entry) → is_taken course_two n ≡ true → slice_get (begin ∷ after_move ∷ []) n ≡ Some e → e.state ≡ moved → ⊥
    by zero e taken there same = let here : begin ≡ e = cc in apart (first task) moved 8 refl refl (ap (λ (z : Entry). z.state) here ∙ same)
    by (suc n) e taken there same = elim (or_cases (nat_eq (suc n) 0) false taken) [ inl e ↦ absurd (let zero_ = eqb-true (suc n) 0 e in omega (arith, zero_)) | inr e ↦ absurd (false≢true e) ]

is_three : IsCourse task (by_added task) 10000 course_three
is_three = spread course_two 1 after_move (after_again ∷ after_merge ∷ []) is_two move_next move_new refl (omega arith) (enter 1 (after_again ∷ []) 0 (enter 0 [] at_again.0 none_entered refl at_again.1) refl at_merged)

merge_next : IsNext course_three 3 after_merge
merge_next = record { waits = record { there = refl; untaken = refl }; least = λ m d w. by m d w.there w.untaken }
  where
    by : (m : ℕ) (d : Entry) → slice_get (begin ∷ after_move ∷ after_again ∷ after_merge ∷ []) m ≡ Some d → is_taken course_three m ≡ false → (0 < d.estimate) ⊎ ((0 ≡ d.estimate) × (3 ≤ m))
    by zero d there untaken = absurd (false≢true (sym untaken))
    by (suc zero) d there untaken = absurd (false≢true (sym untaken))
    by (suc (suc zero)) d there untaken = let same : after_again ≡ d = cc in inl (subst (λ (z : Entry). 0 < z.estimate) same (some_estimate again at_again.0 refl at_again.1))
    by (suc (suc (suc zero))) d there untaken = let same : after_merge ≡ d = cc in inr (ap (λ (z : Entry). z.estimate) same, omega arith)
    by (suc (suc (suc (suc m)))) d there untaken = absurd cc

merge_new : WasTaken course_three merged → ⊥
merge_new w = by w.number w.entry w.taken w.there w.same
  where
    by : (n : ℕ) (e : Entry) → is_taken course_three n ≡ true → slice_get (begin ∷ after_move ∷ after_again ∷ after_merge ∷ []) n ≡ Some e → e.state ≡ merged → ⊥
    by zero e taken there same = let here : begin ≡ e = cc in apart (first task) merged 0 refl refl (ap (λ (z : Entry). z.state) here ∙ same)
    by (suc zero) e taken there same = let here : after_move ≡ e = cc in apart moved merged 0 refl refl (ap (λ (z : Entry). z.state) here ∙ same)
    by (suc (suc n)) e taken there same = elim (or_cases (nat_eq (suc (suc n)) 1) (nat_eq (suc (suc n)) 0 || false) taken) [
      | inl e ↦ absurd (let one_ = eqb-true (suc (suc n)) 1 e in omega (arith, one_))
      | inr f ↦ elim (or_cases (nat_eq (suc (suc n)) 0) false f) [ inl e ↦ absurd (let zero_ = eqb-true (suc (suc n)) 0 e in omega (arith, zero_)) | inr e ↦ absurd (false≢true e) ]
    ]

found_plan : Finds task 10000 (Plan (0 ∷ 1 ∷ []) 2)
found_plan = record { course = course_three; is = is_three; number = 3; entry = after_merge; next = merge_next; new = merge_new; goal = refl; ops_are = refl; expanded_are = refl }

-- ---- the table is complete

-- a tag that has all literals that hold in a state entails one of each relevant clause
module _ (tag : List Lit) (s : State) (model : is_model i s ≡ true) (whole_tag : (l : Lit) → l.atom.0 < 2 → holds s l ≡ true → Member tag l) where
  meets_with : (c : List Lit) (l : Lit) → Member c l → l.atom.0 < 2 → holds s l ≡ true → Meets i tag c
  meets_with c l there lt h = record { lit = l; of_clause = there; entailed = λ u is all. all_member (holds u) tag l (whole_tag l lt h) all }

  meets : (c : List Lit) → IsClauseFor g.actions 2 i (positive 0) c → Meets i tag c
  meets c is = by c is.candidate is.relevant
    where
      by : (c : List Lit) → IsCandidate 2 i c → AreRelevant g.actions (positive 0) c → Meets i tag c
      by c (IsCandidate.implicate _ is_prime long) each = let l = any_member (holds s) c (is_prime.implicate.holds_always s model) in meets_with c l.0 l.1 (below l.0 (positive 0) (each l.0 l.1) (omega arith)) l.2
      by _ (IsCandidate.unsettled p lt differ) each = of_value (s p) refl
        where
          of_value : (b : Bool) → s p ≡ b → Meets i tag (either_value p)
          of_value true e = meets_with (either_value p) (positive p) (inl refl) lt e
          of_value false e = meets_with (either_value p) (negative p) (inr (inl refl)) lt (ap not e)

whole_one : (l : Lit) → l.atom.0 < 2 → holds at_first l ≡ true → Member one l
unfolding at_first
whole_one l = by l.atom.0 l.positive
  where
    by : (p : ℕ) (b : Bool) → p < 2 → signed b (at_first p) ≡ true → Member one (record { atom = record { 0 = p }; positive = b })
    by zero true lt h = inl refl
    by zero false lt h = absurd (false≢true h)
    by (suc zero) true lt h = absurd (false≢true h)
    by (suc zero) false lt h = inr (inl refl)
    by (suc (suc p)) b lt h = absurd (omega (arith, lt))

whole_other : (l : Lit) → l.atom.0 < 2 → holds at_second l ≡ true → Member other l
unfolding at_second
whole_other l = by l.atom.0 l.positive
  where
    by : (p : ℕ) (b : Bool) → p < 2 → signed b (at_second p) ≡ true → Member other (record { atom = record { 0 = p }; positive = b })
    by zero true lt h = absurd (false≢true h)
    by zero false lt h = inl refl
    by (suc zero) true lt h = inr (inl refl)
    by (suc zero) false lt h = absurd (false≢true h)
    by (suc (suc p)) b lt h = absurd (omega (arith, lt))

abbrev the_merge : Merge
the_merge = record { target = positive 0; tags = 1 ∷ 2 ∷ [] }

covered : IsCovered g i table (positive 0)
covered = IsCovered.by_merge the_merge (inl refl) refl (for.valid.each the_merge (inl refl)) covers
  where
    covers : (tag c : List Lit) → Member (one ∷ other ∷ []) tag → IsClauseFor g.actions 2 i (positive 0) c → Meets i tag c
    covers tag c (inl e) is = subst (λ t. Meets i t c) e (meets one at_first first_start whole_one c is)
    covers tag c (inr (inl e)) is = subst (λ t. Meets i t c) e (meets other at_second second_start whole_other c is)
    covers tag c (inr (inr never)) is = absurd never

none_left : AreUncovered g i table []
none_left = record { exact = λ l. (λ m. absurd m, λ t. absurd (t.1 (subst (IsCovered g i table) (only_target l t.0) covered))); ascending = tt }

-- ---- the run

abbrev summary : Outcome
summary = prints (summary_text running g table [] 1 2)

benches : Benches running summary
benches = later cells_tree two_tree trees prepared (with_table table (by_mode modes.Models table is_made) (with_task fits (record {
  found = Plan (0 ∷ 1 ∷ []) 2;
  finds = found_plan;
  tells = record {
    machine = MachineStep.act 0 ∷ MachineStep.merge 0 ∷ [];
    numbers = refl;
    works = succeeding_actions_are_plan g i table (0 ∷ 1 ∷ []) safe (ends_are_true task 10000 (Plan (0 ∷ 1 ∷ []) 2) fit found_plan);
    uncovered = [];
    are_uncovered = none_left;
    told = refl;
  };
})))

abbrev before : Outside
before = record { held = Some empty; told = Some []; get_faults = λ q. 0; put_faults = λ q. 0; write_faults = 0 }

abbrev after : Outside
after = record { held = Some empty; told = with_bytes (Some []) summary.text; get_faults = λ q. 0; put_faults = λ q. 0; write_faults = 0 }

ends : Ends bench_words before after status.Done
ends = came summary (due_by verbs.Bench running (record { domain = []; problem = []; merges = []; plan = []; written = [] }) summary is_bench (record { domain = refl; problem = refl; merges = refl; plan = refl; written = refl }) benches) (whole refl (record { gets = λ q. refl; puts = λ q. refl; writes = refl }) refl refl)

is_solved : IsSolvedBench running before after
is_solved = (benches_are_true bench_words before after status.Done ends running is_bench).done refl

-- the whole text
told : after.told ≡ Some (codes "family line\nn 2\natoms 2\nactions 1\ntags 3\nmerges 1\nfacts 12\ncomplete\nsteps 1\nexpanded 2\ncheck yes\n")
unfolding digits
told = refl
