-- A run of `bench line 2 --mode k0`: it ends with Negative, since from the empty tag nothing is known of where it is. The premises of what is said of such runs are met, from the bytes on.
use Rattle.std.proofs.Common.{◌≡◌, ◌≤◌, ℕ, zero, suc, true, false, not, nat_eq, List, [], ◌∷◌, Some, Vec, take, length, slice_get, codes, inl, inr, refl, sym, ap, ◌∙◌, subst, arith}
use Rattle.std.proofs.lemmas.Bool.{false≢true}
use Rattle.std.specs.FinMap.{empty}
use Rattle.std.specs.Fmt.{digits}
use Rattle.std.specs.declared.alloc.Global.{Global}
use lib.Utf8.{encode}
use Rattle.kp_base.specs.declared.ground.Action.{Action}
use Rattle.kp_base.specs.declared.ground.Ground.{Ground}
use Rattle.kp_base.specs.declared.ground.Initial.{Initial}
use Rattle.kp_base.specs.declared.ground.TagTable.{TagTable}
use Rattle.kp_base.specs.declared.limits.Mode.TheVariants as modes
use Rattle.kp_base.specs.declared.lit.Lit.{Lit}
use Rattle.kp_base.specs.Planning.{Meets, IsTarget, of_precondition, of_goal, IsCovered, AreUncovered, IsNeverOver, Member, positive, negative, IsAscending, IsRelevant, either_value, IsCandidate, IsClauseFor, State, holds, is_model}
use Rattle.kp_primes.specs.Included.{all_included}
use Rattle.kp_primes.proofs.Public.{counted_is_never_over}
use Rattle.kp_lex.specs.Bytes.{class_of}
use Rattle.kp_lex.specs.Scanning.{cut_from}
use Rattle.kp_tree_grammar.specs.Symbols.{symbol_of}
use Rattle.kp_tree_grammar.specs.Parsing.{some_at, next_at}
use Rattle.kp_tree_grammar.specs.declared.tree.Word.{Word}
use Rattle.kp_tree_grammar.specs.Trees.{Typed, Term, Atom, Cond, conds_of, Eff, effs_of, Item, Schema, Domain, Problem}
use Rattle.kp_tree_grammar.specs.Grammar as grammar
use Rattle.kp_tree_grammar.proofs.Public.{example_word_at, tokens_of_text}
use Rattle.kp_names_semantics.specs.Numbering.{numbered_problem}
use Rattle.kp_tree.specs.Files.{HasTree}
use Rattle.kp_classic.specs.declared.task.Task.{Task}
use Rattle.kp_classic.specs.States.{has}
use Rattle.kp_classic.specs.Steps.{Holding}
use Rattle.kp_guide.specs.declared.rule.Rule.{Rule}
use Rattle.kp_guide.specs.Added.{rules_of, goal_of, Costs}
use Rattle.kp_guide.specs.Added.Costs.{none, given, by_rule}
use Rattle.kp_search.specs.declared.found.Found.TheVariants.{NoPlan}
use Rattle.kp_search.specs.Trace.{Entry, first, nothing}
use Rattle.kp_search.specs.Trace.IsCourse.{lost}
use Rattle.kp_law_ktask.specs.Task.{task_of}
use Rattle.kp_law_translation.specs.OfTrees.{ground_of, initial_of}
use Rattle.kp_law_translation.specs.Tables.{empty_tag}
use Rattle.kp_gen.specs.Lines.{text}
use Rattle.kp_gen.specs.Line as line
use Rattle.kp_run_messages.specs.Searches.{no_plan_text}
use Rattle.kp_outside.specs.Outside.{with_bytes}
use Rattle.kp_run_outcome.specs.declared.outcome.Outcome.{Outcome}
use Rattle.kp_run_outcome.specs.declared.status.Status.TheVariants as status
use Rattle.kp_run_outcome.specs.Ends.{Outside, whole}
use Rattle.kp_run_outcome.specs.Printing.{denies}
use Rattle.kp_words_options.specs.Words.{a_word, apart as apart_words, word as said_word, option as said_option}
use Rattle.kp_words_options.specs.Words as line_words
use Rattle.kp_words.specs.declared.source.Family.TheVariants as families
use Rattle.kp_words.specs.Asked.{Asked}
use Rattle.kp_words.specs.declared.verb.Verb.TheVariants as verbs
use Rattle.kp_words.specs.Command.{IsCall}
use Rattle.kp_words.proofs.Public.{word_of_bytes as word, call_by_words, files_by_computing, usual_numbers}
use Rattle.kp_words.specs.Owned.{bare}
use Rattle.kp_run_prepare.specs.Texts.{HaveTrees}
use Rattle.kp_run_prepare.specs.Prepared.{usual, IsPrepared, later}
use Rattle.kp_run_inputs.specs.SourceTables.{by_mode, with_table}
use Rattle.kp_run_solve.specs.Solving.{Finds}
use Rattle.kp_run_inputs.specs.Tasks.{with_task}
use Rattle.kp_run_bench.specs.Bench.{Benches}
use Rattle.kp_run.specs.Ends.{Ends, came}
use Rattle.kp_run_inputs.proofs.Public.{empty_tags_fit, empty_tag_made}
use Rattle.kp_run.proofs.Public.{due_by}
use Rattle.kp_law_runs.proofs.Computed.{reads_file as file_reads_by_computing}
use Rattle.kp_law_runs.proofs.ExampleOutcomes.{has_state as example_has_state}
use Rattle.kp_law_runs.specs.Bench.{HasNoBenchPlan}
use Rattle.kp_law_runs.proofs.Benches.{benches_are_true}
use Rattle.kp_law_runs.proofs.ExampleCourses.{unreached}
use Rattle.kp_law_runs.proofs.ExampleFiles.{within, never_clashing}

-- ---- words

abbrev running : Asked
running = record (bare verbs.Bench) { family = families.Line; size = 2; mode = modes.K0; budget = 10000 }

abbrev bench_words : List (Vec ℕ Global)
bench_words = word (codes "bench") (omega arith) ∷ word (codes "line") (omega arith) ∷ word (codes "2") (omega arith) ∷ word (codes "--mode") (omega arith) ∷ word (codes "k0") (omega arith) ∷ []

is_bench : IsCall verbs.Bench bench_words running
unfolding encode digits
is_bench =
    call_by_words verbs.Bench _ _ _ (said_word (codes "line") ∷ said_word (codes "2") ∷ said_option (codes "mode") (codes "k0") ∷ []) ((codes "bench", (refl, refl)), ((codes "line", (refl, refl)), ((codes "2", (refl, refl)), ((codes "--mode", (refl, refl)), ((codes "k0", (refl, refl)), tt))))) refl (a_word _ _ _ refl (a_word _ _ _ refl (apart_words (codes "mode") (codes "k0") _ _ refl refl line_words.nothing))) refl refl refl refl
    (record { files = files_by_computing refl tt; source = record { mode = refl; merges = refl; one_source = tt }; numbers = usual_numbers refl; generated = record { family = refl; size = (record { at_least = omega arith; at_most = omega arith }, refl) } })

-- ---- two texts

abbrev cells : List ℕ
cells = codes "(define (domain line)\n(:requirements :typing :conditional-effects)\n(:types cell)\n(:predicates (at ?c - cell) (next ?b - cell ?a - cell))\n(:action left\n:parameters ()\n:effect (forall (?b - cell ?a - cell) (when (and (at ?b) (next ?b ?a)) (and (at ?a) (not (at ?b)))))\n)\n)\n"

abbrev typed : List ℕ → ℕ → ℕ → Typed Word
typed name byte kind = record { word = example_word_at name byte; kinds = example_word_at (codes "cell") kind ∷ [] }

-- an atom of variables, or of names, at its byte
abbrev of_variables : List ℕ → ℕ → List (Term Word) → Atom Word
of_variables head byte terms = record { head = example_word_at head byte; terms = terms }

abbrev left_schema : Schema Word
left_schema = record {
  name = example_word_at (codes "left") 146;
  params = [];
  pre = Cond.all (conds_of []);
  effect = Eff.each (typed (codes "?b") 183 188 ∷ typed (codes "?a") 193 198 ∷ [])
      (Eff.when (Cond.all (conds_of (Cond.atom true (of_variables (codes "at") 216 (Term.variable (example_word_at (codes "?b") 219) ∷ [])) ∷ Cond.atom true (of_variables (codes "next") 224 (Term.variable (example_word_at (codes "?b") 229) ∷ Term.variable (example_word_at (codes "?a") 232) ∷ [])) ∷ [])))
      (Eff.both (effs_of (Eff.makes true (of_variables (codes "at") 243 (Term.variable (example_word_at (codes "?a") 246) ∷ [])) ∷ Eff.makes false (of_variables (codes "at") 256 (Term.variable (example_word_at (codes "?b") 259) ∷ [])) ∷ []))));
}

abbrev pub cells_tree : Domain Word
cells_tree = record {
  kinds = record { word = example_word_at (codes "cell") 75; kinds = [] } ∷ [];
  constants = [];
  predicates = record { head = example_word_at (codes "at") 95; params = typed (codes "?c") 98 103 ∷ [] }
      ∷ record { head = example_word_at (codes "next") 110; params = typed (codes "?b") 115 120 ∷ typed (codes "?a") 125 130 ∷ [] } ∷ [];
  schemas = left_schema ∷ [];
}

cells_read : HasTree grammar.domain cells cells_tree
unfolding cut_from class_of symbol_of some_at next_at
cells_read = file_reads_by_computing grammar.domain cells (tokens_of_text cells) cells_tree (omega arith) refl refl refl

-- it is the text of the family
are_cells : text line.domain_lines ≡ cells
are_cells = refl

abbrev two : List ℕ
two = codes "(define (problem line)\n(:domain line)\n(:objects\nc1\nc2\n- cell)\n(:init\n(oneof\n(at c1)\n(at c2)\n)\n(next c2 c1)\n)\n(:goal (at c1))\n)\n"

abbrev pub two_tree : Problem Word
two_tree = record {
  objects = typed (codes "c1") 48 56 ∷ typed (codes "c2") 51 56 ∷ [];
  init = Item.one_of (example_word_at (codes "oneof") 70) (record { positive = true; atom = of_variables (codes "at") 77 (Term.name (example_word_at (codes "c1") 80) ∷ []) } ∷ record { positive = true; atom = of_variables (codes "at") 85 (Term.name (example_word_at (codes "c2") 88) ∷ []) } ∷ [])
      ∷ Item.fact true (of_variables (codes "next") 95 (Term.name (example_word_at (codes "c2") 100) ∷ Term.name (example_word_at (codes "c1") 103) ∷ [])) ∷ [];
  goal = Cond.atom true (of_variables (codes "at") 117 (Term.name (example_word_at (codes "c1") 120) ∷ []));
}

two_read : HasTree grammar.problem two two_tree
unfolding cut_from class_of symbol_of some_at next_at
two_read = file_reads_by_computing grammar.problem two (tokens_of_text two) two_tree (omega arith) refl refl refl

-- so is this, with two cells
are_two : text (line.problem_lines 2) ≡ two
unfolding digits
are_two = refl

pub trees : HaveTrees (text line.domain_lines) (text (line.problem_lines 2)) cells_tree two_tree
trees = record { domain_reads = subst (λ t. HasTree grammar.domain t cells_tree) (sym are_cells) cells_read; problem_reads = subst (λ t. HasTree grammar.problem t two_tree) (sym are_two) two_read; no_fault = record { domain = refl; problem = refl } }

abbrev pub g : Ground
g = ground_of cells_tree two_tree

abbrev pub i : Initial
i = initial_of cells_tree two_tree

-- ---- the limits

-- two clauses in order, with few prime implicates
few_of_two : (h : Initial) (x y : List Lit) → h.clauses ≡ x ∷ y ∷ [] → IsAscending x → IsAscending y → length (all_included [] (x ∷ [])) ≤ 4 → length (all_included [] (x ∷ y ∷ [])) ≤ 4 → IsNeverOver h 20000
few_of_two h x y e up above one all = counted_is_never_over h 20000 (all_included [] (take (length h.clauses) h.clauses)) (record {
  so_far = refl;
  sets = λ c m. sets c (subst (λ cs. Member cs c) (ap (λ (cs : List (List Lit)). take (length cs) cs) e) m);
  within_limit = λ j le. subst (λ (cs : List (List Lit)). length (all_included [] (take j cs)) ≤ 20000) (sym e) (at j);
})
  where
    sets : (c : List Lit) → Member (x ∷ y ∷ []) c → IsAscending c
    sets c (inl same) = subst IsAscending same up
    sets c (inr (inl same)) = subst IsAscending same above
    sets c (inr (inr never)) = absurd never

    at : (j : ℕ) → length (all_included [] (take j (x ∷ y ∷ []))) ≤ 20000
    at zero = omega arith
    at (suc zero) = omega (arith, one)
    at (suc (suc zero)) = omega (arith, all)
    at (suc (suc (suc j))) = omega (arith, all)

-- ---- no clash

abbrev pub left : Action
left = record { name = record { head = codes "left"; objects = [] }; pre = []; effects = record { cond = positive 1 ∷ []; result = positive 0 } ∷ record { cond = positive 1 ∷ []; result = negative 1 } ∷ [] }

-- it is at the first cell
unfoldable pub at_first : State
at_first n = nat_eq n 0

pub first_start : is_model i at_first ≡ true
unfolding at_first
first_start = refl

pub prepared : IsPrepared 20000 cells_tree two_tree
prepared = record {
  started = record {
    small = within (numbered_problem cells_tree two_tree) usual 24 2 (omega arith) (omega arith) (omega arith) (omega arith) refl refl refl refl;
    counted = few_of_two i (positive 0 ∷ positive 1 ∷ []) (negative 0 ∷ negative 1 ∷ []) refl (omega arith, tt) (omega arith, tt) (omega arith) (omega arith);
    initial = example_has_state cells_tree two_tree trees.no_fault at_first first_start;
  };
  clash_free = never_clashing cells_tree two_tree refl;
}

-- ---- the search

abbrev table : TagTable
table = empty_tag cells_tree two_tree

abbrev task : Task
task = task_of g table

-- a fact that doesn't hold and that rules add only from another isn't reached where that isn't
not_from : (rules : List Rule) (s : Holding) (f k : ℕ) → s f ≡ false → ((r : Rule) → Member rules r → r.fact ≡ f → r.needs ≡ k ∷ []) → ((n : ℕ) → Costs rules s (k ∷ []) n → ⊥) → (fs xs : List ℕ) (n : ℕ) → Costs rules s xs n → xs ≡ f ∷ fs → ⊥
not_from rules s f k off needs without fs _ _ none e = absurd cc
not_from rules s f k off needs without fs _ _ (given x gs n holds rest) e = let same : x ≡ f = cc in absurd (false≢true (sym off ∙ subst (λ z. s z ≡ true) same holds))
not_from rules s f k off needs without fs _ _ (by_rule r m gs n of_rules reach rest) e = let same : r.fact ≡ f = cc in without m (subst (λ xs. Costs rules s xs m) (needs r of_rules same) reach)

-- that it is at the second cell isn't known, and no rule adds it
second_lost : (n : ℕ) → Costs (rules_of task) (has (first task).hold) (2 ∷ []) n → ⊥
second_lost n costs = unreached (rules_of task) (has (first task).hold) 2 refl no_rule [] (2 ∷ []) n costs refl
  where
    no_rule : (r : Rule) → Member (rules_of task) r → r.fact ≡ 2 → ⊥
    no_rule r (inl m) is = let e : 0 ≡ 2 = ap (λ (x : Rule). x.fact) m ∙ is in omega (arith, e)
    no_rule r (inr (inl m)) is = let e : 3 ≡ 2 = ap (λ (x : Rule). x.fact) m ∙ is in omega (arith, e)
    no_rule r (inr (inr never)) is = absurd never

-- so the first cell isn't reached
goal_lost : (n : ℕ) → Costs (rules_of task) (has (first task).hold) (goal_of task) n → ⊥
goal_lost n costs = not_from (rules_of task) (has (first task).hold) 0 2 refl from_second second_lost [] (goal_of task) n costs refl
  where
    from_second : (r : Rule) → Member (rules_of task) r → r.fact ≡ 0 → r.needs ≡ 2 ∷ []
    from_second r (inl m) is = ap (λ (x : Rule). x.needs) (sym m)
    from_second r (inr (inl m)) is = absurd (let e : 3 ≡ 0 = ap (λ (x : Rule). x.fact) m ∙ is in omega (arith, e))
    from_second r (inr (inr never)) is = absurd never

found_none : Finds task 10000 NoPlan
found_none = record { course = nothing; is = lost goal_lost; empty = λ n e w. by n e w.there }
  where
    by : (n : ℕ) (e : Entry) → slice_get [] n ≡ Some e → ⊥
    by zero e there = absurd cc
    by (suc n) e there = absurd cc

-- ---- that it is at the first cell isn't covered

-- it is at the second cell
unfoldable pub at_second : State
at_second n = nat_eq n 1

pub second_start : is_model i at_second ≡ true
unfolding at_second
second_start = refl

pub not_second : at_first 1 ≡ false
unfolding at_first
not_second = refl

pub is_second : at_second 1 ≡ true
unfolding at_second
is_second = refl

-- what the action does where it is at the second cell
comes : IsRelevant g.actions (positive 1) (positive 0)
comes = IsRelevant.condition (positive 1) (positive 0) (record { action = left; effect = record { cond = positive 1 ∷ []; result = positive 0 }; action_in = inl refl; effect_in = inl refl; condition = inl refl; result = refl })

goes : IsRelevant g.actions (positive 1) (negative 1)
goes = IsRelevant.condition (positive 1) (negative 1) (record { action = left; effect = record { cond = positive 1 ∷ []; result = negative 1 }; action_in = inl refl; effect_in = inr (inl refl); condition = inl refl; result = refl })

-- whether it is there is relevant to its being at the first cell, and not known
pub relevant : (l : Lit) → Member (either_value 1) l → IsRelevant g.actions l (positive 0)
relevant l (inl e) = subst (λ z. IsRelevant g.actions z (positive 0)) e comes
relevant l (inr (inl e)) = subst (λ z. IsRelevant g.actions z (positive 0)) e (IsRelevant.onward (negative 1) (positive 1) (positive 0) (IsRelevant.negation (positive 1) (negative 1) goes) comes)
relevant l (inr (inr never)) = absurd never

pub second_for : IsClauseFor g.actions 2 i (positive 0) (either_value 1)
second_for = record { candidate = IsCandidate.unsettled 1 (omega arith) (λ one. false≢true (sym not_second ∙ (one at_first at_second first_start second_start ∙ is_second))); relevant = relevant }

pub not_met : Meets i [] (either_value 1) → ⊥
not_met x = by x.lit x.of_clause (λ s model. x.entailed s model refl)
  where
    by : (l : Lit) → Member (either_value 1) l → ((s : State) → is_model i s ≡ true → holds s l ≡ true) → ⊥
    by l (inl e) known = false≢true (sym not_second ∙ subst (λ z. holds at_first z ≡ true) (sym e) (known at_first first_start))
    by l (inr (inl e)) known = let denied = subst (λ z. holds at_second z ≡ true) (sym e) (known at_second second_start) in false≢true (sym (ap not is_second) ∙ denied)
    by l (inr (inr never)) known = absurd never

not_covered : IsCovered g i table (positive 0) → ⊥
not_covered (IsCovered.by_empty_tag covers) = not_met (covers [] (either_value 1) (inl refl) second_for)
not_covered (IsCovered.by_merge m there target valid covers) = absurd there

-- it is the one target
pub only_target : (l : Lit) → IsTarget g l → positive 0 ≡ l
only_target l (of_precondition a m k) = by a m k
  where
    by : (a : Action) → Member (left ∷ []) a → Member a.pre l → positive 0 ≡ l
    by a (inl e) k = absurd (subst (λ (x : Action). Member x.pre l) (sym e) k)
    by a (inr never) k = absurd never
only_target l (of_goal (inl e)) = e
only_target l (of_goal (inr never)) = absurd never

one_uncovered : AreUncovered g i table (positive 0 ∷ [])
one_uncovered = record { exact = λ l. (there l, λ t. inl (only_target l t.0)); ascending = tt }
  where
    there : (l : Lit) → Member (positive 0 ∷ []) l → IsTarget g l × (IsCovered g i table l → ⊥)
    there l (inl e) = subst (λ z. IsTarget g z × (IsCovered g i table z → ⊥)) e (of_goal (inl refl), not_covered)
    there l (inr never) = absurd never

-- ---- the run

abbrev no_plan : Outcome
no_plan = denies (no_plan_text (positive 0 ∷ []))

benches : Benches running no_plan
benches = later cells_tree two_tree trees prepared (with_table table (by_mode modes.K0 table (empty_tag_made cells_tree two_tree)) (with_task (empty_tags_fit cells_tree two_tree prepared.started.small) (record { found = NoPlan; finds = found_none; tells = (positive 0 ∷ [], one_uncovered, refl) })))

abbrev before : Outside
before = record { held = Some empty; told = Some []; get_faults = λ q. 0; put_faults = λ q. 0; write_faults = 0 }

abbrev after : Outside
after = record { held = Some empty; told = with_bytes (Some []) no_plan.text; get_faults = λ q. 0; put_faults = λ q. 0; write_faults = 0 }

ends : Ends bench_words before after status.Negative
ends = came no_plan (due_by verbs.Bench running (record { domain = []; problem = []; merges = []; plan = []; written = [] }) no_plan is_bench (record { domain = refl; problem = refl; merges = refl; plan = refl; written = refl }) benches) (whole refl (record { gets = λ q. refl; puts = λ q. refl; writes = refl }) refl refl)

has_none : HasNoBenchPlan running before after
has_none = (benches_are_true bench_words before after status.Negative ends running is_bench).negative refl

-- from the empty tag alone that isn't seen
told : after.told ≡ Some (codes "no plan\nincomplete\n")
told = refl
