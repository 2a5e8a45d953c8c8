-- A run comes to one outcome.
use Rattle.std.proofs.Common.{◌≡◌, ◌+◌, ℕ, true, List, [], ◌∷◌, Option, Some, None, map, length, nat_lt, slice_get, refl, sym, ap, ◌∙◌, arith}
use Rattle.std.specs.List.{list_all}
use Rattle.std.proofs.lemmas.Bool.{and_parts, and_from, lt-ltb, le-ltb, false≢true}
use Rattle.std.proofs.lemmas.Option.{slice_get_within}
use Rattle.kp_base.specs.declared.ground.Action.{Action}
use Rattle.kp_base.specs.declared.ground.Ground.{Ground}
use Rattle.kp_base.specs.declared.ground.Initial.{Initial}
use Rattle.kp_base.specs.declared.ground.TagTable.{TagTable}
use Rattle.kp_base.specs.declared.lit.Lit.{Lit}
use Rattle.kp_base.specs.Entailed.{HasModel}
use Rattle.kp_base.specs.Machine.{MachineStep, stripped}
use Rattle.kp_base.specs.Steps.{State, applicable, next, succeeds}
use Rattle.kp_tree_grammar.specs.declared.tree.Word.{Word}
use Rattle.kp_tree_grammar.specs.Trees.{Domain, Problem}
use Rattle.kp_names_semantics.specs.Faults.{HasNoFault}
use Rattle.kp_cover.proofs.Public.{uncovered_once}
use Rattle.kp_search.specs.declared.found.Found.{Found}
use Rattle.kp_search.specs.declared.found.Found.TheVariants.{Plan, NoPlan, Spent}
use Rattle.kp_law_ktask.specs.Task.{task_of}
use Rattle.kp_law_ktask.specs.Accepted.{op_number}
use Rattle.kp_law_translation.specs.OfTrees.{ground_of, initial_of}
use Rattle.kp_law_translation.proofs.Public.{initial_states_are_models}
use Rattle.kp_run_messages.specs.Searches.{no_plan_text}
use Rattle.kp_run_outcome.specs.declared.outcome.Outcome.{Outcome}
use Rattle.kp_words.specs.Asked.{of_mode, Asked}
use Rattle.kp_words.specs.Options.{usual_limit}
use Rattle.kp_run_prepare.specs.Prepared.{IsPrepared, Comes, early, later}
use Rattle.kp_run_prepare.proofs.Public.{comes_to_one_outcome}
use Rattle.kp_run_inputs.proofs.Public.{by_table_one_outcome, by_task_one_outcome}
use Rattle.kp_run_solve.specs.Solving.{Searches}
use Rattle.kp_run_solve.proofs.Public.{searches_have_one_outcome}
use Rattle.kp_run_solve.specs.Operators.{acts_among}
use Rattle.kp_run_outcome.specs.Printing.{prints, denies}
use Rattle.kp_run_bench.specs.Summary.{summary_text}
use Rattle.kp_run_bench.specs.Bench.{texts_of, SumsUp, TellsBench, BenchesGround, BenchesTrees}
use Rattle.kp_run_bench.specs.Laws.{BenchesHaveOneOutcome}

-- ---- the actions of a plan

-- steps that succeed from some state are actions
are_actions : (g : Ground) (s : State) (ns : List ℕ) → succeeds g s ns ≡ true → list_all (λ n. nat_lt n (length g.actions)) ns ≡ true
are_actions g s [] e = refl
are_actions g s (n ∷ ns) e =
    let parts = and_parts (applicable (slice_get g.actions n) s) (succeeds g (next (slice_get g.actions n) s) ns) e in
    and_from (nat_lt n (length g.actions)) (list_all (λ k. nat_lt k (length g.actions)) ns) (there (slice_get g.actions n) refl parts.0) (are_actions g (next (slice_get g.actions n) s) ns parts.1)
  where
    there : (o : Option Action) → slice_get g.actions n ≡ o → applicable o s ≡ true → nat_lt n (length g.actions) ≡ true
    there None is f = absurd (false≢true f)
    there (Some a) is f = lt-ltb n (length g.actions) (slice_get_within g.actions n a is)

-- where they are, they are those among the numbers of the operators
among : (g : Ground) (ms : List MachineStep) → list_all (λ n. nat_lt n (length g.actions)) (stripped ms) ≡ true → stripped ms ≡ acts_among (length g.actions) (map (op_number g) ms)
among g [] e = refl
among g (MachineStep.act n ∷ ms) e =
    let parts = and_parts (nat_lt n (length g.actions)) (list_all (λ k. nat_lt k (length g.actions)) (stripped ms)) e in
    rw parts.0 (ap (n ∷◌) (among g ms parts.1))
among g (MachineStep.merge m ∷ ms) e = rw (le-ltb (length g.actions + m) (length g.actions) (omega arith)) (among g ms e)

-- so the actions that were told of a plan are those among its operators
pub actions_of : (c : Asked) (g : Ground) (i : Initial) (table : TagTable) (ops : List ℕ) (n : ℕ) (o : Outcome) → HasModel i → (a : SumsUp c g i table ops n o) → stripped a.machine ≡ acts_among (length g.actions) ops
actions_of c g i table ops n o some a = among g a.machine (are_actions g some.state (stripped a.machine) (a.works some.state some.model)) ∙ ap (acts_among (length g.actions)) a.numbers

-- and there is one list of them
same_actions : (c : Asked) (g : Ground) (i : Initial) (table : TagTable) (ops : List ℕ) (n : ℕ) (o u : Outcome) → HasModel i → (a : SumsUp c g i table ops n o) (b : SumsUp c g i table ops n u) → stripped a.machine ≡ stripped b.machine
same_actions c g i table ops n o u some a b = actions_of c g i table ops n o some a ∙ sym (actions_of c g i table ops n u some b)

-- ---- outcomes

told_once : (c : Asked) (g : Ground) (i : Initial) (table : TagTable) → HasModel i → (found : Found) (o u : Outcome) → TellsBench c g i table found o → TellsBench c g i table found u → o ≡ u
told_once c g i table some (Plan ops n) o u a b =
    a.told ∙ (ap (λ (ls : List Lit). prints (summary_text c g table ls (length (stripped a.machine)) n)) (uncovered_once g i table a.uncovered b.uncovered a.are_uncovered b.are_uncovered)
    ∙ (ap (λ (ns : List ℕ). prints (summary_text c g table b.uncovered (length ns) n)) (same_actions c g i table ops n o u some a b) ∙ sym b.told))
told_once c g i table some NoPlan o u a b = a.2 ∙ (ap (λ ls. denies (no_plan_text ls)) (uncovered_once g i table a.0 b.0 a.1 b.1) ∙ sym b.2)
told_once c g i table some (Spent n) o u a b = a ∙ sym b

ground_once : (c : Asked) (g : Ground) (i : Initial) → HasModel i → (table : TagTable) (o u : Outcome) → BenchesGround c g i table o → BenchesGround c g i table u → o ≡ u
ground_once c g i some table o u a b =
    by_task_one_outcome g table (Searches (task_of g table) c.budget (TellsBench c g i table)) (searches_have_one_outcome (task_of g table) c.budget (TellsBench c g i table) (told_once c g i table some)) o u a b

-- two trees in which no name is at fault
abbrev Fine : Asked → Domain Word → Problem Word → Outcome → Type 0
Fine c d p o = HasNoFault d p × BenchesTrees c d p o

trees_once : (c : Asked) (d : Domain Word) (p : Problem Word) (o u : Outcome) → IsPrepared usual_limit d p → Fine c d p o → Fine c d p u → o ≡ u
trees_once c d p o u ready a b =
    let some : HasModel (initial_of d p) = (initial_states_are_models d p a.0).0 ready.started.initial in
    by_table_one_outcome (ground_of d p) (initial_of d p) (of_mode c.mode) [] (BenchesGround c (ground_of d p) (initial_of d p)) (ground_once c (ground_of d p) (initial_of d p) some) o u a.1 b.1

-- the trees of two texts are such ones
fine : (c : Asked) (x y : List ℕ) (o : Outcome) → Comes usual_limit x y (BenchesTrees c) o → Comes usual_limit x y (Fine c) o
fine c x y o (early a) = early a
fine c x y o (later d p trees ready goes) = later d p trees ready (trees.no_fault, goes)

pub benches_once : BenchesHaveOneOutcome
benches_once c o u a b =
    let x = (texts_of c).domain in
    let y = (texts_of c).problem in
    comes_to_one_outcome usual_limit x y (Fine c) (trees_once c) o u (fine c x y o a) (fine c x y u b)
