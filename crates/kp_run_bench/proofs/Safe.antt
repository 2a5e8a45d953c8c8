-- The task of two texts and the table of a source is safe.
use Rattle.std.proofs.Common.{ℕ, List, sym, subst}
use Rattle.kp_base.specs.declared.ground.Ground.{Ground}
use Rattle.kp_base.specs.Exclusive.{IsClashFree}
use Rattle.kp_law_tagged_machine.proofs.Public.{no_clash_under_exclusive_pairs as never_clashes, same_models_say_the_same as same_models}
use Rattle.kp_law_ktask.specs.Task.{task_of}
use Rattle.kp_law_ktask.specs.Writable.{IsWritableTask}
use Rattle.kp_ktask.specs.Translated.{FitsLimits}
use Rattle.kp_law_translation.specs.OfTrees.{ground_of, initial_of}
use Rattle.kp_law_translation.proofs.Public.{tables_can_be_written}
use Rattle.kp_words.specs.Asked.{Source}
use Rattle.kp_run_prepare.specs.Prepared.{usual}
use Rattle.kp_run_prepare.proofs.Public.{problem_of_trees}
use Rattle.kp_run_inputs.specs.declared.tabled.Tabled.{Tabled}
use Rattle.kp_run_inputs.specs.Tabled.{ground_in, formula_in, IsTabledOf}
use Rattle.kp_run_inputs.proofs.Public.{table_of_source_is_for_trees}
use Rattle.kp_run_bench.specs.Working.{IsSafe}

pub is_safe : (limit : ℕ) (x y : List ℕ) (source : Source) (merges : List (List ℕ)) (t : Tabled) → IsTabledOf limit x y source merges t → FitsLimits (task_of (ground_in t) t.table) usual → IsSafe (ground_in t) (formula_in t) t.table
is_safe limit x y source merges t posed fits =
    let w = posed.prepared in
    let g = ground_of w.first w.second in
    let for = table_of_source_is_for_trees w.first w.second source merges t.table w.prepared.started.small (subst (λ (h : Ground). FitsLimits (task_of h t.table) usual) w.ground fits) posed.has_table in
    let alike = same_models g (initial_of w.first w.second) (formula_in t) (λ s. sym (w.primes.same_models s)) in
    record {
      writable = subst (λ (h : Ground). IsWritableTask h t.table) (sym w.ground) (tables_can_be_written x y (problem_of_trees x y w.first w.second w.trees) t.table for);
      right = t.right;
      valid = t.valid;
      never_clashes = never_clashes (ground_in t) (formula_in t) (subst (λ (h : Ground). IsClashFree h (formula_in t)) (sym w.ground) (alike.clash_free w.prepared.clash_free));
    }
