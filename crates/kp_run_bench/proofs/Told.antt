-- What is told of what is found, from what the code makes.
use Rattle.std.proofs.Common.{◌≡◌, ℕ, List, map, length, Result, Ok, Err, IfOk, sym, ap, ◌∙◌, subst}
use Rattle.kp_base.specs.declared.memory.Memory.{Memory}
use Rattle.kp_base.specs.declared.ground.Ground.{Ground}
use Rattle.kp_base.specs.declared.ground.Initial.{Initial}
use Rattle.kp_base.specs.declared.ground.TagTable.{TagTable}
use Rattle.kp_base.specs.declared.lit.Lit.{Lit}
use Rattle.kp_base.specs.Covering.{AreUncovered}
use Rattle.kp_base.specs.Machine.{stripped}
use Rattle.kp_base.specs.Steps.{IsGroundPlan}
use Rattle.kp_run_outcome.specs.declared.outcome.Outcome.{Outcome}
use Rattle.kp_run_outcome.specs.Printing.{prints}
use Rattle.kp_words.specs.Asked.{Asked}
use Rattle.kp_run_solve.specs.Operators.{step_of, acts_among}
use Rattle.kp_run_solve.proofs.Public.{actions_among_steps, operator_numbers_back}
use Rattle.kp_run_bench.specs.Summary.{summary_text}
use Rattle.kp_run_bench.specs.Bench.{SumsUp}

-- a summary is printed
pub summary_printed : (c : Asked) (g : Ground) (i : Initial) (table : TagTable) (ls : List Lit) (steps expanded : ℕ) (o : Outcome) → AreUncovered g i table ls → o ≡ prints (summary_text c g table ls steps expanded)
    → (uncovered : List Lit) × AreUncovered g i table uncovered × (o ≡ prints (summary_text c g table uncovered steps expanded))
summary_printed c g i table ls steps expanded o are is = (ls, are, is)

-- it is that of a plan, of which these are the actions
pub plan_told : (c : Asked) (g : Ground) (i : Initial) (table : TagTable) (ops numbers : List ℕ) (expanded : ℕ) (r : Result Outcome Memory) → numbers ≡ acts_among (length g.actions) ops → IsGroundPlan g i numbers
    → IfOk r (λ o. (uncovered : List Lit) × AreUncovered g i table uncovered × (o ≡ prints (summary_text c g table uncovered (length numbers) expanded))) → IfOk r (SumsUp c g i table ops expanded)
plan_told c g i table ops numbers expanded (Ok o) are works h =
    let same : numbers ≡ stripped (map (step_of g) ops) = are ∙ sym (actions_among_steps g ops) in
    record {
      machine = map (step_of g) ops;
      numbers = operator_numbers_back g ops;
      works = subst (IsGroundPlan g i) same works;
      uncovered = h.0;
      are_uncovered = h.1;
      told = h.2 ∙ ap (λ (ns : List ℕ). prints (summary_text c g table h.0 (length ns) expanded)) same;
    }
plan_told c g i table ops numbers expanded (Err m) are works h = tt
