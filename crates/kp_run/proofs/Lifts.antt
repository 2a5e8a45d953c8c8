-- What a plan is lifted to, from what the code finds.
use Rattle.std.proofs.Common.{◌≡◌, ◌∙◌, ℕ, true, nat_lt, List, length, map, Result, Ok, Err, IfOk, sym, ap}
use Rattle.std.specs.List.{list_all}
use Rattle.std.proofs.lemmas.Bool.{lt-ltb}
use Rattle.std.proofs.lemmas.Option.{slice_get_within}
use Rattle.kp_base.specs.declared.lit.Lit.{Lit}
use Rattle.kp_base.specs.declared.memory.Memory.{Memory}
use Rattle.kp_base.specs.declared.ground.Ground.{Ground}
use Rattle.kp_base.specs.declared.ground.TagTable.{TagTable}
use Rattle.kp_base.proofs.Lists.{all_from}
use Rattle.kp_base.proofs.Lits.{has-member}
use Rattle.kp_law_ktask.specs.Task.{task_of}
use Rattle.kp_run_outcome.specs.declared.outcome.Outcome.{Outcome}
use Rattle.kp_run_inputs.specs.declared.tabled.Tabled.{Tabled}
use Rattle.kp_run_inputs.specs.Tabled.{ground_in}
use Rattle.kp_lift.specs.declared.lifting.Lifting.TheVariants as Lifting
use Rattle.kp_law_ktask.specs.Accepted.{operator_step}
use Rattle.kp_lift.specs.Lifting.{IsTableOn, AnswersLifting}
use Rattle.kp_lift.proofs.Public.{lifted_operators_are_steps}
use Rattle.kp_run_messages.specs.Lifting.{unlifted_text}
use Rattle.kp_run_outcome.specs.Printing.{denies}
use Rattle.kp_run.specs.Lift.{LiftsActions, lifts, fails}
use Rattle.kp_run.specs.Check.{failing_step}
use Rattle.kp_run.specs.CommandParts.{PrintsOperators}

-- ---- with a table

-- a table that is right is on the atoms of the ground problem
pub table_on : (t : Tabled) → IsTableOn (ground_in t) t.table
table_on t = record {
  some_tag = slice_get_within t.table.tags 0 t.right.first.0 t.right.first.1;
  closures = λ row there. all_from (λ l. nat_lt l.atom.0 (length (ground_in t).atoms)) row.closure (λ l in-closure. lt-ltb l.atom.0 (length (ground_in t).atoms) ((t.right.closures row there).of_atoms l (has-member row.closure l in-closure)));
  targets = t.targets;
  tags = t.right.tags;
}

-- ---- actions

-- the lifted operators are printed
pub lifted_printed : (g : Ground) (table : TagTable) (ns ops : List ℕ) (r : Result Outcome Memory) → list_all (λ n. nat_lt n (length g.actions)) ns ≡ true → AnswersLifting g table ns (Lifting.Lifted ops) → IfOk r (PrintsOperators (task_of g table) ops) → IfOk r (LiftsActions g table ns)
lifted_printed g table ns ops (Ok o) inside h printed =
    lifts printed.steps (record { steps_are = sym (lifted_operators_are_steps g table ns inside) ∙ (ap (map (operator_step (task_of g table))) (sym h.0) ∙ printed.are); accepted = h.1 }) printed.printed
lifted_printed g table ns ops (Err m) inside h printed = tt

-- it is told where lifting fails
pub unlifted_told : (g : Ground) (table : TagTable) (ns : List ℕ) (k : ℕ) (l : Lit) (r : Result Outcome Memory) → AnswersLifting g table ns (Lifting.Unlifted k l) → IfOk r (λ o. o ≡ denies (unlifted_text g.atoms (failing_step (length ns) k) l)) → IfOk r (LiftsActions g table ns)
unlifted_told g table ns k l (Ok o) h told = fails k l h.0 told
unlifted_told g table ns k l (Err m) h told = tt
