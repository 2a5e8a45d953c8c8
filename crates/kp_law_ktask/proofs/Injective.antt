-- One step by name is of one step of the machine.
use Rattle.std.proofs.Common.{◌≡◌, ◌<◌, ℕ, List, ◌++◌, Option, Some, None, option_map, map, length, slice_get, codes, drop, refl, sym, ap, subst, ◌∙◌, arith}
use Rattle.std.proofs.lemmas.Bool.{false≢true}
use Rattle.std.proofs.lemmas.Option.{slice_get-map, slice_get_within, same_Some}
use Rattle.kp_base.specs.declared.ground.Action.{Action}
use Rattle.kp_base.specs.declared.ground.Ground.{Ground}
use Rattle.kp_base.specs.declared.ground.TagTable.{TagTable}
use Rattle.kp_base.specs.declared.ground.Merge.{Merge}
use Rattle.kp_base.specs.Machine.{MachineStep}
use Rattle.kp_base.proofs.Lists.{same-refl}
use Rattle.kp_names_semantics.specs.Problems.{same, Step, encoded}
use Rattle.kp_write.specs.Tasks.{op_step}
use Rattle.kp_names_semantics.proofs.Public.{names_are_encoded_once}
use Rattle.kp_law_ktask.specs.Task.{op_of, merge_op, merge_word}
use Rattle.kp_law_ktask.specs.Accepted.{step_at}
use Rattle.kp_law_ktask.specs.Laws.{StepsAreInjective}
use Rattle.kp_law_ktask.proofs.Facts.{one_place}
use Rattle.kp_law_ktask.proofs.MergeNames.{one_merge, action_no_merge}

-- the step by name is that of the action of this number
record IsAction (g : Ground) (n : ℕ) (step : Step) : Type 0 where
  pub action : Action
  pub at : slice_get g.actions n ≡ Some action
  pub head : codes "do_-" ++ encoded action.name ≡ step.head

-- the step by name is that of the merge of this number
record IsMergeStep (table : TagTable) (m : ℕ) (step : Step) : Type 0 where
  pub less : m < length table.merges
  pub head : merge_word m ≡ step.head

action_step : (g : Ground) (table : TagTable) (n : ℕ) (step : Step) → step_at g table (MachineStep.act n) ≡ Some step → IsAction g n step
action_step g table n step e = go (slice_get g.actions n) refl where
  go : (x : Option Action) → slice_get g.actions n ≡ x → IsAction g n step
  go None is = let gone : None ≡ Some step = subst (λ (x : Option Action). option_map op_step (option_map (op_of (length g.atoms) (length table.tags)) x) ≡ Some step) is e in absurd cc
  go (Some a) is =
      let here : Some (op_step (op_of (length g.atoms) (length table.tags) a)) ≡ Some step = subst (λ (x : Option Action). option_map op_step (option_map (op_of (length g.atoms) (length table.tags)) x) ≡ Some step) is e in
      record { action = a; at = is; head = ap (λ (s : Step). s.head) (same_Some (op_step (op_of (length g.atoms) (length table.tags) a)) step here) }

merge_step : (g : Ground) (table : TagTable) (n : ℕ) (step : Step) → step_at g table (MachineStep.merge n) ≡ Some step → IsMergeStep table n step
merge_step g table n step e = go (slice_get table.merges n) refl where
  go : (x : Option Merge) → slice_get table.merges n ≡ x → IsMergeStep table n step
  go None is = let gone : None ≡ Some step = subst (λ (x : Option Merge). option_map op_step (option_map (merge_op (length g.atoms) n) x) ≡ Some step) is e in absurd cc
  go (Some a) is =
      let here : Some (op_step (merge_op (length g.atoms) n a)) ≡ Some step = subst (λ (x : Option Merge). option_map op_step (option_map (merge_op (length g.atoms) n) x) ≡ Some step) is e in
      record { less = slice_get_within table.merges n a is; head = ap (λ (s : Step). s.head) (same_Some (op_step (merge_op (length g.atoms) n a)) step here) }

mixed : (w : List ℕ) (m : ℕ) → codes "do_-" ++ w ≡ merge_word m → ⊥
mixed w m e = false≢true (sym (action_no_merge w m) ∙ ap (λ v. same v (merge_word m)) e ∙ same-refl (merge_word m))

pub injective : StepsAreInjective
injective g table w (MachineStep.act n) (MachineStep.act m) step e f =
    let x = action_step g table n step e in
    let y = action_step g table m step f in
    let one : x.action.name ≡ y.action.name = names_are_encoded_once x.action.name y.action.name (ap (drop 4) (x.head ∙ sym y.head)) in
    ap MachineStep.act (one_place (map (λ a. a.name) g.actions) w.ground.actions_differ n m x.action.name
    (slice_get-map (λ (a : Action). a.name) g.actions n ∙ ap (option_map (λ (a : Action). a.name)) x.at)
    (slice_get-map (λ (a : Action). a.name) g.actions m ∙ ap (option_map (λ (a : Action). a.name)) y.at ∙ ap Some (sym one)))
injective g table w (MachineStep.act n) (MachineStep.merge m) step e f = let x = action_step g table n step e in absurd (mixed (encoded x.action.name) m (x.head ∙ sym (merge_step g table m step f).head))
injective g table w (MachineStep.merge n) (MachineStep.act m) step e f = let x = action_step g table m step f in absurd (mixed (encoded x.action.name) n (x.head ∙ sym (merge_step g table n step e).head))
injective g table w (MachineStep.merge n) (MachineStep.merge m) step e f =
    let x = merge_step g table n step e in
    let y = merge_step g table m step f in
    ap MachineStep.merge (one_merge n m (omega (arith, x.less, w.merges_fit)) (omega (arith, y.less, w.merges_fit)) (x.head ∙ sym y.head))
