-- After operators from the start, the facts that hold are what the machine knows.
use Rattle.std.proofs.Common.{◌≡◌, List, [], ◌∷◌, Option, Some, None, option_map, length, slice_get, refl, subst, arith}
use Rattle.std.proofs.lemmas.Option.{same_Some}
use Rattle.kp_base.specs.declared.ground.Action.{Action}
use Rattle.kp_base.specs.declared.ground.Ground.{Ground}
use Rattle.kp_base.specs.declared.ground.TagTable.{TagTable}
use Rattle.kp_base.specs.declared.ground.Merge.{Merge}
use Rattle.kp_base.specs.Machine.{MachineStep, Known, start as known_at_start, after_act, after_merge}
use Rattle.kp_base.proofs.Each.{each_member}
use Rattle.kp_base.proofs.Lists.{member_at}
use Rattle.kp_names_semantics.specs.Names.{is_among}
use Rattle.kp_write.specs.Operators.{Op}
use Rattle.kp_write.specs.Grounds.{IsGroundAction}
use Rattle.kp_write.specs.Runs.{Facts, after_op}
use Rattle.kp_law_ktask.specs.Task.{start_of}
use Rattle.kp_law_ktask.specs.ByName.{op_of, merge_op, names_of}
use Rattle.kp_law_ktask.specs.Writable.{IsWritableTask, IsMergeOn}
use Rattle.kp_law_ktask.specs.Known.{held_after, known_after}
use Rattle.kp_law_ktask.specs.Laws.{FactsAreKnown}
use Rattle.kp_law_ktask.proofs.Operators.{AgreeBelow, goes_on}
use Rattle.kp_law_ktask.proofs.Start.{start_has, merge_goes_on}
use Rattle.kp_law_ktask.proofs.Runs.{AreAt}

module _ (g : Ground) (table : TagTable) (w : IsWritableTask g table) where
  abbrev AgreeAll : Facts → Known → Type 0
  AgreeAll s k = AgreeBelow g.atoms w.ground.atoms w.ground.atoms_differ (length table.tags) s k

  follow : (ms : List MachineStep) (os : List Op) → AreAt g table ms os → (s : Facts) (k : Known) → AgreeAll s k → AgreeAll (held_after os s) (known_after g table ms k)
  follow [] [] at s k agree = agree
  follow [] (o ∷ os) at s k agree = absurd cc
  follow (m ∷ ms) [] at s k agree = absurd cc
  follow (MachineStep.act n ∷ ms) (o ∷ os) at s k agree =
      let here : option_map (op_of g.atoms (length table.tags)) (slice_get g.actions n) ≡ Some o = cc in
      let rest : AreAt g table ms os = cc in
      go here (follow ms os rest) (slice_get g.actions n) refl
    where
      go : option_map (op_of g.atoms (length table.tags)) (slice_get g.actions n) ≡ Some o → ((s : Facts) (k : Known) → AgreeAll s k → AgreeAll (held_after os s) (known_after g table ms k)) → (x : Option Action) → slice_get g.actions n ≡ x → AgreeAll (held_after (o ∷ os) s) (known_after g table ms (after_act x k))
      go here rest None is = let gone : None ≡ Some o = subst (λ (x : Option Action). option_map (op_of g.atoms (length table.tags)) x ≡ Some o) is here in absurd cc
      go here rest (Some a) is =
          let it : op_of g.atoms (length table.tags) a ≡ o = same_Some (op_of g.atoms (length table.tags) a) o (subst (λ (x : Option Action). option_map (op_of g.atoms (length table.tags)) x ≡ Some o) is here) in
          let can : IsGroundAction g.atoms a = each_member (IsGroundAction g.atoms) g.actions a w.ground.actions (member_at g.actions n a is) in
          subst (λ (z : Op). AgreeAll (held_after (z ∷ os) s) (known_after g table ms (after_act (Some a) k))) it
          (rest (after_op (op_of g.atoms (length table.tags) a) s) (after_act (Some a) k) (goes_on g.atoms w.ground.atoms w.ground.atoms_differ (length table.tags) w.tags_fit s k agree a can))
  follow (MachineStep.merge n ∷ ms) (o ∷ os) at s k agree =
      let here : option_map (merge_op g.atoms n) (slice_get table.merges n) ≡ Some o = cc in
      let rest : AreAt g table ms os = cc in
      go here (follow ms os rest) (slice_get table.merges n) refl
    where
      go : option_map (merge_op g.atoms n) (slice_get table.merges n) ≡ Some o → ((s : Facts) (k : Known) → AgreeAll s k → AgreeAll (held_after os s) (known_after g table ms k)) → (x : Option Merge) → slice_get table.merges n ≡ x → AgreeAll (held_after (o ∷ os) s) (known_after g table ms (after_merge x k))
      go here rest None is = let gone : None ≡ Some o = subst (λ (x : Option Merge). option_map (merge_op g.atoms n) x ≡ Some o) is here in absurd cc
      go here rest (Some a) is =
          let it : merge_op g.atoms n a ≡ o = same_Some (merge_op g.atoms n a) o (subst (λ (x : Option Merge). option_map (merge_op g.atoms n) x ≡ Some o) is here) in
          let can : IsMergeOn g.atoms (length table.tags) a = each_member (IsMergeOn g.atoms (length table.tags)) table.merges a w.merges (member_at table.merges n a is) in
          subst (λ (z : Op). AgreeAll (held_after (z ∷ os) s) (known_after g table ms (after_merge (Some a) k))) it
          (rest (after_op (merge_op g.atoms n a) s) (after_merge (Some a) k) (merge_goes_on g.atoms w.ground.atoms w.ground.atoms_differ (length table.tags) w.tags_fit s k agree n a can.target))

pub facts_are_known : FactsAreKnown
facts_are_known g table w ms os at t l below b =
    follow g table w ms os at (is_among (names_of g (start_of table))) (known_at_start table)
    (λ t below l b. start_has g.atoms w.ground.atoms w.ground.atoms_differ table.tags w.rows 0 t t (omega arith) below (omega (arith, w.tags_fit)) l b) t below l b
