-- With a complete table each plan lifts.
use Rattle.std.proofs.Common.{◌≡◌, ◌<◌, ℕ, true, List, [], ◌∷◌, ◌++◌, Option, Some, None, length, slice_get, refl, sym, subst, inl}
use Rattle.std.proofs.lemmas.Bool.{and_parts, and_from, false≢true}
use Rattle.std.proofs.lemmas.List.{append_assoc}
use Rattle.std.proofs.lemmas.Option.{slice_get_within}
use Rattle.kp_base.specs.declared.lit.Lit.{Lit}
use Rattle.kp_base.specs.declared.ground.Action.{Action}
use Rattle.kp_base.specs.declared.ground.Ground.{Ground}
use Rattle.kp_base.specs.declared.ground.Initial.{Initial}
use Rattle.kp_base.specs.declared.ground.TagRow.{TagRow}
use Rattle.kp_base.specs.declared.ground.TagTable.{TagTable}
use Rattle.kp_base.specs.Lit.{has}
use Rattle.kp_base.specs.Planning.{State, Valuation, holds, next, applicable, state_after, succeeds, is_model, IsTable, IsOfItsAtoms, IsClauseFor, Meets, lits_of, IsTarget, IsCovered, IsComplete, Known, closure_of, start, may_act, after_act}
use Rattle.kp_base.proofs.Lists.{member_at, member_map, all_member, all_from}
use Rattle.kp_base.proofs.Places.{element}
use Rattle.kp_law_tagged_machine.proofs.Monotone.{facts_more_all}
use Rattle.kp_law_tagged_machine.specs.Lifts.{after_merges}
use Rattle.kp_law_tagged_machine.specs.Completeness.{NoPlanIsLost}
use Rattle.kp_law_tagged_machine.proofs.Merges.{after_merges_more, merge_taken}
use Rattle.kp_law_tagged_machine.proofs.Lifted.{known_after, lifts_from, lifted_accepted}
use Rattle.kp_law_tagged_machine.proofs.Relevance.{pre_of_atoms, goal_of_atoms}
use Rattle.kp_law_tagged_machine.proofs.Facts.{facts_next, facts_run, facts_run_push, facts_run_true}
use Rattle.kp_law_tagged_machine.proofs.Covered.{covered_known}

-- behind a plan's first steps the rest succeeds
succeeds_later : (g : Ground) (s : State) (xs ys : List ℕ) → succeeds g s (xs ++ ys) ≡ true → succeeds g (state_after g s xs) ys ≡ true
succeeds_later g s [] ys h = h
succeeds_later g s (x ∷ xs) ys h =
    let o = slice_get g.actions x in
    succeeds_later g (next o s) xs ys (and_parts (applicable o s) (succeeds g (next o s) (xs ++ ys)) h).1

-- each tag knows what the actions so far give from its closure
abbrev Knows_all_after : Ground → TagTable → List ℕ → Known → Type 0
Knows_all_after g table before k = (t : ℕ) (l : Lit) → facts_run g (start table t) before l ≡ true → k t l ≡ true

-- with one more action
after_one_more : (g : Ground) (table : TagTable) (before : List ℕ) (n : ℕ) (k : Known) → Knows_all_after g table before k → Knows_all_after g table (before ++ n ∷ []) (known_after g table k n)
after_one_more g table before n k knows t l h = by (slice_get g.actions n) (subst (λ (f : Valuation). f l ≡ true) (facts_run_push g (start table t) before n) h)
  where
    by : (o : Option Action) → facts_next o (facts_run g (start table t) before) l ≡ true → after_act o (after_merges table.merges k) t l ≡ true
    by None e = after_merges_more table.merges k t l (knows t l e)
    by (Some a) e = facts_more_all a (facts_run g (start table t) before) (after_merges table.merges k t) (λ m f. after_merges_more table.merges k t m (knows t m f)) l e

module _ (g : Ground) (i : Initial) (table : TagTable) (m₀ : State) (model₀ : is_model i m₀ ≡ true) (of_atoms : IsOfItsAtoms g) (right : IsTable g i table) (complete : IsComplete g i table) where
  -- the actions make the literal true from each model
  abbrev Always : List ℕ → Lit → Type 0
  Always ns l = (s : State) → is_model i s ≡ true → facts_run g (holds s) ns l ≡ true

  -- a tag of the table that meets each clause for a literal knows it, where the actions always make it true
  known_under : (ns : List ℕ) (l : Lit) → l.atom.0 < length g.atoms → Always ns l → (t : ℕ) → t < length table.tags → ((c : List Lit) → IsClauseFor g.actions (length g.atoms) i l c → Meets i (lits_of (slice_get table.tags t)) c) → facts_run g (start table t) ns l ≡ true
  known_under ns l below always t there meets =
      let row = element table.tags t there in by row.0 row.1
    where
      by : (row : TagRow) → slice_get table.tags t ≡ Some row → facts_run g (start table t) ns l ≡ true
      by row is =
          subst (λ (o : Option TagRow). facts_run g (has (closure_of o)) ns l ≡ true) (sym is)
          (covered_known g i m₀ model₀ of_atoms row.lits row.closure (right.closures row (member_at table.tags t row is)) ns l below
          (λ c for. subst (λ (o : Option TagRow). Meets i (lits_of o) c) is (meets c for)) always)

  -- so a target that the actions always make true is known after the merges
  target_known : (ns : List ℕ) (k : Known) → Knows_all_after g table ns k → (l : Lit) → l.atom.0 < length g.atoms → IsTarget g l → Always ns l → after_merges table.merges k 0 l ≡ true
  target_known ns k knows l below target always = by (complete.each l target)
    where
      by : IsCovered g i table l → after_merges table.merges k 0 l ≡ true
      by (IsCovered.by_empty_tag covers) =
          let first = right.first in
          let empty : lits_of (slice_get table.tags 0) ≡ [] = rw first.1 first.2 in
          after_merges_more table.merges k 0 l (knows 0 l
          (known_under ns l below always 0 (slice_get_within table.tags 0 first.0 first.1) (λ c for. subst (λ (ls : List Lit). Meets i ls c) (sym empty) (covers [] c (inl refl) for))))
      by (IsCovered.by_merge m in-table same valid covers) =
          subst (λ (x : Lit). after_merges table.merges k 0 x ≡ true) same
          (merge_taken table.merges k m in-table (all_from (λ t. k t m.target) m.tags (λ t in-tags.
          subst (λ (x : Lit). k t x ≡ true) (sym same) (knows t l
          (known_under ns l below always t (right.tags m t in-table in-tags) (λ c for. covers (lits_of (slice_get table.tags t)) c (member_map (λ u. lits_of (slice_get table.tags u)) m.tags t in-tags) for))))))

  -- what is left of a plan lifts behind its first steps
  lifts_after : (ns before : List ℕ) (k : Known) → Knows_all_after g table before k → ((s : State) → is_model i s ≡ true → succeeds g s (before ++ ns) ≡ true) → lifts_from g table k ns ≡ true
  lifts_after [] before k knows plan =
      all_from (after_merges table.merges k 0) g.goal (λ l in-goal.
      target_known before k knows l (goal_of_atoms g of_atoms l in-goal) (IsTarget.of_goal in-goal)
      (λ s model. facts_run_true g before s l (all_member (holds (state_after g s before)) g.goal l in-goal (succeeds_later g s before [] (plan s model)))))
  lifts_after (n ∷ ns) before k knows plan =
      by (slice_get g.actions n) refl
      (lifts_after ns (before ++ n ∷ []) (known_after g table k n) (after_one_more g table before n k knows)
      (λ s model. subst (λ (xs : List ℕ). succeeds g s xs ≡ true) (sym (append_assoc before (n ∷ []) ns)) (plan s model)))
    where
      ready : (s : State) → is_model i s ≡ true → applicable (slice_get g.actions n) (state_after g s before) ≡ true
      ready s model = (and_parts (applicable (slice_get g.actions n) (state_after g s before)) (succeeds g (next (slice_get g.actions n) (state_after g s before)) ns) (succeeds_later g s before (n ∷ ns) (plan s model))).0

      allowed : (a : Action) → slice_get g.actions n ≡ Some a → may_act (Some a) (after_merges table.merges k) ≡ true
      allowed a is = all_from (after_merges table.merges k 0) a.pre (λ l in-pre.
          let in-actions = member_at g.actions n a is in
          target_known before k knows l (pre_of_atoms g of_atoms a l in-actions in-pre) (IsTarget.of_precondition a in-actions in-pre)
          (λ s model. facts_run_true g before s l (all_member (holds (state_after g s before)) a.pre l in-pre (subst (λ (o : Option Action). applicable o (state_after g s before) ≡ true) is (ready s model)))))

      by : (o : Option Action) → slice_get g.actions n ≡ o → lifts_from g table (known_after g table k n) ns ≡ true → lifts_from g table k (n ∷ ns) ≡ true
      by None is rest = absurd (false≢true (subst (λ (o : Option Action). applicable o (state_after g m₀ before) ≡ true) is (ready m₀ model₀)))
      by (Some a) is rest = and_from (may_act (slice_get g.actions n) (after_merges table.merges k)) (lifts_from g table (known_after g table k n) ns) (rw is (allowed a is)) rest

-- nothing is asked of clashes: where an action adds and deletes one atom together, the tags know more than is true, not less
pub none_lost : NoPlanIsLost
none_lost g i table of_atoms some right complete ns plan =
    lifted_accepted g table ns (start table) (lifts_after g i table some.state some.model of_atoms right complete ns [] (start table) (λ t l h. h) plan)
