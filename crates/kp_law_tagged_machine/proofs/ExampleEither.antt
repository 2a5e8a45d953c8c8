-- An atom of unknown value, and a step for each value: each premise of completeness is met, and the plan needs a merge.
use Rattle.std.proofs.Common.{◌≡◌, ◌<◌, ◌≤◌, ℕ, zero, suc, Bool, true, false, not, ◌||◌, List, [], ◌∷◌, codes, slice_get, nat_lt, ltb-true, refl, sym, ap, subst, inl, inr, arith}
use Rattle.std.proofs.lemmas.Bool.{and_parts, false≢true}
use Rattle.std.specs.List.{list_any, list_all}
use Rattle.kp_base.specs.declared.lit.Lit.{Lit}
use Rattle.kp_base.specs.declared.ground.GroundName.{GroundName}
use Rattle.kp_base.specs.declared.ground.Action.{Action}
use Rattle.kp_base.specs.declared.ground.Ground.{Ground}
use Rattle.kp_base.specs.declared.ground.Initial.{Initial}
use Rattle.kp_base.specs.declared.ground.TagRow.{TagRow}
use Rattle.kp_base.specs.declared.ground.TagTable.{TagTable}
use Rattle.kp_base.specs.declared.ground.Merge.{Merge}
use Rattle.kp_base.specs.Planning.{Member, positive, negative, code_of, State, holds, IsLeastMissing, is_model, IsGroundPlan, Entails, HasModel, IsClosure, tag_holds, IsValid, AreValid, IsTable, NeverClashes, IsOfItsAtoms, IsCandidate, IsClauseFor, Meets, Covers, tags_of, IsTarget, IsCovered, IsComplete, MachineStep, accepts, stripped, one_tag_table}
use Rattle.kp_base.specs.Lit.{has}
use Rattle.kp_base.proofs.Lists.{all_member, any_member}
use Rattle.kp_base.proofs.Lits.{member-has}
use Rattle.kp_law_tagged_machine.proofs.ExampleCells.{below_all as literals_below}
use Rattle.kp_law_tagged_machine.proofs.OneSided.{never_clashes as one_sided_actions_never_clash}
use Rattle.kp_law_tagged_machine.proofs.OneTag.{is_table as one_tag_is_a_table}
use Rattle.kp_law_tagged_machine.proofs.Sound.{sound as accepted_lists_are_plans}
use Rattle.kp_law_tagged_machine.specs.Lifts.{lift_of, is_ready, UnliftedAt}
use Rattle.kp_law_tagged_machine.proofs.Relevance.{relevant_of_atoms}
use Rattle.kp_law_tagged_machine.proofs.Failing.{dont_lift}
use Rattle.kp_law_tagged_machine.proofs.Complete.{none_lost}

-- ---- the problem and its table

abbrev nullary : List ℕ → GroundName
nullary head = record { head = head; objects = [] }

-- q comes where this literal holds
abbrev q_where : Lit → Action
q_where l = record { name = nullary (codes "make"); pre = []; effects = record { cond = l ∷ []; result = positive 1 } ∷ [] }

-- it asks for q, and changes nothing
abbrev asking_q : Action
asking_q = record { name = nullary (codes "ask"); pre = positive 1 ∷ []; effects = [] }

-- p and q with any goal
abbrev either_to : List Lit → Ground
either_to goal = record {
  atoms = nullary (codes "p") ∷ nullary (codes "q") ∷ [];
  table = [];
  actions = q_where (positive 0) ∷ q_where (negative 0) ∷ asking_q ∷ [];
  goal = goal;
}

abbrev either : Ground
either = either_to (positive 1 ∷ [])

-- nothing is said of p, and q is false
abbrev p_unknown : Initial
p_unknown = record { clauses = []; closed = record { 0 = 1 } ∷ [] }

-- allowed nowhere, as one tag has p and the other its negation
abbrev merge_p : Merge
merge_p = record { target = positive 0; tags = 1 ∷ 2 ∷ [] }

abbrev merge_q : Merge
merge_q = record { target = positive 1; tags = 1 ∷ 2 ∷ [] }

abbrev table : TagTable
table = record {
  tags = record { lits = []; closure = negative 1 ∷ [] } ∷ record { lits = positive 0 ∷ []; closure = positive 0 ∷ negative 1 ∷ [] } ∷ record { lits = negative 0 ∷ []; closure = negative 0 ∷ negative 1 ∷ [] } ∷ [];
  merges = merge_p ∷ merge_q ∷ [];
}

-- ---- lifted lists

-- the second merge goes behind the last action
merge_is_last : lift_of either table (0 ∷ 1 ∷ []) ≡ MachineStep.act 0 ∷ MachineStep.act 1 ∷ MachineStep.merge 1 ∷ []
merge_is_last = refl

-- or before the action that needs it, and then no other is taken behind
merge_is_before : lift_of either table (0 ∷ 1 ∷ 2 ∷ []) ≡ MachineStep.act 0 ∷ MachineStep.act 1 ∷ MachineStep.merge 1 ∷ MachineStep.act 2 ∷ []
merge_is_before = refl

both_are_accepted : accepts either table (lift_of either table (0 ∷ 1 ∷ 2 ∷ [])) ≡ true
both_are_accepted = refl

-- without the merge the two steps aren't
none_without_merge : accepts either table (MachineStep.act 0 ∷ MachineStep.act 1 ∷ []) ≡ false
none_without_merge = refl

-- ---- failing lists

-- q alone is asked, and not known
q_is_least : (k : Lit → Bool) → k (positive 1) ≡ false → IsLeastMissing k (positive 1 ∷ []) (positive 1)
q_is_least k off = record { among = inl refl; missing = off; least = λ m there unknown. elim there [ inl e ↦ subst (λ (l : Lit). 2 ≤ code_of l) e (omega arith) | inr n ↦ absurd n ] }

-- at the second step, which asks for it
fails_at_step : UnliftedAt either table (0 ∷ 2 ∷ []) 1 (positive 1)
fails_at_step = record { in_range = omega arith; before = before; unknown = q_is_least _ refl }
  where
    before : (j : ℕ) → j < 1 → is_ready either table (0 ∷ 2 ∷ []) j ≡ true
    before zero lt = refl
    before (suc j) lt = absurd (omega (arith, lt))

-- at the goal, behind the last
fails_at_goal : UnliftedAt either table (0 ∷ []) 1 (positive 1)
fails_at_goal = record { in_range = omega arith; before = before; unknown = q_is_least _ refl }
  where
    before : (j : ℕ) → j < 1 → is_ready either table (0 ∷ []) j ≡ true
    before zero lt = refl
    before (suc j) lt = absurd (omega (arith, lt))

-- of two literals that aren't known the less is told, wherever it stands
less_is_told : UnliftedAt (either_to (positive 1 ∷ positive 0 ∷ [])) table [] 0 (positive 0)
less_is_told = record { in_range = omega arith; before = λ j lt. absurd (omega (arith, lt)); unknown = record { among = inr (inl refl); missing = refl; least = λ m there unknown. omega arith } }

-- so no list of steps that strips to the one action is accepted
one_never_lifts : (steps : List MachineStep) → stripped steps ≡ 0 ∷ [] → accepts either table steps ≡ false
one_never_lifts steps is = dont_lift either table steps 1 (positive 1) (subst (λ ns. UnliftedAt either table ns 1 (positive 1)) (sym is) fails_at_goal)

-- ---- the models

-- p alone
abbrev only_p : State
only_p zero = true
only_p (suc p) = false

-- nothing
abbrev none : State
none p = false

some_model : HasModel p_unknown
some_model = record { state = only_p; model = refl; all_true = refl }

not_q : (s : State) → is_model p_unknown s ≡ true → s 1 ≡ false
not_q s h = by (s 1) refl h
  where
    by : (b : Bool) → s 1 ≡ b → is_model p_unknown s ≡ true → s 1 ≡ false
    by false e h = e
    by true e h = absurd (false≢true (rw e at h))

-- a literal of the two atoms, by cases
by_literal : (P : Lit → Type 0) → P (positive 0) → P (negative 0) → P (positive 1) → P (negative 1) → (l : Lit) → l.atom.0 < 2 → P l
by_literal P a b c d l = by l.atom.0 l.positive
  where
    by : (p : ℕ) (sign : Bool) → p < 2 → P (record { atom = record { 0 = p }; positive = sign })
    by zero true below = a
    by zero false below = b
    by (suc zero) true below = c
    by (suc zero) false below = d
    by (suc (suc p)) sign below = absurd (omega arith)

-- ---- the table is right

-- literals that are true wherever a tag is, and all that are
closure_from : (lits closure : List Lit) → list_all (λ l. nat_lt l.atom.0 2) closure ≡ true → ((s : State) → is_model p_unknown s ≡ true → list_all (holds s) lits ≡ true → list_all (holds s) closure ≡ true) → ((l : Lit) → l.atom.0 < 2 → Entails p_unknown lits l → has closure l ≡ true) → IsClosure 2 p_unknown lits closure
closure_from lits closure below there whole = record {
  of_atoms = λ l h. literals_below 2 closure below l (member-has closure l h);
  entailed = λ l h s model met. all_member (holds s) closure l (member-has closure l h) (there s model met);
  whole = whole;
}

empty_is_right : IsClosure 2 p_unknown [] (negative 1 ∷ [])
empty_is_right = closure_from [] (negative 1 ∷ []) refl (λ s model met. rw (not_q s model) refl) (by_literal (λ l. Entails p_unknown [] l → has (negative 1 ∷ []) l ≡ true) (λ e. e none refl refl) (λ e. e only_p refl refl) (λ e. e none refl refl) (λ e. refl))

p_is_right : IsClosure 2 p_unknown (positive 0 ∷ []) (positive 0 ∷ negative 1 ∷ [])
p_is_right = closure_from (positive 0 ∷ []) (positive 0 ∷ negative 1 ∷ []) refl (λ s model met. rw ((and_parts (s 0) true met).0, not_q s model) refl) (by_literal (λ l. Entails p_unknown (positive 0 ∷ []) l → has (positive 0 ∷ negative 1 ∷ []) l ≡ true) (λ e. refl) (λ e. e only_p refl refl) (λ e. e only_p refl refl) (λ e. refl))

not_p_is_right : IsClosure 2 p_unknown (negative 0 ∷ []) (negative 0 ∷ negative 1 ∷ [])
not_p_is_right = closure_from (negative 0 ∷ []) (negative 0 ∷ negative 1 ∷ []) refl (λ s model met. rw ((and_parts (not (s 0)) true met).0, not_q s model) refl) (by_literal (λ l. Entails p_unknown (negative 0 ∷ []) l → has (negative 0 ∷ negative 1 ∷ []) l ≡ true) (λ e. e none refl refl) (λ e. refl) (λ e. e none refl refl) (λ e. refl))

right : IsTable either p_unknown table
right = record { first = (record { lits = []; closure = negative 1 ∷ [] }, refl, refl); tags = in_range; closures = closures }
  where
    in_range : (m : Merge) (t : ℕ) → Member table.merges m → Member m.tags t → t < 3
    in_range m t (inl e) in-tags = ltb-true t 3 (all_member (λ u. nat_lt u 3) m.tags t in-tags (subst (λ (x : Merge). list_all (λ u. nat_lt u 3) x.tags ≡ true) e refl))
    in_range m t (inr (inl e)) in-tags = ltb-true t 3 (all_member (λ u. nat_lt u 3) m.tags t in-tags (subst (λ (x : Merge). list_all (λ u. nat_lt u 3) x.tags ≡ true) e refl))
    in_range m t (inr (inr n)) in-tags = absurd n

    closures : (row : TagRow) → Member table.tags row → IsClosure 2 p_unknown row.lits row.closure
    closures row (inl e) = subst (λ (r : TagRow). IsClosure 2 p_unknown r.lits r.closure) e empty_is_right
    closures row (inr (inl e)) = subst (λ (r : TagRow). IsClosure 2 p_unknown r.lits r.closure) e p_is_right
    closures row (inr (inr (inl e))) = subst (λ (r : TagRow). IsClosure 2 p_unknown r.lits r.closure) e not_p_is_right
    closures row (inr (inr (inr n))) = absurd n

-- p is true or not
tags_are_valid : (target : Lit) → IsValid p_unknown table (record { target = target; tags = 1 ∷ 2 ∷ [] })
tags_are_valid target s model = by (s 0) refl
  where
    by : (b : Bool) → s 0 ≡ b → list_any (λ t. tag_holds (slice_get table.tags t) s) (1 ∷ 2 ∷ []) ≡ true
    by true e = rw e refl
    by false e = rw e refl

valid : AreValid p_unknown table
valid = record { each = each }
  where
    each : (m : Merge) → Member table.merges m → IsValid p_unknown table m
    each m (inl e) = subst (λ (x : Merge). IsValid p_unknown table x) e (tags_are_valid (positive 0))
    each m (inr (inl e)) = subst (λ (x : Merge). IsValid p_unknown table x) e (tags_are_valid (positive 1))
    each m (inr (inr n)) = absurd n

-- ---- the table is complete

of_atoms : IsOfItsAtoms either
of_atoms = record { few_atoms = omega arith; few_actions = omega arith; actions = refl; goal = refl }

-- q is what is asked for
target_is : (l : Lit) → IsTarget either l → positive 1 ≡ l
target_is l (IsTarget.of_goal (inl e)) = e
target_is l (IsTarget.of_goal (inr n)) = absurd n
target_is l (IsTarget.of_precondition a (inl e) in-pre) = subst (λ (b : Action). Member b.pre l → positive 1 ≡ l) e (λ n. absurd n) in-pre
target_is l (IsTarget.of_precondition a (inr (inl e)) in-pre) = subst (λ (b : Action). Member b.pre l → positive 1 ≡ l) e (λ n. absurd n) in-pre
target_is l (IsTarget.of_precondition a (inr (inr (inl e))) in-pre) = subst (λ (b : Action). Member b.pre l → positive 1 ≡ l) e (λ m. elim m [ inl f ↦ f | inr n ↦ absurd n ]) in-pre
target_is l (IsTarget.of_precondition a (inr (inr (inr n))) in-pre) = absurd n

-- a candidate clause has a true literal in each model
candidate_true : (s : State) → is_model p_unknown s ≡ true → (c : List Lit) → IsCandidate 2 p_unknown c → list_any (holds s) c ≡ true
candidate_true s model _ (IsCandidate.implicate c prime longer) = prime.implicate.holds_always s model
candidate_true s model _ (IsCandidate.unsettled p below differs) = by (s p)
  where
    by : (b : Bool) → (b || (not b || false)) ≡ true
    by true = refl
    by false = refl

-- a tag that entails what is true in one model meets each clause
meets_by : (tag : List Lit) (s : State) → is_model p_unknown s ≡ true → ((x : Lit) → x.atom.0 < 2 → holds s x ≡ true → Entails p_unknown tag x) → (c : List Lit) → IsClauseFor either.actions 2 p_unknown (positive 1) c → Meets p_unknown tag c
meets_by tag s model entails c for =
    let r = any_member (holds s) c (candidate_true s model c for.candidate) in
    record { lit = r.0; of_clause = r.1; entailed = entails r.0 (relevant_of_atoms either of_atoms r.0 (positive 1) (for.relevant r.0 r.1) (omega arith)) r.2 }

p_meets : (c : List Lit) → IsClauseFor either.actions 2 p_unknown (positive 1) c → Meets p_unknown (positive 0 ∷ []) c
p_meets = meets_by (positive 0 ∷ []) only_p refl (by_literal (λ x. holds only_p x ≡ true → Entails p_unknown (positive 0 ∷ []) x) (λ h s model met. (and_parts (s 0) true met).0) (λ h. absurd (false≢true h)) (λ h. absurd (false≢true h)) (λ h s model met. ap not (not_q s model)))

not_p_meets : (c : List Lit) → IsClauseFor either.actions 2 p_unknown (positive 1) c → Meets p_unknown (negative 0 ∷ []) c
not_p_meets = meets_by (negative 0 ∷ []) none refl (by_literal (λ x. holds none x ≡ true → Entails p_unknown (negative 0 ∷ []) x) (λ h. absurd (false≢true h)) (λ h s model met. (and_parts (not (s 0)) true met).0) (λ h. absurd (false≢true h)) (λ h s model met. ap not (not_q s model)))

merge_covers : Covers either p_unknown (tags_of table merge_q) (positive 1)
merge_covers tag c (inl e) for = subst (λ (t : List Lit). Meets p_unknown t c) e (p_meets c for)
merge_covers tag c (inr (inl e)) for = subst (λ (t : List Lit). Meets p_unknown t c) e (not_p_meets c for)
merge_covers tag c (inr (inr n)) for = absurd n

complete : IsComplete either p_unknown table
complete = record { each = λ l target. subst (IsCovered either p_unknown table) (target_is l target) (IsCovered.by_merge merge_q (inr (inl refl)) refl (tags_are_valid (positive 1)) merge_covers) }

-- ---- no plan is lost

never : NeverClashes either p_unknown
never = one_sided_actions_never_clash either p_unknown refl

two_are_a_plan : IsGroundPlan either p_unknown (0 ∷ 1 ∷ [])
two_are_a_plan = accepted_lists_are_plans either p_unknown table right valid never (MachineStep.act 0 ∷ MachineStep.act 1 ∷ MachineStep.merge 1 ∷ []) refl

two_lift : accepts either table (lift_of either table (0 ∷ 1 ∷ [])) ≡ true
two_lift = none_lost either p_unknown table of_atoms some_model right complete (0 ∷ 1 ∷ []) two_are_a_plan

-- with the empty tag alone the plan is lost
lost_without_merge : accepts either (one_tag_table (negative 1 ∷ [])) (lift_of either (one_tag_table (negative 1 ∷ [])) (0 ∷ 1 ∷ [])) ≡ false
lost_without_merge = refl

-- so that table isn't complete
one_tag_is_incomplete : IsComplete either p_unknown (one_tag_table (negative 1 ∷ [])) → ⊥
one_tag_is_incomplete whole = false≢true (none_lost either p_unknown (one_tag_table (negative 1 ∷ [])) of_atoms some_model (one_tag_is_a_table either p_unknown (negative 1 ∷ []) empty_is_right).0 whole (0 ∷ 1 ∷ []) two_are_a_plan)
