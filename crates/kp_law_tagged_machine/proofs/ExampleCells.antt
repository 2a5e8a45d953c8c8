-- Three cells in a row, something in just one of them, and the step to the left: each premise of soundness is met.
use Rattle.std.proofs.Common.{◌≡◌, ◌<◌, ◌≤◌, ℕ, zero, suc, Bool, true, false, ◌&&◌, List, [], ◌∷◌, Some, codes, slice_get, nat_lt, nat_eq, ltb-true, eqb-true, refl, sym, subst, ◌∙◌, inl, inr, arith}
use Rattle.std.proofs.lemmas.Bool.{and_parts, and_from, and_left, false≢true, false_from_ne_true}
use Rattle.std.specs.List.{list_any, list_all}
use Rattle.kp_base.specs.declared.lit.Lit.{Lit}
use Rattle.kp_base.specs.declared.ground.GroundName.{GroundName}
use Rattle.kp_base.specs.declared.ground.Effect.{Effect}
use Rattle.kp_base.specs.declared.ground.Action.{Action}
use Rattle.kp_base.specs.declared.ground.Ground.{Ground}
use Rattle.kp_base.specs.declared.ground.Initial.{Initial}
use Rattle.kp_base.specs.declared.ground.TagRow.{TagRow}
use Rattle.kp_base.specs.declared.ground.TagTable.{TagTable}
use Rattle.kp_base.specs.declared.ground.Merge.{Merge}
use Rattle.kp_base.specs.Planning.{atom, Member, positive, negative, State, IsBounded, holds, is_model, fires, after, runs, state_after, IsGroundPlan, tag_holds, Entails, IsConsistent, IsClosure, IsValid, AreValid, IsTable, clashes_at, NeverClashes, MachineStep, start, facts_after, after_merge, accepts, stripped}
use Rattle.kp_base.specs.Steps.{has}
use Rattle.kp_base.proofs.Lists.{all_member}
use Rattle.kp_base.proofs.Lits.{member-has}
use Rattle.kp_law_tagged_machine.specs.Laws.{facts_after_operator}
use Rattle.kp_law_tagged_machine.proofs.Sound.{sound}

-- ---- the problem and its table

abbrev pub nullary : List ℕ → GroundName
nullary head = record { head = head; objects = [] }

abbrev pub effect : ℕ → Lit → Effect
effect p l = record { cond = positive p ∷ []; result = l }

abbrev pub left : Action
left = record {
  name = nullary (codes "left");
  pre = [];
  effects = effect 2 (positive 1) ∷ effect 2 (negative 2) ∷ effect 1 (positive 0) ∷ effect 1 (negative 1) ∷ [];
}

-- the cells with any goal
abbrev pub cells_to : List Lit → Ground
cells_to goal = record {
  atoms = nullary (codes "x1") ∷ nullary (codes "x2") ∷ nullary (codes "x3") ∷ [];
  table = atom 0 [] ∷ atom 1 [] ∷ atom 2 [] ∷ [];
  actions = left ∷ [];
  goal = goal;
}

abbrev pub cells : Ground
cells = cells_to (positive 0 ∷ [])

-- exactly one of the three
abbrev pub one_of_three : Initial
one_of_three = record {
  clauses = (positive 0 ∷ positive 1 ∷ positive 2 ∷ []) ∷ (negative 0 ∷ negative 1 ∷ []) ∷ (negative 0 ∷ negative 2 ∷ []) ∷ (negative 1 ∷ negative 2 ∷ []) ∷ [];
  closed = [];
}

abbrev pub first : List Lit
first = positive 0 ∷ negative 1 ∷ negative 2 ∷ []

abbrev pub second : List Lit
second = negative 0 ∷ positive 1 ∷ negative 2 ∷ []

abbrev pub third : List Lit
third = negative 0 ∷ negative 1 ∷ positive 2 ∷ []

abbrev pub table : TagTable
table = record {
  tags = record { lits = []; closure = [] } ∷ record { lits = positive 0 ∷ []; closure = first } ∷ record { lits = positive 1 ∷ []; closure = second } ∷ record { lits = positive 2 ∷ []; closure = third } ∷ [];
  merges = record { target = positive 0; tags = 1 ∷ 2 ∷ 3 ∷ [] } ∷ [];
}

-- ---- accepted lists

abbrev pub two_and_merge : List MachineStep
two_and_merge = MachineStep.act 0 ∷ MachineStep.act 0 ∷ MachineStep.merge 0 ∷ []

two_are_accepted : accepts cells table two_and_merge ≡ true
two_are_accepted = refl

two_are_left : stripped two_and_merge ≡ 0 ∷ 0 ∷ []
two_are_left = refl

one_is_refused : accepts cells table (MachineStep.act 0 ∷ MachineStep.merge 0 ∷ []) ≡ false
one_is_refused = refl

no_merge_is_refused : accepts cells table (MachineStep.act 0 ∷ MachineStep.act 0 ∷ []) ≡ false
no_merge_is_refused = refl

early_merge_is_refused : accepts cells table (MachineStep.act 0 ∷ MachineStep.merge 0 ∷ MachineStep.act 0 ∷ []) ≡ false
early_merge_is_refused = refl

no_action_is_refused : accepts cells table (MachineStep.act 1 ∷ []) ≡ false
no_action_is_refused = refl

-- a merge makes its target known under tag 0, and under no other tag
merged_at_0 : after_merge (Some (record { target = positive 0; tags = 1 ∷ [] })) (start table) 0 (positive 0) ≡ true
merged_at_0 = refl

merged_nowhere_else : after_merge (Some (record { target = positive 0; tags = 1 ∷ [] })) (start table) 3 (positive 0) ≡ false
merged_nowhere_else = refl

-- ---- what persists

-- it isn't known whether the second cell is full, so the first may be filled
empty_goes : facts_after left (has (negative 0 ∷ [])) (negative 0) ≡ false
empty_goes = refl

-- nor is it known to be filled
full_is_unknown : facts_after left (has (negative 0 ∷ [])) (positive 0) ≡ false
full_is_unknown = refl

-- where the second cell is known to be empty, the first stays so
empty_stays : facts_after left (has (negative 0 ∷ negative 1 ∷ [])) (negative 0) ≡ true
empty_stays = refl

operator_cancels : facts_after_operator left (has (negative 0 ∷ [])) (negative 0) ≡ false
operator_cancels = refl

operator_keeps : facts_after_operator left (has (negative 0 ∷ negative 1 ∷ [])) (negative 0) ≡ true
operator_keeps = refl

-- ---- the models

-- one cell alone
abbrev alone : ℕ → State
alone zero zero = true
alone zero (suc q) = false
alone (suc p) zero = false
alone (suc p) (suc q) = alone p q

first_is_model : is_model one_of_three (alone 0) ≡ true
first_is_model = refl

third_is_bounded : IsBounded 3 (alone 2)
third_is_bounded = record { none_past = past }
  where
    past : (p : ℕ) → 3 ≤ p → alone 2 p ≡ false
    past zero h = refl
    past (suc zero) h = refl
    past (suc (suc zero)) h = absurd (omega arith)
    past (suc (suc (suc p))) h = refl

none_is_no_model : is_model one_of_three (λ p. false) ≡ false
none_is_no_model = refl

two_are_no_model : is_model one_of_three (λ p. true) ≡ false
two_are_no_model = refl

third_is_consistent : IsConsistent one_of_three (positive 2 ∷ [])
third_is_consistent = record { state = alone 2; model = refl; all_true = refl }

-- which of the three a model is
data Cell (s : State) : Type 0 where
  is_first : s 0 ≡ true → s 1 ≡ false → s 2 ≡ false → Cell s
  is_second : s 0 ≡ false → s 1 ≡ true → s 2 ≡ false → Cell s
  is_third : s 0 ≡ false → s 1 ≡ false → s 2 ≡ true → Cell s

cell_by : (s : State) (a b c : Bool) → s 0 ≡ a → s 1 ≡ b → s 2 ≡ c → is_model one_of_three s ≡ true → Cell s
cell_by s true true c e f g h = absurd (false≢true (rw (e, f) at h))
cell_by s true false true e f g h = absurd (false≢true (rw (e, f, g) at h))
cell_by s true false false e f g h = is_first e f g
cell_by s false true true e f g h = absurd (false≢true (rw (e, f, g) at h))
cell_by s false true false e f g h = is_second e f g
cell_by s false false true e f g h = is_third e f g
cell_by s false false false e f g h = absurd (false≢true (rw (e, f, g) at h))

cell : (s : State) → is_model one_of_three s ≡ true → Cell s
cell s h = cell_by s (s 0) (s 1) (s 2) refl refl refl h

-- ---- closures

-- each model has something in one of the cells
pub valid : AreValid one_of_three table
valid = record { each = each }
  where
    by : (s : State) → Cell s → list_any (λ t. tag_holds (slice_get table.tags t) s) (1 ∷ 2 ∷ 3 ∷ []) ≡ true
    by s (is_first e f g) = rw e refl
    by s (is_second e f g) = rw (e, f) refl
    by s (is_third e f g) = rw (e, f, g) refl

    each : (m : Merge) → Member table.merges m → IsValid one_of_three table m
    each m (inl e) = subst (λ (x : Merge). IsValid one_of_three table x) e (λ s h. by s (cell s h))
    each m (inr n) = absurd n

-- without the third tag a merge isn't valid
two_tags : IsValid one_of_three table (record { target = positive 0; tags = 1 ∷ 2 ∷ [] }) → ⊥
two_tags v = false≢true (v (alone 2) refl)

-- nor is one with a tag that isn't there
no_such_tag : IsValid one_of_three table (record { target = positive 0; tags = 7 ∷ [] }) → ⊥
no_such_tag v = false≢true (v (alone 2) refl)

-- a literal of the three atoms, by cases
by_literal : (P : Lit → Type 0) → P (positive 0) → P (negative 0) → P (positive 1) → P (negative 1) → P (positive 2) → P (negative 2) → (l : Lit) → l.atom.0 < 3 → P l
by_literal P a b c d e f l = by l.atom.0 l.positive
  where
    by : (p : ℕ) (sign : Bool) → p < 3 → P (record { atom = record { 0 = p }; positive = sign })
    by zero true below = a
    by zero false below = b
    by (suc zero) true below = c
    by (suc zero) false below = d
    by (suc (suc zero)) true below = e
    by (suc (suc zero)) false below = f
    by (suc (suc (suc p))) sign below = absurd (omega arith)

-- nothing holds in all three models
empty_is_right : IsClosure 3 one_of_three [] []
empty_is_right = record {
  of_atoms = λ l h. absurd (false≢true h);
  entailed = λ l h. absurd (false≢true h);
  whole = by_literal (λ l. Entails one_of_three [] l → has [] l ≡ true) (λ e. e (alone 1) refl refl) (λ e. e (alone 0) refl refl) (λ e. e (alone 0) refl refl) (λ e. e (alone 1) refl refl) (λ e. e (alone 0) refl refl) (λ e. e (alone 2) refl refl);
}

-- a closure that is what holds in the one model of its tag
closure_from : (p : ℕ) (closure : List Lit) → is_model one_of_three (alone p) ≡ true → alone p p ≡ true → ((l : Lit) → l.atom.0 < 3 → has closure l ≡ holds (alone p) l) → ((l : Lit) → Member closure l → l.atom.0 < 3) → ((s : State) → is_model one_of_three s ≡ true → s p ≡ true → list_all (holds s) closure ≡ true) → IsClosure 3 one_of_three (positive p ∷ []) closure
closure_from p closure model there same below true_there = record {
  of_atoms = λ l h. below l (member-has closure l h);
  entailed = λ l h s m t. all_member (holds s) closure l (member-has closure l h) (true_there s m (and_parts (s p) true t).0);
  whole = λ l b e. same l b ∙ e (alone p) model (and_from (alone p p) true there refl);
}

-- literals whose atoms are seen to be below a number
pub below_all : (n : ℕ) (ls : List Lit) → list_all (λ l. nat_lt l.atom.0 n) ls ≡ true → (l : Lit) → Member ls l → l.atom.0 < n
below_all n ls h l m = ltb-true l.atom.0 n (all_member (λ x. nat_lt x.atom.0 n) ls l m h)

first_is_right : IsClosure 3 one_of_three (positive 0 ∷ []) first
first_is_right = closure_from 0 first refl refl (by_literal (λ l. has first l ≡ holds (alone 0) l) refl refl refl refl refl refl) (below_all 3 first refl) (λ s h t. by s t (cell s h))
  where
    by : (s : State) → s 0 ≡ true → Cell s → list_all (holds s) first ≡ true
    by s t (is_first e f g) = rw (e, f, g) refl
    by s t (is_second e f g) = absurd (false≢true (sym e ∙ t))
    by s t (is_third e f g) = absurd (false≢true (sym e ∙ t))

second_is_right : IsClosure 3 one_of_three (positive 1 ∷ []) second
second_is_right = closure_from 1 second refl refl (by_literal (λ l. has second l ≡ holds (alone 1) l) refl refl refl refl refl refl) (below_all 3 second refl) (λ s h t. by s t (cell s h))
  where
    by : (s : State) → s 1 ≡ true → Cell s → list_all (holds s) second ≡ true
    by s t (is_first e f g) = absurd (false≢true (sym f ∙ t))
    by s t (is_second e f g) = rw (e, f, g) refl
    by s t (is_third e f g) = absurd (false≢true (sym f ∙ t))

third_is_right : IsClosure 3 one_of_three (positive 2 ∷ []) third
third_is_right = closure_from 2 third refl refl (by_literal (λ l. has third l ≡ holds (alone 2) l) refl refl refl refl refl refl) (below_all 3 third refl) (λ s h t. by s t (cell s h))
  where
    by : (s : State) → s 2 ≡ true → Cell s → list_all (holds s) third ≡ true
    by s t (is_first e f g) = absurd (false≢true (sym g ∙ t))
    by s t (is_second e f g) = absurd (false≢true (sym g ∙ t))
    by s t (is_third e f g) = rw (e, f, g) refl

pub right : IsTable cells one_of_three table
right = record {
  first = (record { lits = []; closure = [] }, refl, refl);
  tags = in_range;
  closures = closures;
}
  where
    in_range : (m : Merge) (t : ℕ) → Member table.merges m → Member m.tags t → t < 4
    in_range m t (inl e) in-t = ltb-true t 4 (all_member (λ u. nat_lt u 4) m.tags t in-t (subst (λ (x : Merge). list_all (λ u. nat_lt u 4) x.tags ≡ true) e refl))
    in_range m t (inr n) in-t = absurd n

    closures : (row : TagRow) → Member table.tags row → IsClosure 3 one_of_three row.lits row.closure
    closures row (inl e) = subst (λ (r : TagRow). IsClosure 3 one_of_three r.lits r.closure) e empty_is_right
    closures row (inr (inl e)) = subst (λ (r : TagRow). IsClosure 3 one_of_three r.lits r.closure) e first_is_right
    closures row (inr (inr (inl e))) = subst (λ (r : TagRow). IsClosure 3 one_of_three r.lits r.closure) e second_is_right
    closures row (inr (inr (inr (inl e)))) = subst (λ (r : TagRow). IsClosure 3 one_of_three r.lits r.closure) e third_is_right
    closures row (inr (inr (inr (inr n)))) = absurd n

-- ---- no clash

far_off : (a b : ℕ) → (a < b) → nat_eq a b ≡ false
far_off a b h = false_from_ne_true (nat_eq a b) (λ e. let same = eqb-true a b e in omega arith)

-- they are done together where the second and the third cell are full
left_may_clash : clashes_at left (λ p. true) 1 ≡ true
left_may_clash = refl

-- but these two never are
apart_after : (s : State) → (after left s 1 && after left s 2) ≡ false
apart_after s = by (s 1) (s 2) refl refl
  where
    by : (b c : Bool) → s 1 ≡ b → s 2 ≡ c → (after left s 1 && after left s 2) ≡ false
    by true true f g = rw (f, g) refl
    by true false f g = rw (f, g) refl
    by false true f g = rw (f, g) refl
    by false false f g = rw (f, g) refl

apart_so_far : (goal : List Lit) (ns : List ℕ) (s : State) → (s 1 && s 2) ≡ false → runs (cells_to goal) s ns ≡ true → (state_after (cells_to goal) s ns 1 && state_after (cells_to goal) s ns 2) ≡ false
apart_so_far goal [] s h r = h
apart_so_far goal (zero ∷ ns) s h r = apart_so_far goal ns (after left s) (apart_after s) r
apart_so_far goal (suc n ∷ ns) s h r = absurd (false≢true r)

apart_none : (s : State) (p : ℕ) → (s 1 && s 2) ≡ false → clashes_at left s p ≡ false
apart_none s zero h = by (s 1) refl
  where
    by : (b : Bool) → s 1 ≡ b → clashes_at left s 0 ≡ false
    by true f = rw f refl
    by false f = rw f refl
apart_none s (suc zero) h = by (s 1) (s 2) refl refl h
  where
    by : (b c : Bool) → s 1 ≡ b → s 2 ≡ c → (s 1 && s 2) ≡ false → clashes_at left s 1 ≡ false
    by true true f g k = absurd (false≢true (sym (rw (f, g) at k)))
    by true false f g k = rw (f, g) refl
    by false true f g k = rw (f, g) refl
    by false false f g k = rw (f, g) refl
apart_none s (suc (suc zero)) h = refl
apart_none s (suc (suc (suc p))) h =
    let q : ℕ = suc (suc (suc p)) in
    and_left (fires left.effects (holds s) (positive q)) (fires left.effects (holds s) (negative q)) (rw (far_off 1 q (omega arith), far_off 2 q (omega arith), far_off 0 q (omega arith)) refl)

-- so nothing clashes where no model has both
pub never_where_apart : (goal : List Lit) (i : Initial) → ((s : State) → is_model i s ≡ true → (s 1 && s 2) ≡ false) → NeverClashes (cells_to goal) i
never_where_apart goal i at_start = record { no_clash = none }
  where
    none : (s : State) (ns : List ℕ) (a : Action) (p : ℕ) → is_model i s ≡ true → runs (cells_to goal) s ns ≡ true → Member (left ∷ []) a → list_all (holds (state_after (cells_to goal) s ns)) a.pre ≡ true → clashes_at a (state_after (cells_to goal) s ns) p ≡ false
    none s ns a p model ran (inl e) ok = subst (λ (b : Action). clashes_at b (state_after (cells_to goal) s ns) p ≡ false) e (apart_none (state_after (cells_to goal) s ns) p (apart_so_far goal ns s (at_start s model) ran))
    none s ns a p model ran (inr n) ok = absurd n

pub never : NeverClashes cells one_of_three
never = never_where_apart (positive 0 ∷ []) one_of_three (λ s model. at_start s (cell s model))
  where
    at_start : (s : State) → Cell s → (s 1 && s 2) ≡ false
    at_start s (is_first e f g) = rw f refl
    at_start s (is_second e f g) = rw (f, g) refl
    at_start s (is_third e f g) = rw f refl

-- ---- so it is a plan

two_are_a_plan : IsGroundPlan cells one_of_three (0 ∷ 0 ∷ [])
two_are_a_plan = sound cells one_of_three table right valid never two_and_merge refl

-- one step isn't, from the third cell
one_is_none : IsGroundPlan cells one_of_three (0 ∷ []) → ⊥
one_is_none plan = false≢true (plan (alone 2) refl)
