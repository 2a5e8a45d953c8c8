-- One model, and the table of the empty tag alone: each premise of the other laws is met.
use Rattle.std.proofs.Common.{◌≡◌, ◌≢◌, ◌<◌, ℕ, zero, suc, Bool, true, false, ◌&&◌, List, [], ◌∷◌, codes, map, inl, inr, refl, sym, ap, subst, ◌∙◌, arith}
use Rattle.std.proofs.lemmas.Bool.{and_left, and_right, false≢true}
use Rattle.std.specs.List.{list_all}
use Rattle.kp_base.specs.declared.lit.Lit.{Lit}
use Rattle.kp_base.specs.declared.ground.GroundName.{GroundName}
use Rattle.kp_base.specs.declared.ground.Effect.{Effect}
use Rattle.kp_base.specs.declared.ground.Action.{Action}
use Rattle.kp_base.specs.declared.ground.Ground.{Ground}
use Rattle.kp_base.specs.declared.ground.Initial.{Initial}
use Rattle.kp_base.specs.Planning.{Member, positive, negative, State, holds, is_model, IsGroundPlan, Entails, IsClosure, Pairs, NeverClashes, clashes_at, HasNoClash, Clashes, ArePairs, IsInductive, Deletes, AreExclusive, firing_with, IsClashFree, MachineStep, accepts, one_tag_table}
use Rattle.kp_base.specs.Steps.{has}
use Rattle.kp_base.proofs.Lists.{all_member, member_at}
use Rattle.kp_base.proofs.Lits.{member-has}
use Rattle.kp_law_tagged_machine.specs.Laws.{facts_after_operator}
use Rattle.kp_law_tagged_machine.proofs.Sound.{sound}
use Rattle.kp_law_tagged_machine.proofs.ExampleCells.{below_all}
use Rattle.kp_law_tagged_machine.proofs.Exclusive.{never_clashes}
use Rattle.kp_law_tagged_machine.proofs.OneTag.{is_table, has_no_merges}

abbrev nullary : List ℕ → GroundName
nullary head = record { head = head; objects = [] }

-- where p holds, q comes and p goes
abbrev swap : Action
swap = record {
  name = nullary (codes "a");
  pre = positive 0 ∷ [];
  effects = record { cond = []; result = positive 1 } ∷ record { cond = []; result = negative 0 } ∷ [];
}

abbrev small : Ground
small = record {
  atoms = nullary (codes "p") ∷ nullary (codes "q") ∷ [];
  table = [];
  actions = swap ∷ [];
  goal = positive 1 ∷ [];
}

-- p is stated, and q closed
abbrev pub start_of_small : Initial
start_of_small = record { clauses = (positive 0 ∷ []) ∷ []; closed = record { 0 = 1 } ∷ [] }

abbrev closure : List Lit
closure = positive 0 ∷ negative 1 ∷ []

abbrev only_p : State
only_p zero = true
only_p (suc p) = false

-- ---- no clash

-- the two atoms
abbrev pub both_atoms : Pairs
both_atoms zero (suc zero) = true
both_atoms (suc zero) zero = true
both_atoms _ _ = false

-- a set of pairs is exclusive that is inductive and has each two of two atoms
exclusive_of_two : (g : Ground) (i : Initial) → IsInductive g i 2 both_atoms → AreExclusive g i 2 both_atoms
exclusive_of_two g i ind = record {
  each = λ p q pair. record { pairs = both_atoms; inductive = ind; has_pair = pair };
  all = λ p q x. let are = x.inductive.are_pairs in two p q (are.of_atoms p q x.has_pair) (are.of_atoms q p (are.either_order p q x.has_pair)) (are.different p q x.has_pair);
}
  where
    two : (p q : ℕ) → p < 2 → q < 2 → p ≢ q → both_atoms p q ≡ true
    two zero zero below also differ = absurd (differ refl)
    two zero (suc zero) below also differ = refl
    two (suc zero) zero below also differ = refl
    two (suc zero) (suc zero) below also differ = absurd (differ refl)
    two (suc (suc p)) q below also differ = absurd (omega (arith, below))
    two p (suc (suc q)) below also differ = absurd (omega (arith, also))

are_both : ArePairs 2 both_atoms
are_both = record { of_atoms = below; different = differ; either_order = turned }
  where
    below : (p q : ℕ) → both_atoms p q ≡ true → p < 2
    below zero q h = omega arith
    below (suc zero) q h = omega arith
    below (suc (suc p)) q h = absurd (false≢true h)

    differ : (p q : ℕ) → both_atoms p q ≡ true → p ≢ q
    differ zero zero h = absurd (false≢true h)
    differ zero (suc q) h = λ e. cc
    differ (suc zero) zero h = λ e. cc
    differ (suc zero) (suc q) h = absurd (false≢true h)
    differ (suc (suc p)) q h = absurd (false≢true h)

    turned : (p q : ℕ) → both_atoms p q ≡ true → both_atoms q p ≡ true
    turned zero zero h = h
    turned zero (suc zero) h = refl
    turned zero (suc (suc q)) h = absurd (false≢true h)
    turned (suc zero) zero h = refl
    turned (suc zero) (suc q) h = absurd (false≢true h)
    turned (suc (suc p)) q h = absurd (false≢true h)

-- what the action adds is q, and what it deletes p
only_q : (e : Effect) (p : ℕ) → Member swap.effects e → e.result ≡ positive p → p ≡ 1
only_q e p (inl m) h = sym (ap (λ (x : Effect). x.result.atom.0) m ∙ ap (λ (l : Lit). l.atom.0) h)
only_q e p (inr (inl m)) h = absurd (false≢true (ap (λ (x : Effect). x.result.positive) m ∙ ap (λ (l : Lit). l.positive) h))
only_q e p (inr (inr m)) h = absurd m

only_p_goes : (e : Effect) (p : ℕ) → Member swap.effects e → e.result ≡ negative p → p ≡ 0
only_p_goes e p (inl m) h = absurd (false≢true (sym (ap (λ (x : Effect). x.result.positive) m ∙ ap (λ (l : Lit). l.positive) h)))
only_p_goes e p (inr (inl m)) h = sym (ap (λ (x : Effect). x.result.atom.0) m ∙ ap (λ (l : Lit). l.atom.0) h)
only_p_goes e p (inr (inr m)) h = absurd m

-- ---- the closure of the empty tag

start_is_so : (s : State) → is_model start_of_small s ≡ true → (s 0 ≡ true) × (s 1 ≡ false)
start_is_so s h = by (s 0) (s 1) refl refl h
  where
    by : (a b : Bool) → s 0 ≡ a → s 1 ≡ b → is_model start_of_small s ≡ true → (s 0 ≡ true) × (s 1 ≡ false)
    by true false e f h = (e, f)
    by true true e f h = absurd (false≢true (rw (e, f) at h))
    by false b e f h = absurd (false≢true (rw e at h))

pub closure_is_right : IsClosure 2 start_of_small [] closure
closure_is_right = record {
  of_atoms = λ l h. below_all 2 closure refl l (member-has closure l h);
  entailed = λ l h s model all. all_member (holds s) closure l (member-has closure l h) (both s (start_is_so s model));
  whole = whole;
}
  where
    both : (s : State) → (s 0 ≡ true) × (s 1 ≡ false) → list_all (holds s) closure ≡ true
    both s so = rw (so.0, so.1) refl

    whole : (l : Lit) → l.atom.0 < 2 → Entails start_of_small [] l → has closure l ≡ true
    whole l below e = by l.atom.0 l.positive below (e only_p refl refl)
      where
        by : (p : ℕ) (b : Bool) → p < 2 → holds only_p (record { atom = record { 0 = p }; positive = b }) ≡ true → has closure (record { atom = record { 0 = p }; positive = b }) ≡ true
        by zero true below h = refl
        by zero false below h = h
        by (suc zero) true below h = h
        by (suc zero) false below h = refl
        by (suc (suc p)) b below h = absurd (omega arith)

-- ---- pairs and clashes

-- where q is false at the start, p and q are never true together: where q comes, p goes
both_inductive : (i : Initial) → ((s : State) → is_model i s ≡ true → s 1 ≡ false) → IsInductive small i 2 both_atoms
both_inductive i no_q = record {
  are_pairs = are_both;
  never_at_the_start = λ p q pair s model. at_start p q pair s (no_q s model);
  never_both_added = λ p q pair a e f in-a in-e in-f adds-e adds-f. absurd (never_twice p q pair a e f in-a in-e in-f adds-e adds-f);
  other_deleted = λ p q pair a e in-a in-e adds _. goes p q pair a e in-a in-e adds;
}
  where
    at_start : (p q : ℕ) → both_atoms p q ≡ true → (s : State) → s 1 ≡ false → (s p && s q) ≡ false
    at_start zero zero pair s none = absurd (false≢true pair)
    at_start zero (suc zero) pair s none = and_right (s 0) (s 1) none
    at_start zero (suc (suc q)) pair s none = absurd (false≢true pair)
    at_start (suc zero) zero pair s none = and_left (s 1) (s 0) none
    at_start (suc zero) (suc q) pair s none = absurd (false≢true pair)
    at_start (suc (suc p)) q pair s none = absurd (false≢true pair)

    of_swap : (a : Action) (e : Effect) → Member small.actions a → Member a.effects e → Member swap.effects e
    of_swap a e (inl m) in-e = subst (λ (x : Action). Member x.effects e) (sym m) in-e
    of_swap a e (inr m) in-e = absurd m

    never_twice : (p q : ℕ) → both_atoms p q ≡ true → (a : Action) (e f : Effect) → Member small.actions a → Member a.effects e → Member a.effects f → e.result ≡ positive p → f.result ≡ positive q → ⊥
    never_twice p q pair a e f in-a in-e in-f adds-e adds-f =
        are_both.different p q pair (only_q e p (of_swap a e in-a in-e) adds-e ∙ sym (only_q f q (of_swap a f in-a in-f) adds-f))

    goes_swap : (p q : ℕ) (ls : List Lit) → p ≡ 1 → both_atoms p q ≡ true → Deletes swap q ls
    goes_swap p q ls e pair = by q (subst (λ x. both_atoms x q ≡ true) e pair)
      where
        by : (q : ℕ) → both_atoms 1 q ≡ true → Deletes swap q ls
        by zero pair = record { delete = record { cond = []; result = negative 0 }; of_action = inr (inl refl); deletes = refl; within = refl }
        by (suc q) pair = absurd (false≢true pair)

    goes : (p q : ℕ) → both_atoms p q ≡ true → (a : Action) (e : Effect) → Member small.actions a → Member a.effects e → e.result ≡ positive p → Deletes a q (firing_with a e q)
    goes p q pair a e in-a in-e adds = by a in-a (goes_swap p q (firing_with a e q) (only_q e p (of_swap a e in-a in-e) adds) pair)
      where
        by : (a : Action) → Member small.actions a → {ls : List Lit} → Deletes swap q ls → Deletes a q ls
        by a (inl m) {ls} d = subst (λ (x : Action). Deletes x q ls) m d
        by a (inr m) d = absurd m

pub free : (i : Initial) → ((s : State) → is_model i s ≡ true → s 1 ≡ false) → IsClashFree small i
free i no_q = record { pairs = both_atoms; exclusive = exclusive_of_two small i (both_inductive i no_q); none = none }
  where
    none_of_swap : (p k j : ℕ) → Clashes both_atoms swap p k j → ⊥
    none_of_swap p k j c =
        let e = only_q c.adding p (member_at swap.effects k c.adding c.add_at) c.adds in
        let f = only_p_goes c.deleting p (member_at swap.effects j c.deleting c.delete_at) c.deletes in
        omega (arith, e, f)

    none : HasNoClash both_atoms small
    none zero p k j a at c = none_of_swap p k j (subst (λ (x : Action). Clashes both_atoms x p k j) (sym (let e : swap ≡ a = cc in e)) c)
    none (suc n) p k j a at c = absurd cc

pub never : NeverClashes small start_of_small
never = never_clashes small start_of_small (free start_of_small (λ s model. (start_is_so s model).1))

-- ---- accepted lists

accepted : accepts small (one_tag_table closure) (MachineStep.act 0 ∷ []) ≡ true
accepted = refl

twice_is_refused : accepts small (one_tag_table closure) (MachineStep.act 0 ∷ MachineStep.act 0 ∷ []) ≡ false
twice_is_refused = refl

merge_is_refused : accepts small (one_tag_table closure) (MachineStep.act 0 ∷ MachineStep.merge 0 ∷ []) ≡ false
merge_is_refused = refl

no_merges : MachineStep.act 0 ∷ [] ≡ map MachineStep.act (0 ∷ [])
no_merges = has_no_merges small closure (MachineStep.act 0 ∷ []) refl

plan : IsGroundPlan small start_of_small (0 ∷ [])
plan = let right = is_table small start_of_small closure closure_is_right in sound small start_of_small (one_tag_table closure) right.0 right.1 never (MachineStep.act 0 ∷ []) refl

-- ---- an operator

-- what supports and cancellations make of two facts
after_is : facts_after_operator swap (has closure) (positive 1) ≡ true
after_is = refl

-- q is no longer known to be false
negation_goes : facts_after_operator swap (has closure) (negative 1) ≡ false
negation_goes = refl

-- ---- an action that clashes

-- it adds and deletes q together
abbrev both : Action
both = record {
  name = nullary (codes "b");
  pre = [];
  effects = record { cond = []; result = positive 1 } ∷ record { cond = []; result = negative 1 } ∷ [];
}

-- q is to be false
abbrev clashing : Ground
clashing = record { atoms = nullary (codes "p") ∷ nullary (codes "q") ∷ []; table = []; actions = both ∷ []; goal = negative 1 ∷ [] }

both_clashes : clashes_at both only_p 1 ≡ true
both_clashes = refl

-- the machine knows both literals and accepts the list, which is no plan
clash_is_accepted : accepts clashing (one_tag_table closure) (MachineStep.act 0 ∷ []) ≡ true
clash_is_accepted = refl

clash_is_no_plan : IsGroundPlan clashing start_of_small (0 ∷ []) → ⊥
clash_is_no_plan found = false≢true (found only_p refl)
