-- The task of a ground problem does what the ground problem does.
use mathlib.Core.Path.{fun_ext}
use Rattle.std.proofs.Common.{◌≡◌, ◌<◌, ◌&&◌, ◌||◌, ℕ, Bool, true, false, not, List, [], ◌∷◌, Option, Some, None, option_map, map, filter, length, nat_eq, nat_lt, slice_get, arith, refl, sym, ap, ap₂, subst, ◌∙◌, inl, inr}
use Rattle.std.specs.Bool.{beq}
use Rattle.std.specs.List.{list_any, list_all}
use Rattle.std.proofs.lemmas.Bool.{and_parts, and_from, or_cases, eqb-true, eq-eqb, lt-ltb, ltb-true}
use Rattle.std.proofs.lemmas.List.{length-map}
use Rattle.std.proofs.lemmas.Option.{slice_get-map}
use Rattle.kp_base.specs.declared.lit.AtomId.{AtomId}
use Rattle.kp_base.specs.declared.lit.Lit.{Lit}
use Rattle.kp_base.specs.declared.ground.Effect.{Effect}
use Rattle.kp_base.specs.declared.ground.Action.{Action}
use Rattle.kp_base.specs.declared.ground.Ground.{Ground}
use Rattle.kp_base.specs.declared.ground.Initial.{Initial}
use Rattle.kp_base.specs.Implicates.{are_below, effect_below, action_below, IsOfItsAtoms}
use Rattle.kp_base.specs.Lists.{Member, signed}
use Rattle.kp_base.specs.Lit.{positive, negative, has as has_literal}
use Rattle.kp_base.specs.Steps as on_atoms
use Rattle.kp_base.proofs.Lists.{bool_same, any_map, all_alike, any_alike, all_member, any_member, any_from, all_from, map_member, filter_member}
use Rattle.kp_base.proofs.Lits.{same_lit-true}
use Rattle.kp_classic.specs.Fits.{are_below as facts_below, fits, fits_effect, fits_op, IsFit}
use Rattle.kp_classic.specs.Grounded.{atoms_with, conds_of, effect_of, op_of, nameless, is_said, task_of, SaysOneState, DoesTheSame}
use Rattle.kp_classic.specs.States.{holding_among}
use Rattle.kp_classic.specs.Steps.{Holding, meets, fires, after, applicable, next, start, succeeds}
use Rattle.kp_classic.proofs.States.{has_those, those_below}
use Rattle.kp_classic.proofs.Stepping.{succeeds_alike}

-- ---- conditions

-- the literals hold where their conditions are met
pub conds_same : (s : Holding) (ls : List Lit) → meets (conds_of ls) s ≡ list_all (on_atoms.holds s) ls
conds_same s [] = refl
conds_same s (l ∷ ls) = go l.positive refl ∙ ap (λ b. on_atoms.holds s l && b) (conds_same s ls)
  where
    yes_first : (a y n : Bool) → ((a && y) && n) ≡ (a && (y && n))
    yes_first true y n = refl
    yes_first false y n = refl

    no_later : (a y n : Bool) → (y && (a && n)) ≡ (a && (y && n))
    no_later true y n = refl
    no_later false true n = refl
    no_later false false n = refl

    go : (b : Bool) → l.positive ≡ b → meets (conds_of (l ∷ ls)) s ≡ (on_atoms.holds s l && meets (conds_of ls) s)
    go true e = rw e (yes_first (s l.atom.0) _ _)
    go false e = rw e (no_later (not (s l.atom.0)) _ _)

-- ---- effects

nat_eq_sym : (a b : ℕ) → nat_eq a b ≡ nat_eq b a
nat_eq_sym a b = bool_same (nat_eq a b) (nat_eq b a) (λ h. eq-eqb b a (sym (eqb-true a b h))) (λ h. eq-eqb a b (sym (eqb-true b a h)))

beq_sym : (a b : Bool) → beq a b ≡ beq b a
beq_sym true true = refl
beq_sym true false = refl
beq_sym false true = refl
beq_sym false false = refl

effects_same : (es : List Effect) (s : Holding) (adds : Bool) (p : ℕ) → fires (map effect_of es) s adds p ≡ on_atoms.fires es (on_atoms.holds s) (record { atom = record { 0 = p }; positive = adds })
effects_same es s adds p = any_map effect_of _ _ es (λ e.
    ap₂ (λ a b. a && b) (beq_sym adds e.result.positive) (ap₂ (λ a b. a && b) (nat_eq_sym p e.result.atom.0) (conds_same s e.cond))
    ∙ turned (beq e.result.positive adds) (nat_eq e.result.atom.0 p) (list_all (on_atoms.holds s) e.cond))
  where
    turned : (x y z : Bool) → (x && (y && z)) ≡ ((y && x) && z)
    turned true true z = refl
    turned true false z = refl
    turned false true z = refl
    turned false false z = refl

-- ---- steps

pub step_same : (a : Action) (s : Holding) (p : ℕ) → after (op_of a) s p ≡ on_atoms.after a s p
step_same a s p = ap₂ (λ x y. x || (s p && not y)) (effects_same a.effects s true p) (effects_same a.effects s false p)

module _ (g : Ground) (i : Initial) where
  pub applicable_same : (n : ℕ) (s : Holding) → applicable (slice_get (task_of g i).ops n) s ≡ on_atoms.applicable (slice_get g.actions n) s
  applicable_same n s = ap (λ o. applicable o s) (slice_get-map op_of g.actions n) ∙ go (slice_get g.actions n)
    where
      go : (o : Option Action) → applicable (option_map op_of o) s ≡ on_atoms.applicable o s
      go None = refl
      go (Some a) = conds_same s a.pre

  pub next_same : (n : ℕ) (s : Holding) (p : ℕ) → next (slice_get (task_of g i).ops n) s p ≡ on_atoms.next (slice_get g.actions n) s p
  next_same n s p = ap (λ o. next o s p) (slice_get-map op_of g.actions n) ∙ go (slice_get g.actions n)
    where
      go : (o : Option Action) → next (option_map op_of o) s p ≡ on_atoms.next o s p
      go None = refl
      go (Some a) = step_same a s p

  pub succeeds_same : (ns : List ℕ) (s : Holding) → succeeds (task_of g i) s ns ≡ on_atoms.succeeds g s ns
  succeeds_same [] s = conds_same s g.goal
  succeeds_same (n ∷ ns) s =
      ap₂ (λ a b. a && b) (applicable_same n s)
      (ap (λ x. succeeds (task_of g i) x ns) (fun_ext (next_same n s)) ∙ succeeds_same ns (on_atoms.next (slice_get g.actions n) s))

-- ---- its numbers are those of its facts

conds_fit : (n : ℕ) (ls : List Lit) → are_below n ls ≡ true → fits n (conds_of ls) ≡ true
conds_fit n ls h = and_from _ _ (with_sign true) (with_sign false)
  where
    with_sign : (b : Bool) → facts_below n (atoms_with b ls) ≡ true
    with_sign b = all_from (λ f. nat_lt f n) (atoms_with b ls) (λ f m.
        let r = map_member (λ (l : Lit). l.atom.0) (filter (λ (l : Lit). beq b l.positive) ls) f m in
        subst (λ x. nat_lt x n ≡ true) r.2 (all_member (λ (l : Lit). nat_lt l.atom.0 n) ls r.0 (filter_member (λ (l : Lit). beq b l.positive) ls r.0 r.1).0 h))

effect_fit : (n : ℕ) (e : Effect) → effect_below n e ≡ true → fits_effect n (effect_of e) ≡ true
effect_fit n e h =
    let both = and_parts (nat_lt e.result.atom.0 n) (are_below n e.cond) h in
    and_from _ _ both.0 (conds_fit n e.cond both.1)

op_fit : (n : ℕ) (a : Action) → action_below n a ≡ true → fits_op n (op_of a) ≡ true
op_fit n a h =
    let both = and_parts (are_below n a.pre) (list_all (effect_below n) a.effects) h in
    and_from _ _ (conds_fit n a.pre both.0) (all_from (fits_effect n) (map effect_of a.effects) (λ o m.
    let r = map_member effect_of a.effects o m in
    subst (λ x. fits_effect n x ≡ true) r.2 (effect_fit n r.0 (all_member (effect_below n) a.effects r.0 r.1 both.1))))

pub task_fits : (g : Ground) (i : Initial) → IsOfItsAtoms g → IsFit (task_of g i)
task_fits g i h = record {
  few_facts = rw (length-map g.atoms nameless) h.few_atoms;
  few_ops = rw (length-map g.actions op_of) h.few_actions;
  init = rw (length-map g.atoms nameless) (all_from (λ f. nat_lt f (length g.atoms)) (holding_among (length g.atoms) (is_said i)) (λ f m. lt-ltb f (length g.atoms) (those_below (length g.atoms) (is_said i) f m)));
  goal = rw (length-map g.atoms nameless) (conds_fit (length g.atoms) g.goal h.goal);
  ops = rw (length-map g.atoms nameless) (all_from (fits_op (length g.atoms)) (map op_of g.actions) (λ o m.
      let r = map_member op_of g.actions o m in
      subst (λ x. fits_op (length g.atoms) x ≡ true) r.2 (op_fit (length g.atoms) r.0 (all_member (action_below (length g.atoms)) g.actions r.0 r.1 h.actions))));
}

-- ---- its start is the one model

or_none : (b : Bool) → (b || false) ≡ true → b ≡ true
or_none true h = refl
or_none false h = h

module _ (n : ℕ) (i : Initial) (one : SaysOneState n i) where
  -- a literal of a clause holds in each model, since it is alone there
  said_holds : (s : Holding) → on_atoms.is_model i s ≡ true → (c : List Lit) → Member i.clauses c → (l : Lit) → has_literal c l ≡ true → on_atoms.holds s l ≡ true
  said_holds s m c mc l h = go c (eqb-true (length c) 1 (all_member (λ (d : List Lit). nat_eq (length d) 1) i.clauses c mc one.units)) h (all_member (list_any (on_atoms.holds s)) i.clauses c mc (and_parts (list_all (list_any (on_atoms.holds s)) i.clauses) _ m).0)
    where
      go : (c : List Lit) → length c ≡ 1 → has_literal c l ≡ true → list_any (on_atoms.holds s) c ≡ true → on_atoms.holds s l ≡ true
      go [] e h t = absurd (cc)
      go (x ∷ []) e h t = subst (λ y. on_atoms.holds s y ≡ true) (sym (same_lit-true l x (or_none _ h))) (or_none _ t)
      go (x ∷ y ∷ c) e h t = absurd (omega (arith, e))

  -- of the first n atoms just those hold in a model that a clause says
  pub known_as : (s : Holding) → on_atoms.is_model i s ≡ true → (p : ℕ) → p < n → s p ≡ is_said i p
  known_as s m p lt = bool_same (s p) (is_said i p) forth back
    where
      back : is_said i p ≡ true → s p ≡ true
      back h = let r = any_member (λ c. has_literal c (positive p)) i.clauses h in said_holds s m r.0 r.1 (positive p) r.2

      closed_false : list_any (λ (q : AtomId). nat_eq q.0 p) i.closed ≡ true → s p ≡ true → ⊥
      closed_false e t =
          let r = any_member (λ (q : AtomId). nat_eq q.0 p) i.closed e in
          let absent = all_member (λ (q : AtomId). not (s q.0)) i.closed r.0 r.1 (and_parts (list_all (list_any (on_atoms.holds s)) i.clauses) _ m).1 in
          let same = ap s (eqb-true r.0.0 p r.2) in
          let gone = ap not (same ∙ t) in
          cc

      forth : s p ≡ true → is_said i p ≡ true
      forth t = elim (or_cases (list_any (λ c. has_literal c (positive p) || has_literal c (negative p)) i.clauses) (list_any (λ (q : AtomId). nat_eq q.0 p) i.closed) (one.each_known p lt)) [
        | inl e ↦ (
            let r = any_member (λ c. has_literal c (positive p) || has_literal c (negative p)) i.clauses e in
            elim (or_cases (has_literal r.0 (positive p)) (has_literal r.0 (negative p)) r.2) [
              | inl yes' ↦ any_from (λ c. has_literal c (positive p)) i.clauses r.0 r.1 yes'
              | inr no' ↦ (let denied = said_holds s m r.0 r.1 (negative p) no' in let gone = ap not t in absurd (cc))
            ])
        | inr e ↦ absurd (closed_false e t)
      ]

  models_alike : (s q : Holding) → ((p : ℕ) → p < n → s p ≡ q p) → on_atoms.is_model i s ≡ on_atoms.is_model i q
  models_alike s q same = ap₂ (λ a b. a && b) clauses closed
    where
      clauses : list_all (list_any (on_atoms.holds s)) i.clauses ≡ list_all (list_any (on_atoms.holds q)) i.clauses
      clauses = all_alike (list_any (on_atoms.holds s)) (list_any (on_atoms.holds q)) i.clauses (λ c mc.
          any_alike (on_atoms.holds s) (on_atoms.holds q) c (λ l ml.
          ap (signed l.positive) (same l.atom.0 (ltb-true l.atom.0 n (all_member (λ (x : Lit). nat_lt x.atom.0 n) c l ml (all_member (are_below n) i.clauses c mc one.of_atoms.clauses))))))

      closed : list_all (λ (p : AtomId). not (s p.0)) i.closed ≡ list_all (λ (p : AtomId). not (q p.0)) i.closed
      closed = all_alike (λ (p : AtomId). not (s p.0)) (λ (p : AtomId). not (q p.0)) i.closed (λ p mp. ap not (same p.0 (ltb-true p.0 n (all_member (λ (x : AtomId). nat_lt x.0 n) i.closed p mp one.of_atoms.closed))))

pub task_does_the_same : (g : Ground) (i : Initial) → IsOfItsAtoms g → SaysOneState (length g.atoms) i → DoesTheSame g i (task_of g i)
task_does_the_same g i fit one = record {
  may_take = applicable_same g i;
  steps = next_same g i;
  goals = λ s. conds_same s g.goal;
  starts = starts;
  one_model = one_model;
  plans = λ ns. (forth ns, back ns);
}
  where
    one_model : (s : Holding) → on_atoms.is_model i s ≡ true → (p : ℕ) → p < length g.atoms → s p ≡ start (task_of g i) p
    one_model s m p lt = known_as (length g.atoms) i one s m p lt ∙ sym (has_those (length g.atoms) (is_said i) p lt)

    starts : on_atoms.is_model i (start (task_of g i)) ≡ true
    starts = let m = one.consistent in sym (models_alike (length g.atoms) i one m.state (start (task_of g i)) (one_model m.state m.model)) ∙ m.model

    forth : (ns : List ℕ) → succeeds (task_of g i) (start (task_of g i)) ns ≡ true → on_atoms.IsGroundPlan g i ns
    forth ns h s m =
        sym (succeeds_same g i ns s)
        ∙ (succeeds_alike (task_of g i) (task_fits g i fit) ns s (start (task_of g i)) (record { each = λ p lt. one_model s m p (subst (λ k. p < k) (length-map g.atoms nameless) lt) }) ∙ h)

    back : (ns : List ℕ) → on_atoms.IsGroundPlan g i ns → succeeds (task_of g i) (start (task_of g i)) ns ≡ true
    back ns f = succeeds_same g i ns (start (task_of g i)) ∙ f (start (task_of g i)) starts
