-- Three cells in a row, something in just one of them, and the step to the left: no two cells are ever full together, and only so nothing clashes.
use Rattle.std.proofs.Common.{◌≡◌, ◌<◌, ℕ, zero, suc, Bool, true, false, not, ◌&&◌, ◌||◌, List, [], ◌∷◌, Some, None, codes, nat_eq, nat_lt, ltb-true, eq-eqb, refl, sym, ◌∙◌, inl, inr, arith}
use Rattle.std.proofs.lemmas.Bool.{and_parts, false≢true, not-true}
use Rattle.std.specs.List.{list_any}
use Rattle.kp_base.specs.declared.lit.Lit.{Lit}
use Rattle.kp_base.specs.declared.ground.GroundName.{GroundName}
use Rattle.kp_base.specs.declared.ground.Effect.{Effect}
use Rattle.kp_base.specs.declared.ground.Action.{Action}
use Rattle.kp_base.specs.declared.ground.Ground.{Ground}
use Rattle.kp_base.specs.declared.ground.Initial.{Initial}
use Rattle.kp_base.specs.Planning.{Member, positive, negative, holds, Pairs, HasNoClash, IsFirstClash, NeverAtTheStart, IsInductive, IsExclusive}
use Rattle.kp_base.proofs.Lists.{all_member}
use Rattle.kp_clash_exclusive.specs.Settled.{stays}
use Rattle.kp_clash_exclusive.proofs.Public.{settled_inductive}
use Rattle.kp_clash.proofs.InOrder.{first_is, none_is}

abbrev nullary : List ℕ → GroundName
nullary head = record { head = head; objects = [] }

abbrev effect : ℕ → Lit → Effect
effect p l = record { cond = positive p ∷ []; result = l }

abbrev left : Action
left = record {
  name = nullary (codes "left");
  pre = [];
  effects = effect 2 (positive 1) ∷ effect 2 (negative 2) ∷ effect 1 (positive 0) ∷ effect 1 (negative 1) ∷ [];
}

abbrev cells : Ground
cells = record { atoms = nullary (codes "x1") ∷ nullary (codes "x2") ∷ nullary (codes "x3") ∷ []; table = []; actions = left ∷ []; goal = positive 0 ∷ [] }

abbrev some_cell : List Lit
some_cell = positive 0 ∷ positive 1 ∷ positive 2 ∷ []

-- exactly one of the three
abbrev one_of_three : Initial
one_of_three = record {
  clauses = some_cell ∷ (negative 0 ∷ negative 1 ∷ []) ∷ (negative 0 ∷ negative 2 ∷ []) ∷ (negative 1 ∷ negative 2 ∷ []) ∷ [];
  closed = [];
}

-- each two of the three
abbrev two_cells : Pairs
two_cells p q = nat_lt p 3 && (nat_lt q 3 && not (nat_eq p q))

-- what holds of all these
each_two : (P : ℕ → ℕ → Type 0) → P 0 1 → P 0 2 → P 1 0 → P 1 2 → P 2 0 → P 2 1 → (p q : ℕ) → two_cells p q ≡ true → P p q
each_two P a b c d e f p q h =
    let outer = and_parts (nat_lt p 3) (nat_lt q 3 && not (nat_eq p q)) h in
    let inner = and_parts (nat_lt q 3) (not (nat_eq p q)) outer.1 in
    go p q (ltb-true p 3 outer.0) (ltb-true q 3 inner.0) (not-true (nat_eq p q) inner.1)
  where
    go : (p q : ℕ) → p < 3 → q < 3 → nat_eq p q ≡ false → P p q
    go zero zero _ _ n = absurd (false≢true (sym n))
    go zero (suc zero) _ _ _ = a
    go zero (suc (suc zero)) _ _ _ = b
    go (suc zero) zero _ _ _ = c
    go (suc zero) (suc zero) _ _ n = absurd (false≢true (sym n))
    go (suc zero) (suc (suc zero)) _ _ _ = d
    go (suc (suc zero)) zero _ _ _ = e
    go (suc (suc zero)) (suc zero) _ _ _ = f
    go (suc (suc zero)) (suc (suc zero)) _ _ n = absurd (false≢true (sym n))
    go (suc (suc (suc p))) q lt _ _ = absurd (omega (arith, lt))
    go zero (suc (suc (suc q))) _ lt _ = absurd (omega (arith, lt))
    go (suc zero) (suc (suc (suc q))) _ lt _ = absurd (omega (arith, lt))
    go (suc (suc zero)) (suc (suc (suc q))) _ lt _ = absurd (omega (arith, lt))

-- a clause that forbids both
clause_denies_both : (x y : Bool) → (not x || (not y || false)) ≡ true → (x && y) ≡ false
clause_denies_both true true h = absurd (false≢true h)
clause_denies_both true false h = refl
clause_denies_both false y h = refl

clause_denies_both_turned : (x y : Bool) → (not x || (not y || false)) ≡ true → (y && x) ≡ false
clause_denies_both_turned true true h = absurd (false≢true h)
clause_denies_both_turned true false h = refl
clause_denies_both_turned false true h = refl
clause_denies_both_turned false false h = refl

at_the_start : NeverAtTheStart one_of_three two_cells
at_the_start p q pair s model = each_two (λ p q. (s p && s q) ≡ false)
    (clause_denies_both (s 0) (s 1) first) (clause_denies_both (s 0) (s 2) second)
    (clause_denies_both_turned (s 0) (s 1) first) (clause_denies_both (s 1) (s 2) third)
    (clause_denies_both_turned (s 0) (s 2) second) (clause_denies_both_turned (s 1) (s 2) third) p q pair
  where
    clauses : (c : List Lit) → Member one_of_three.clauses c → list_any (holds s) c ≡ true
    clauses c m = all_member (list_any (holds s)) one_of_three.clauses c m (and_parts _ _ model).0

    first : list_any (holds s) (negative 0 ∷ negative 1 ∷ []) ≡ true
    first = clauses _ (inr (inl refl))

    second : list_any (holds s) (negative 0 ∷ negative 2 ∷ []) ≡ true
    second = clauses _ (inr (inr (inl refl)))

    third : list_any (holds s) (negative 1 ∷ negative 2 ∷ []) ≡ true
    third = clauses _ (inr (inr (inr (inl refl))))

-- no two cells are ever full together
pub two_cells_inductive : IsInductive cells one_of_three 3 two_cells
two_cells_inductive = settled_inductive cells one_of_three 3 two_cells
    (record {
      of_atoms = λ p q h. ltb-true p 3 (and_parts (nat_lt p 3) (nat_lt q 3 && not (nat_eq p q)) h).0;
      different = λ p q h e.
          let outer = and_parts (nat_lt p 3) (nat_lt q 3 && not (nat_eq p q)) h in
          let inner = and_parts (nat_lt q 3) (not (nat_eq p q)) outer.1 in
          false≢true (sym (not-true (nat_eq p q) inner.1) ∙ eq-eqb p q e);
      either_order = each_two (λ p q. two_cells q p ≡ true) refl refl refl refl refl refl;
    })
    at_the_start
    (each_two (λ p q. stays cells two_cells p q ≡ true) refl refl refl refl refl refl)

-- so nothing clashes
nothing_clashes : HasNoClash two_cells cells
nothing_clashes = none_is two_cells cells None refl

-- which the test without pairs doesn't see
clashes_without : IsFirstClash (λ p q. false) cells (record { action = 0; atom = record { 0 = 1 }; add = 0; delete = 3 })
clashes_without = first_is (λ p q. false) cells (Some (record { action = 0; atom = record { 0 = 1 }; add = 0; delete = 3 })) refl

-- where several cells may be full at the start no pair is exclusive
no_pair_with_or : (p q : ℕ) → IsExclusive cells (record { clauses = some_cell ∷ []; closed = [] }) 3 p q → ⊥
no_pair_with_or p q x = false≢true (sym (x.inductive.never_at_the_start p q x.has_pair (λ _. true) refl))
