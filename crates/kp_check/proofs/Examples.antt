-- Where steps fail, on two small ground problems: a step that may be taken once, and three cells of which one is full.
use Rattle.std.proofs.Common.{◌≡◌, ◌≤◌, true, false, [], ◌∷◌, refl, subst, inl, inr, arith}
use Rattle.kp_base.specs.declared.lit.Lit.{Lit}
use Rattle.kp_base.specs.declared.ground.Ground.{Ground}
use Rattle.kp_base.specs.declared.ground.GroundName.{GroundName}
use Rattle.kp_base.specs.Lit.{positive, negative, code_of}
use Rattle.kp_base.specs.Steps.{State, holds, succeeds, IsLeastMissing}
use Rattle.kp_base.specs.Implicates.{IsOfItsAtoms}
use Rattle.kp_primes_first_model.specs.Ordered.{state_of_atoms}
use Rattle.kp_check.specs.Failing.{FailAt}

nameless : GroundName
nameless = record { head = []; objects = [] }

-- one literal that is false is the least
only : (s : State) {l : Lit} → holds s l ≡ false → IsLeastMissing (holds s) (l ∷ []) l
only s {l} h = record { among = inl refl; missing = h; least = λ m in-ls off. elim in-ls [ inl e ↦ subst (λ x. code_of l ≤ code_of x) e (omega arith) | inr none ↦ absurd none ] }

-- where p holds, q comes and p goes
abbrev once : Ground
once = record {
  atoms = nameless ∷ nameless ∷ [];
  table = [];
  actions = record { name = nameless; pre = positive 0 ∷ []; effects = record { cond = []; result = positive 1 } ∷ record { cond = []; result = negative 0 } ∷ [] } ∷ [];
  goal = positive 1 ∷ [];
}

once_of_atoms : IsOfItsAtoms once
once_of_atoms = record { few_atoms = omega arith; few_actions = omega arith; actions = refl; goal = refl }

-- the step is a plan where p holds
taken_once : succeeds once (state_of_atoms (record { 0 = 0 } ∷ [])) (0 ∷ []) ≡ true
taken_once = refl

-- a second one fails at p
taken_twice : FailAt once (state_of_atoms (record { 0 = 0 } ∷ [])) (0 ∷ 0 ∷ []) 1 (positive 0)
taken_twice = record { in_range = omega arith; reached = refl; fails = only _ refl }

-- a full cell's left one comes to be full, and it empty
abbrev cells : Ground
cells = record {
  atoms = nameless ∷ nameless ∷ nameless ∷ [];
  table = [];
  actions = record {
    name = nameless;
    pre = [];
    effects = record { cond = positive 2 ∷ []; result = positive 1 } ∷ record { cond = positive 2 ∷ []; result = negative 2 } ∷ record { cond = positive 1 ∷ []; result = positive 0 } ∷ record { cond = positive 1 ∷ []; result = negative 1 } ∷ [];
  } ∷ [];
  goal = positive 0 ∷ [];
}

-- one step to the left fails at the goal where the third cell is full, and two don't
one_to_the_left : FailAt cells (state_of_atoms (record { 0 = 2 } ∷ [])) (0 ∷ []) 1 (positive 0)
one_to_the_left = record { in_range = omega arith; reached = refl; fails = only _ refl }

two_to_the_left : succeeds cells (state_of_atoms (record { 0 = 2 } ∷ [])) (0 ∷ 0 ∷ []) ≡ true
two_to_the_left = refl
