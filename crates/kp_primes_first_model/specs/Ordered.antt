-- The first state, in their order, that passes a test.
use Rattle.std.specs.Prelude.{◌≡◌, ◌<◌, ℕ, Bool, true, false, List, [], ◌∷◌, Option, Some, None, nat_eq}
use Rattle.std.specs.List.{list_any}
use Rattle.kp_base.specs.declared.lit.AtomId.{AtomId}
use Rattle.kp_base.specs.Steps.{State, IsBounded, ComesBefore}

-- a state of the first n atoms that passes, and none that passes comes before it
pub record IsFirst (n : ℕ) (passes : State → Bool) (s : State) : Type 0 where
  pub bounded : IsBounded n s
  pub passed : passes s ≡ true
  pub first : (t : State) → passes t ≡ true → ComesBefore t s → ⊥

-- ---- states by their atoms

-- the state in which just these atoms are true
abbrev pub state_of_atoms : List AtomId → State
state_of_atoms ps p = list_any (λ a. nat_eq a.0 p) ps

-- each atom is below the next
abbrev pub AreRising : List AtomId → Type 0
AreRising [] = Unit {0}
AreRising (p ∷ []) = Unit {0}
AreRising (p ∷ q ∷ ps) = (p.0 < q.0) × AreRising (q ∷ ps)

-- the atoms of the first state that passes, in order
abbrev pub AreFirst : ℕ → (State → Bool) → List AtomId → Type 0
AreFirst n passes ps = IsFirst n passes (state_of_atoms ps) × AreRising ps

-- these; none where no state passes
abbrev pub AnswersFirst : ℕ → (State → Bool) → Option (List AtomId) → Type 0
AnswersFirst n passes None = (s : State) → passes s ≡ false
AnswersFirst n passes (Some ps) = AreFirst n passes ps

-- ---- laws

-- two states that are first are the same
abbrev pub IsFirstOnce : Type 0
IsFirstOnce = (n : ℕ) (passes : State → Bool) (s t : State) → IsFirst n passes s → IsFirst n passes t → (p : ℕ) → s p ≡ t p

-- which answer is right goes by which states pass alone
abbrev pub IsFirstByPassing : Type 0
IsFirstByPassing = (n : ℕ) (passes also : State → Bool) (o : Option (List AtomId)) → ((s : State) → passes s ≡ also s) → AnswersFirst n passes o → AnswersFirst n also o
