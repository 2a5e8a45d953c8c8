-- The premises can be met: an atom p of unknown value, actions that make q true where p is true and where it is false, and one
-- that asks for q. The list of all three lifts, with the merge of q; without the second it fails.
use Rattle.std.proofs.Common.{◌≡◌, ◌<◌, ◌≤◌, ℕ, zero, suc, true, List, [], ◌∷◌, Some, codes, decimal, length, map, nat_lt, refl, sym, subst, inl, inr, arith, ltb-true}
use Rattle.std.proofs.lemmas.Fmt.{decimal_digit}
use Rattle.std.specs.List.{list_all}
use Rattle.kp_base.specs.declared.lit.Lit.{Lit}
use Rattle.kp_base.specs.declared.ground.GroundName.{GroundName}
use Rattle.kp_base.specs.declared.ground.Action.{Action}
use Rattle.kp_base.specs.declared.ground.Ground.{Ground}
use Rattle.kp_base.specs.declared.ground.TagTable.{TagTable}
use Rattle.kp_base.specs.Lit.{positive, negative, code_of}
use Rattle.kp_base.specs.Implicates.{are_below, IsOfItsAtoms}
use Rattle.kp_base.proofs.Lists.{all_member}
use Rattle.kp_law_tagged_machine.specs.Lifts.{is_ready, UnliftedAt}
use Rattle.kp_law_tagged_machine.proofs.Public.{failing_lists_dont_lift}
use Rattle.kp_law_ktask.specs.Task.{task_of}
use Rattle.kp_lift.specs.declared.lifting.Lifting.TheVariants.{Lifted, Unlifted}
use Rattle.kp_law_ktask.specs.Accepted.{operator_step}
use Rattle.kp_lift.specs.Lifting.{IsTableOn, AnswersLifting}

-- ---- the problem and its table

abbrev nullary : List ℕ → GroundName
nullary head = record { head = head; objects = [] }

-- q comes where this literal holds
abbrev q_where : List ℕ → Lit → Action
q_where name l = record { name = nullary name; pre = []; effects = record { cond = l ∷ []; result = positive 1 } ∷ [] }

-- it asks for q, and changes nothing
abbrev asking_q : Action
asking_q = record { name = nullary (codes "ask"); pre = positive 1 ∷ []; effects = [] }

abbrev either : Ground
either = record {
  atoms = nullary (codes "p") ∷ nullary (codes "q") ∷ [];
  table = [];
  actions = q_where (codes "one") (positive 0) ∷ q_where (codes "other") (negative 0) ∷ asking_q ∷ [];
  goal = positive 1 ∷ [];
}

-- of p, which is allowed nowhere, and of q
abbrev table : TagTable
table = record {
  tags = record { lits = []; closure = negative 1 ∷ [] } ∷ record { lits = positive 0 ∷ []; closure = positive 0 ∷ negative 1 ∷ [] } ∷ record { lits = negative 0 ∷ []; closure = negative 0 ∷ negative 1 ∷ [] } ∷ [];
  merges = record { target = positive 0; tags = 1 ∷ 2 ∷ [] } ∷ record { target = positive 1; tags = 1 ∷ 2 ∷ [] } ∷ [];
}

-- ---- the premises

of_atoms : IsOfItsAtoms either
of_atoms = record { few_atoms = omega arith; few_actions = omega arith; actions = refl; goal = refl }

is_on : IsTableOn either table
is_on = record {
  some_tag = omega arith;
  closures = λ row among. all_member (λ r. are_below 2 r.closure) table.tags row among refl;
  targets = λ m among. ltb-true m.target.atom.0 2 (all_member (λ x. nat_lt x.target.atom.0 2) table.merges m among refl);
  tags = λ m t among of. ltb-true t 3 (all_member (λ u. nat_lt u 3) m.tags t of (all_member (λ x. list_all (λ u. nat_lt u 3) x.tags) table.merges m among refl));
}

abbrev three : List ℕ
three = 0 ∷ 1 ∷ 2 ∷ []

inside : list_all (λ n. nat_lt n (length either.actions)) three ≡ true
inside = refl

few : length three < 2147483648
few = omega arith

-- ---- what is answered

-- the merge of q is the last of five operators, and goes before the action that asks for q
lifts : AnswersLifting either table three (Lifted (0 ∷ 1 ∷ 4 ∷ 2 ∷ []))
lifts = (refl, refl)

-- the second step fails where q isn't known
fails_at_step : UnliftedAt either table (0 ∷ 2 ∷ []) 1 (positive 1)
fails_at_step = record { in_range = omega arith; before = before; unknown = record { among = inl refl; missing = refl; least = λ m there unknown. elim there [ inl e ↦ subst (λ (l : Lit). code_of (positive 1) ≤ code_of l) e (omega arith) | inr n ↦ absurd n ] } }
  where
    before : (j : ℕ) → j < 1 → is_ready either table (0 ∷ 2 ∷ []) j ≡ true
    before zero lt = refl
    before (suc j) lt = absurd (omega (arith, lt))

fails : AnswersLifting either table (0 ∷ 2 ∷ []) (Unlifted 1 (positive 1))
fails = (fails_at_step, λ steps is. failing_lists_dont_lift either table steps 1 (positive 1) (subst (λ ns. UnliftedAt either table ns 1 (positive 1)) (sym is) fails_at_step))

-- ---- by name

one : decimal 1 ≡ codes "1"
one = decimal_digit 1 (omega arith)

are_there : list_all (λ n. nat_lt n (length (task_of either table).ops)) (0 ∷ 1 ∷ 4 ∷ 2 ∷ []) ≡ true
are_there = refl

by_name : map (operator_step (task_of either table)) (0 ∷ 1 ∷ 4 ∷ 2 ∷ []) ≡ map Some (nullary (codes "do_-one") ∷ nullary (codes "do_-other") ∷ nullary (codes "merge_-1") ∷ nullary (codes "do_-ask") ∷ [])
by_name = rw one refl
