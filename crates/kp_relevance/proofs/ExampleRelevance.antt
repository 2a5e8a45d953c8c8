-- The premises can be met: one atom of which nothing is known, and an action that deletes it where it holds.
use Rattle.std.proofs.Common.{◌≡◌, ◌<◌, ℕ, Bool, true, false, List, [], ◌∷◌, ◌&&◌, refl, sym, subst, inl, inr, arith}
use Rattle.std.proofs.lemmas.Bool.{false≢true, and_parts}
use Rattle.kp_base.specs.declared.lit.Lit.{Lit}
use Rattle.kp_base.specs.declared.ground.Action.{Action}
use Rattle.kp_base.specs.declared.ground.Ground.{Ground}
use Rattle.kp_base.specs.declared.ground.GroundName.{GroundName}
use Rattle.kp_base.specs.Planning.{positive, negative, negated, same_lit, Member, HasOneValue, IsOfItsAtoms, formula_of, IsRelevant, either_value, IsCandidate, IsClauseFor}
use Rattle.kp_base.proofs.Lists.{any_member}
use Rattle.kp_base.proofs.Lits.{same_lit-true, same_lit-refl}
use Rattle.kp_relevance.specs.Relevant.{is_pair, ArePairsOf}
use Rattle.kp_relevance.specs.Laws.{KeepsTheRules}
use Rattle.kp_relevance.proofs.Chains.{within_rules}

nameless : GroundName
nameless = record { head = []; objects = [] }

abbrev falling : Action
falling = record { name = nameless; pre = []; effects = record { cond = positive 0 ∷ []; result = negative 0 } ∷ [] }

abbrev falls : Ground
falls = record { atoms = nameless ∷ []; table = []; actions = falling ∷ []; goal = negative 0 ∷ [] }

of_its_atoms : IsOfItsAtoms falls
of_its_atoms = record { few_atoms = omega arith; few_actions = omega arith; actions = refl; goal = refl }

-- the atom is relevant to its negation, and so is its negation to it
falling_matters : IsRelevant falls.actions (positive 0) (negative 0)
falling_matters = IsRelevant.condition (positive 0) (negative 0) (record { action = falling; effect = record { cond = positive 0 ∷ []; result = negative 0 }; action_in = inl refl; effect_in = inl refl; condition = inl refl; result = refl })

staying_matters : IsRelevant falls.actions (negative 0) (positive 0)
staying_matters = IsRelevant.negation (positive 0) (negative 0) falling_matters

-- so all pairs of its literals are those of the problem
abbrev all_pairs : List (Lit × Lit)
all_pairs = (positive 0, positive 0) ∷ (positive 0, negative 0) ∷ (negative 0, positive 0) ∷ (negative 0, negative 0) ∷ []

are_pairs : ArePairsOf falls all_pairs
are_pairs = record { of_atoms = λ l m h. listed l m (any_member (λ (x : Lit × Lit). same_lit x.0 l && same_lit x.1 m) all_pairs h); exact = λ l m hl hm. (λ h. all_matter l m (omega (arith, hl)) (omega (arith, hm)), λ r. all_listed l m (omega (arith, hl)) (omega (arith, hm))) }
  where
    in_all : (x : Lit × Lit) → Member all_pairs x → (x.0.atom.0 < 1) × (x.1.atom.0 < 1)
    in_all x (inl e) = subst (λ (y : Lit × Lit). (y.0.atom.0 < 1) × (y.1.atom.0 < 1)) e (omega arith, omega arith)
    in_all x (inr (inl e)) = subst (λ (y : Lit × Lit). (y.0.atom.0 < 1) × (y.1.atom.0 < 1)) e (omega arith, omega arith)
    in_all x (inr (inr (inl e))) = subst (λ (y : Lit × Lit). (y.0.atom.0 < 1) × (y.1.atom.0 < 1)) e (omega arith, omega arith)
    in_all x (inr (inr (inr (inl e)))) = subst (λ (y : Lit × Lit). (y.0.atom.0 < 1) × (y.1.atom.0 < 1)) e (omega arith, omega arith)
    in_all x (inr (inr (inr (inr none)))) = absurd none

    listed : (l m : Lit) → (x : Lit × Lit) × Member all_pairs x × ((same_lit x.0 l && same_lit x.1 m) ≡ true) → (l.atom.0 < 1) × (m.atom.0 < 1)
    listed l m found =
        let parts = and_parts (same_lit found.0.0 l) (same_lit found.0.1 m) found.2 in
        let b = in_all found.0 found.1 in
        (subst (λ (y : Lit). y.atom.0 < 1) (same_lit-true found.0.0 l parts.0) b.0, subst (λ (y : Lit). y.atom.0 < 1) (same_lit-true found.0.1 m parts.1) b.1)

    by_signs : (b c : Bool) → IsRelevant falls.actions (record { atom = record { 0 = 0 }; positive = b }) (record { atom = record { 0 = 0 }; positive = c }) × (is_pair all_pairs (record { atom = record { 0 = 0 }; positive = b }) (record { atom = record { 0 = 0 }; positive = c }) ≡ true)
    by_signs true true = (IsRelevant.itself (positive 0), refl)
    by_signs true false = (falling_matters, refl)
    by_signs false true = (staying_matters, refl)
    by_signs false false = (IsRelevant.itself (negative 0), refl)

    all_matter : (l m : Lit) → l.atom.0 ≡ 0 → m.atom.0 ≡ 0 → IsRelevant falls.actions l m
    all_matter l m el em =
        subst (λ (a : ℕ). IsRelevant falls.actions (record { atom = record { 0 = a }; positive = l.positive }) m) (sym el)
        (subst (λ (a : ℕ). IsRelevant falls.actions (record { atom = record { 0 = 0 }; positive = l.positive }) (record { atom = record { 0 = a }; positive = m.positive })) (sym em) (by_signs l.positive m.positive).0)

    all_listed : (l m : Lit) → l.atom.0 ≡ 0 → m.atom.0 ≡ 0 → is_pair all_pairs l m ≡ true
    all_listed l m el em =
        subst (λ (a : ℕ). is_pair all_pairs (record { atom = record { 0 = a }; positive = l.positive }) m ≡ true) (sym el)
        (subst (λ (a : ℕ). is_pair all_pairs (record { atom = record { 0 = 0 }; positive = l.positive }) (record { atom = record { 0 = a }; positive = m.positive }) ≡ true) (sym em) (by_signs l.positive m.positive).1)

-- without actions it isn't
nothing_matters : IsRelevant [] (positive 0) (negative 0) → ⊥
nothing_matters r = false≢true (within_rules [] same_lit keeps (positive 0) (negative 0) r)
  where
    keeps : KeepsTheRules [] same_lit
    keeps = record {
      itself = same_lit-refl;
      condition = λ l m c. absurd c.action_in;
      onward = λ l m n h g. subst (λ (x : Lit). same_lit l x ≡ true) (same_lit-true m n g) h;
      negation = λ l m h. subst (λ (x : Lit). same_lit (negated l) (negated x) ≡ true) (same_lit-true l m h) (same_lit-refl (negated l));
    }

-- the clause that it is true or not is a candidate, and relevant to its negation
unsettled : HasOneValue (formula_of []) 0 → ⊥
unsettled one = false≢true (sym (one (λ p. true) (λ p. false) refl refl))

clause_for : IsClauseFor falls.actions 1 (formula_of []) (negative 0) (either_value 0)
clause_for = record {
  candidate = IsCandidate.unsettled 0 (omega arith) unsettled;
  relevant = λ l m. elim m [
    | inl e ↦ subst (λ (x : Lit). IsRelevant falls.actions x (negative 0)) e falling_matters
    | inr r ↦ elim r [ inl e ↦ subst (λ (x : Lit). IsRelevant falls.actions x (negative 0)) e (IsRelevant.itself (negative 0)) | inr none ↦ absurd none ]
  ];
}
