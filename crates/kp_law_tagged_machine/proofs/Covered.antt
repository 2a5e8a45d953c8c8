-- Where a tag meets each clause that is relevant to a literal, and actions make it true from each model, they make it known from the closure.
use Rattle.std.proofs.Common.{◌≡◌, ◌<◌, ◌≤◌, ◌+◌, ℕ, zero, suc, Bool, true, false, not, List, [], ◌∷◌, length, refl, sym, ◌∙◌, ap, subst, inl, inr, arith}
use Rattle.std.proofs.lemmas.Bool.{or_cases, cases_eq, false≢true, true≢false, false_from_ne_true, true_from_ne_false}
use Rattle.std.specs.List.{list_any}
use Rattle.kp_base.specs.declared.lit.Lit.{Lit}
use Rattle.kp_base.specs.declared.ground.Ground.{Ground}
use Rattle.kp_base.specs.declared.ground.Initial.{Initial}
use Rattle.kp_base.specs.Planning.{Member, positive, negative, negated, State, holds, is_model, IsClosure, HasOneValue, is_tautology, IsPrime, IsOfItsAtoms, IsRelevant, IsCandidate, IsClauseFor, either_value, Meets}
use Rattle.kp_base.specs.Lit.{has}
use Rattle.kp_base.proofs.Lists.{any_member, any_from}
use Rattle.kp_base.proofs.Lits.{member-has}
use Rattle.kp_law_tagged_machine.proofs.Facts.{facts_run, facts_run_more}
use Rattle.kp_law_tagged_machine.proofs.Primes.{some_prime}
use Rattle.kp_law_tagged_machine.proofs.Relevance.{relevant_of_atoms}

-- ---- lists of literals

-- both literals of d atoms from p on
abbrev pub lits_from : ℕ → ℕ → List Lit
lits_from p zero = []
lits_from p (suc d) = positive p ∷ negative p ∷ lits_from (suc p) d

all_there : (p d : ℕ) (l : Lit) → p ≤ l.atom.0 → l.atom.0 < p + d → Member (lits_from p d) l
all_there p zero l low high = absurd (omega arith)
all_there p (suc d) l low high =
    elim (cases_eq p l.atom.0) [
      | inl e ↦ here l.positive refl e
      | inr ne ↦ inr (inr (all_there (suc p) d l (omega arith) (omega arith)))
    ]
  where
    same : (q : ℕ) (b c : Bool) → p ≡ q → b ≡ c → (let l : Lit = record { atom = record { 0 = p }; positive = b } in l) ≡ record { atom = record { 0 = q }; positive = c }
    same q b c f g = cc

    here : (b : Bool) → l.positive ≡ b → p ≡ l.atom.0 → Member (lits_from p (suc d)) l
    here true is e = inl (same l.atom.0 true l.positive e (sym is))
    here false is e = inr (inl (same l.atom.0 false l.positive e (sym is)))

-- it can't be that no list has just those of some literals that have the property
select : (P : Lit → Type 0) (ls : List Lit) → ((d : List Lit) → ((x : Lit) → Member d x → P x) → ((x : Lit) → Member ls x → P x → Member d x) → ⊥) → ⊥
select P [] none = none [] (λ x m. absurd m) (λ x m p. m)
select P (y ∷ ys) none =
    select P ys (λ d are full.
    none d are (λ x m p. elim m [
      | inl e ↦ absurd (none (y ∷ d)
          (λ z i. elim i [ inl same ↦ subst P (sym e ∙ same) p | inr r ↦ are z r ])
          (λ z i q. elim i [ inl same ↦ inl same | inr r ↦ inr (full z r q) ]))
      | inr r ↦ full x r p
    ]))

-- ---- the clause of what is unknown and relevant

module _ (g : Ground) (i : Initial) (m₀ : State) (model₀ : is_model i m₀ ≡ true) (of_atoms : IsOfItsAtoms g) (lits closure : List Lit) (right : IsClosure (length g.atoms) i lits closure) (ns : List ℕ) (l : Lit) (below : l.atom.0 < length g.atoms) (meets : (c : List Lit) → IsClauseFor g.actions (length g.atoms) i l c → Meets i lits c) (always : (s : State) → is_model i s ≡ true → facts_run g (holds s) ns l ≡ true) where
  -- relevant to the literal, and not in the closure
  record Open (x : Lit) : Type 0 where
    relevant : IsRelevant g.actions x l
    unknown : has closure x ≡ false

  open_below : (x : Lit) → Open x → x.atom.0 < length g.atoms
  open_below x o = relevant_of_atoms g of_atoms x l o.relevant below

  -- no candidate clause has open literals alone
  no_candidate : (c : List Lit) → IsCandidate (length g.atoms) i c → ((x : Lit) → Member c x → Open x) → ⊥
  no_candidate c candidate are =
      let met = meets c (record { candidate = candidate; relevant = λ x m. (are x m).relevant }) in
      let o = are met.lit met.of_clause in
      false≢true (sym o.unknown ∙ right.whole met.lit (open_below met.lit o) met.entailed)

  -- of no atom are both literals open
  one_sign_open : (p : ℕ) → Open (positive p) → Open (negative p) → ⊥
  one_sign_open p o q = no_candidate (either_value p) (IsCandidate.unsettled p (open_below (positive p) o) (unsettled (m₀ p) refl)) are
    where
      unsettled : (b : Bool) → m₀ p ≡ b → HasOneValue i p → ⊥
      unsettled true is one = false≢true (sym o.unknown ∙ right.whole (positive p) (open_below (positive p) o) (λ s model met. one s m₀ model model₀ ∙ is))
      unsettled false is one = false≢true (sym q.unknown ∙ right.whole (negative p) (open_below (negative p) q) (λ s model met. ap not (one s m₀ model model₀ ∙ is)))

      are : (x : Lit) → Member (either_value p) x → Open x
      are x (inl e) = subst Open e o
      are x (inr (inl e)) = subst Open e q
      are x (inr (inr n)) = absurd n

  by_sign : (p : ℕ) (b : Bool) → Open (record { atom = record { 0 = p }; positive = b }) → Open (record { atom = record { 0 = p }; positive = not b }) → ⊥
  by_sign p true o q = one_sign_open p o q
  by_sign p false o q = one_sign_open p q o

  -- no prime implicate has open literals alone
  no_prime : (c : List Lit) → ((x : Lit) → Member c x → Open x) → IsPrime i c → ⊥
  no_prime [] are prime = false≢true (prime.implicate.holds_always m₀ model₀)
  no_prime (x ∷ []) are prime =
      let o = are x (inl refl) in
      false≢true (sym o.unknown ∙ right.whole x (open_below x o) (λ s model met. elim (or_cases (holds s x) false (prime.implicate.holds_always s model)) [ inl h ↦ h | inr h ↦ absurd (false≢true h) ]))
  no_prime (x ∷ y ∷ r) are prime = no_candidate (x ∷ y ∷ r) (IsCandidate.implicate (x ∷ y ∷ r) prime (omega arith)) are

  -- were the literal not known in the end, all open literals together were an implicate
  not_all : facts_run g (has closure) ns l ≡ false → (d : List Lit) → ((x : Lit) → Member d x → Open x) → ((x : Lit) → Open x → Member d x) → ⊥
  not_all fails d are full =
      some_prime i (length d) d (omega arith) (record { proper = false_from_ne_true (is_tautology d) tautology; holds_always = λ s model. true_from_ne_false (list_any (holds s) d) (none_true s model) }) (λ c part. no_prime c (λ x m. are x (part x m)))
    where
      none_true : (s : State) → is_model i s ≡ true → list_any (holds s) d ≡ false → ⊥
      none_true s model none =
          true≢false (sym (facts_run_more g ns (holds s) (has closure) l (λ x r e. true_from_ne_false (has closure x) (λ out. false≢true (sym none ∙ any_from (holds s) d x (full x (record { relevant = r; unknown = out })) e))) (always s model)) ∙ fails)

      tautology : is_tautology d ≡ true → ⊥
      tautology e = let r = any_member (λ x. has d (negated x)) d e in by_sign r.0.atom.0 r.0.positive (are r.0 r.1) (are (negated r.0) (member-has d (negated r.0) r.2))

  pub covered_known : facts_run g (has closure) ns l ≡ true
  covered_known = true_from_ne_false (facts_run g (has closure) ns l) (λ fails.
      select Open (lits_from 0 (length g.atoms)) (λ d are full.
      not_all fails d are (λ x o. full x (let lt = open_below x o in all_there 0 (length g.atoms) x (omega arith) (omega (arith, lt))) o)))
