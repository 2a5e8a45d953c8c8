-- A tag denies a clause just where it denies one that begins with the negation of one of its literals.
use Rattle.std.proofs.Common.{◌≡◌, ℕ, Bool, true, List, [], ◌∷◌, Option, Some, None, slice_get, refl, sym, ◌∙◌, ap, subst, inl}
use Rattle.std.proofs.lemmas.Bool.{and_parts, and_from, false≢true}
use Rattle.std.specs.List.{list_any, list_all}
use Rattle.kp_base.specs.declared.lit.Lit.{Lit}
use Rattle.kp_base.specs.Planning.{Member, negated, code_of, holds, HasModel, formula_of}
use Rattle.kp_base.specs.Steps.{has}
use Rattle.kp_base.proofs.Lists.{bool_same, all_member, any_member, any_from, member_at}
use Rattle.kp_base.proofs.Lits.{has-member, member-has, negated-negated}
use Rattle.kp_clauses.specs.Listed.{row}
use Rattle.kp_clauses.specs.Sieved.{stands}
use Rattle.kp_primes.specs.Asked.{denied, is_lit, denied_from, some_denied_from, some_denied_near}
use Rattle.kp_primes.specs.Placed.{places, AreHolders}
use Rattle.kp_primes.proofs.Placing.{placed, from_zero}

-- where a clause stands that passes, it is one of them
stands_there : (test : List Lit → Bool) (ps : List (List Lit)) (i : ℕ) → stands test (slice_get ps i) ≡ true → (c : List Lit) × Member ps c × (test c ≡ true)
stands_there test ps i h = go (slice_get ps i) refl h
  where
    go : (o : Option (List Lit)) → slice_get ps i ≡ o → stands test o ≡ true → (c : List Lit) × Member ps c × (test c ≡ true)
    go None is h = absurd (false≢true h)
    go (Some c) is h = (c, member_at ps i c is, h)

module _ (ps : List (List Lit)) (lists : List (List ℕ)) (tag : List Lit) where
  near_denied : some_denied_near ps lists tag ≡ true → list_any (denied tag) ps ≡ true
  near_denied h =
      let l = any_member (λ l. some_denied_from ps lists tag (negated l)) tag h in
      let i = any_member (λ i. stands (denied_from tag (negated l.0)) (slice_get ps i)) (row lists (code_of (negated l.0))) l.2 in
      let c = stands_there (denied_from tag (negated l.0)) ps i.0 i.2 in
      any_from (denied tag) ps c.0 c.1 (and_parts (is_lit (negated l.0) (slice_get c.0 0)) (denied tag c.0) c.2).1

  one_near : AreHolders lists ps → HasModel (formula_of ps) → (c : List Lit) → Member ps c → denied tag c ≡ true → some_denied_near ps lists tag ≡ true
  one_near holders met [] at d = absurd (false≢true (all_member (list_any (holds met.state)) ps [] at (and_parts (list_all (list_any (holds met.state)) ps) true met.model).0))
  one_near holders met (x ∷ c) at d =
      let in-tag = (and_parts (has tag (negated x)) (denied tag c) d).0 in
      let place = placed x 0 ps (x ∷ c) at (has-member (x ∷ c) x (inl refl)) in
      let there = subst (λ z. Member z place.0) (sym (holders.each x)) (subst (Member (places x 0 ps)) (from_zero place.0) place.1) in
      let begins = and_from (has (x ∷ []) x) (denied tag (x ∷ c)) (has-member (x ∷ []) x (inl refl)) d in
      let here : some_denied_from ps lists tag x ≡ true = any_from (λ i. stands (denied_from tag x) (slice_get ps i)) (row lists (code_of x)) place.0 there (ap (stands (denied_from tag x)) place.2 ∙ begins) in
      any_from (λ l. some_denied_from ps lists tag (negated l)) tag (negated x) (member-has tag (negated x) in-tag) (ap (some_denied_from ps lists tag) (negated-negated x) ∙ here)

  pub denied_near : AreHolders lists ps → HasModel (formula_of ps) → some_denied_near ps lists tag ≡ list_any (denied tag) ps
  denied_near holders met = bool_same (some_denied_near ps lists tag) (list_any (denied tag) ps) near_denied (λ h.
      let c = any_member (denied tag) ps h in
      one_near holders met c.0 c.1 c.2)
