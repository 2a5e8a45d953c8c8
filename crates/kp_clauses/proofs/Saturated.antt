-- A saturated list of clauses has a clause within each implicate.
use Rattle.std.proofs.Common.{◌≡◌, ℕ, true, false, ◌&&◌, List, ◌∷◌, refl, sym, ◌∙◌, subst, inl, inr}
use Rattle.std.proofs.lemmas.Bool.{and_parts, and_from, or_cases, false≢true, true_from_ne_false, false_from_ne_true}
use Rattle.std.specs.List.{list_any, list_all}
use Rattle.kp_base.specs.declared.lit.Lit.{Lit}
use Rattle.kp_base.specs.Planning.{Member, positive, negative, State, holds, is_tautology, formula_of, IsImplicate, IsPrime}
use Rattle.kp_base.specs.Implicates.{is_within}
use Rattle.kp_base.proofs.Lists.{any_member, any_from, all_member}
use Rattle.kp_base.proofs.Members.{ascending_same}
use Rattle.kp_clauses.specs.Resolved.{resolved}
use Rattle.kp_clauses.specs.Stored.{subsumed}
use Rattle.kp_clauses.specs.Saturated.{IsSaturated, IsSaturation, IsSaturationExact}
use Rattle.kp_clauses.proofs.Within.{within_member, within_trans, has_new, tautology_within, subsumed_within}
use Rattle.kp_clauses.proofs.Resolving.{resolved_within}
use Rattle.kp_clauses.proofs.Extending.{MayJoin, fails}

-- where neither literal of an atom may join, a resolvent is within the list
saturated_may_join : (cs : List (List Lit)) → IsSaturated cs → MayJoin cs
saturated_may_join cs sat F may p h k =
    let c = any_member (λ e. is_within e (positive p ∷ F)) cs h in
    let d = any_member (λ e. is_within e (negative p ∷ F)) cs k in
    let out : (e : List Lit) → Member cs e → is_within e F ≡ false = λ e m. false_from_ne_true (is_within e F) (λ t. false≢true (sym may.free ∙ any_from (λ e. is_within e F) cs e m t)) in
    let r : List Lit = resolved c.0 d.0 (positive p) in
    let inside = within_member r F (resolved_within c.0 d.0 F (positive p) c.2 d.2) in
    elim (or_cases (is_tautology r) (subsumed cs r) (sat.each p c.0 d.0 c.1 d.1 (has_new c.0 F (positive p) c.2 (out c.0 c.1)) (has_new d.0 F (negative p) d.2 (out d.0 d.1)))) [
      | inl t ↦ false≢true (sym (tautology_within r F inside may.proper) ∙ t)
      | inr s ↦ false≢true (sym may.free ∙ subsumed_within cs r F inside s)
    ]

-- the clauses are true where the formula has its model
model_true : (cs : List (List Lit)) (s : State) → list_all (list_any (holds s)) cs ≡ true → (list_all (list_any (holds s)) cs && true) ≡ true
model_true cs s h = and_from (list_all (list_any (holds s)) cs) true h refl

-- each clause that is true wherever the list is has a clause of the list within it
covers : (n : ℕ) (cs : List (List Lit)) → IsSaturation n cs → (c : List Lit) → IsImplicate (formula_of cs) c → subsumed cs c ≡ true
covers n cs sat c imp = true_from_ne_false (subsumed cs c) (λ free.
    let f = fails n cs sat.of_atoms.clauses (saturated_may_join cs sat.saturated) c (record { free = free; proper = imp.proper }) in
    let x = any_member (holds f.0) c (imp.holds_always f.0 (model_true cs f.0 f.1.clauses_true)) in
    false≢true (sym (f.1.all_false x.0 x.1) ∙ x.2))

pub saturation_exact : IsSaturationExact
saturation_exact n cs sat c = (prime, there)
  where
    implicate : (e : List Lit) → Member cs e → IsImplicate (formula_of cs) e
    implicate e m = record { proper = sat.proper e m; holds_always = λ s model. all_member (list_any (holds s)) cs e m (and_parts (list_all (list_any (holds s)) cs) true model).0 }

    prime : Member cs c → IsPrime (formula_of cs) c
    prime m = record {
      ascending = sat.sets c m;
      implicate = implicate c m;
      least = λ d imp sub.
          let e = any_member (λ e. is_within e d) cs (covers n cs sat d imp) in
          let back = sat.reduced e.0 c e.1 m (within_trans e.0 d c e.2 sub) in
          within_trans c e.0 d back e.2;
    }

    there : IsPrime (formula_of cs) c → Member cs c
    there p =
        let e = any_member (λ e. is_within e c) cs (covers n cs sat c p.implicate) in
        let back = p.least e.0 (implicate e.0 e.1) e.2 in
        subst (Member cs) (ascending_same e.0 c (sat.sets e.0 e.1) p.ascending (within_member e.0 c e.2) (within_member c e.0 back)) e.1
