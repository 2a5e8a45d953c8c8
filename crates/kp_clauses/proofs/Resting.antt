-- What clauses have beside another one tells of its resolvents.
use Rattle.std.proofs.Common.{◌≡◌, Bool, true, false, not, ◌||◌, ◌⊎◌, cond, fold, sym, ◌∙◌, ap, subst, inl, inr, refl, List, [], ◌∷◌, ◌++◌}
use Rattle.std.proofs.lemmas.Bool.{false≢true, cases_Bool, false_from_ne_true}
use Rattle.kp_base.specs.declared.lit.Lit.{Lit}
use Rattle.kp_base.specs.Planning.{Member, negated, same_lit, with_lit}
use Rattle.kp_base.specs.Steps.{has}
use Rattle.kp_base.specs.Implicates.{is_within}
use Rattle.kp_base.proofs.Lists.{any_member, any_from, member_left, member_right, append_member, member_filter}
use Rattle.kp_base.proofs.Lits.{has-member, member-has, same_lit-true, same_lit-refl}
use Rattle.kp_clauses.specs.Resolved.{without, resolved}
use Rattle.kp_clauses.specs.Rests.{with_outside, rest_of, IsRest, AreRests}
use Rattle.kp_clauses.specs.Stored.{subsumed}
use Rattle.kp_clauses.proofs.Within.{within_member, within_from}
use Rattle.kp_clauses.proofs.Resolving.{member_with, both_parts}

-- what is in the set stays there
kept : (e : List Lit) (l : Lit) (d set : List Lit) (x : Lit) → Member set x → Member (fold (with_outside e l) set d) x
kept e l [] set x m = m
kept e l (y ∷ d) set x m = kept e l d (with_outside e l set y) x (pick (same_lit y l || not (has e y)))
  where
    pick : (b : Bool) → Member (cond b (with_lit y set) set) x
    pick true = member_with y set x (inr m)
    pick false = m

-- each literal is in the other clause, and not the one, or in the rest
outside : (e : List Lit) (l : Lit) (d set : List Lit) (x : Lit) → Member d x → Member (without l e) x ⊎ Member (fold (with_outside e l) set d) x
outside e l [] set x m = absurd m
outside e l (y ∷ d) set x m = elim m [
  | inl here ↦ subst (λ z. Member (without l e) z ⊎ Member (fold (with_outside e l) (with_outside e l set y) d) z) here (pick (cases_Bool (same_lit y l || not (has e y))))
  | inr r ↦ outside e l d (with_outside e l set y) x r
]
  where
    pick : ((same_lit y l || not (has e y)) ≡ true) ⊎ ((same_lit y l || not (has e y)) ≡ false) → Member (without l e) y ⊎ Member (fold (with_outside e l) (with_outside e l set y) d) y
    pick (inl on) = inr (kept e l d (with_outside e l set y) y (subst (λ b. Member (cond b (with_lit y set) set) y) (sym on) (member_with y set y (inl refl))))
    pick (inr off) = inl (in_other (same_lit y l) (has e y) refl refl off)
      where
        in_other : (a b : Bool) → same_lit y l ≡ a → has e y ≡ b → (a || not b) ≡ false → Member (without l e) y
        in_other true b h k bad = absurd (false≢true (sym bad))
        in_other false false h k bad = absurd (false≢true (sym bad))
        in_other false true h k _ = member_filter (λ x. not (same_lit x l)) e y (member-has e y k) (ap not h)

-- one rest more
pub rests_more : (cs : List (List Lit)) (e : List Lit) (l : Lit) (rs : List (List Lit)) (d : List Lit) → Member cs d → has (rest_of e l d) (negated l) ≡ false → AreRests cs e l rs → AreRests cs e l (rs ++ rest_of e l d ∷ [])
rests_more cs e l rs d there free h = record {
  each = λ r m. elim (append_member rs (rest_of e l d ∷ []) r m) [
    | inl old ↦ h.each r old
    | inr new ↦ elim new [
      | inl same ↦ subst (IsRest cs e l) same (record {
        clause = d;
        there = there;
        covers = λ x n. elim (outside e l d [] x n) [ inl a ↦ member_left (without l e) (rest_of e l d) x a | inr b ↦ member_right (without l e) (rest_of e l d) x b ];
        free = free;
      })
      | inr bad ↦ absurd bad
    ]
  ];
}

-- no rests at all
pub no_rests : (cs : List (List Lit)) (e : List Lit) (l : Lit) → AreRests cs e l []
no_rests cs e l = record { each = λ r m. absurd m }

-- where a rest is within a clause, one of the clauses is within the resolvent with it
pub rests_tell : (cs : List (List Lit)) (e p : List Lit) (l : Lit) (rs : List (List Lit)) → AreRests cs e l rs → subsumed rs p ≡ true → subsumed cs (resolved e p l) ≡ true
rests_tell cs e p l rs h some =
    let r = any_member (λ d. is_within d p) rs some in
    let one = h.each r.0 r.1 in
    any_from (λ d. is_within d (resolved e p l)) cs one.clause one.there (within_from one.clause (resolved e p l) (λ x m. in-resolved x (both r.0 r.2 one.free x (append_member (without l e) r.0 x (one.covers x m)))))
  where
    in-resolved : (x : Lit) → Member (without l e ++ without (negated l) p) x → Member (resolved e p l) x
    in-resolved x m = member-has (resolved e p l) x (both_parts (same_lit x) e p l x m (same_lit-refl x))

    both : (r : List Lit) → is_within r p ≡ true → has r (negated l) ≡ false → (x : Lit) → Member (without l e) x ⊎ Member r x → Member (without l e ++ without (negated l) p) x
    both r inside free x (inl a) = member_left (without l e) (without (negated l) p) x a
    both r inside free x (inr b) =
        let other : same_lit x (negated l) ≡ false = false_from_ne_true (same_lit x (negated l)) (λ e. false≢true (sym free ∙ has-member r (negated l) (subst (Member r) (same_lit-true x (negated l) e) b))) in
        member_right (without l e) (without (negated l) p) x (member_filter (λ y. not (same_lit y (negated l))) p x (within_member r p inside x b) (ap not other))
