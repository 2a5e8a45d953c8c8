-- What is in a resolvent.
use Rattle.std.proofs.Common.{◌≡◌, Bool, true, false, not, ◌&&◌, if◌then◌else◌, cond, List, [], ◌∷◌, ◌++◌, fold, refl, sym, ◌∙◌, ap, subst, inl, inr}
use Rattle.std.proofs.lemmas.Bool.{and_parts, or_cases, or_left, or_right, false≢true, cases_Bool, not-true, false_from_ne_true}
use Rattle.std.proofs.lemmas.List.Sums.{fold-append}
use Rattle.std.specs.List.{list_any}
use Rattle.kp_base.specs.declared.lit.Lit.{Lit}
use Rattle.kp_base.specs.Planning.{Member, negated, same_lit, IsAscending, with_lit, State, holds, is_tautology}
use Rattle.kp_base.specs.Steps.{has}
use Rattle.kp_base.specs.Implicates.{is_within}
use Rattle.kp_base.proofs.Lists.{any_member, any_from, all_from, member_left, member_right, append_member, filter_member, member_filter}
use Rattle.kp_base.proofs.Lits.{has-member, member-has, same_lit-true, same_lit-refl, negated-negated, holds-negated}
use Rattle.kp_base.proofs.Sets.{any-with_lit, any-set_of, all-set_of, set_ascends}
use Rattle.kp_clauses.specs.Resolved.{without, resolved, with_unless, opposed_elsewhere}
use Rattle.kp_clauses.proofs.Within.{within_member, within_from, tautology_from}

-- ---- as it is made

-- the others are added as they come
others_added : (out : Lit) (set c : List Lit) → fold (with_unless out) set c ≡ fold (λ set l. with_lit l set) set (without out c)
others_added out set [] = refl
others_added out set (x ∷ c) = pick (same_lit x out) (λ set. others_added out set c)
  where
    pick : (b : Bool) → ((set : List Lit) → fold (with_unless out) set c ≡ fold (λ set l. with_lit l set) set (without out c)) → fold (with_unless out) (if b then set else with_lit x set) c ≡ fold (λ set l. with_lit l set) set (cond (not b) (x ∷ without out c) (without out c))
    pick true rest = rest set
    pick false rest = rest (with_lit x set)

pub resolved_steps : (c d : List Lit) (l : Lit) → fold (with_unless (negated l)) (fold (with_unless l) [] c) d ≡ resolved c d l
resolved_steps c d l =
    others_added (negated l) (fold (with_unless l) [] c) d
    ∙ ap (λ set. fold (λ set l. with_lit l set) set (without (negated l) d)) (others_added l [] c)
    ∙ sym (fold-append (λ set l. with_lit l set) [] (without l c) (without (negated l) d))

-- ---- what it says

-- a true literal but this one is among the rest
without_true : (s : State) (l : Lit) (c : List Lit) → holds s l ≡ false → list_any (holds s) c ≡ true → list_any (holds s) (without l c) ≡ true
without_true s l c off h =
    let x = any_member (holds s) c h in
    any_from (holds s) (without l c) x.0 (member_filter (λ x. not (same_lit x l)) c x.0 x.1 (ap not (false_from_ne_true (same_lit x.0 l) (λ e. false≢true (sym off ∙ subst (λ (y : Lit). holds s y ≡ true) (same_lit-true x.0 l e) x.2))))) x.2

pub both_parts : (p : Lit → Bool) (c d : List Lit) (l : Lit) (x : Lit) → Member (without l c ++ without (negated l) d) x → p x ≡ true → list_any p (resolved c d l) ≡ true
both_parts p c d l x m h = any-set_of p (without l c ++ without (negated l) d) ∙ any_from p (without l c ++ without (negated l) d) x m h

-- a resolvent holds where both clauses hold
pub resolved_true : (s : State) (c d : List Lit) (l : Lit) → list_any (holds s) c ≡ true → list_any (holds s) d ≡ true → list_any (holds s) (resolved c d l) ≡ true
resolved_true s c d l hc hd = elim (cases_Bool (holds s l)) [
  | inl on ↦
      let x = any_member (holds s) (without (negated l) d) (without_true s (negated l) d (holds-negated s l ∙ ap not on) hd) in
      both_parts (holds s) c d l x.0 (member_right (without l c) (without (negated l) d) x.0 x.1) x.2
  | inr off ↦
      let x = any_member (holds s) (without l c) (without_true s l c off hc) in
      both_parts (holds s) c d l x.0 (member_left (without l c) (without (negated l) d) x.0 x.1) x.2
]

without_within : (l : Lit) (c F : List Lit) → is_within c (l ∷ F) ≡ true → (x : Lit) → Member (without l c) x → Member F x
without_within l c F h x m =
    let f = filter_member (λ x. not (same_lit x l)) c x m in
    elim (within_member c (l ∷ F) h x f.0) [
      | inl same ↦ absurd (false≢true (sym (not-true (same_lit x l) f.1) ∙ subst (λ (y : Lit). same_lit y l ≡ true) same (same_lit-refl l)))
      | inr in' ↦ in'
    ]

-- it is within what has the other literals
pub resolved_within : (c d F : List Lit) (l : Lit) → is_within c (l ∷ F) ≡ true → is_within d (negated l ∷ F) ≡ true → is_within (resolved c d l) F ≡ true
resolved_within c d F l hc hd =
    all-set_of (has F) (without l c ++ without (negated l) d)
    ∙ all_from (has F) (without l c ++ without (negated l) d) (λ x m. elim (append_member (without l c) (without (negated l) d) x m) [
      | inl r ↦ has-member F x (without_within l c F hc x r)
      | inr r ↦ has-member F x (without_within (negated l) d F hd x r)
    ])

-- both clauses are within it and the literal that it hasn't
pub within_resolved : (c d : List Lit) (l : Lit) → (is_within c (l ∷ resolved c d l) ≡ true) × (is_within d (negated l ∷ resolved c d l) ≡ true)
within_resolved c d l = (
  within_from c (l ∷ resolved c d l) (λ x m. but l c (λ y n. member_left (without l c) (without (negated l) d) y n) x m),
  within_from d (negated l ∷ resolved c d l) (λ x m. but (negated l) d (λ y n. member_right (without l c) (without (negated l) d) y n) x m),
)
  where
    but : (k : Lit) (b : List Lit) → ((y : Lit) → Member (without k b) y → Member (without l c ++ without (negated l) d) y) → (x : Lit) → Member b x → Member (k ∷ resolved c d l) x
    but k b f x m = elim (cases_Bool (same_lit x k)) [
      | inl on ↦ inl (sym (same_lit-true x k on))
      | inr off ↦ inr (member-has (resolved c d l) x (both_parts (same_lit x) c d l x (f x (member_filter (λ x. not (same_lit x k)) b x m (ap not off))) (same_lit-refl x)))
    ]

pub member_with : (l : Lit) (c : List Lit) (x : Lit) → Member (l ∷ c) x → Member (with_lit l c) x
member_with l c x m = member-has (with_lit l c) x (any-with_lit (same_lit x) l c ∙ elim m [
  | inl same ↦ or_right (has c x) (same_lit x l) (subst (λ (y : Lit). same_lit x y ≡ true) (sym same) (same_lit-refl x))
  | inr r ↦ or_left (has c x) (same_lit x l) (has-member c x r)
])

with_member : (l : Lit) (c : List Lit) (x : Lit) → Member (with_lit l c) x → Member (l ∷ c) x
with_member l c x m = elim (or_cases (has c x) (same_lit x l) (sym (any-with_lit (same_lit x) l c) ∙ has-member (with_lit l c) x m)) [
  | inl r ↦ inr (member-has c x r)
  | inr same ↦ inl (sym (same_lit-true x l same))
]

-- what is within a clause with one literal more and one less
pub within_left : (c d : List Lit) (out l : Lit) → is_within c (without out (with_lit l d)) ≡ true → is_within c (l ∷ without out d) ≡ true
within_left c d out l h = within_from c (l ∷ without out d) (λ x m.
    let f = filter_member (λ y. not (same_lit y out)) (with_lit l d) x (within_member c (without out (with_lit l d)) h x m) in
    elim (with_member l d x f.0) [
      | inl same ↦ inl same
      | inr r ↦ inr (member_filter (λ y. not (same_lit y out)) d x r f.1)
    ])

-- a clause that has no other literals
pub left_within : (c d F : List Lit) (out l : Lit) → is_within c (l ∷ F) ≡ true → is_within F d ≡ true → has F out ≡ false → same_lit l out ≡ false → is_within c (without out (with_lit l d)) ≡ true
left_within c d F out l h inside none other = within_from c (without out (with_lit l d)) (λ x m. elim (within_member c (l ∷ F) h x m) [
  | inl same ↦ member_filter (λ y. not (same_lit y out)) (with_lit l d) x (member_with l d x (inl same)) (subst (λ (y : Lit). not (same_lit y out) ≡ true) same (ap not other))
  | inr r ↦ member_filter (λ y. not (same_lit y out)) (with_lit l d) x (member_with l d x (inr (within_member F d inside x r))) (ap not (false_from_ne_true (same_lit x out) (λ e. false≢true (sym none ∙ has-member F out (subst (Member F) (same_lit-true x out e) r)))))
])

pub resolved_ascending : (c d : List Lit) (l : Lit) → IsAscending (resolved c d l)
resolved_ascending c d l = set_ascends (without l c ++ without (negated l) d)

-- ---- tautologies that need not be made

not_negated : (x l : Lit) → not (same_lit x l) ≡ true → not (same_lit (negated x) (negated l)) ≡ true
not_negated x l h = ap not (false_from_ne_true (same_lit (negated x) (negated l)) (λ e.
    let back : x ≡ l = sym (negated-negated x) ∙ (ap negated (same_lit-true (negated x) (negated l) e) ∙ negated-negated l) in
    false≢true (sym (not-true (same_lit x l) h) ∙ subst (λ (y : Lit). same_lit x y ≡ true) back (same_lit-refl x))))

pub opposed_tautology : (c d : List Lit) (l : Lit) → opposed_elsewhere c d l ≡ true → is_tautology (resolved c d l) ≡ true
opposed_tautology c d l h =
    let x = any_member (λ x. not (same_lit x l) && has d (negated x)) c h in
    let parts = and_parts (not (same_lit x.0 l)) (has d (negated x.0)) x.2 in
    let here : Member (without l c ++ without (negated l) d) x.0 = member_left (without l c) (without (negated l) d) x.0 (member_filter (λ x. not (same_lit x l)) c x.0 x.1 parts.0) in
    let there : Member (without l c ++ without (negated l) d) (negated x.0) = member_right (without l c) (without (negated l) d) (negated x.0) (member_filter (λ x. not (same_lit x (negated l))) d (negated x.0) (member-has d (negated x.0) parts.1) (not_negated x.0 l parts.0)) in
    tautology_from (resolved c d l) x.0 (member-has (resolved c d l) x.0 (both_parts (same_lit x.0) c d l x.0 here (same_lit-refl x.0))) (member-has (resolved c d l) (negated x.0) (both_parts (same_lit (negated x.0)) c d l (negated x.0) there (same_lit-refl (negated x.0))))
