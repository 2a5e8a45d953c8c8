-- Clauses within clauses: members, tautologies, and one literal more.
use Rattle.std.proofs.Common.{◌≡◌, Bool, true, false, not, List, ◌∷◌, sym, ◌∙◌, ap, subst, inl, inr}
use Rattle.std.proofs.lemmas.Bool.{false≢true, true≢false, true_from_ne_false, cases_Bool, false_from_ne_true}
use Rattle.std.specs.List.{list_any}
use Rattle.kp_base.specs.declared.lit.Lit.{Lit}
use Rattle.kp_base.specs.Planning.{Member, negated, State, holds, is_tautology}
use Rattle.kp_base.specs.Steps.{has}
use Rattle.kp_base.specs.Implicates.{is_within}
use Rattle.kp_base.proofs.Lists.{any_member, any_from, all_from, all_member}
use Rattle.kp_base.proofs.Lits.{has-member, member-has, negated-negated, holds-negated}
use Rattle.kp_clauses.specs.Stored.{subsumed}

pub within_member : (c d : List Lit) → is_within c d ≡ true → (x : Lit) → Member c x → Member d x
within_member c d h x m = member-has d x (all_member (has d) c x m h)

pub within_from : (c d : List Lit) → ((x : Lit) → Member c x → Member d x) → is_within c d ≡ true
within_from c d f = all_from (has d) c (λ x m. has-member d x (f x m))

pub within_trans : (c d e : List Lit) → is_within c d ≡ true → is_within d e ≡ true → is_within c e ≡ true
within_trans c d e h k = within_from c e (λ x m. within_member d e k x (within_member c d h x m))

pub within_self : (c : List Lit) → is_within c c ≡ true
within_self c = within_from c c (λ x m. m)

-- a clause with the literals of a stored one is subsumed, and so is what holds it
pub subsumed_within : (cs : List (List Lit)) (c d : List Lit) → ((x : Lit) → Member c x → Member d x) → subsumed cs c ≡ true → subsumed cs d ≡ true
subsumed_within cs c d f h = let r = any_member (λ e. is_within e c) cs h in any_from (λ e. is_within e d) cs r.0 r.1 (within_from r.0 d (λ x m. f x (within_member r.0 c r.2 x m)))

-- a clause that is true is true within another one
pub true_within : (s : State) (c d : List Lit) → is_within c d ≡ true → list_any (holds s) c ≡ true → list_any (holds s) d ≡ true
true_within s c d inside h = let x = any_member (holds s) c h in any_from (holds s) d x.0 (within_member c d inside x.0 x.1) x.2

-- ---- tautologies

pub tautology_from : (c : List Lit) (x : Lit) → Member c x → Member c (negated x) → is_tautology c ≡ true
tautology_from c x m n = any_from (λ l. has c (negated l)) c x m (has-member c (negated x) n)

-- what is within a clause that is no tautology is none
pub tautology_within : (c d : List Lit) → ((x : Lit) → Member c x → Member d x) → is_tautology d ≡ false → is_tautology c ≡ false
tautology_within c d f h = false_from_ne_true (is_tautology c) (λ e.
    let r = any_member (λ l. has c (negated l)) c e in
    false≢true (sym h ∙ tautology_from d r.0 (f r.0 r.1) (f (negated r.0) (member-has c (negated r.0) r.2))))

-- a tautology is true in each state
pub tautology_true : (s : State) (c : List Lit) → is_tautology c ≡ true → list_any (holds s) c ≡ true
tautology_true s c h =
    let x = any_member (λ l. has c (negated l)) c h in
    elim (cases_Bool (holds s x.0)) [
      | inl on ↦ any_from (holds s) c x.0 x.1 on
      | inr off ↦ any_from (holds s) c (negated x.0) (member-has c (negated x.0) x.2) (holds-negated s x.0 ∙ ap not off)
    ]

pub other : (l : Lit) → l ≡ negated l → ⊥
other l e = sign l.positive (ap (λ (x : Lit). x.positive) e)
  where
    sign : (b : Bool) → b ≡ not b → ⊥
    sign true h = true≢false h
    sign false h = false≢true h

-- one more literal makes no tautology, if its negation isn't there
pub proper_more : (F : List Lit) (l : Lit) → is_tautology F ≡ false → has F (negated l) ≡ false → is_tautology (l ∷ F) ≡ false
proper_more F l proper none = false_from_ne_true (is_tautology (l ∷ F)) (λ e.
    let r = any_member (λ x. has (l ∷ F) (negated x)) (l ∷ F) e in
    bad r.0 r.1 (member-has (l ∷ F) (negated r.0) r.2))
  where
    bad : (x : Lit) → Member (l ∷ F) x → Member (l ∷ F) (negated x) → ⊥
    bad x m n = elim m [
      | inl same ↦ elim n [
        | inl same' ↦ other l (same' ∙ ap negated (sym same))
        | inr in' ↦ false≢true (sym none ∙ has-member F (negated l) (subst (λ (y : Lit). Member F (negated y)) (sym same) in'))
      ]
      | inr in-x ↦ elim n [
        | inl same' ↦ false≢true (sym none ∙ has-member F (negated l) (subst (Member F) (sym (ap negated same' ∙ negated-negated x)) in-x))
        | inr in' ↦ false≢true (sym proper ∙ tautology_from F x in-x in')
      ]
    ]

-- a clause within the list and one more literal, but not within the list, has that literal
pub has_new : (e F : List Lit) (l : Lit) → is_within e (l ∷ F) ≡ true → is_within e F ≡ false → has e l ≡ true
has_new e F l h none = true_from_ne_false (has e l) (λ out.
    false≢true (sym none ∙ within_from e F (λ x m. elim (within_member e (l ∷ F) h x m) [
      | inl same ↦ absurd (false≢true (sym out ∙ has-member e l (subst (Member e) (sym same) m)))
      | inr in' ↦ in'
    ])))
