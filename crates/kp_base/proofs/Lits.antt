-- Literals: equality, negation, and truth in a state.
use Rattle.std.proofs.Common.{◌≡◌, Bool, true, false, not, ◌&&◌, List, Contains, refl, sym, ap, ap₂, subst, ◌∙◌, eqb-true, eq-eqb, nat_eq}
use Rattle.std.proofs.lemmas.Bool.{false≢true, and_parts, and_from}
use Rattle.std.specs.Bool.{beq}
use Rattle.std.specs.Cmp.{IsEquivalence, booleans_Decides, on_equiv, and_equiv, nat_eq_equiv, bool_eq_equiv}
use Rattle.kp_base.specs.declared.lit.Lit.{Lit}
use Rattle.kp_base.specs.Lists.{Member, signed}
use Rattle.kp_base.specs.Lit.{negated, same_lit}
use Rattle.kp_base.specs.Steps.{State, holds, has}
use Rattle.kp_base.proofs.Lists.{not_not, any_from, same_member, contains_member, member_contains}

pub same_lit-true : (a b : Lit) → same_lit a b ≡ true → a ≡ b
same_lit-true a b h =
    let parts = and_parts (nat_eq a.atom.0 b.atom.0) (beq a.positive b.positive) h in
    ap₂ (λ n s. let l : Lit = record { atom = record { 0 = n }; positive = s } in l) (eqb-true a.atom.0 b.atom.0 parts.0) ((booleans_Decides a.positive b.positive).0 parts.1)

pub same_lit-refl : (a : Lit) → same_lit a a ≡ true
same_lit-refl a = and_from (nat_eq a.atom.0 a.atom.0) (beq a.positive a.positive) (eq-eqb a.atom.0 a.atom.0 refl) (same a.positive)
  where
    same : (b : Bool) → beq b b ≡ true
    same true = refl
    same false = refl

pub same_lits : IsEquivalence same_lit
same_lits = and_equiv (on_equiv (λ (l : Lit). l.atom.0) nat_eq_equiv) (on_equiv (λ (l : Lit). l.positive) bool_eq_equiv)

pub has-member : (ls : List Lit) (l : Lit) → Member ls l → has ls l ≡ true
has-member ls l m = any_from (same_lit l) ls l m (same_lit-refl l)

pub member-has : (ls : List Lit) (l : Lit) → has ls l ≡ true → Member ls l
member-has = same_member same_lit same_lit-true

pub contains_has : (ls : List Lit) (l : Lit) → Contains ls l → has ls l ≡ true
contains_has ls l h = has-member ls l (contains_member ls l h)

pub has_contains : (ls : List Lit) (l : Lit) → has ls l ≡ true → Contains ls l
has_contains ls l h = member_contains ls l (member-has ls l h)

pub negated-negated : (l : Lit) → negated (negated l) ≡ l
negated-negated l = ap (λ b. record { atom = l.atom; positive = b }) (not_not l.positive)

-- the same literal, negated on the one side or on the other
pub same_lit-negated : (a b : Lit) → same_lit (negated a) b ≡ same_lit a (negated b)
same_lit-negated a b = ap (λ t. nat_eq a.atom.0 b.atom.0 && t) (sign a.positive b.positive)
  where
    sign : (c d : Bool) → beq (not c) d ≡ beq c (not d)
    sign true true = refl
    sign true false = refl
    sign false true = refl
    sign false false = refl

pub holds-negated : (s : State) (l : Lit) → holds s (negated l) ≡ not (holds s l)
holds-negated s l = sign l.positive (s l.atom.0)
  where
    sign : (b c : Bool) → signed (not b) c ≡ not (signed b c)
    sign true c = refl
    sign false c = sym (not_not c)

-- two literals of one atom that are true in a state are the same
pub same_truth : (s : State) (l m : Lit) → l.atom.0 ≡ m.atom.0 → holds s l ≡ true → holds s m ≡ true → l ≡ m
same_truth s l m e a b = ap₂ (λ n t. let x : Lit = record { atom = record { 0 = n }; positive = t } in x) e (sign l.positive m.positive (s l.atom.0) a (subst (λ n. signed m.positive (s n) ≡ true) (sym e) b))
  where
    sign : (t u v : Bool) → signed t v ≡ true → signed u v ≡ true → t ≡ u
    sign true true v _ _ = refl
    sign false false v _ _ = refl
    sign true false v here also = absurd (false≢true (sym (ap not here) ∙ also))
    sign false true v here also = absurd (false≢true (sym (ap not also) ∙ here))
