-- Sets of literals that were put in one by one.
use Rattle.std.proofs.Common.{◌≡◌, Bool, true, false, ◌&&◌, ◌||◌, if◌then◌else◌, List, [], ◌∷◌, fold, refl, subst, ◌∙◌, nat_eq, nat_lt, eqb-true}
use Rattle.std.specs.List.{list_any, list_all}
use Rattle.std.specs.Cmp.{IsEquivalence}
use Rattle.std.specs.Cmp.Lexicographic.{pointwise_decides, lists_equiv}
use Rattle.kp_base.specs.declared.lit.Lit.{Lit}
use Rattle.kp_base.specs.Lit.{code_of, same_lit}
use Rattle.kp_base.specs.LitSet.{IsAscending, same_set, with_lit, set_of}
use Rattle.kp_base.proofs.Lits.{same_lit-true, same_lit-refl, same_lits}
use Rattle.kp_base.proofs.Ascending.{code_of-injective, IsAscending-with_lit}

-- the test whether two sets are one
pub same_sets : IsEquivalence same_set
same_sets = lists_equiv same_lits

pub same_set-true : (a b : List Lit) → same_set a b ≡ true → a ≡ b
same_set-true a b = (pointwise_decides (λ (x y : Lit). (same_lit-true x y, λ (e : x ≡ y). subst (λ z. same_lit x z ≡ true) e (same_lit-refl x))) a b).0

pub any-with_lit : (k : Lit → Bool) (l : Lit) (ls : List Lit) → list_any k (with_lit l ls) ≡ (list_any k ls || k l)
any-with_lit k l [] = turned (k l)
  where
    turned : (a : Bool) → (a || false) ≡ a
    turned true = refl
    turned false = refl
any-with_lit k l (x ∷ ls) = pick (nat_lt (code_of l) (code_of x)) (nat_eq (code_of l) (code_of x)) refl (any-with_lit k l ls)
  where
    last : (a b c : Bool) → (a || (b || c)) ≡ ((b || c) || a)
    last true true c = refl
    last true false true = refl
    last true false false = refl
    last false true c = refl
    last false false true = refl
    last false false false = refl

    twice : (a b : Bool) → (a || b) ≡ ((a || b) || a)
    twice true b = refl
    twice false true = refl
    twice false false = refl

    later : (a b c : Bool) → (a || (b || c)) ≡ ((a || b) || c)
    later true b c = refl
    later false b c = refl

    pick : (t u : Bool) → nat_eq (code_of l) (code_of x) ≡ u → list_any k (with_lit l ls) ≡ (list_any k ls || k l) → list_any k (if t then l ∷ x ∷ ls else if u then x ∷ ls else x ∷ with_lit l ls) ≡ ((k x || list_any k ls) || k l)
    pick true u is rest = last (k l) (k x) (list_any k ls)
    pick false true is rest = let e = code_of-injective l x (eqb-true (code_of l) (code_of x) is) in rw e (twice (k x) (list_any k ls))
    pick false false is rest = rw rest (later (k x) (list_any k ls) (k l))

pub all-with_lit : (k : Lit → Bool) (l : Lit) (ls : List Lit) → list_all k (with_lit l ls) ≡ (list_all k ls && k l)
all-with_lit k l [] = turned (k l)
  where
    turned : (a : Bool) → (a && true) ≡ a
    turned true = refl
    turned false = refl
all-with_lit k l (x ∷ ls) = pick (nat_lt (code_of l) (code_of x)) (nat_eq (code_of l) (code_of x)) refl (all-with_lit k l ls)
  where
    last : (a b c : Bool) → (a && (b && c)) ≡ ((b && c) && a)
    last true true true = refl
    last true true false = refl
    last true false c = refl
    last false true true = refl
    last false true false = refl
    last false false c = refl

    twice : (a b : Bool) → (a && b) ≡ ((a && b) && a)
    twice true true = refl
    twice true false = refl
    twice false b = refl

    later : (a b c : Bool) → (a && (b && c)) ≡ ((a && b) && c)
    later true b c = refl
    later false b c = refl

    pick : (t u : Bool) → nat_eq (code_of l) (code_of x) ≡ u → list_all k (with_lit l ls) ≡ (list_all k ls && k l) → list_all k (if t then l ∷ x ∷ ls else if u then x ∷ ls else x ∷ with_lit l ls) ≡ ((k x && list_all k ls) && k l)
    pick true u is rest = last (k l) (k x) (list_all k ls)
    pick false true is rest = let e = code_of-injective l x (eqb-true (code_of l) (code_of x) is) in rw e (twice (k x) (list_all k ls))
    pick false false is rest = rw rest (later (k x) (list_all k ls) (k l))

-- some literal of a set passes where some literal of the list does
pub any-set_of : (k : Lit → Bool) (ls : List Lit) → list_any k (set_of ls) ≡ list_any k ls
any-set_of k ls = go ls []
  where
    joined : (a b c : Bool) → ((a || b) || c) ≡ (a || (b || c))
    joined true b c = refl
    joined false b c = refl

    turned : (a : Bool) → a ≡ (a || false)
    turned true = refl
    turned false = refl

    go : (ls set : List Lit) → list_any k (fold (λ set l. with_lit l set) set ls) ≡ (list_any k set || list_any k ls)
    go [] set = turned (list_any k set)
    go (l ∷ ls) set = go ls (with_lit l set) ∙ rw (any-with_lit k l set) (joined (list_any k set) (k l) (list_any k ls))

-- all literals of a set pass where all literals of the list do
pub all-set_of : (k : Lit → Bool) (ls : List Lit) → list_all k (set_of ls) ≡ list_all k ls
all-set_of k ls = go ls []
  where
    joined : (a b c : Bool) → ((a && b) && c) ≡ (a && (b && c))
    joined true b c = refl
    joined false b c = refl

    turned : (a : Bool) → a ≡ (a && true)
    turned true = refl
    turned false = refl

    go : (ls set : List Lit) → list_all k (fold (λ set l. with_lit l set) set ls) ≡ (list_all k set && list_all k ls)
    go [] set = turned (list_all k set)
    go (l ∷ ls) set = go ls (with_lit l set) ∙ rw (all-with_lit k l set) (joined (list_all k set) (k l) (list_all k ls))

-- a set is in ascending order
pub set_ascends : (ls : List Lit) → IsAscending (set_of ls)
set_ascends ls = go ls [] tt
  where
    go : (ls set : List Lit) → IsAscending set → IsAscending (fold (λ set l. with_lit l set) set ls)
    go [] set s = s
    go (l ∷ ls) set s = go ls (with_lit l set) (IsAscending-with_lit set l s)
