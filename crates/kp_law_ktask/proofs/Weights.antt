-- The weight of a task is known before its operators are made.
use Rattle.std.proofs.Common.{◌≡◌, ◌<◌, ◌+◌, ◌*◌, ℕ, zero, suc, Bool, true, false, ◌||◌, ◌==◌, nat_lt, if◌then◌else◌, List, [], ◌∷◌, map, length, fold, sum_by, inl, inr, refl, sym, ap, ap₂, subst, ◌∙◌, arith}
use Rattle.std.proofs.lemmas.Bool.{false≢true, false_from_ne_true, eqb-true}
use Rattle.std.proofs.lemmas.List.{length-map}
use Rattle.std.proofs.lemmas.List.Sums.{sum_by-append, sum_by-cons}
use Rattle.std.specs.List.{list_any, flat_map}
use Rattle.kp_base.specs.declared.lit.Lit.{Lit}
use Rattle.kp_base.specs.declared.ground.Effect.{Effect}
use Rattle.kp_base.specs.declared.ground.Action.{Action}
use Rattle.kp_base.specs.declared.ground.Merge.{Merge}
use Rattle.kp_base.specs.Lists.{Member}
use Rattle.kp_base.specs.Lit.{negated, code_of}
use Rattle.kp_base.specs.LitSet.{IsAscending, with_lit}
use Rattle.kp_base.proofs.Ascending.{code_of-injective, tail_ascends}
use Rattle.kp_base.proofs.Lits.{negated-negated}
use Rattle.kp_base.proofs.Sets.{any-with_lit}
use Rattle.kp_write.specs.Facts.{opposites}
use Rattle.kp_law_ktask.specs.Task.{under, number, numbers, effects_under, effects_from, op_of, merge_op, merge_ops_from}
use Rattle.kp_law_ktask.specs.Weight.{effect_weight, op_weight, both_weight, action_weight, merge_weight, WeightIsCounted, BothWeighAlike}

-- ---- operators

numbers_length : (n t : ℕ) (ls : List Lit) → length (numbers n t ls) ≡ length ls
numbers_length n t ls = length-map (under t ls) (number n) ∙ length-map ls (λ l. record { tag = t; lit = l })

-- the effects under one tag
under_weight : (n t : ℕ) (es : List Effect) → sum_by effect_weight (flat_map (effects_under n t) es) ≡ sum_by both_weight es
under_weight n t [] = refl
under_weight n t (e ∷ es) =
    let first = numbers_length n t e.cond in
    let second = numbers_length n t (opposites e.cond) in
    let rest = under_weight n t es in
    sum_by-append effect_weight (effects_under n t e) (flat_map (effects_under n t) es)
    ∙ omega (arith, first, second, rest, sum_by-cons both_weight e es)

effects_weight : (n t tags : ℕ) (es : List Effect) → sum_by effect_weight (effects_from n t tags es) ≡ tags * sum_by both_weight es
effects_weight n t zero es = omega arith
effects_weight n t (suc tags) es =
    sum_by-append effect_weight (flat_map (effects_under n t) es) (effects_from n (suc t) tags es)
    ∙ ap₂ (λ a b. a + b) (under_weight n t es) (effects_weight n (suc t) tags es) ∙ one_more (sum_by both_weight es)
  where
    one_more : (s : ℕ) → s + tags * s ≡ suc tags * s
    one_more s = omega arith

actions_weight : (n tags : ℕ) (acts : List Action) → sum_by op_weight (map (op_of n tags) acts) ≡ sum_by (action_weight tags) acts
actions_weight n tags [] = refl
actions_weight n tags (a ∷ acts) =
    let pre = numbers_length n 0 a.pre in
    let effects = effects_weight n 0 tags a.effects in
    let rest = actions_weight n tags acts in
    sum_by-cons op_weight (op_of n tags a) (map (op_of n tags) acts)
    ∙ ap₂ (λ x y. x + y) (ap₂ (λ x y. x + 0 + y) pre effects ∙ no_more (length a.pre) (tags * sum_by both_weight a.effects)) rest
    ∙ sym (sum_by-cons (action_weight tags) a acts)
  where
    no_more : (x y : ℕ) → x + 0 + y ≡ x + y
    no_more x y = omega arith

merges_weight : (n m : ℕ) (xs : List Merge) → sum_by op_weight (merge_ops_from n m xs) ≡ sum_by merge_weight xs
merges_weight n m [] = refl
merges_weight n m (x ∷ xs) =
    let pre = length-map x.tags (λ t. number n (record { tag = t; lit = x.target })) in
    let rest = merges_weight n (suc m) xs in
    sum_by-cons op_weight (merge_op n m x) (merge_ops_from n (suc m) xs)
    ∙ ap₂ (λ y z. y + z) (ap (λ y. y + 0 + 1) pre ∙ one (length x.tags)) rest
    ∙ sym (sum_by-cons merge_weight x xs)
  where
    one : (y : ℕ) → y + 0 + 1 ≡ y + 1
    one y = omega arith

pub weight_counted : WeightIsCounted
weight_counted g table =
    sum_by-append op_weight (map (op_of (length g.atoms) (length table.tags)) g.actions) (merge_ops_from (length g.atoms) 0 table.merges)
    ∙ ap₂ (λ x y. x + y) (actions_weight (length g.atoms) (length table.tags) g.actions) (merges_weight (length g.atoms) 0 table.merges)

-- ---- cancellations

-- no literal of the set has this code
abbrev IsNew : Lit → List Lit → Type 0
IsNew l set = list_any (λ m. code_of l == code_of m) set ≡ false

one_longer : (l : Lit) (set : List Lit) → IsNew l set → length (with_lit l set) ≡ suc (length set)
one_longer l [] new = refl
one_longer l (x ∷ xs) new = go (nat_lt (code_of l) (code_of x)) (code_of l == code_of x) refl (one_longer l xs (later new)) where
  later : ((code_of l == code_of x) || list_any (λ m. code_of l == code_of m) xs) ≡ false → IsNew l xs
  later e = other (code_of l == code_of x) e where
    other : (b : Bool) → (b || list_any (λ m. code_of l == code_of m) xs) ≡ false → IsNew l xs
    other true e = absurd (false≢true (sym e))
    other false e = e

  go : (before here : Bool) → (code_of l == code_of x) ≡ here → length (with_lit l xs) ≡ suc (length xs) → length (if before then l ∷ x ∷ xs else if here then x ∷ xs else x ∷ with_lit l xs) ≡ suc (suc (length xs))
  go true here is rest = refl
  go false true is rest = absurd (false≢true (sym new ∙ ap (λ b. b || list_any (λ m. code_of l == code_of m) xs) is))
  go false false is rest = ap suc rest

-- in an ascending list the first is below each later one
first_least : (l : Lit) (ls : List Lit) → IsAscending (l ∷ ls) → (m : Lit) → Member ls m → code_of l < code_of m
first_least l [] h m in_ls = absurd in_ls
first_least l (x ∷ xs) h m (inl e) = subst (λ y. code_of l < code_of y) e h.0
first_least l (x ∷ xs) h m (inr in_xs) = let later = first_least x xs h.1 m in_xs in omega (arith, h.0, later)

negations_differ : (l m : Lit) → code_of l < code_of m → (code_of (negated m) == code_of (negated l)) ≡ false
negations_differ l m less = false_from_ne_true (code_of (negated m) == code_of (negated l)) (λ e.
    let one : negated m ≡ negated l = code_of-injective (negated m) (negated l) (eqb-true (code_of (negated m)) (code_of (negated l)) e) in
    let same : m ≡ l = sym (negated-negated m) ∙ ap negated one ∙ negated-negated l in
    let codes_same = ap code_of same in
    omega (arith, less, codes_same))

as_long : (ls set : List Lit) → IsAscending ls → ((l : Lit) → Member ls l → IsNew (negated l) set) → length (fold (λ set l. with_lit l set) set (map negated ls)) ≡ length set + length ls
as_long [] set h new = omega arith
as_long (l ∷ ls) set h new =
    let longer = one_longer (negated l) set (new l (inl refl)) in
    let rest = as_long ls (with_lit (negated l) set) (tail_ascends l ls h) (λ m in_ls.
    any-with_lit (λ k. code_of (negated m) == code_of k) (negated l) set
    ∙ rw (new m (inr in_ls), negations_differ l m (first_least l ls h m in_ls)) refl) in
    omega (arith, longer, rest)

pub both_alike : BothWeighAlike
both_alike e h =
    let same = as_long e.cond [] h (λ l in_cond. refl) in
    omega (arith, same)
