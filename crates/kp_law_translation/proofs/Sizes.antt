-- With the empty tag alone a task weighs at most twice what the instances do.
use Rattle.std.proofs.Common.{◌≡◌, ◌≤◌, ◌+◌, ◌*◌, ℕ, zero, suc, Bool, cond, true, false, not, nat_lt, ◌==◌, if◌then◌else◌, List, [], ◌∷◌, ◌++◌, length, map, filter, fold, arith}
use Rattle.std.specs.Prelude.{sum_by}
use Rattle.std.specs.List.{flat_map}
use Rattle.std.proofs.lemmas.List.{length-append, length-map}
use Rattle.std.proofs.lemmas.List.Sums.{sum_by-append, sum_by-cons}
use Rattle.std.proofs.Math.Nat.{suc-mul}
use Rattle.kp_base.specs.declared.lit.Lit.{Lit}
use Rattle.kp_base.specs.Planning.{only_if, each_once, code_of, negated, with_lit, set_of, Atom}
use Rattle.kp_names_semantics.specs.Numbered.{Cond, Conds, Eff, Effs, Schema, Lifted}
use Rattle.kp_names_semantics.specs.Numbering.{numbered_problem}
use Rattle.kp_names_semantics.specs.Lifted.{Binding, bindings, literal}
use Rattle.kp_ground_semantics.specs.declared.flat.FlatEffect.{FlatEffect}
use Rattle.kp_ground_semantics.specs.Static.{is_static, settled, remaining, all_remaining}
use Rattle.kp_ground_semantics.specs.Flattening.{under, flat, all_flat, same_flat}
use Rattle.kp_ground_semantics.specs.Weights.{cond_size, conds_size, or_leaf, leaves_weight, all_leaves_weight, weight, total_weight}
use Rattle.kp_ground_semantics.specs.Ground.{kept_bindings, ground_atoms, numbered, numbered_set, numbered_effect, is_idle, ground_pre, ground_effects, action_of, actions_of, ground_of}
use Rattle.kp_law_ktask.specs.Weight.{both_weight, action_weight}
use Rattle.kp_law_ktask.proofs.Public.{weight_is_counted}
use Rattle.kp_law_translation.specs.Tables.{empty_tag, EmptyTagsAreLight}
use Rattle.kp_law_translation.specs.OfTrees as given

-- ---- sums

sum_each : {X : Type 0} (f g : X → ℕ) (xs : List X) → ((x : X) → f x ≤ g x) → sum_by f xs ≤ sum_by g xs
sum_each f g [] h = omega arith
sum_each f g (x ∷ xs) h =
    let a = h x in
    let b = sum_each f g xs h in
    let c = sum_by-cons f x xs in
    let d = sum_by-cons g x xs in
    omega (arith, a, b, c, d)

sum_left : {X : Type 0} (f : X → ℕ) (t : X → Bool) (xs : List X) → sum_by f (filter t xs) ≤ sum_by f xs
sum_left f t [] = omega arith
sum_left f t (x ∷ xs) = by (t x) (sum_left f t xs)
  where
    by : (b : Bool) → sum_by f (filter t xs) ≤ sum_by f xs → sum_by f (cond b (x ∷ filter t xs) (filter t xs)) ≤ sum_by f (x ∷ xs)
    by true h = let a = sum_by-cons f x (filter t xs) in let c = sum_by-cons f x xs in omega (arith, h, a, c)
    by false h = let c = sum_by-cons f x xs in omega (arith, h, c)

sum_once : {X : Type 0} (f : X → ℕ) (same : X → X → Bool) (xs : List X) → sum_by f (each_once same xs) ≤ sum_by f xs
sum_once f same [] = omega arith
sum_once f same (x ∷ xs) =
    let a = sum_left f (λ y. not (same x y)) (each_once same xs) in
    let b = sum_once f same xs in
    let c = sum_by-cons f x (filter (λ y. not (same x y)) (each_once same xs)) in
    let d = sum_by-cons f x xs in
    omega (arith, a, b, c, d)

sum_only_if : {X : Type 0} (f : X → ℕ) (b : Bool) (xs : List X) → sum_by f (only_if b xs) ≤ sum_by f xs
sum_only_if f true xs = omega arith
sum_only_if f false xs = omega arith

sum_mapped : {X Y : Type 0} (f : Y → ℕ) (g : X → Y) (xs : List X) → sum_by f (map g xs) ≡ sum_by (λ x. f (g x)) xs
sum_mapped f g [] = omega arith
sum_mapped f g (x ∷ xs) =
    let a = sum_by-cons f (g x) (map g xs) in
    let b = sum_by-cons (λ x. f (g x)) x xs in
    let c = sum_mapped f g xs in
    omega (arith, a, b, c)

-- where each term is at most n
sum_flat : {X Y : Type 0} (f : Y → ℕ) (g : X → List Y) (n : ℕ) (xs : List X) → ((x : X) → sum_by f (g x) ≤ n) → sum_by f (flat_map g xs) ≤ length xs * n
sum_flat f g n [] h = omega arith
sum_flat f g n (x ∷ xs) h =
    let a = h x in
    let b = sum_flat f g n xs h in
    let c = sum_by-append f (g x) (flat_map g xs) in
    let d = suc-mul (length xs) n in
    omega (arith, a, b, c, d)

sum_bounded : {X : Type 0} (f : X → ℕ) (n : ℕ) (xs : List X) → ((x : X) → f x ≤ n) → sum_by f xs ≤ length xs * n
sum_bounded f n [] h = omega arith
sum_bounded f n (x ∷ xs) h =
    let a = h x in
    let b = sum_bounded f n xs h in
    let c = sum_by-cons f x xs in
    let d = suc-mul (length xs) n in
    omega (arith, a, b, c, d)

sum_twice : {X : Type 0} (f : X → ℕ) (xs : List X) → sum_by (λ x. 2 * f x) xs ≡ 2 * sum_by f xs
sum_twice f [] = omega arith
sum_twice f (x ∷ xs) =
    let a = sum_by-cons (λ x. 2 * f x) x xs in
    let b = sum_by-cons f x xs in
    let c = sum_twice f xs in
    omega (arith, a, b, c)

twice_times : (n w : ℕ) → n * (2 * w) ≡ 2 * (n * w)
twice_times zero w = omega arith
twice_times (suc n) w =
    let a = suc-mul n (2 * w) in
    let b = suc-mul n w in
    let c = twice_times n w in
    omega (arith, a, b, c)

-- ---- sets

with_lit_within : (l : Lit) (ls : List Lit) → length (with_lit l ls) ≤ suc (length ls)
with_lit_within l [] = omega arith
with_lit_within l (x ∷ xs) = by (nat_lt (code_of l) (code_of x)) (code_of l == code_of x) (with_lit_within l xs)
  where
    by : (before here : Bool) → length (with_lit l xs) ≤ suc (length xs) → length (if before then l ∷ x ∷ xs else if here then x ∷ xs else x ∷ with_lit l xs) ≤ suc (suc (length xs))
    by true here h = omega arith
    by false true h = omega arith
    by false false h = omega (arith, h)

-- a set has as many literals as the list, at most
set_within : (ls : List Lit) → length (set_of ls) ≤ length ls
set_within ls = let a = go ls [] in omega (arith, a)
  where
    go : (ls set : List Lit) → length (fold (λ set l. with_lit l set) set ls) ≤ length set + length ls
    go [] set = omega arith
    go (l ∷ ls) set = let a = with_lit_within l set in let b = go ls (with_lit l set) in omega (arith, a, b)

-- ---- conditions

only_if_within : {X : Type 0} (b : Bool) (xs : List X) → length (only_if b xs) ≤ length xs
only_if_within true xs = omega arith
only_if_within false xs = omega arith

mutual
  remaining_within : (l : Lifted) (b : Binding) (c : Cond) → length (remaining l b c) ≤ cond_size c
  remaining_within l b (Cond.all cs) = all_remaining_within l b cs
  remaining_within l b (Cond.atom positive q ts) = only_if_within (not (is_static l q)) (literal positive q ts b ∷ [])
  remaining_within l b (Cond.same positive left right) = omega arith

  all_remaining_within : (l : Lifted) (b : Binding) (cs : Conds) → length (all_remaining l b cs) ≤ conds_size cs
  all_remaining_within l b Conds.no_cond = omega arith
  all_remaining_within l b (Conds.more_conds c cs) =
      let a = length-append (remaining l b c) (all_remaining l b cs) in
      let d = remaining_within l b c in
      let e = all_remaining_within l b cs in
      omega (arith, a, d, e)

-- ---- effects

-- an effect counts its conditions, and k
abbrev cost : ℕ → FlatEffect → ℕ
cost k f = k + length f.cond

or_leaf_within : (leaf n : ℕ) → n ≤ or_leaf leaf n
or_leaf_within leaf zero = omega arith
or_leaf_within leaf (suc n) = omega arith

-- the effects cost what their leaves weigh, at most
mutual
  leaves_heavy : (l : Lifted) (b : Binding) (k leaf : ℕ) (e : Eff) → k ≤ leaf → sum_by (cost k) (flat l b e) ≤ leaves_weight leaf e
  leaves_heavy l b k leaf (Eff.both es) h = let a = all_leaves_heavy l b k leaf es h in let c = or_leaf_within leaf (all_leaves_weight leaf es) in omega (arith, a, c)
  leaves_heavy l b k leaf (Eff.when c e) h =
      let r = remaining l b c in
      let a = sum_only_if (cost k) (settled l b c) (map (under r) (flat l b e)) in
      let m = sum_mapped (cost k) (under r) (flat l b e) in
      let s = sum_each (λ f. cost k (under r f)) (cost (k + length r)) (flat l b e) (λ f. let n = length-append r f.cond in omega (arith, n)) in
      let w = remaining_within l b c in
      let i = leaves_heavy l b (k + length r) (leaf + cond_size c) e (omega (arith, h, w)) in
      omega (arith, a, m, s, i)
  leaves_heavy l b k leaf (Eff.each rs e) h =
      let a = sum_flat (cost k) (λ os. flat l (b ++ os) e) (leaves_weight leaf e) (bindings rs) (λ os. leaves_heavy l (b ++ os) k leaf e h) in
      let c = or_leaf_within leaf (length (bindings rs) * leaves_weight leaf e) in
      omega (arith, a, c)
  leaves_heavy l b k leaf (Eff.makes positive q ts) h = omega (arith, h)

  all_leaves_heavy : (l : Lifted) (b : Binding) (k leaf : ℕ) (es : Effs) → k ≤ leaf → sum_by (cost k) (all_flat l b es) ≤ all_leaves_weight leaf es
  all_leaves_heavy l b k leaf Effs.no_eff h = omega arith
  all_leaves_heavy l b k leaf (Effs.more_effs e es) h =
      let a = sum_by-append (cost k) (flat l b e) (all_flat l b es) in
      let c = leaves_heavy l b k leaf e h in
      let d = all_leaves_heavy l b k leaf es h in
      omega (arith, a, c, d)

-- its support and its cancellation weigh at most twice that
both_light : (atoms : List Atom) (f : FlatEffect) → both_weight (numbered_effect atoms f) ≤ 2 * cost 1 f
both_light atoms f =
    let a = set_within (map (numbered atoms) f.cond) in
    let b = length-map f.cond (numbered atoms) in
    let c = set_within (map negated (numbered_set atoms f.cond)) in
    let d = length-map (numbered_set atoms f.cond) negated in
    omega (arith, a, b, c, d)

effects_light : (l : Lifted) (atoms : List Atom) (a : Schema) (os : List ℕ) → sum_by both_weight (ground_effects l atoms a os) ≤ 2 * leaves_weight 1 a.effect
effects_light l atoms a os =
    let fs = flat l os a.effect in
    let once = each_once same_flat fs in
    let left = sum_left both_weight (λ e. not (is_idle (ground_pre l atoms a os) (map (numbered_effect atoms) once) e)) (map (numbered_effect atoms) once) in
    let mapped = sum_mapped both_weight (numbered_effect atoms) once in
    let each = sum_each (λ f. both_weight (numbered_effect atoms f)) (λ f. 2 * cost 1 f) once (both_light atoms) in
    let twice = sum_twice (cost 1) once in
    let less = sum_once (cost 1) same_flat fs in
    let leaves = leaves_heavy l os 1 1 a.effect (omega arith) in
    omega (arith, left, mapped, each, twice, less, leaves)

-- ---- actions

action_light : (l : Lifted) (atoms : List Atom) (a : Schema) (os : List ℕ) → action_weight 1 (action_of l atoms a os) ≤ 2 * weight a
action_light l atoms a os =
    let b = set_within (map (numbered atoms) (remaining l os a.pre)) in
    let c = length-map (remaining l os a.pre) (numbered atoms) in
    let d = remaining_within l os a.pre in
    let e = effects_light l atoms a os in
    omega (arith, b, c, d, e)

all_light : (l : Lifted) (atoms : List Atom) (as' : List Schema) → sum_by (action_weight 1) (flat_map (actions_of l atoms) as') ≤ 2 * sum_by (λ a. length (kept_bindings l a) * weight a) as'
all_light l atoms [] = omega arith
all_light l atoms (a ∷ as') =
    let b = sum_by-append (action_weight 1) (actions_of l atoms a) (flat_map (actions_of l atoms) as') in
    let c = sum_mapped (action_weight 1) (action_of l atoms a) (kept_bindings l a) in
    let d = sum_bounded (λ os. action_weight 1 (action_of l atoms a os)) (2 * weight a) (kept_bindings l a) (action_light l atoms a) in
    let e = twice_times (length (kept_bindings l a)) (weight a) in
    let f = all_light l atoms as' in
    let g = sum_by-cons (λ a. length (kept_bindings l a) * weight a) a as' in
    omega (arith, b, c, d, e, f, g)

-- the actions of a problem by number
pub actions_light : (l : Lifted) → sum_by (action_weight 1) (ground_of l).actions ≤ 2 * total_weight l
actions_light l = all_light l (ground_atoms l) l.schemas

-- ---- the law

pub empty_tags_light : EmptyTagsAreLight
empty_tags_light d p =
    let a = actions_light (numbered_problem d p) in
    let b = weight_is_counted (given.ground_of d p) (empty_tag d p) in
    omega (arith, a, b)
