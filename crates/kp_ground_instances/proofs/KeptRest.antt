-- Instances that are kept one after another.
use Rattle.std.proofs.Common.{◌≡◌, ℕ, ◌+◌, ◌<◌, Bool, true, false, cond, List, [], ◌∷◌, ◌++◌, length, map, filter, drop, slice_get, Some, refl, ap, ◌∙◌, arith, append_assoc, length-append}
use Rattle.std.proofs.lemmas.List.{drop_more}
use Rattle.std.proofs.lemmas.Option.{slice_get_within, get_or_from_slice_get}
use Rattle.kp_base.specs.Lists.{only_if}
use Rattle.kp_names_semantics.specs.Numbered.{Schema, Lifted}
use Rattle.kp_names_semantics.specs.Lifted.{Binding, Instance, bindings}
use Rattle.kp_ground_semantics.specs.Static.{settled}
use Rattle.kp_ground_semantics.specs.Ground.{instance}

-- the kept instances of a schema from the binding of this number on
abbrev pub kept_rest : Lifted → ℕ → Schema → ℕ → List Instance
kept_rest l n a k = map (instance n) (filter (λ os. settled l os a.pre) (drop k (bindings a.params)))

-- the next one, if it is kept, and then the others
pub rest_next : (l : Lifted) (n : ℕ) (a : Schema) (k : ℕ) (os : Binding) → slice_get (bindings a.params) k ≡ Some os → kept_rest l n a k ≡ only_if (settled l os a.pre) (instance n os ∷ []) ++ kept_rest l n a (k + 1)
rest_next l n a k os at =
    let lt = slice_get_within (bindings a.params) k os at in
    ap pick (drop_more (bindings a.params) k os lt ∙ ap (λ o. o ∷ drop (k + 1) (bindings a.params)) (get_or_from_slice_get (bindings a.params) k os os at)) ∙ by (settled l os a.pre)
  where
    pick : List Binding → List Instance
    pick bs = map (instance n) (filter (λ o. settled l o a.pre) bs)

    more : List Binding
    more = filter (λ o. settled l o a.pre) (drop (k + 1) (bindings a.params))

    by : (b : Bool) → map (instance n) (cond b (os ∷ more) more) ≡ only_if b (instance n os ∷ []) ++ map (instance n) more
    by true = refl
    by false = refl

-- ---- gathering

-- with those that are left come all
pub still_all : {X : Type 0} (old more new rest all : List X) → new ≡ old ++ more → old ++ (more ++ rest) ≡ all → new ++ rest ≡ all
still_all old more new rest all is h = ap (λ l. l ++ rest) is ∙ (append_assoc old more rest ∙ h)

-- there are too many with those that come next, and so with all
pub too_many : {X : Type 0} (most : ℕ) (old more rest first all : List X) → most < length old + length more → old ++ (more ++ rest) ≡ first ++ all → most < length first + length all
too_many most old more rest first all h is =
    let e = ap length is in
    let f = length-append old (more ++ rest) in
    let g = length-append more rest in
    let k = length-append first all in
    omega arith
