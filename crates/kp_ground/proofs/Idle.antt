-- An idle delete is found among the adds of its atom.
use Rattle.std.proofs.Common.{◌≡◌, ℕ, Bool, true, false, not, ◌&&◌, ◌||◌, cond, List, [], ◌∷◌, ◌++◌, filter, refl, ap, ◌∙◌, append_assoc, append-nil}
use Rattle.std.specs.List.{list_any}
use Rattle.std.proofs.lemmas.Bool.{or_parts}
use Rattle.kp_base.specs.declared.lit.Lit.{Lit}
use Rattle.kp_base.specs.declared.ground.Effect.{Effect}
use Rattle.kp_base.specs.Lists.{only_if}
use Rattle.kp_base.specs.Lit.{positive, same_lit}
use Rattle.kp_base.specs.Implicates.{is_within}
use Rattle.kp_ground_semantics.specs.Ground.{is_idle}
use Rattle.kp_ground.specs.Adds.{adds_of, covered}

any-filter : {X : Type 0} (p q : X → Bool) (xs : List X) → list_any p (filter q xs) ≡ list_any (λ x. q x && p x) xs
any-filter p q [] = refl
any-filter {X} p q (x ∷ xs) = pick (q x) (any-filter p q xs)
  where
    pick : (t : Bool) → list_any p (filter q xs) ≡ list_any (λ x. q x && p x) xs → list_any p (cond t (x ∷ filter q xs) (filter q xs)) ≡ ((t && p x) || list_any (λ x. q x && p x) xs)
    pick true rest = ap (λ t. p x || t) rest
    pick false rest = rest

-- the literal of this atom with this sign
abbrev signed_lit : ℕ → Bool → Lit
signed_lit n s = record { atom = record { 0 = n }; positive = s }

pub idle_by_atom : (pre : List Lit) (es : List Effect) (d : Effect) → (not d.result.positive && covered pre d (adds_of es d.result.atom.0)) ≡ is_idle pre es d
idle_by_atom pre es d = by d.result.positive
  where
    asks : Effect → Bool
    asks e = is_within e.cond (d.cond ++ pre)

    by : (s : Bool) → (not s && list_any asks (adds_of es d.result.atom.0)) ≡ (not s && list_any (λ e. same_lit (signed_lit d.result.atom.0 (not s)) e.result && asks e) es)
    by true = refl
    by false = any-filter asks (λ e. same_lit (positive d.result.atom.0) e.result) es

-- one more element, where the test holds
pub kept_more : {X : Type 0} (done : List X) (b : Bool) (x : X) (rest : List X) → (done ++ only_if b (x ∷ [])) ++ rest ≡ done ++ cond b (x ∷ rest) rest
kept_more done true x rest = append_assoc done (x ∷ []) rest
kept_more done false x rest = ap (λ d. d ++ rest) (append-nil done)

-- one more effect, unless it is an idle delete
pub lasting_more : (pre : List Lit) (es done new : List Effect) (e : Effect) (rest adds : List Effect) → adds ≡ adds_of es e.result.atom.0 → new ≡ done ++ only_if (not (not e.result.positive && covered pre e adds)) (e ∷ [])
    → new ++ filter (λ d. not (is_idle pre es d)) rest ≡ done ++ filter (λ d. not (is_idle pre es d)) (e ∷ rest)
lasting_more pre es done new e rest adds are is =
    ap (λ ds. ds ++ filter (λ d. not (is_idle pre es d)) rest) is
    ∙ (kept_more done (not (not e.result.positive && covered pre e adds)) e (filter (λ d. not (is_idle pre es d)) rest)
    ∙ ap (λ b. done ++ cond (not b) (e ∷ filter (λ d. not (is_idle pre es d)) rest) (filter (λ d. not (is_idle pre es d)) rest)) (ap (λ es'. not e.result.positive && covered pre e es') are ∙ idle_by_atom pre es e))

-- where there is no delete all effects last
pub none_idle : (pre : List Lit) (all es : List Effect) → list_any (λ e. not e.result.positive) es ≡ false → filter (λ e. not (is_idle pre all e)) es ≡ es
none_idle pre all [] h = refl
none_idle pre all (e ∷ es) h =
    let parts = or_parts (not e.result.positive) (list_any (λ d. not d.result.positive) es) h in
    pick (not e.result.positive) _ parts.0 (none_idle pre all es parts.1)
  where
    pick : (s covered : Bool) → s ≡ false → filter (λ d. not (is_idle pre all d)) es ≡ es → cond (not (s && covered)) (e ∷ filter (λ d. not (is_idle pre all d)) es) (filter (λ d. not (is_idle pre all d)) es) ≡ e ∷ es
    pick true covered is rest = cc
    pick false covered is rest = ap (λ ds. e ∷ ds) rest
