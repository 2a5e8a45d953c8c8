-- Valid lists of tags.
use Rattle.std.specs.Prelude.{◌≡◌, ℕ, Bool, true, not, ◌&&◌, List}
use Rattle.std.specs.List.{list_any, list_all}
use Rattle.kp_base.specs.declared.lit.Lit.{Lit}
use Rattle.kp_base.specs.declared.ground.Initial.{Initial}
use Rattle.kp_base.specs.Steps.{State, holds, is_model}
use Rattle.kp_primes_first_model.specs.Ordered.{AreFirst}
use Rattle.kp_cover.specs.declared.tags.Validity.{Validity}
use Rattle.kp_cover.specs.declared.tags.Validity.TheVariants.{Valid, Invalid}

-- the state satisfies one of the tags
abbrev pub satisfies_one : List (List Lit) → State → Bool
satisfies_one tags s = list_any (list_all (holds s)) tags

-- each model does
abbrev pub AreValidTags : Initial → List (List Lit) → Type 0
AreValidTags i tags = (s : State) → is_model i s ≡ true → satisfies_one tags s ≡ true

-- a model that doesn't
abbrev pub is_outside : Initial → List (List Lit) → State → Bool
is_outside i tags s = is_model i s && not (satisfies_one tags s)

-- the tags are valid; or else the atoms of the first model outside, in order
abbrev pub AnswersValid : ℕ → Initial → List (List Lit) → Validity → Type 0
AnswersValid n i tags Valid = AreValidTags i tags
AnswersValid n i tags (Invalid ps) = AreFirst n (is_outside i tags) ps
