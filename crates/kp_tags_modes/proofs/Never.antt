-- A mode that skips sizes with too many sets is never refused.
use Rattle.std.proofs.Common.{◌≡◌, ℕ, true, List, Option, Some, refl, sym, subst, ◌∙◌}
use Rattle.std.proofs.lemmas.Bool.{false≢true}
use Rattle.kp_base.specs.declared.lit.Lit.{Lit}
use Rattle.kp_base.specs.declared.ground.Ground.{Ground}
use Rattle.kp_base.specs.declared.ground.Initial.{Initial}
use Rattle.kp_base.specs.declared.refused.Refused.{Refused}
use Rattle.kp_tags_modes.specs.declared.way.Way.{Way}
use Rattle.kp_tags_modes.specs.Answers.{RefusesFirstTarget, RefusesMode}
use Rattle.kp_tags_modes.specs.Laws.{SomeModesAreNeverRefused}

module _ (limit : ℕ) (g : Ground) (i : Initial) where
  no-target : (way : Way) → way.skips ≡ true → (ts : List Lit) (r : Refused) → RefusesFirstTarget way limit g i ts r → ⊥
  no-target way skips _ _ (RefusesFirstTarget.here t ts size h) = false≢true (sym h.refused.stops ∙ skips)
  no-target way skips _ r (RefusesFirstTarget.later t ts lists _ here rest) = no-target way skips ts r rest

  none : (w : Option Way) (way : Way) → w ≡ Some way → way.skips ≡ true → (r : Refused) → RefusesMode limit g i w r → ⊥
  none _ way e skips r (RefusesMode.of_targets v ts _ are first) = no-target v (subst (λ (u : Way). u.skips ≡ true) (sym (same e)) skips) ts r first
    where
      same : Some v ≡ Some way → v ≡ way
      same e = cc e

pub never_refused : SomeModesAreNeverRefused
never_refused limit g i r = record {
  models = none limit g i _ (record { greatest = 0; skips = true; by_models = true }) refl refl r;
  auto = none limit g i _ (record { greatest = 3; skips = true; by_models = true }) refl refl r;
}
