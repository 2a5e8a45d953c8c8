-- A tag is consistent with a formula over finitely many atoms, or not; so the formula has a model, or none.
use Rattle.std.proofs.Common.{◌≡◌, ◌⊎◌, ℕ, Bool, true, ◌&&◌, List, [], Option, Some, None, refl, sym, ap₂, ◌∙◌, inl, inr}
use Rattle.std.proofs.lemmas.Bool.{and_parts, and_from, false≢true}
use Rattle.std.specs.List.{list_all}
use Rattle.kp_base.specs.declared.lit.Lit.{Lit}
use Rattle.kp_base.specs.declared.lit.AtomId.{AtomId}
use Rattle.kp_base.specs.declared.ground.Initial.{Initial}
use Rattle.kp_base.specs.Steps.{State, holds, is_model}
use Rattle.kp_base.specs.Entailed.{IsConsistent}
use Rattle.kp_base.specs.Implicates.{are_below, IsOfAtoms}
use Rattle.kp_primes_first_model.specs.Ordered.{state_of_atoms, AnswersFirst}
use Rattle.kp_primes_first_model.proofs.Public.{literals_read_first_atoms, models_read_first_atoms}
use Rattle.kp_law_decidable.specs.Laws.{ModelsAreDecided}
use Rattle.kp_law_decidable.proofs.Firsts.{ReadsFirst, first_or_none}

module _ (n : ℕ) (i : Initial) (over : IsOfAtoms n i) where
  abbrev meets : List Lit → State → Bool
  meets tag s = is_model i s && list_all (holds s) tag

  reads_tag : (tag : List Lit) → are_below n tag ≡ true → ReadsFirst n (meets tag)
  reads_tag tag below = record { alike = λ s t same. ap₂ (λ x y. x && y) (models_read_first_atoms n s t same i over) (literals_read_first_atoms n s t same tag below) }

  -- a tag is consistent or not
  pub consistent_or_not : (tag : List Lit) → are_below n tag ≡ true → IsConsistent i tag ⊎ (IsConsistent i tag → ⊥)
  consistent_or_not tag below = go (first_or_none n (meets tag) (reads_tag tag below))
    where
      go : ((o : Option (List AtomId)) × AnswersFirst n (meets tag) o) → IsConsistent i tag ⊎ (IsConsistent i tag → ⊥)
      go (None, none) = inr (λ c. false≢true (sym (none c.state) ∙ and_from (is_model i c.state) (list_all (holds c.state) tag) c.model c.all_true))
      go (Some ps, first) =
          let parts = and_parts (is_model i (state_of_atoms ps)) (list_all (holds (state_of_atoms ps)) tag) first.0.passed in
          inl (record { state = state_of_atoms ps; model = parts.0; all_true = parts.1 })

-- a model is what the empty tag is consistent by
pub model_or_none : ModelsAreDecided
model_or_none n i over = consistent_or_not n i over [] refl
