-- What two texts come to as a classical task, from what their problem by number is.
use Rattle.std.proofs.Common.{◌≡◌, ◌∙◌, ℕ, List, Option, Some, None, Result, Ok, Err, refl, sym, subst}
use Rattle.kp_base.specs.declared.ground.Ground.{Ground}
use Rattle.kp_base.specs.declared.ground.Initial.{Initial}
use Rattle.kp_base.specs.declared.refused.Place.{Place}
use Rattle.kp_base.specs.declared.refused.Refused.{Refused}
use Rattle.kp_base.specs.declared.refused.Refused.TheVariants as refusals
use Rattle.kp_base.specs.declared.refused.Stop.{Stop}
use Rattle.kp_base.specs.declared.refused.Stop.TheVariants as causes
use Rattle.kp_base.specs.Entailed.{HasNoModel}
use Rattle.kp_tree_grammar.specs.declared.tree.Word.{Word}
use Rattle.kp_tree_grammar.specs.Trees.{Domain, Problem}
use Rattle.kp_names_semantics.specs.Numbered.{Lifted as Numbers}
use Rattle.kp_names_semantics.specs.Numbering.{numbered_problem}
use Rattle.kp_names_numbered.specs.declared.lifted.Lifted.{Lifted}
use Rattle.kp_names.specs.Resolved.{first_unsure, place_in}
use Rattle.kp_names.specs.View.{lifted_view}
use Rattle.kp_ground_semantics.specs.Ground.{ground_of}
use Rattle.kp_ground.specs.Grounded.{IsGrounded, RefusesGround}
use Rattle.kp_init.specs.Initial.{initial_of}
use Rattle.kp_law_translation.proofs.Public.{initial_states_are_models}
use Rattle.kp_run_messages.specs.Refusals.{nothing}
use Rattle.kp_run_outcome.specs.declared.outcome.Outcome.{Outcome}
use Rattle.kp_run_prepare.specs.declared.prepared.Early.{Early}
use Rattle.kp_run_prepare.specs.declared.prepared.Early.TheVariants as early
use Rattle.kp_run_prepare.specs.Texts.{HaveTrees, IsProblemOf, RefusesTexts}
use Rattle.kp_run_prepare.specs.Refusing.{EndsBy}
use Rattle.kp_run_classical.specs.declared.posed.Posed.{Posed}
use Rattle.kp_run_classical.specs.Classical.{classical, IsCertain, not_classical, too_large, no_initial_state, ClassicalEndsEarly, by_texts, by_trees, AnswersClassical}
use Rattle.kp_run_classical.specs.Numbered.{HasFacts, EndsHere, AnswersFormula, EndsWithin, over, within, AnswersNumbers}
use Rattle.kp_run_classical.proofs.Facts.{certain_facts}

-- ---- refusals

-- texts are refused
pub texts_end : (x y : List ℕ) (stop : Stop) (e : Early) → ((r : Refused) → stop ≡ causes.Refused r → RefusesTexts x y r) → EndsBy nothing stop e → AnswersClassical x y (Err e)
texts_end x y stop early.Memory refused ends = tt
texts_end x y (causes.Refused r) (early.With o) refused ends = by_texts r (refused r refl) ends
texts_end x y causes.Memory (early.With o) refused ends = absurd ends

-- a problem by number is too large
pub over_ends : (l : Numbers) (stop : Stop) (e : Early) → ((r : Refused) → stop ≡ causes.Refused r → RefusesGround l classical r) → EndsBy nothing stop e → AnswersNumbers l (Err e)
over_ends l stop early.Memory too ends = tt
over_ends l (causes.Refused r) (early.With o) too ends = subst (EndsWithin l) (sym ends) (over r (too r refl))
over_ends l causes.Memory (early.With o) too ends = absurd ends

-- it is within the limits
pub within_ends : (l : Numbers) (g : Ground) (r : Result Posed Early) → IsGrounded l classical g → AnswersFormula (ground_of l) (initial_of l) r → AnswersNumbers l r
within_ends l g (Ok x) w goes = (record { counts = w.counts; atoms = w.atoms; ground = refl }, goes)
within_ends l g (Err (early.With o)) w ends = within o (record { counts = w.counts; atoms = w.atoms; ground = refl }) ends
within_ends l g (Err early.Memory) w ends = tt

-- its initial formula has no model
pub formula_ends : (g : Ground) (i : Initial) (e : Early) → HasNoModel i → EndsBy nothing (causes.Refused refusals.NoInitialState) e → AnswersFormula g i (Err e)
formula_ends g i (early.With o) none ends = record { no_model = none; outcome = ends }
formula_ends g i early.Memory none ends = tt

-- ---- two trees

module _ (x y : List ℕ) (d : Domain Word) (p : Problem Word) (h : HaveTrees x y d p) (certain : IsCertain p) where
  abbrev l : Numbers
  l = numbered_problem d p

  here_end : (o : Outcome) → IsGrounded l classical (ground_of l) → EndsHere (initial_of l) o → ClassicalEndsEarly x y o
  here_end o w ends = by_trees d p refusals.NoInitialState h (no_initial_state certain w (λ has. ends.no_model ((initial_states_are_models d p h.no_fault).0 has))) ends.outcome

  trees_end : (o : Outcome) → EndsWithin l o → ClassicalEndsEarly x y o
  trees_end _ (over z a) = by_trees d p z h (too_large z certain a) refl
  trees_end _ (within o w ends) = here_end o w ends

  trees_answer : (r : Result Posed Early) → AnswersNumbers l r → AnswersClassical x y r
  trees_answer (Ok m) goes = record {
    first = d;
    second = p;
    trees = h;
    classical = record { certain = certain; small = goes.0; initial = (initial_states_are_models d p h.no_fault).1 goes.1.has_model };
    ground = goes.1.ground;
    task = goes.1.task;
  }
  trees_answer (Err (early.With o)) ends = trees_end o ends
  trees_answer (Err early.Memory) ends = tt

-- ---- a problem by number of two texts

module _ (x y : List ℕ) (l : Lifted) (h : IsProblemOf x y l) where
  no_place : (w : Option Word) → place_in y w ≡ None → w ≡ None
  no_place None e = refl
  no_place (Some w) e = absurd cc

  -- nothing leaves its initial state open
  is_certain : l.unsure ≡ None → IsCertain h.second
  is_certain none = no_place (first_unsure h.second.init) (sym h.resolved.unsure ∙ none)

  pub has_facts : l.unsure ≡ None → HasFacts (lifted_view l)
  has_facts none = subst HasFacts (sym h.resolved.numbered) (certain_facts h.first h.second (is_certain none))

  pub certain_ends : l.unsure ≡ None → (r : Result Posed Early) → AnswersNumbers (lifted_view l) r → AnswersClassical x y r
  certain_ends none r ends = trees_answer x y h.first h.second h.trees (is_certain none) r (subst (λ m. AnswersNumbers m r) h.resolved.numbered ends)

  -- something does
  pub unsure_ends : (at : Place) → l.unsure ≡ Some at → (e : Early) → EndsBy nothing (causes.Refused (refusals.NotClassical at)) e → AnswersClassical x y (Err e)
  unsure_ends at some (early.With o) ends = by_trees h.first h.second (refusals.NotClassical at) h.trees (not_classical at (sym h.resolved.unsure ∙ some)) ends
  unsure_ends at some early.Memory ends = tt
