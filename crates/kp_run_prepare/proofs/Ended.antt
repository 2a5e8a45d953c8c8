-- What two texts are prepared to, from what their problem by number is.
use Rattle.std.proofs.Common.{◌≡◌, ◌∙◌, ℕ, List, length, Result, Ok, Err, refl, sym, ap, subst}
use Rattle.kp_base.specs.declared.ground.Ground.{Ground}
use Rattle.kp_base.specs.declared.refused.ClashAt.{ClashAt}
use Rattle.kp_base.specs.declared.refused.Refused.{Refused}
use Rattle.kp_base.specs.declared.refused.Refused.TheVariants as refusals
use Rattle.kp_base.specs.declared.refused.Stop.{Stop}
use Rattle.kp_base.specs.declared.refused.Stop.TheVariants as causes
use Rattle.kp_base.specs.Exclusive.{ClashesFirst, IsClashFree}
use Rattle.kp_law_tagged_machine.specs.Formulas.{SayTheSame}
use Rattle.kp_law_tagged_machine.proofs.Public.{same_models_say_the_same as same_models}
use Rattle.kp_tree_grammar.specs.declared.tree.Word.{Word}
use Rattle.kp_tree_grammar.specs.Trees.{Domain, Problem}
use Rattle.kp_names_semantics.specs.Numbered.{Lifted as Numbers}
use Rattle.kp_names_semantics.specs.Numbering.{numbered_problem}
use Rattle.kp_names_semantics.specs.Initial.{HasInitialState}
use Rattle.kp_names_numbered.specs.declared.lifted.Lifted.{Lifted}
use Rattle.kp_names.specs.View.{lifted_view}
use Rattle.kp_ground_semantics.specs.Ground.{ground_of}
use Rattle.kp_ground.specs.Grounded.{IsGrounded, RefusesGround}
use Rattle.kp_init.specs.Initial.{initial_of}
use Rattle.kp_primes.specs.Held.{Held, formula}
use Rattle.kp_primes.specs.Answers.{HoldsPrimes, HasNoState, RefusesPrimes, too_many, no_state}
use Rattle.kp_law_translation.proofs.Public.{initial_states_are_models}
use Rattle.kp_run_messages.specs.Refusals.{nothing}
use Rattle.kp_run_outcome.specs.declared.outcome.Outcome.{Outcome}
use Rattle.kp_run_prepare.specs.declared.prepared.Prepared.{Prepared as Made}
use Rattle.kp_run_prepare.specs.declared.prepared.Early.{Early}
use Rattle.kp_run_prepare.specs.declared.prepared.Early.TheVariants as early
use Rattle.kp_run_prepare.specs.Texts.{HaveTrees, IsProblemOf, RefusesTexts}
use Rattle.kp_run_prepare.specs.Refusing.{refuses, named_in, EndsBy}
use Rattle.kp_run_prepare.specs.Prepared.{usual, IsStarted, too_large, implicates_over, no_initial_state, clash, EndsEarly, by_texts, by_trees, AnswersPrepared}
use Rattle.kp_run_prepare.specs.Numbered.{HasPrimes, PreparesGround, EndsGround, by_implicates, by_no_model, by_clash, AnswersGround, EndsWithin, over, within, AnswersNumbers}

-- ---- refusals

-- texts are refused
pub texts_end : (limit : ℕ) (x y : List ℕ) (stop : Stop) (e : Early) → ((r : Refused) → stop ≡ causes.Refused r → RefusesTexts x y r) → EndsBy nothing stop e → AnswersPrepared limit x y (Err e)
texts_end limit x y stop early.Memory refused ends = tt
texts_end limit x y (causes.Refused r) (early.With o) refused ends = by_texts r (refused r refl) ends
texts_end limit x y causes.Memory (early.With o) refused ends = absurd ends

-- a problem by number is too large
pub over_ends : (limit : ℕ) (l : Numbers) (stop : Stop) (e : Early) → ((r : Refused) → stop ≡ causes.Refused r → RefusesGround l usual r) → EndsBy nothing stop e → AnswersNumbers limit l (Err e)
over_ends limit l stop early.Memory too ends = tt
over_ends limit l (causes.Refused r) (early.With o) too ends = subst (EndsWithin limit l) (sym ends) (over r (too r refl))
over_ends limit l causes.Memory (early.With o) too ends = absurd ends

-- it is within the limits
pub within_ends : (limit : ℕ) (l : Numbers) (g : Ground) (r : Result Made Early) → IsGrounded l usual g → AnswersGround limit l r → AnswersNumbers limit l r
within_ends limit l g (Ok x) w goes = (record { counts = w.counts; atoms = w.atoms; ground = refl }, goes)
within_ends limit l g (Err (early.With o)) w ends = within o (record { counts = w.counts; atoms = w.atoms; ground = refl }) ends
within_ends limit l g (Err early.Memory) w ends = tt

-- its initial formula is refused
formula_refused : (limit : ℕ) (l : Numbers) (r : Refused) (o : Outcome) → RefusesPrimes (initial_of l) limit r → o ≡ refuses nothing r → EndsGround limit l o
formula_refused limit l _ o (too_many k least) is = subst (EndsGround limit l) (sym is) (by_implicates k least)
formula_refused limit l _ o (no_state none) is = subst (EndsGround limit l) (sym is) (by_no_model none)

pub formula_ends : (limit : ℕ) (l : Numbers) (stop : Stop) (e : Early) → ((r : Refused) → stop ≡ causes.Refused r → RefusesPrimes (initial_of l) limit r) → EndsBy nothing stop e → AnswersGround limit l (Err e)
formula_ends limit l stop early.Memory refused ends = tt
formula_ends limit l (causes.Refused r) (early.With o) refused ends = formula_refused limit l r o (refused r refl) ends
formula_ends limit l causes.Memory (early.With o) refused ends = absurd ends

-- ---- with the prime implicates of the initial formula

module _ (limit : ℕ) (l : Numbers) (g : Ground) (is : g ≡ ground_of l) (h : Held) (holds : HoldsPrimes (initial_of l) (length g.atoms) limit h) where
  -- what is so by the prime implicates is so by the initial formula
  by_formula : SayTheSame g (formula h) (initial_of l)
  by_formula = same_models g (formula h) (initial_of l) holds.same_models

  -- an action clashes
  pub clash_ends : (at : ClashAt) (e : Early) → ClashesFirst g (formula h) at → EndsBy (named_in g) (causes.Refused (refusals.Clash at)) e → AnswersGround limit l (Err e)
  clash_ends at early.Memory first ends = tt
  clash_ends at (early.With o) first ends =
      subst (EndsGround limit l) (sym (ends ∙ ap (λ (x : Ground). refuses (named_in x) (refusals.Clash at)) is))
      (by_clash at (record { never_over = holds.never_over; has_model = holds.has_model }) (subst (λ (x : Ground). ClashesFirst x (initial_of l) at) is (by_formula.first_clash at first)))

  -- none does
  pub free_goes_on : (x : Made) → x.ground ≡ g → x.primes ≡ h → IsClashFree g (formula h) → PreparesGround limit l x
  free_goes_on x same own none = record {
    clash_free = subst (λ (y : Ground). IsClashFree y (initial_of l)) is (by_formula.clash_free none);
    ground = same ∙ is;
    primes = subst (λ (k : Held). HoldsPrimes (initial_of l) (length (ground_of l).atoms) limit k) (sym own) (subst (λ (y : Ground). HoldsPrimes (initial_of l) (length y.atoms) limit h) is holds);
  }

-- ---- two trees

module _ (limit : ℕ) (x y : List ℕ) (d : Domain Word) (p : Problem Word) (h : HaveTrees x y d p) where
  abbrev l : Numbers
  l = numbered_problem d p

  started : IsGrounded l usual (ground_of l) → HasPrimes limit l → IsStarted limit d p
  started w k = record { small = w; counted = k.never_over; initial = (initial_states_are_models d p h.no_fault).1 k.has_model }

  -- no model is an initial state
  without : HasNoState (initial_of l) limit → HasInitialState p → ⊥
  without none has = none.no_model ((initial_states_are_models d p h.no_fault).0 has)

  trees_end : (o : Outcome) → EndsWithin limit l o → EndsEarly limit x y o
  trees_end _ (over z a) = by_trees d p _ _ h (too_large z a) refl
  trees_end _ (within _ w (by_implicates k least)) = by_trees d p _ _ h (implicates_over k w least) refl
  trees_end _ (within _ w (by_no_model none)) = by_trees d p _ _ h (no_initial_state w none.never_over (without none)) refl
  trees_end _ (within _ w (by_clash at k first)) = by_trees d p _ _ h (clash at (started w k) first) refl

  trees_answer : (r : Result Made Early) → AnswersNumbers limit l r → AnswersPrepared limit x y r
  trees_answer (Ok m) goes = record {
    first = d;
    second = p;
    trees = h;
    prepared = record { started = started goes.0 (record { never_over = goes.1.primes.never_over; has_model = goes.1.primes.has_model }); clash_free = goes.1.clash_free };
    ground = goes.1.ground;
    primes = goes.1.primes;
  }
  trees_answer (Err (early.With o)) ends = trees_end o ends
  trees_answer (Err early.Memory) ends = tt

-- the same of a problem by number of two texts
pub problem_ends : (limit : ℕ) (x y : List ℕ) (l : Lifted) (h : IsProblemOf x y l) (r : Result Made Early) → AnswersNumbers limit (lifted_view l) r → AnswersPrepared limit x y r
problem_ends limit x y l h r ends = trees_answer limit x y h.first h.second h.trees r (subst (λ m. AnswersNumbers limit m r) h.resolved.numbered ends)
