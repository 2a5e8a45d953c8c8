-- Two texts come to one refusal as a classical task, or the command goes on with one pair of trees.
use Rattle.std.proofs.Common.{◌≡◌, ◌∙◌, ℕ, List, None, Some, refl, sym, ap, subst}
use Rattle.kp_base.specs.declared.refused.Place.{Place}
use Rattle.kp_base.specs.declared.refused.Refused.{Refused}
use Rattle.kp_base.specs.declared.refused.Refused.TheVariants as refusals
use Rattle.kp_tree_grammar.specs.declared.tree.Word.{Word}
use Rattle.kp_tree_grammar.specs.Trees.{Domain, Problem}
use Rattle.kp_names_semantics.specs.Numbering.{numbered_problem}
use Rattle.kp_names.specs.Resolved.{place_in, unsure_place}
use Rattle.kp_run_messages.specs.Refusals.{nothing}
use Rattle.kp_run_outcome.specs.declared.outcome.Outcome.{Outcome}
use Rattle.kp_run_prepare.specs.Texts.{HaveTrees}
use Rattle.kp_run_prepare.specs.Refusing.{refuses}
use Rattle.kp_run_prepare.proofs.Public.{texts_have_one_domain, texts_have_one_problem, texts_refused_once, texts_refused_or_read, ground_refused_once, ground_refused_or_within}
use Rattle.kp_run_classical.specs.Classical.{classical, IsCertain, IsClassicalProblem, RefusesClassical, not_classical, too_large, no_initial_state, ClassicalEndsEarly, by_texts, by_trees, ComesClassical, early, later}

-- ---- two trees

module _ (y : List ℕ) (d : Domain Word) (p : Problem Word) where
  -- what is open has a place, and else nothing does
  placed_or_certain : (at : Place) → unsure_place y p ≡ Some at → IsCertain p → ⊥
  placed_or_certain at some none = let e : None ≡ Some at = sym (ap (place_in y) none) ∙ some in absurd cc

  trees_once : (r s : Refused) → RefusesClassical y d p r → RefusesClassical y d p s → r ≡ s
  trees_once _ _ (not_classical at e) (not_classical here f) = let same : at ≡ here = cc (e, f) in ap refusals.NotClassical same
  trees_once _ _ (not_classical at e) (too_large s n k) = absurd (placed_or_certain at e n)
  trees_once _ _ (not_classical at e) (no_initial_state n w b) = absurd (placed_or_certain at e n)
  trees_once _ _ (too_large r n h) (not_classical at e) = absurd (placed_or_certain at e n)
  trees_once _ _ (too_large r n h) (too_large s m k) = ground_refused_once (numbered_problem d p) classical r s h k
  trees_once _ _ (too_large r n h) (no_initial_state m w b) = absurd (ground_refused_or_within (numbered_problem d p) classical r _ h w)
  trees_once _ _ (no_initial_state n w a) (not_classical at e) = absurd (placed_or_certain at e n)
  trees_once _ _ (no_initial_state n w a) (too_large s m k) = absurd (ground_refused_or_within (numbered_problem d p) classical s _ k w)
  trees_once _ _ (no_initial_state n w a) (no_initial_state m v b) = refl

  refused_or_classical : (r : Refused) → RefusesClassical y d p r → IsClassicalProblem d p → ⊥
  refused_or_classical _ (not_classical at e) k = placed_or_certain at e k.certain
  refused_or_classical _ (too_large r n h) k = ground_refused_or_within (numbered_problem d p) classical r _ h k.small
  refused_or_classical _ (no_initial_state n w a) k = a k.initial

-- ---- two texts

module _ (x y : List ℕ) where
  early_once : (o u : Outcome) → ClassicalEndsEarly x y o → ClassicalEndsEarly x y u → o ≡ u
  early_once o u (by_texts r a e) (by_texts s b f) = e ∙ (ap (refuses nothing) (texts_refused_once x y r s a b) ∙ sym f)
  early_once o u (by_texts r a e) (by_trees d p s h b f) = absurd (texts_refused_or_read x y r d p a h)
  early_once o u (by_trees d p r h a e) (by_texts s b f) = absurd (texts_refused_or_read x y s d p b h)
  early_once o u (by_trees d p r h a e) (by_trees d' p' s k b f) =
      let here = subst (λ z. RefusesClassical y d' z r) (texts_have_one_problem x y d d' p p' h k) (subst (λ z. RefusesClassical y z p r) (texts_have_one_domain x y d d' p p' h k) a) in
      e ∙ (ap (refuses nothing) (trees_once y d' p' r s here b) ∙ sym f)

  early_or_later : (d : Domain Word) (p : Problem Word) (o : Outcome) → ClassicalEndsEarly x y o → HaveTrees x y d p → IsClassicalProblem d p → ⊥
  early_or_later d p o (by_texts r a e) k w = texts_refused_or_read x y r d p a k
  early_or_later d p o (by_trees d' p' r h a e) k w =
      refused_or_classical y d p r (subst (λ z. RefusesClassical y d z r) (texts_have_one_problem x y d' d p' p h k) (subst (λ z. RefusesClassical y z p' r) (texts_have_one_domain x y d' d p' p h k) a)) w

  -- where a command goes on to one outcome, it comes to one
  pub comes_once : (P : Domain Word → Problem Word → Outcome → Type 0) → ((d : Domain Word) (p : Problem Word) (o u : Outcome) → IsClassicalProblem d p → P d p o → P d p u → o ≡ u)
      → (o u : Outcome) → ComesClassical x y P o → ComesClassical x y P u → o ≡ u
  comes_once P once o u (early a) (early b) = early_once o u a b
  comes_once P once o u (early a) (later d p h w b) = absurd (early_or_later d p o a h w)
  comes_once P once o u (later d p h w a) (early b) = absurd (early_or_later d p u b h w)
  comes_once P once o u (later d p h w a) (later d' p' k v b) =
      once d' p' o u v (subst (λ z. P d' z o) (texts_have_one_problem x y d d' p p' h k) (subst (λ z. P z p o) (texts_have_one_domain x y d d' p p' h k) a)) b

  -- and where it is known to go on with two trees, it goes on with these
  pub comes_later : (P : Domain Word → Problem Word → Outcome → Type 0) (d : Domain Word) (p : Problem Word) (o : Outcome) → HaveTrees x y d p → IsClassicalProblem d p → ComesClassical x y P o → P d p o
  comes_later P d p o k w (early a) = absurd (early_or_later d p o a k w)
  comes_later P d p o k w (later e q h v a) = subst (λ z. P d z o) (texts_have_one_problem x y e d q p h k) (subst (λ z. P z q o) (texts_have_one_domain x y e d q p h k) a)
