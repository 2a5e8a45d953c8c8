-- Two texts come to one refusal before a command does its own work, or the command goes on with one pair of trees.
use Rattle.std.proofs.Common.{◌≡◌, ◌≤◌, ℕ, List, inl, inr, refl, sym, ap, ◌∙◌, subst, arith}
use Rattle.std.proofs.lemmas.Bool.{cases_lt}
use Rattle.kp_tree_grammar.specs.declared.tree.Word.{Word}
use Rattle.kp_tree_grammar.specs.Trees.{Domain, Problem}
use Rattle.kp_base.specs.declared.refused.Refused.{Refused}
use Rattle.kp_base.specs.declared.refused.Refused.TheVariants as refusals
use Rattle.kp_base.specs.declared.ground.Ground.{Ground}
use Rattle.kp_base.specs.declared.ground.Initial.{Initial}
use Rattle.kp_base.specs.declared.limits.Limits.{Limits}
use Rattle.kp_base.specs.Implicates.{prefix_of, IsLeastOver, IsNeverOver}
use Rattle.kp_law_tagged_machine.proofs.Public.{no_clash_where_free, first_clash_under_any_exclusive}
use Rattle.kp_primes.proofs.Public.{not_more_and_at_most}
use Rattle.kp_clash.proofs.Public.{first_clash_once}
use Rattle.kp_names_semantics.specs.Numbered.{Lifted}
use Rattle.kp_names_semantics.specs.Numbering.{numbered_problem}
use Rattle.kp_ground_joins.specs.Limits.{IsWithinLimits, RefusesCounts, bindings_over, actions_over, effects_over}
use Rattle.kp_ground.specs.Grounded.{IsGrounded, RefusesGround, counts_over, atoms_over}
use Rattle.kp_law_translation.specs.OfTrees.{ground_of, initial_of}
use Rattle.kp_run_messages.specs.Refusals.{Nameable, nothing}
use Rattle.kp_run_outcome.specs.declared.outcome.Outcome.{Outcome}
use Rattle.kp_run_prepare.specs.Texts.{HaveTrees}
use Rattle.kp_run_prepare.specs.Refusing.{refuses, named_in}
use Rattle.kp_run_prepare.specs.Prepared.{usual, IsPrepared, RefusesTrees, too_large, implicates_over, no_initial_state, clash, EndsEarly, by_texts, by_trees, Comes, early, later}
use Rattle.kp_run_prepare.proofs.OneText.{same_domain, same_problem, refused_once, refused_or_read}

-- ---- counts

-- the counts are over at one limit alone, or within all
counts_once : (l : Lifted) (m : Limits) (r s : Refused) → RefusesCounts l m r → RefusesCounts l m s → r ≡ s
counts_once l m _ _ (bindings_over a) (bindings_over b) = refl
counts_once l m _ _ (bindings_over a) (actions_over b c) = absurd (omega (arith, a, b))
counts_once l m _ _ (bindings_over a) (effects_over b c d) = absurd (omega (arith, a, b))
counts_once l m _ _ (actions_over a b) (bindings_over c) = absurd (omega (arith, a, c))
counts_once l m _ _ (actions_over a b) (actions_over c d) = refl
counts_once l m _ _ (actions_over a b) (effects_over c d e) = absurd (omega (arith, b, d))
counts_once l m _ _ (effects_over a b c) (bindings_over d) = absurd (omega (arith, a, d))
counts_once l m _ _ (effects_over a b c) (actions_over d e) = absurd (omega (arith, b, e))
counts_once l m _ _ (effects_over a b c) (effects_over d e f) = refl

counts_or_within : (l : Lifted) (m : Limits) (r : Refused) → RefusesCounts l m r → IsWithinLimits l m → ⊥
counts_or_within l m _ (bindings_over a) w = let b = w.bindings in omega (arith, a, b)
counts_or_within l m _ (actions_over a b) w = let c = w.actions in omega (arith, b, c)
counts_or_within l m _ (effects_over a b c) w = let d = w.weight in omega (arith, c, d)

pub ground_once : (l : Lifted) (m : Limits) (r s : Refused) → RefusesGround l m r → RefusesGround l m s → r ≡ s
ground_once l m _ _ (counts_over r a) (counts_over s b) = counts_once l m r s a b
ground_once l m _ _ (counts_over r a) (atoms_over w b) = absurd (counts_or_within l m r a w)
ground_once l m _ _ (atoms_over w a) (counts_over s b) = absurd (counts_or_within l m s b w)
ground_once l m _ _ (atoms_over w a) (atoms_over v b) = refl

pub ground_or_within : (l : Lifted) (m : Limits) (r : Refused) (g : Ground) → RefusesGround l m r → IsGrounded l m g → ⊥
ground_or_within l m _ g (counts_over r a) w = counts_or_within l m r a w.counts
ground_or_within l m _ g (atoms_over v a) w = let b = w.atoms in omega (arith, a, b)

-- the least number of clauses that have more prime implicates than the limit
least_once : (i : Initial) (limit j k : ℕ) → IsLeastOver i limit j → IsLeastOver i limit k → j ≡ k
least_once i limit j k a b = elim (cases_lt j k) [
  | inl below ↦ absurd (not_more_and_at_most (prefix_of i j) limit a.more (b.least j below))
  | inr above ↦ elim (cases_lt k j) [
    | inl less ↦ absurd (not_more_and_at_most (prefix_of i k) limit b.more (a.least k less))
    | inr same ↦ omega (arith, above, same)
  ]
]

least_or_never : (i : Initial) (limit k : ℕ) → IsLeastOver i limit k → IsNeverOver i limit → ⊥
least_or_never i limit k a n = not_more_and_at_most (prefix_of i k) limit a.more (n.each k a.in_range)

-- ---- two trees

module _ (limit : ℕ) (d : Domain Word) (p : Problem Word) where
  abbrev Same : Nameable → Nameable → Refused → Refused → Type 0
  Same n m r s = refuses n r ≡ refuses m s

  trees_once : (n m : Nameable) (r s : Refused) → RefusesTrees limit d p n r → RefusesTrees limit d p m s → Same n m r s
  trees_once _ _ _ _ (too_large r h) (too_large s k) = ap (refuses nothing) (ground_once (numbered_problem d p) usual r s h k)
  trees_once _ _ _ _ (too_large r h) (implicates_over n w b) = absurd (ground_or_within (numbered_problem d p) usual r _ h w)
  trees_once _ _ _ _ (too_large r h) (no_initial_state w b e) = absurd (ground_or_within (numbered_problem d p) usual r _ h w)
  trees_once _ _ _ _ (too_large r h) (clash c b e) = absurd (ground_or_within (numbered_problem d p) usual r _ h b.small)
  trees_once _ _ _ _ (implicates_over n w a) (too_large s k) = absurd (ground_or_within (numbered_problem d p) usual s _ k w)
  trees_once _ _ _ _ (implicates_over n w a) (implicates_over m v b) = ap (λ x. refuses nothing (refusals.ImplicatesOver x)) (least_once (initial_of d p) limit n m a b)
  trees_once _ _ _ _ (implicates_over n w a) (no_initial_state v b e) = absurd (least_or_never (initial_of d p) limit n a b)
  trees_once _ _ _ _ (implicates_over n w a) (clash c b e) = absurd (least_or_never (initial_of d p) limit n a b.counted)
  trees_once _ _ _ _ (no_initial_state w a i) (too_large s k) = absurd (ground_or_within (numbered_problem d p) usual s _ k w)
  trees_once _ _ _ _ (no_initial_state w a i) (implicates_over n v b) = absurd (least_or_never (initial_of d p) limit n b a)
  trees_once _ _ _ _ (no_initial_state w a i) (no_initial_state v b k) = refl
  trees_once _ _ _ _ (no_initial_state w a i) (clash c b e) = absurd (i b.initial)
  trees_once _ _ _ _ (clash c a h) (too_large s k) = absurd (ground_or_within (numbered_problem d p) usual s _ k a.small)
  trees_once _ _ _ _ (clash c a h) (implicates_over n w b) = absurd (least_or_never (initial_of d p) limit n b a.counted)
  trees_once _ _ _ _ (clash c a h) (no_initial_state w b e) = absurd (e a.initial)
  trees_once _ _ _ _ (clash c a h) (clash e b k) = ap (λ x. refuses (named_in (ground_of d p)) (refusals.Clash x)) (first_clash_once h.pairs (ground_of d p) c e h.first (first_clash_under_any_exclusive (ground_of d p) (initial_of d p) c e h k))

  trees_or_prepared : (n : Nameable) (r : Refused) → RefusesTrees limit d p n r → IsPrepared limit d p → ⊥
  trees_or_prepared _ _ (too_large r h) k = ground_or_within (numbered_problem d p) usual r _ h k.started.small
  trees_or_prepared _ _ (implicates_over n w a) k = least_or_never (initial_of d p) limit n a k.started.counted
  trees_or_prepared _ _ (no_initial_state w a i) k = i k.started.initial
  trees_or_prepared _ _ (clash c a h) k = no_clash_where_free (ground_of d p) (initial_of d p) c h k.clash_free

-- ---- two texts

module _ (limit : ℕ) (x y : List ℕ) where
  early_once : (o u : Outcome) → EndsEarly limit x y o → EndsEarly limit x y u → o ≡ u
  early_once o u (by_texts r a e) (by_texts s b f) = e ∙ (ap (refuses nothing) (refused_once x y r s a b) ∙ sym f)
  early_once o u (by_texts r a e) (by_trees d p n s h b f) = absurd (refused_or_read x y r d p a h)
  early_once o u (by_trees d p n r h a e) (by_texts s b f) = absurd (refused_or_read x y s d p b h)
  early_once o u (by_trees d p n r h a e) (by_trees d' p' m s k b f) =
      let here = subst (λ z. RefusesTrees limit d' z n r) (same_problem x y d d' p p' h k) (subst (λ z. RefusesTrees limit z p n r) (same_domain x y d d' p p' h k) a) in
      e ∙ (trees_once limit d' p' n m r s here b ∙ sym f)

  early_or_later : (d : Domain Word) (p : Problem Word) (o : Outcome) → EndsEarly limit x y o → HaveTrees x y d p → IsPrepared limit d p → ⊥
  early_or_later d p o (by_texts r a e) k w = refused_or_read x y r d p a k
  early_or_later d p o (by_trees d' p' n r h a e) k w =
      trees_or_prepared limit d p n r (subst (λ z. RefusesTrees limit d z n r) (same_problem x y d' d p' p h k) (subst (λ z. RefusesTrees limit z p' n r) (same_domain x y d' d p' p h k) a)) w

  -- where a command goes on to one outcome, it comes to one
  pub comes_once : (P : Domain Word → Problem Word → Outcome → Type 0) → ((d : Domain Word) (p : Problem Word) (o u : Outcome) → IsPrepared limit d p → P d p o → P d p u → o ≡ u)
      → (o u : Outcome) → Comes limit x y P o → Comes limit x y P u → o ≡ u
  comes_once P once o u (early a) (early b) = early_once o u a b
  comes_once P once o u (early a) (later d p h w b) = absurd (early_or_later d p o a h w)
  comes_once P once o u (later d p h w a) (early b) = absurd (early_or_later d p u b h w)
  comes_once P once o u (later d p h w a) (later d' p' k v b) =
      once d' p' o u v (subst (λ z. P d' z o) (same_problem x y d d' p p' h k) (subst (λ z. P z p o) (same_domain x y d d' p p' h k) a)) b

  -- and where it is known to go on with two trees, it goes on with these
  pub comes_later : (P : Domain Word → Problem Word → Outcome → Type 0) (d : Domain Word) (p : Problem Word) (o : Outcome) → HaveTrees x y d p → IsPrepared limit d p → Comes limit x y P o → P d p o
  comes_later P d p o k w (early a) = absurd (early_or_later d p o a k w)
  comes_later P d p o k w (later e q h v a) = subst (λ z. P d z o) (same_problem x y e d q p h k) (subst (λ z. P z q o) (same_domain x y e d q p h k) a)

-- ---- a greater limit

-- what goes on with a limit goes on with a greater one
pub prepared_above : (less more : ℕ) (d : Domain Word) (p : Problem Word) → less ≤ more → IsPrepared less d p → IsPrepared more d p
prepared_above less more d p le w = record {
  started = record {
    small = w.started.small;
    counted = record { each = λ k in_range. let most = w.started.counted.each k in_range in record { listed = most.listed; primes = most.primes; at_most = (let few = most.at_most in omega (arith, few, le)) } };
    initial = w.started.initial;
  };
  clash_free = w.clash_free;
}
