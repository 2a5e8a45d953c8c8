-- Two texts come to a refusal, or a command goes on with their trees.
use Rattle.std.proofs.Common.{◌⊎◌, ℕ, List, inl, inr, refl, length}
use Rattle.kp_base.specs.declared.refused.Part.TheVariants as parts
use Rattle.kp_base.specs.declared.refused.Refused.{Refused}
use Rattle.kp_base.specs.declared.refused.Refused.TheVariants as refusals
use Rattle.kp_tree_grammar.specs.declared.tree.Word.{Word}
use Rattle.kp_tree_grammar.specs.Trees.{Domain, Problem}
use Rattle.kp_tree_grammar.specs.Grammar as grammar
use Rattle.kp_names_semantics.specs.Faults.{HasNoFault}
use Rattle.kp_names_semantics.specs.Numbering.{numbered_problem}
use Rattle.kp_tree.proofs.Public.{files_always_one}
use Rattle.kp_law_translation.specs.OfTrees.{ground_of, initial_of}
use Rattle.kp_law_translation.proofs.Public.{initial_states_are_models, formulas_speak_of_ground_atoms}
use Rattle.kp_law_decidable.proofs.Public.{names_decided, sizes_decided, formulas_are_ascending, implicates_are_counted as counted, model_or_none, clash_or_none}
use Rattle.kp_run_messages.specs.Refusals.{Nameable, nothing}
use Rattle.kp_run_outcome.specs.declared.outcome.Outcome.{Outcome}
use Rattle.kp_run_prepare.specs.Texts.{HaveTrees, RefusesTexts, of_domain, of_problem, of_names}
use Rattle.kp_run_prepare.specs.Refusing.{refuses, named_in}
use Rattle.kp_run_prepare.specs.Prepared.{usual, IsSmall, IsStarted, IsPrepared, RefusesTrees, too_large, implicates_over, no_initial_state, clash, by_texts, by_trees, Comes, early, later}

-- ---- two trees

-- they are refused, with what the refusal may name
abbrev AreRefused : ℕ → Domain Word → Problem Word → Type 0
AreRefused limit d p = (names : Nameable) × (r : Refused) × RefusesTrees limit d p names r

module _ (limit : ℕ) (d : Domain Word) (p : Problem Word) where
  of_started : IsStarted limit d p → AreRefused limit d p ⊎ IsPrepared limit d p
  of_started started = elim (clash_or_none (ground_of d p) (initial_of d p) (formulas_speak_of_ground_atoms d p)) [
    | inl first ↦ inl (named_in (ground_of d p), refusals.Clash first.0, clash first.0 started first.1)
    | inr free ↦ inr (record { started = started; clash_free = free })
  ]

  of_small : HasNoFault d p → IsSmall d p → AreRefused limit d p ⊎ IsPrepared limit d p
  of_small no_fault small = elim (counted (initial_of d p) limit (formulas_are_ascending (numbered_problem d p))) [
    | inl over ↦ inl (nothing, refusals.ImplicatesOver over.0, implicates_over over.0 small over.1)
    | inr never ↦ elim (model_or_none (length (ground_of d p).atoms) (initial_of d p) (formulas_speak_of_ground_atoms d p)) [
      | inl model ↦ of_started (record { small = small; counted = never; initial = (initial_states_are_models d p no_fault).1 model })
      | inr none ↦ inl (nothing, refusals.NoInitialState, no_initial_state small never (λ has. none ((initial_states_are_models d p no_fault).0 has)))
    ]
  ]

  pub of_trees : HasNoFault d p → AreRefused limit d p ⊎ IsPrepared limit d p
  of_trees no_fault = elim (sizes_decided (numbered_problem d p) usual) [
    | inl over ↦ inl (nothing, over.0, too_large over.0 over.1)
    | inr small ↦ of_small no_fault small
  ]

-- ---- two texts

-- they have trees, or are refused
pub texts_decided : (x y : List ℕ) → ((d : Domain Word) × (p : Problem Word) × HaveTrees x y d p) ⊎ ((r : Refused) × RefusesTexts x y r)
texts_decided x y = elim (files_always_one parts.Domain _ _ grammar.domain x) [
  | inr r ↦ inr (r.0, of_domain r.0 r.1)
  | inl d ↦ elim (files_always_one parts.Problem _ _ grammar.problem y) [
    | inr r ↦ inr (r.0, of_problem d.0 r.0 d.1 r.1)
    | inl p ↦ elim (names_decided x y d.0 p.0) [
      | inr r ↦ inr (r.0, of_names d.0 p.0 r.0 d.1 p.1 r.1)
      | inl no_fault ↦ inl (d.0, p.0, record { domain_reads = d.1; problem_reads = p.1; no_fault = no_fault })
    ]
  ]
]

-- where a command goes on to some outcome, it comes to one
pub some_comes : (limit : ℕ) (x y : List ℕ) (P : Domain Word → Problem Word → Outcome → Type 0) → ((d : Domain Word) (p : Problem Word) → HaveTrees x y d p → IsPrepared limit d p → (o : Outcome) × P d p o) → (o : Outcome) × Comes limit x y P o
some_comes limit x y P goes_on = elim (texts_decided x y) [
  | inr r ↦ (refuses nothing r.0, early (by_texts r.0 r.1 refl))
  | inl t ↦ elim (of_trees limit t.0 t.1 t.2.no_fault) [
    | inl r ↦ (refuses r.0 r.1, early (by_trees t.0 t.1 r.0 r.1 t.2 r.2 refl))
    | inr ready ↦ let g = goes_on t.0 t.1 t.2 ready in (g.0, later t.0 t.1 t.2 ready g.1)
  ]
]
