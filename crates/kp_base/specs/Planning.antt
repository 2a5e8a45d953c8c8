-- What conformant planning is, over numbers: states, steps, clauses, tags, merges, covers, facts. Each word is passed on from the file that says what it is.
pub use Rattle.kp_base.specs.ActionNames.{action_name}
pub use Rattle.kp_base.specs.Atoms.{Atom, atom, atom_before, has_atom, number_of, same_atom}
pub use Rattle.kp_base.specs.Clashes.{Clashes, HasNoClash, IsFirstClash, NeverClashes, Pairs, are_compatible, are_exclusive, clashes_at, compatible_effects}
pub use Rattle.kp_base.specs.Closure.{IsAscendingClosure, closure}
pub use Rattle.kp_base.specs.Counted.{IsCounted}
pub use Rattle.kp_base.specs.Covering.{AllMeet, AreUncovered, Covers, IsComplete, AreTagsOfClauses, IsCovered, IsTarget, Meets, TellsConsistent, lits_of, of_goal, of_precondition, tags_of}
pub use Rattle.kp_base.specs.Entailed.{AreValid, Entails, HasModel, HasNoModel, HasOneValue, HaveSameModels, IsClosure, IsConsistent, IsTable, IsValid, tag_holds}
pub use Rattle.kp_base.specs.Exclusive.{AreExclusive, ArePairs, ClashesFirst, Deletes, IsClashFree, IsExclusive, IsInductive, IsPart, NeverAtTheStart, firing_with}
pub use Rattle.kp_base.specs.Facts.{AreClosed, AreFactsOf}
pub use Rattle.kp_base.specs.Files.{most_bytes}
pub use Rattle.kp_base.specs.Implicates.{HasAtMostPrimes, IsImplicate, IsLeastOver, IsNeverOver, IsOfAtoms, IsOfItsAtoms, IsOnce, IsPrime, ListsPrimes, action_below, are_below, effect_below, formula_of, is_tautology, prefix_of}
pub use Rattle.kp_base.specs.Linked.{ActsOnItsAtoms, is_relevant, linked, lits_from}
pub use Rattle.kp_base.specs.Lists.{Member, choices, each_once, only_if, signed}
pub use Rattle.kp_base.specs.Lit.{code_of, negated, negative, positive, same_lit}
pub use Rattle.kp_base.specs.LitSet.{IsAscending, lits_cmp, same_set, set_of, with_lit}
pub use Rattle.kp_base.specs.Machine.{Known, MachineStep, accepts, accepts_from, after_act, after_merge, closure_of, facts_after, may_act, may_merge, one_tag_table, persists, start, stripped}
pub use Rattle.kp_base.specs.Matters.{Matters, facts_from, facts_of, is_fact, matters, needs, number, same_fact, under}
pub use Rattle.kp_base.specs.Relevance.{AreClausesFor, AreRelevant, IsCandidate, IsChained, IsClauseFor, IsRelevant, either_value, joins, leads}
pub use Rattle.kp_base.specs.Steps.{ComesBefore, Valuation, IsBounded, IsGroundPlan, IsLeastMissing, SameBelow, State, after, applicable, asked, fires, holds, is_model, next, pre_of, runs, state_after, succeeds}
