-- A problem with a table of tags and merges with which a command goes on from two texts, or how it ends before.
use Rattle.std.specs.Prelude.{ℕ, List, Result, Ok, Err}
use Rattle.kp_base.specs.declared.ground.Ground.{Ground}
use Rattle.kp_base.specs.declared.ground.Initial.{Initial}
use Rattle.kp_primes.specs.Held.{formula}
use Rattle.kp_law_translation.specs.OfTrees.{ground_of, initial_of}
use Rattle.kp_words.specs.Asked.{Source}
use Rattle.kp_run_prepare.specs.declared.prepared.Early.{Early}
use Rattle.kp_run_prepare.specs.declared.prepared.Early.TheVariants as halts
use Rattle.kp_run_prepare.specs.Prepared.{Comes, IsPreparedOf}
use Rattle.kp_run_inputs.specs.declared.tabled.Tabled.{Tabled}
use Rattle.kp_run_inputs.specs.SourceTables.{HasTable, EndsAtTable}

-- its ground problem
abbrev pub ground_in : Tabled → Ground
ground_in t = t.related.prepared.ground

-- the formula of its prime implicates
abbrev pub formula_in : Tabled → Initial
formula_in t = formula t.related.prepared.primes

-- it is that of two texts, with the table of a source
pub record IsTabledOf (limit : ℕ) (domain problem : List ℕ) (source : Source) (merges : List (List ℕ)) (t : Tabled) : Type 0 where
  pub prepared : IsPreparedOf limit domain problem t.related.prepared
  pub has_table : HasTable (ground_of prepared.first prepared.second) (initial_of prepared.first prepared.second) source merges t.table

-- what is answered: this, or the outcome with which a command ends early or since there is no table; want of memory is free
abbrev pub AnswersTabled : ℕ → List ℕ → List ℕ → Source → List (List ℕ) → Result Tabled Early → Type 0
AnswersTabled limit domain problem source merges (Ok t) = IsTabledOf limit domain problem source merges t
AnswersTabled limit domain problem source merges (Err (halts.With o)) = Comes limit domain problem (λ d p. EndsAtTable (ground_of d p) (initial_of d p) source merges) o
AnswersTabled limit domain problem source merges (Err halts.Memory) = Unit {0}
