-- What `translate` comes to.
use Rattle.std.specs.Prelude.{◌≡◌, List, [], ◌∷◌, ◌++◌, ℕ}
use Rattle.kp_base.specs.declared.ground.Ground.{Ground}
use Rattle.kp_base.specs.declared.ground.Initial.{Initial}
use Rattle.kp_base.specs.declared.ground.TagTable.{TagTable}
use Rattle.kp_base.specs.declared.lit.Lit.{Lit}
use Rattle.kp_base.specs.Covering.{AreUncovered}
use Rattle.kp_tree_grammar.specs.declared.tree.Word.{Word}
use Rattle.kp_tree_grammar.specs.Trees as trees
use Rattle.kp_ktask_texts.specs.Translations.{translation_with}
use Rattle.kp_law_translation.specs.OfTrees.{ground_of, initial_of}
use Rattle.kp_run_messages.specs.Coverage.{coverage_text}
use Rattle.kp_run_outcome.specs.declared.outcome.Outcome.{Outcome}
use Rattle.kp_run_outcome.specs.declared.status.Status.TheVariants as status
use Rattle.kp_words.specs.Asked.{source_of, Asked}
use Rattle.kp_run_prepare.specs.Prepared.{Comes}
use Rattle.kp_run_inputs.specs.SourceTables.{ComesByTable}
use Rattle.kp_run_inputs.specs.Tasks.{ComesByTask}

-- the two files of a ground problem with a table are put under the output names; the counts are printed, and whether the table is complete, with the targets that it doesn't cover
abbrev pub translates : Asked → Ground → TagTable → List Lit → Outcome
translates c g table uncovered = record {
  status = status.Done;
  puts = record { name = c.domain_out; content = (translation_with g table).domain } ∷ record { name = c.problem_out; content = (translation_with g table).problem } ∷ [];
  text = (translation_with g table).counts ++ coverage_text g.atoms uncovered;
}

-- which targets aren't covered is told, and both files are put
pub record IsPut (c : Asked) (g : Ground) (i : Initial) (table : TagTable) (o : Outcome) : Type 0 where
  pub uncovered : List Lit
  pub are : AreUncovered g i table uncovered
  pub outcome : o ≡ translates c g table uncovered

-- a ground problem and its initial formula are translated with a table of tags and merges to this: the refusal of their task, or its two files and which targets aren't covered
abbrev pub TranslatesGround : Asked → Ground → Initial → TagTable → Outcome → Type 0
TranslatesGround c g i table o = ComesByTask g table (IsPut c g i table) o

-- two trees are translated to this, with the table of the command's source; `merges` has the text of its file of merges, if it names one
abbrev pub TranslatesTrees : Asked → List (List ℕ) → trees.Domain Word → trees.Problem Word → Outcome → Type 0
TranslatesTrees c merges d p o = ComesByTable (ground_of d p) (initial_of d p) (source_of c) merges (TranslatesGround c (ground_of d p) (initial_of d p)) o

-- two texts are translated to this, by the text of merges if one is given
abbrev pub TranslatesTexts : Asked → List ℕ → List ℕ → List (List ℕ) → Outcome → Type 0
TranslatesTexts c domain problem merges o = Comes c.implicates domain problem (TranslatesTrees c merges) o
