-- What is written for two trees and a table of tags and merges.
use Rattle.kp_base.specs.declared.ground.TagTable.{TagTable}
use Rattle.kp_tree_grammar.specs.declared.tree.Word.{Word}
use Rattle.kp_tree_grammar.specs.Trees.{Domain, Problem}
use Rattle.kp_ktask_texts.specs.declared.translation.Translation.{Translation}
use Rattle.kp_ktask_texts.specs.Translations.{translation_with}
use Rattle.kp_law_translation.specs.OfTrees.{ground_of}

-- the two files, and what is printed
abbrev pub translation_of : Domain Word → Problem Word → TagTable → Translation
translation_of d p table = translation_with (ground_of d p) table
