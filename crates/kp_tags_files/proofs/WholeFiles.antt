-- From the merges of tokens to those of files.
use Rattle.std.proofs.Common.{◌≡◌, ℕ, List, map, drop, Result, Ok, Err, sym, ap, subst, ◌∙◌}
use Rattle.std.specs.List.{drop-map}
use Rattle.std.specs.Str.{str_to_ascii_lowercase}
use Rattle.kp_base.specs.declared.ground.GroundName.{GroundName}
use Rattle.kp_base.specs.declared.refused.Part.TheVariants as parts
use Rattle.kp_base.specs.declared.refused.Refused.TheVariants as refusals
use Rattle.kp_base.specs.declared.refused.Stop.{Stop}
use Rattle.kp_base.specs.declared.refused.Stop.TheVariants as causes
use Rattle.kp_lex.specs.declared.token.Token.{Token}
use Rattle.kp_lex.specs.Answers.{IsRight}
use Rattle.kp_lex.specs.Cutting.{Cut}
use Rattle.kp_tree_grammar.specs.declared.tree.Word.{Word}
use Rattle.kp_tree_grammar.specs.Symbols.{Tok, seen_in, all_seen_in}
use Rattle.kp_tree_cursor.specs.declared.halt.Halt.{Halt}
use Rattle.kp_tree_cursor.specs.declared.halt.Halt.TheVariants as halts
use Rattle.kp_tree_cursor.specs.Lexemes.{from, lexed}
use Rattle.kp_tree_cursor.proofs.Public.{lexed_as_seen}
use Rattle.kp_plans.specs.Names.{number_of}
use Rattle.kp_plans.specs.WordTables.{IsTableOf}
use Rattle.kp_tags_files.specs.declared.merge.FileMerge.{FileMerge}
use Rattle.kp_tags_files.specs.Numbers.{Numbers}
use Rattle.kp_tags_files.specs.MergesFiles.{RefusesMerges, bad_token, wrong_token, AnswersMergesFile}
use Rattle.kp_tags_files.specs.Parts.{AreMergesOf, AnswersTokens, AnswersCut, IsTold, numbers_of}

-- ---- tokens of a text

module _ (number : Numbers) (text lower : List ℕ) (ts : List Token) (ls : List (Tok Word)) (e : lower ≡ str_to_ascii_lowercase text) (read : ls ≡ map (lexed lower) ts) where
  seen : ls ≡ all_seen_in text ts
  seen = read ∙ lexed_as_seen text lower ts e

  from_is : (i : ℕ) → from ls i ≡ all_seen_in text (drop i ts)
  from_is i = ap (drop i) seen ∙ drop-map (seen_in text) i ts

  pub of_tokens : (r : Result (List FileMerge) Halt) → AnswersTokens number ls r → AnswersCut number text ts r
  of_tokens (Ok ms) h = subst (λ (us : List (Tok Word)). AreMergesOf number us ms) seen h
  of_tokens (Err halts.Memory) h = tt
  of_tokens (Err (halts.Syntax i)) h = rw (sym seen, sym (from_is i)) h
  of_tokens (Err (halts.Unsupported i)) h = h

-- ---- the answer of a file

-- what the table has for names are the numbers of the ground atoms
pub of_atoms : (table : List (List ℕ × ℕ)) (atoms : List GroundName) (text : List ℕ) (ts : List Token) (r : Result (List FileMerge) Halt) → IsTableOf table atoms → AnswersCut (numbers_of table) text ts r → AnswersCut (number_of atoms) text ts r
of_atoms table atoms text ts r is h = subst (λ (number : Numbers). AnswersCut number text ts r) (λ i n. is.finds n i) h

module _ (atoms : List GroundName) (text : List ℕ) where
  pub uncut : (e : Stop) → IsRight parts.Merges text (Err e) → AnswersMergesFile atoms text (Err e)
  uncut causes.Memory h = tt
  uncut (causes.Refused (refusals.BadToken place)) h = subst (λ p. RefusesMerges atoms text (refusals.BadToken p)) (sym h.1.1) (bad_token h.0 h.1.0)
  uncut (causes.Refused _) h = absurd h

  pub read_all : (ts : List Token) (ms : List FileMerge) → Cut 0 text ts → AnswersCut (number_of atoms) text ts (Ok ms) → AnswersMergesFile atoms text (Ok ms)
  read_all ts ms cut h = record { tree = h.tree; are = h.are; reads = record { tokens = ts; cut = cut; reads = h.reads } }

  pub refused : (ts : List Token) (halt : Halt) (e : Stop) → Cut 0 text ts → AnswersCut (number_of atoms) text ts (Err halt) → IsTold text ts halt e → AnswersMergesFile atoms text (Err e)
  refused ts halts.Memory e cut h told = rw told tt
  refused ts (halts.Syntax i) e cut h told = rw told (wrong_token ts (all_seen_in text (drop i ts)) cut h)
  refused ts (halts.Unsupported i) e cut h told = absurd h
