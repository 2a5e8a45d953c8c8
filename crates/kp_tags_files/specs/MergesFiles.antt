-- Which texts are files of merges, with which merges, and how the others are refused.
use Rattle.std.specs.Prelude.{◌≡◌, ℕ, ◌<◌, ◌≤◌, ◌++◌, List, drop, length, count_by, None, Result, Ok, Err, ◌⊎◌}
use Rattle.std.specs.List.{AllZip}
use Rattle.kp_base.specs.declared.ground.GroundName.{GroundName}
use Rattle.kp_base.specs.declared.refused.Part.TheVariants as parts
use Rattle.kp_base.specs.declared.refused.Refused.{Refused}
use Rattle.kp_base.specs.declared.refused.Refused.TheVariants as refusals
use Rattle.kp_base.specs.declared.refused.Stop.{Stop}
use Rattle.kp_base.specs.declared.refused.Stop.TheVariants as causes
use Rattle.kp_lex.specs.declared.token.Token.{Token}
use Rattle.kp_lex.specs.Cutting.{Cut, BadAt}
use Rattle.kp_lex.specs.Places.{place_of}
use Rattle.kp_tree_grammar.specs.declared.tree.Word.{Word}
use Rattle.kp_tree_grammar.specs.Language.{Atom, Tok, all_seen_in, is_left, is_right, fact, At, Reads, StopsWhole, ReadsAs}
use Rattle.kp_tree_cursor.specs.Lexemes.{byte_at}
use Rattle.kp_plans.specs.Names.{number_of}
use Rattle.kp_tags_files.specs.declared.merge.FileMerge.{FileMerge}
use Rattle.kp_tags_files.specs.Grammar.{MergeTree, merges, name_of_atom}
use Rattle.kp_tags_files.specs.Numbers.{Numbers, IsMerge}

-- the text is cut and reads as merges, and these are they; each atom is the first ground atom with its name
pub record IsMergesOf (atoms : List GroundName) (text : List ℕ) (ms : List FileMerge) : Type 0 where
  pub tree : List MergeTree
  pub are : AllZip (IsMerge (number_of atoms)) tree ms
  pub reads : ReadsAs merges text tree

-- ---- refusals; a token is told by the tokens from it on

-- how many brackets open among some tokens, and how many close
abbrev pub opened : List (Tok Word) → ℕ
opened ts = count_by (λ t. is_left t.symbol) ts

abbrev pub closed : List (Tok Word) → ℕ
closed ts = count_by (λ t. is_right t.symbol) ts

-- an atom stands here among all tokens, within a bracket that is still open (so a merge, which begins as an atom does, is none)
pub record AtomStands (all here : List (Tok Word)) (a : Atom Word) : Type 0 where
  pub before : List (Tok Word)
  pub split : all ≡ before ++ here
  pub inside : closed before < opened before
  pub behind : List (Tok Word)
  pub reads : Reads fact here a behind

-- a token is refused: the grammar stops there, or it is the head of an atom whose name has no number
pub data IsRefused (number : Numbers) (all : List (Tok Word)) : List (Tok Word) → Type 0 where
  stops : (at : At Word) → StopsWhole merges all at → IsRefused number all at.tokens
  no_ground_atom : (here : List (Tok Word)) (a : Atom Word) → AtomStands all here a → number (name_of_atom a) ≡ None → IsRefused number all (drop 1 here)

-- it is the first that is refused
pub record IsFirstRefused (number : Numbers) (all here : List (Tok Word)) : Type 0 where
  pub refused : IsRefused number all here
  pub first : (there : List (Tok Word)) → IsRefused number all there → length there ≤ length here

-- the text has this refusal: a byte that begins no token, or the first token that is refused; how deep brackets go is no matter
pub data RefusesMerges (atoms : List GroundName) (text : List ℕ) : Refused → Type 0 where
  bad_token : (i : ℕ) → BadAt 0 text i → RefusesMerges atoms text (refusals.BadToken (place_of parts.Merges text i))
  wrong_token : (tokens : List Token) (here : List (Tok Word)) → Cut 0 text tokens → IsFirstRefused (number_of atoms) (all_seen_in text tokens) here → RefusesMerges atoms text (refusals.MergeSyntax (place_of parts.Merges text (byte_at text here)))

-- of a text: its merges, or its refusal; want of memory is free
abbrev pub AnswersMergesFile : List GroundName → List ℕ → Result (List FileMerge) Stop → Type 0
AnswersMergesFile atoms text (Ok ms) = IsMergesOf atoms text ms
AnswersMergesFile atoms text (Err causes.Memory) = Unit {0}
AnswersMergesFile atoms text (Err (causes.Refused r)) = RefusesMerges atoms text r

-- ---- laws: one list of merges, or else one refusal

-- a text has one list of merges at most
abbrev pub MergesReadOnce : Type 0
MergesReadOnce = (atoms : List GroundName) (text : List ℕ) (ms others : List FileMerge) → IsMergesOf atoms text ms → IsMergesOf atoms text others → ms ≡ others

-- a text has one refusal at most
abbrev pub MergesRefuseOnce : Type 0
MergesRefuseOnce = (atoms : List GroundName) (text : List ℕ) (r s : Refused) → RefusesMerges atoms text r → RefusesMerges atoms text s → r ≡ s

-- a text that has merges has no refusal
abbrev pub MergesNeverBoth : Type 0
MergesNeverBoth = (atoms : List GroundName) (text : List ℕ) (ms : List FileMerge) (r : Refused) → IsMergesOf atoms text ms → RefusesMerges atoms text r → ⊥

-- a text has merges or a refusal
abbrev pub MergesAlwaysOne : Type 0
MergesAlwaysOne = (atoms : List GroundName) (text : List ℕ) → ((ms : List FileMerge) × IsMergesOf atoms text ms) ⊎ ((r : Refused) × RefusesMerges atoms text r)
