-- The lines of a plan read back as its steps.
use Rattle.std.proofs.Common.{◌≡◌, ℕ, true, List, [], ◌∷◌, map, refl, sym, ap, ◌∙◌}
use Rattle.std.specs.List.{AllByRecursion}
use Rattle.kp_base.specs.declared.ground.GroundName.{GroundName}
use Rattle.kp_lex.specs.declared.token.TokenKind.TheVariants as kinds
use Rattle.kp_lex.specs.Bytes.{class_of}
use Rattle.kp_tree_grammar.specs.declared.tree.Word.{Word}
use Rattle.kp_tree_grammar.specs.Language.{symbol_of, is_name, is_left, s_word, s_pair, s_list, hits, many, word, Reads, r_token, r_both, r_end, r_more, r_bracket}
use Rattle.kp_tree_grammar.proofs.Public.{name_passes}
use Rattle.kp_names_semantics.specs.GroundNames.{IsGroundName}
use Rattle.kp_law_texts.specs.Pieces.{Piece, right, each, spaced, name, line_feed}
use Rattle.kp_law_texts.specs.Tokens.{words, done, lefts, blanks, says}
use Rattle.kp_law_texts.specs.Maps.{without_places}
use Rattle.kp_law_texts.proofs.Public.{◌$◌, KeepsFine, each_keeps_fine, names_before_a_bracket_end, names_before_a_bracket_are_fine, PiecesGive, many_pieces_read, pieces_read_as_their_words}
use Rattle.kp_plans.specs.Grammar.{step, plan, step_name}
use Rattle.kp_plans.specs.PlanFiles.{step_names, step_of}
use Rattle.kp_plans.specs.Printed.{step_line, plan_pieces, plan_text, PrintedPlansRead}

-- ---- the lines are fine

fine_step : (n : GroundName) → IsGroundName n → KeepsFine (step_line n)
unfolding class_of
fine_step n h = record { keeps = λ {rest} f. lefts $ says h.head.token h.head.low (names_before_a_bracket_end n.objects (line_feed rest)) $ names_before_a_bracket_are_fine n.objects h.objects $ blanks refl f }

-- ---- they read as steps

-- a name is a name to the grammar
pub name_hits : (w : List ℕ) → hits is_name (symbol_of kinds.Name w) ≡ true
name_hits w = name_passes (hits is_name) w refl refl

pub name_is : (w : List ℕ) → is_name (symbol_of kinds.Name w) ≡ true
name_is w = name_passes is_name w refl refl

word_reads : (w : List ℕ) (rest : List Piece) → Reads (word is_name) (words (spaced name w rest)) w (words rest)
word_reads w rest = r_token (name_hits w)

-- the words of a step
abbrev words_of : GroundName → List ℕ × List (List ℕ)
words_of n = (n.head, n.objects)

objects_read : (os : List (List ℕ)) (rest : List Piece) → Reads (many is_name (word is_name)) (words (each (spaced name) os (right ∷ rest))) os (words (right ∷ rest))
objects_read [] rest = r_end refl
objects_read (o ∷ os) rest = r_more (name_is o) (word_reads o (each (spaced name) os (right ∷ rest))) (objects_read os rest)

step_reads : (n : GroundName) → PiecesGive step (step_line n) (words_of n)
step_reads n rest = r_bracket refl (r_both (r_token (name_hits n.head)) (objects_read n.objects (line_feed rest))) refl

plan_reads : (steps : List GroundName) → AllByRecursion IsGroundName steps → Reads plan (words (plan_pieces steps)) (map words_of steps) []
plan_reads steps h = many_pieces_read is_left step step_line words_of IsGroundName (λ n _. step_reads n) (λ n rest. refl) steps [] h refl

-- ---- so the text does

-- the name that is made of a step's words
abbrev named : List ℕ × List (List ℕ) → GroundName
named x = record { head = x.0; objects = x.1 }

named_words : (steps : List GroundName) → map named (map words_of steps) ≡ steps
named_words [] = refl
named_words (n ∷ ns) = ap (λ xs. n ∷ xs) (named_words ns)

named_tree : (tree : List (Word × List Word)) → map named (without_places (s_list (s_pair s_word (s_list s_word))) tree) ≡ map step_name tree
named_tree [] = refl
named_tree (x ∷ xs) = ap (λ ns. step_name x ∷ ns) (named_tree xs)

-- the steps of the text have the names that were made
same_names : (text : List ℕ) (tree : List (Word × List Word)) → step_names (map (step_of text) tree) ≡ map step_name tree
same_names text [] = refl
same_names text (x ∷ xs) = ap (λ ns. step_name x ∷ ns) (same_names text xs)

pub printed_plans_read : PrintedPlansRead
printed_plans_read steps h =
    let r = pieces_read_as_their_words _ _ plan (plan_pieces steps) (map words_of steps) ((each_keeps_fine step_line IsGroundName fine_step steps h).keeps done) (plan_reads steps h) in
    record {
      steps = map (step_of (plan_text steps)) r.tree;
      have = same_names (plan_text steps) r.tree ∙ sym (named_tree r.tree) ∙ ap (map named) r.is ∙ named_words steps;
      plan = record { tree = r.tree; are = refl; reads = r.reads };
    }
