-- Names, and terms, as the longest run of them.
use Rattle.std.proofs.Common.{◌≡◌, ℕ, ◌+◌, Bool, true, false, List, [], ◌∷◌, length, map, drop, Ok, Err, refl, ap, ◌∙◌}
use Rattle.std.specs.List.{prefix_len, take_while}
use Rattle.kp_base.proofs.Parts.{take_while_next}
use Rattle.kp_tree_grammar.specs.declared.symbol.Symbol.{Symbol}
use Rattle.kp_tree_grammar.specs.declared.symbol.Symbol.TheVariants as symbols
use Rattle.kp_tree_grammar.specs.declared.tree.Word.{Word}
use Rattle.kp_tree_grammar.specs.Language.{Tok, is_name, is_head, is_variable, is_term, is_keyword, apply, m_name, many, term_maker, stop, Outcome, ◌>>=◌, read}
use Rattle.kp_tree_cursor.specs.declared.cursor.Class.{Class}
use Rattle.kp_tree_cursor.specs.declared.cursor.Class.TheVariants as classes
use Rattle.kp_tree_cursor.specs.Lexemes.{word_of, term_of, from}
use Rattle.kp_tree_cursor.specs.Readers.{class_test, is_of, some_at, Words}
use Rattle.kp_tree_cursor.proofs.Public.{class_is_no_bracket, longest_run_reads, words_of_run}
use Rattle.kp_tree_parts.specs.Readers.{term_form, terms_at, names_at}

-- a name is no variable
name_made : (s : Symbol) → is_name s ≡ true → term_maker s ≡ m_name
name_made symbols.Variable e = absurd cc
name_made _ e = refl

abbrev NamesMade : List (Tok Word) → Type 0
NamesMade us = map (λ l. apply Word m_name (word_of l)) (take_while (is_of classes.Name) us) ≡ map term_of (take_while (is_of classes.Name) us)

one_name_made : (l : Tok Word) (us : List (Tok Word)) (v : Bool) → is_name l.symbol ≡ v → NamesMade us → NamesMade (l ∷ us)
one_name_made l us true e h =
    let made : term_maker l.symbol ≡ m_name = name_made l.symbol e in
    let front = take_while_next (is_of classes.Name) l us e in
    rw (front, h, made) refl
one_name_made l us false e h = rw e refl

names_made : (us : List (Tok Word)) → NamesMade us
names_made [] = refl
names_made (l ∷ us) = one_name_made l us (is_name l.symbol) refl (names_made us)

terms_by : (c : Class) (us : List (Tok Word)) → read 0 (many (class_test c) (term_form c)) us ≡ Ok (map term_of (take_while (is_of c) us), (drop (prefix_len (is_of c) us) us))
terms_by classes.Name us = longest_run_reads 0 is_name (λ _. m_name) (class_is_no_bracket classes.Name) us ∙ rw (names_made us) refl
terms_by classes.Head us = longest_run_reads 0 is_head term_maker (class_is_no_bracket classes.Head) us
terms_by classes.Variable us = longest_run_reads 0 is_variable term_maker (class_is_no_bracket classes.Variable) us
terms_by classes.Term us = longest_run_reads 0 is_term term_maker (class_is_no_bracket classes.Term) us
terms_by classes.Keyword us = longest_run_reads 0 is_keyword term_maker (class_is_no_bracket classes.Keyword) us

-- ---- the same for the tokens from a place on

pub terms_read : (c : Class) (ls : List (Tok Word)) (at : ℕ) (run : List (Tok Word)) → run ≡ take_while (is_of c) (drop at ls) → terms_at c (from ls at) ≡ Ok (map term_of run, from ls (at + length run))
unfolding terms_at
terms_read c ls at run is = words_of_run c ls at run is term_of (read 0 (many (class_test c) (term_form c)) (from ls at)) (terms_by c (drop at ls))

pub names_read : (ls : List (Tok Word)) (at : ℕ) (run : List (Tok Word)) (ws : List Word) → Words classes.Name ls at run → ws ≡ map word_of run → names_at (from ls at) ≡ Ok (ws, from ls (at + length run))
unfolding some_at names_at
names_read ls at run ws w e = ap (λ (r : Outcome Word (Word × List Word)). r >>= λ x. Ok (x.0.0 ∷ x.0.1, x.1)) w.reads ∙ rw (e, w.are) refl

pub no_names_read : (ls : List (Tok Word)) (at : ℕ) → some_at classes.Name (from ls at) ≡ Err (stop (from ls at)) → names_at (from ls at) ≡ Err (stop (from ls at))
unfolding some_at names_at
no_names_read ls at e = ap (λ (r : Outcome Word (Word × List Word)). r >>= λ x. Ok (x.0.0 ∷ x.0.1, x.1)) e
