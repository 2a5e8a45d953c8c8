-- Any number of tokens of one kind, as the longest run of them.
use Rattle.std.proofs.Common.{◌≡◌, ℕ, suc, ◌+◌, ◌<◌, Bool, true, false, List, [], ◌∷◌, length, map, drop, Ok, Err, refl, sym, ap, ◌∙◌, arith}
use Rattle.std.specs.List.{prefix_len, take_while}
use Rattle.std.proofs.lemmas.List.Folds.{length-prefix_len}
use Rattle.std.proofs.lemmas.List.{drop-drop}
use Rattle.kp_base.proofs.Parts.{take_while_next}
use Rattle.kp_tree_grammar.specs.declared.symbol.Symbol.{Symbol}
use Rattle.kp_tree_grammar.specs.declared.symbol.Symbol.TheVariants as symbols
use Rattle.kp_tree_grammar.specs.declared.tree.Word.{Word}
use Rattle.kp_tree_grammar.specs.Language.{Tok, first_is, is_keyword, Sort, s_word, El, Maker, apply, m_word, m_drop, hits, token, many, some, stop, Outcome, read}
use Rattle.kp_tree_grammar.proofs.Public.{many_unfolds}
use Rattle.kp_tree_cursor.specs.declared.cursor.Class.{Class}
use Rattle.kp_tree_cursor.specs.declared.cursor.Class.TheVariants as classes
use Rattle.kp_tree_cursor.specs.Lexemes.{word_of, from}
use Rattle.kp_tree_cursor.specs.Readers.{class_test, is_of, some_at, Words, keywords_at}

-- a token of a class is never a bracket
pub never_bracket : (c : Class) (s : Symbol) → hits (class_test c) s ≡ class_test c s
never_bracket classes.Name symbols.Left = refl
never_bracket classes.Name symbols.Right = refl
never_bracket classes.Name _ = refl
never_bracket classes.Head symbols.Left = refl
never_bracket classes.Head symbols.Right = refl
never_bracket classes.Head _ = refl
never_bracket classes.Variable symbols.Left = refl
never_bracket classes.Variable symbols.Right = refl
never_bracket classes.Variable _ = refl
never_bracket classes.Term symbols.Left = refl
never_bracket classes.Term symbols.Right = refl
never_bracket classes.Term _ = refl
never_bracket classes.Keyword symbols.Left = refl
never_bracket classes.Keyword symbols.Right = refl
never_bracket classes.Keyword _ = refl

-- ---- the longest run from an element that passes

passed : {A : Type 0} (p : A → Bool) (x : A) (xs : List A) → p x ≡ true → drop (prefix_len p (x ∷ xs)) (x ∷ xs) ≡ drop (prefix_len p xs) xs
passed p x xs e = let more : prefix_len p (x ∷ xs) ≡ suc (prefix_len p xs) = rw e (omega arith) in ap (λ n. drop n (x ∷ xs)) more

-- ---- how long it is

by_first_true : (c : Class) (us : List (Tok Word)) → first_is (class_test c) us ≡ true → prefix_len (is_of c) us ≡ 1 + prefix_len (is_of c) (drop 1 us)
by_first_true c [] e = absurd cc
by_first_true c (l ∷ us) e = rw e refl

pub one_longer : (c : Class) (ls : List (Tok Word)) (n : ℕ) → first_is (class_test c) (from ls n) ≡ true → prefix_len (is_of c) (drop n ls) ≡ 1 + prefix_len (is_of c) (drop (n + 1) ls)
one_longer c ls n e = by_first_true c (drop n ls) e ∙ ap (λ (us : List (Tok Word)). 1 + prefix_len (is_of c) us) (drop-drop 1 n ls)

-- ---- reading any number of them

module _ {c : Sort} (d : ℕ) (p : Symbol → Bool) (m : Symbol → Maker s_word c) (hit : (s : Symbol) → hits p s ≡ p s) where
  abbrev passes : Tok Word → Bool
  passes l = p l.symbol

  abbrev made : Tok Word → El Word c
  made l = apply Word (m l.symbol) (word_of l)

  abbrev ReadsRun : List (Tok Word) → Type 0
  ReadsRun ls = read d (many p (token p m)) ls ≡ Ok (map made (take_while passes ls), (drop (prefix_len passes ls) ls))

  one_more : (l : Tok Word) (ls : List (Tok Word)) (v : Bool) → p l.symbol ≡ v → ReadsRun ls → ReadsRun (l ∷ ls)
  one_more l ls true e h =
      let is_hit : hits p l.symbol ≡ true = hit l.symbol ∙ e in
      let step : read d (many p (token p m)) ((l ∷ ls)) ≡ Ok (made l ∷ map made (take_while passes ls), (drop (prefix_len passes ls) ls)) = many_unfolds d p (token p m) ((l ∷ ls)) ∙ rw (is_hit, e, h) refl in
      step ∙ rw (take_while_next passes l ls e, passed passes l ls e) refl
  one_more l ls false e h = many_unfolds d p (token p m) ((l ∷ ls)) ∙ rw e refl

  pub run_reads : (ls : List (Tok Word)) → ReadsRun ls
  run_reads [] = many_unfolds d p (token p m) []
  run_reads (l ∷ ls) = one_more l ls (p l.symbol) refl (run_reads ls)

-- ---- what stands first

by_first : (c : Class) (us : List (Tok Word)) → prefix_len (is_of c) us ≡ 0 → read 0 (some (class_test c)) us ≡ Err (stop us)
by_first c [] e = refl
by_first c (l ∷ us) e = go (class_test c l.symbol) refl where
  go : (v : Bool) → class_test c l.symbol ≡ v → read 0 (some (class_test c)) ((l ∷ us)) ≡ Err (stop ((l ∷ us)))
  go true h = let more : prefix_len (is_of c) (l ∷ us) ≡ 1 + prefix_len (is_of c) us = rw h refl in absurd (omega (arith, more, e))
  go false h = let missed : hits (class_test c) l.symbol ≡ false = never_bracket c l.symbol ∙ h in rw missed refl

-- the words from the first on
some_by : (c : Class) (l : Tok Word) (us : List (Tok Word)) → class_test c l.symbol ≡ true → read 0 (some (class_test c)) ((l ∷ us)) ≡ Ok ((word_of l, map word_of (take_while (is_of c) us)), (drop (prefix_len (is_of c) us) us))
some_by c l us h =
    let is_hit : hits (class_test c) l.symbol ≡ true = never_bracket c l.symbol ∙ h in
    rw (is_hit, run_reads 0 (class_test c) (λ _. m_word) (never_bracket c) us) refl

by_more : (c : Class) (ls : List (Tok Word)) (at : ℕ) (run : List (Tok Word)) → run ≡ take_while (is_of c) (drop at ls) → (drop (prefix_len (is_of c) (drop at ls)) (drop at ls)) ≡ from ls (at + length run) → 0 < length run → Words c ls at run
unfolding some_at
by_more c ls at run is rest_is there = go (drop at ls) refl where
  by_test : (l : Tok Word) (us : List (Tok Word)) (v : Bool) → drop at ls ≡ l ∷ us → class_test c l.symbol ≡ v → Words c ls at run
  by_test l us true e h =
      let front : take_while (is_of c) (l ∷ us) ≡ l ∷ take_while (is_of c) us = take_while_next (is_of c) l us h in
      let behind : drop (prefix_len (is_of c) (l ∷ us)) (l ∷ us) ≡ drop (prefix_len (is_of c) us) us = passed (is_of c) l us h in
      let left : (drop (prefix_len (is_of c) us) us) ≡ from ls (at + length run) = sym behind ∙ ap (λ (vs : List (Tok Word)). (drop (prefix_len (is_of c) vs) vs)) (sym e) ∙ rest_is in
      record {
        first = word_of l;
        others = map word_of (take_while (is_of c) us);
        are = ap (map word_of) (is ∙ ap (take_while (is_of c)) e ∙ front);
        reads = ap (λ (vs : List (Tok Word)). read 0 (some (class_test c)) vs) e ∙ some_by c l us h ∙ rw left refl;
      }
  by_test l us false e h =
      let none : take_while (is_of c) (l ∷ us) ≡ [] = rw h refl in
      absurd (omega (arith, there, ap (λ (vs : List (Tok Word)). length vs) (is ∙ ap (take_while (is_of c)) e ∙ none)))

  go : (us : List (Tok Word)) → drop at ls ≡ us → Words c ls at run
  go [] e = absurd (omega (arith, there, ap (λ (vs : List (Tok Word)). length vs) (is ∙ ap (take_while (is_of c)) e)))
  go (l ∷ us) e = by_test l us (class_test c l.symbol) e refl

-- ---- the same for the tokens from a place on

module _ (c : Class) (ls : List (Tok Word)) (at : ℕ) (run : List (Tok Word)) (is : run ≡ take_while (is_of c) (drop at ls)) where
  count : length run ≡ prefix_len (is_of c) (drop at ls)
  count = ap (λ (us : List (Tok Word)). length us) is ∙ length-prefix_len (is_of c) (drop at ls)

  rest_is : (drop (prefix_len (is_of c) (drop at ls)) (drop at ls)) ≡ from ls (at + length run)
  rest_is = rw (sym count) (drop-drop (length run) at ls)

  pub words_are : {A : Type 0} (f : Tok Word → A) (reading : Outcome Word (List A)) → reading ≡ Ok (map f (take_while (is_of c) (drop at ls)), (drop (prefix_len (is_of c) (drop at ls)) (drop at ls))) → reading ≡ Ok (map f run, from ls (at + length run))
  words_are f reading e = e ∙ rw (rest_is, sym is) refl

  -- ---- what is read of them

  -- where none stands there
  pub none_read : length run ≡ 0 → some_at c (from ls at) ≡ Err (stop (from ls at))
  unfolding some_at
  none_read none = by_first c (drop at ls) (sym count ∙ none)

  -- where one stands there at least
  pub some_read : 0 < length run → Words c ls at run
  some_read there = by_more c ls at run is rest_is there

pub keywords_read : (ls : List (Tok Word)) (at : ℕ) (run : List (Tok Word)) → run ≡ take_while (is_of classes.Keyword) (drop at ls) → keywords_at (from ls at) ≡ Ok (tt, from ls (at + length run))
unfolding keywords_at
keywords_read ls at run is = rw (words_are classes.Keyword ls at run is (λ l. tt) _ (run_reads 0 is_keyword (λ _. m_drop) (never_bracket classes.Keyword) (drop at ls))) refl
