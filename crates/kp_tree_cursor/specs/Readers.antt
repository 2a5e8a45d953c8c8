-- What the calls of this crate give, by the forms of `kp_tree_grammar`. What is promised of whole files doesn't speak of it.
use Rattle.std.specs.Prelude.{◌≡◌, ◌+◌, ℕ, length, List, [], ◌∷◌, Bool, true, Result, Ok, Err, map}
use Rattle.kp_tree_grammar.specs.declared.tree.Word.{Word}
use Rattle.kp_tree_grammar.specs.declared.symbol.Symbol.{Symbol}
use Rattle.kp_tree_grammar.specs.Language.{Tok, is_left, is_right, is_head, is_name, is_variable, is_term, is_keyword, is_define, is_domain, is_problem, is_either, is_merge, is_equal, hits, word, some, skip, words_of_requirements, Unsupported, At, stop, Outcome, read}
use Rattle.kp_tree_cursor.specs.declared.halt.Halt.{Halt}
use Rattle.kp_tree_cursor.specs.declared.halt.Halt.TheVariants as halts
use Rattle.kp_tree_cursor.specs.declared.cursor.Class.{Class}
use Rattle.kp_tree_cursor.specs.declared.cursor.Class.TheVariants as classes
use Rattle.kp_tree_cursor.specs.declared.cursor.Lead.{Lead}
use Rattle.kp_tree_cursor.specs.declared.cursor.Lead.TheVariants as leads
use Rattle.kp_tree_cursor.specs.Lexemes.{word_of, from}

-- ---- what a function answers is what reading gives, unless memory runs out

-- where a form stops at a token that is known and not supported
abbrev pub unsupported : List (Tok Word) → At Word
unsupported ts = record { tokens = ts; reason = Unsupported }

abbrev pub Fails : {Y : Type 0} → List (Tok Word) → Halt → Outcome Word Y → Type 0
Fails ls halts.Memory reading = Unit {0}
Fails ls (halts.Syntax i) reading = reading ≡ Err (stop (from ls i))
Fails ls (halts.Unsupported i) reading = reading ≡ Err (unsupported (from ls i))

abbrev pub Gives : {X Y : Type 0} → List (Tok Word) → (X → Y) → Result (X × ℕ) Halt → Outcome Word Y → Type 0
Gives ls view (Ok x) reading = reading ≡ Ok (view x.0, from ls x.1)
Gives ls view (Err e) reading = Fails ls e reading

-- for a function that keeps nothing of what it reads
abbrev pub Passes : List (Tok Word) → Result ℕ Halt → Outcome Word (Unit {0}) → Type 0
Passes ls (Ok n) reading = reading ≡ Ok (tt, from ls n)
Passes ls (Err e) reading = Fails ls e reading

-- for a function that reads all tokens
abbrev pub GivesAll : {X Y : Type 0} → List (Tok Word) → (X → Y) → Result X Halt → Outcome Word Y → Type 0
GivesAll ls view (Ok x) reading = reading ≡ Ok (view x, [])
GivesAll ls view (Err e) reading = Fails ls e reading

-- a closing bracket stands there, and the rest is left
pub record Closed (ts rest : List (Tok Word)) : Type 0 where
  pub token : Tok Word
  pub is : ts ≡ token ∷ rest
  pub right : is_right token.symbol ≡ true

-- an opening bracket stands there, and the rest is left
pub record Opened (ts rest : List (Tok Word)) : Type 0 where
  pub token : Tok Word
  pub is : ts ≡ token ∷ rest
  pub left : is_left token.symbol ≡ true

abbrev pub Reader : Type 0 → Type 0
Reader A = List (Tok Word) → Outcome Word A

-- ---- tokens

-- a token for which the test holds stands there, and the rest is left
pub record Shown (p : Symbol → Bool) (ts rest : List (Tok Word)) : Type 0 where
  pub token : Tok Word
  pub is : ts ≡ token ∷ rest
  pub passes : p token.symbol ≡ true

-- a token of the class
abbrev pub class_test : Class → Symbol → Bool
class_test classes.Name = is_name
class_test classes.Head = is_head
class_test classes.Variable = is_variable
class_test classes.Term = is_term
class_test classes.Keyword = is_keyword

-- the same, of a token
abbrev pub is_of : Class → Tok Word → Bool
is_of c t = class_test c t.symbol

-- the word that must come first
abbrev pub lead_test : Lead → Symbol → Bool
lead_test leads.Define = is_define
lead_test leads.Domain = is_domain
lead_test leads.Problem = is_problem
lead_test leads.Either = is_either
lead_test leads.Merge = is_merge
lead_test leads.Equal = is_equal

-- it stands there, and the rest is left
pub record Led (lead : Lead) (ts rest : List (Tok Word)) : Type 0 where
  pub token : Tok Word
  pub is : ts ≡ token ∷ rest
  pub leads : hits (lead_test lead) token.symbol ≡ true

unfoldable pub word_at : Class → Reader Word
word_at c = read 0 (word (class_test c))

unfoldable pub name_at : Reader (Unit {0})
name_at = read 0 (skip is_name)

-- ---- several tokens of a class

-- one or more words
unfoldable pub some_at : Class → Reader (Word × List Word)
some_at c = read 0 (some (class_test c))

-- they stand there
pub record Words (c : Class) (ls : List (Tok Word)) (at : ℕ) (run : List (Tok Word)) : Type 0 where
  pub first : Word
  pub others : List Word
  pub are : map word_of run ≡ first ∷ others
  pub reads : some_at c (from ls at) ≡ Ok ((first, others), from ls (at + length run))

-- keywords, which aren't kept
unfoldable pub keywords_at : Reader (Unit {0})
keywords_at = read 0 words_of_requirements
