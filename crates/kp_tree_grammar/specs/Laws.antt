-- What holds of each form: it reads given tokens in one way, or it stops at one token for one reason. And of each token: it is of its own kind.
use Rattle.std.specs.Prelude.{◌≡◌, ◌<◌, ◌⊎◌, ℕ, Bool, true, false, List, ◌++◌, length}
use Rattle.kp_lex.specs.declared.token.TokenKind.{TokenKind}
use Rattle.kp_lex.specs.declared.token.TokenKind.TheVariants as kinds
use Rattle.kp_tree_grammar.specs.declared.tree.Word.{Word}
use Rattle.kp_tree_grammar.specs.Symbols.{Tok, symbol_of, is_name, is_keyword, kind_test}
use Rattle.kp_tree_grammar.specs.Sorts.{Sort, El}
use Rattle.kp_tree_grammar.specs.Forms.{Form}
use Rattle.kp_tree_grammar.specs.Reading.{At, Reads, Stops, ReadsWhole, StopsWhole}

-- at most one tree, and the same tokens behind it
abbrev pub ReadsOnce : Type 0
ReadsOnce = (b : Bool) (c : Sort) (X : Form b c) (ts rest others : List (Tok Word)) (x y : El Word c) → Reads X ts x rest → Reads X ts y others → (x ≡ y) × (rest ≡ others)

-- at most one offending token
abbrev pub StopsOnce : Type 0
StopsOnce = (b : Bool) (c : Sort) (X : Form b c) (ts : List (Tok Word)) (at there : At Word) → Stops X ts at → Stops X ts there → at ≡ there

-- no tree where there is an offending token
abbrev pub NeverBoth : Type 0
NeverBoth = (b : Bool) (c : Sort) (X : Form b c) (ts rest : List (Tok Word)) (x : El Word c) (at : At Word) → Reads X ts x rest → Stops X ts at → ⊥

-- a tree, or else an offending token
abbrev pub AlwaysOne : Type 0
AlwaysOne = (b : Bool) (c : Sort) (X : Form b c) (ts : List (Tok Word)) → ((x : El Word c) × (rest : List (Tok Word)) × Reads X ts x rest) ⊎ ((at : At Word) × Stops X ts at)

-- ---- what stands behind the tokens that are left

-- the place, with more tokens behind it
abbrev pub followed : {W : Type 0} → At W → List (Tok W) → At W
followed at more = record { tokens = at.tokens ++ more; reason = at.reason }

-- where a form reads and leaves a token, it reads the same with more tokens behind
abbrev pub ReadsOnward : Type 0
ReadsOnward = (b : Bool) (c : Sort) (X : Form b c) (ts more rest : List (Tok Word)) (x : El Word c) → 0 < length rest → Reads X ts x rest → Reads X (ts ++ more) x (rest ++ more)

-- where a form stops at a token, it stops there with more tokens behind, for the same reason
abbrev pub StopsOnward : Type 0
StopsOnward = (b : Bool) (c : Sort) (X : Form b c) (ts more : List (Tok Word)) (at : At Word) → 0 < length at.tokens → Stops X ts at → Stops X (ts ++ more) (followed at more)

-- ---- whole files: one tree or one offending token, and one of them always

-- at most one tree
abbrev pub WholeReadsOnce : Type 0
WholeReadsOnce = (b : Bool) (c : Sort) (X : Form b c) (ts : List (Tok Word)) (x y : El Word c) → ReadsWhole X ts x → ReadsWhole X ts y → x ≡ y

-- at most one offending token
abbrev pub WholeStopsOnce : Type 0
WholeStopsOnce = (b : Bool) (c : Sort) (X : Form b c) (ts : List (Tok Word)) (at there : At Word) → StopsWhole X ts at → StopsWhole X ts there → at ≡ there

-- no tree where there is an offending token
abbrev pub WholeNeverBoth : Type 0
WholeNeverBoth = (b : Bool) (c : Sort) (X : Form b c) (ts : List (Tok Word)) (x : El Word c) (at : At Word) → ReadsWhole X ts x → StopsWhole X ts at → ⊥

-- a tree, or else an offending token
abbrev pub WholeAlwaysOne : Type 0
WholeAlwaysOne = (b : Bool) (c : Sort) (X : Form b c) (ts : List (Tok Word)) → ((x : El Word c) × ReadsWhole X ts x) ⊎ ((at : At Word) × StopsWhole X ts at)

-- ---- tokens: the tests by kind leave out no word and no sign, whatever the folded text

-- a Name has the symbol of a name
abbrev pub NamesAreNames : Type 0
NamesAreNames = (w : List ℕ) → is_name (symbol_of kinds.Name w) ≡ true

-- a Keyword has the symbol of a keyword
abbrev pub KeywordsAreKeywords : Type 0
KeywordsAreKeywords = (w : List ℕ) → is_keyword (symbol_of kinds.Keyword w) ≡ true

-- no token has the symbol of another kind than its own
abbrev pub NoOtherKind : Type 0
NoOtherKind = (k j : TokenKind) (w : List ℕ) → (j ≡ k → ⊥) → kind_test k (symbol_of j w) ≡ false
