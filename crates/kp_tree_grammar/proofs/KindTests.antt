-- What the kind of a token says of its symbol.
use Rattle.std.proofs.Common.{◌≡◌, Bool, true, false, not, if◌then◌else◌, bytes_eq, ℕ, List, [], ◌∷◌, refl}
use Rattle.std.specs.List.{list_all}
use Rattle.std.proofs.lemmas.Bool.{and_parts}
use Rattle.kp_lex.specs.declared.token.TokenKind.{TokenKind}
use Rattle.kp_lex.specs.declared.token.TokenKind.TheVariants as kinds
use Rattle.kp_tree_grammar.specs.declared.symbol.Symbol.{Symbol}
use Rattle.kp_tree_grammar.specs.declared.symbol.Symbol.TheVariants as symbols
use Rattle.kp_tree_grammar.specs.Symbols.{Table, known_words, keywords, refused_keywords, look_up, symbol_of, is_left, is_right, is_dash, is_equal, is_variable, is_name, is_keyword, kind_test}

-- what holds of all symbols of a table, and of the other one, holds of what it says
looked_up : (p : Symbol → Bool) (es : Table) (other : Symbol) (w : List ℕ) → list_all (λ e. p e.1) es ≡ true → p other ≡ true → p (look_up es other w) ≡ true
looked_up p [] other w all o = o
looked_up p (e ∷ es) other w all o = let h = and_parts (p e.1) (list_all (λ f. p f.1) es) all in go (bytes_eq w e.0) h.0 (looked_up p es other w h.1 o) where
  go : (v : Bool) → p e.1 ≡ true → p (look_up es other w) ≡ true → p (if v then e.1 else look_up es other w) ≡ true
  go true here rest = here
  go false here rest = rest

is_not : (p : Symbol → Bool) (s : Symbol) → not (p s) ≡ true → p s ≡ false
is_not p s e = go (p s) e where
  go : (v : Bool) → not v ≡ true → v ≡ false
  go true e = absurd cc
  go false e = refl

-- what holds of every symbol that a Name may have, and a keyword
pub name_passes : (p : Symbol → Bool) (w : List ℕ) → list_all (λ e. p e.1) known_words ≡ true → p symbols.Name ≡ true → p (symbol_of kinds.Name w) ≡ true
unfolding symbol_of
name_passes p w all o = looked_up p known_words symbols.Name w all o

pub keyword_passes : (p : Symbol → Bool) (w : List ℕ) → list_all (λ e. p e.1) keywords ≡ true → list_all (λ e. p e.1) refused_keywords ≡ true → p symbols.Keyword ≡ true → p (symbol_of kinds.Keyword w) ≡ true
unfolding symbol_of
keyword_passes p w all refused o = looked_up p keywords (look_up refused_keywords symbols.Keyword w) w all (looked_up p refused_keywords symbols.Keyword w refused o)

-- a token is of its own kind
pub own_kind : (k : TokenKind) (w : List ℕ) → kind_test k (symbol_of k w) ≡ true
unfolding symbol_of
own_kind kinds.Left w = refl
own_kind kinds.Right w = refl
own_kind kinds.Dash w = refl
own_kind kinds.Equal w = refl
own_kind kinds.Variable w = refl
own_kind kinds.Name w = name_passes is_name w refl refl
own_kind kinds.Keyword w = keyword_passes is_keyword w refl refl refl

-- and what holds of none of them
pub name_fails : (p : Symbol → Bool) (w : List ℕ) → list_all (λ e. not (p e.1)) known_words ≡ true → not (p symbols.Name) ≡ true → p (symbol_of kinds.Name w) ≡ false
name_fails p w all o = is_not p (symbol_of kinds.Name w) (name_passes (λ s. not (p s)) w all o)

pub keyword_fails : (p : Symbol → Bool) (w : List ℕ) → list_all (λ e. not (p e.1)) keywords ≡ true → list_all (λ e. not (p e.1)) refused_keywords ≡ true → not (p symbols.Keyword) ≡ true → p (symbol_of kinds.Keyword w) ≡ false
keyword_fails p w all refused o = is_not p (symbol_of kinds.Keyword w) (keyword_passes (λ s. not (p s)) w all refused o)

-- and of no other kind
pub other_kind : (k j : TokenKind) (w : List ℕ) → (j ≡ k → ⊥) → kind_test k (symbol_of j w) ≡ false
unfolding symbol_of
other_kind kinds.Left kinds.Left w other = absurd (other refl)
other_kind kinds.Left kinds.Name w other = name_fails is_left w refl refl
other_kind kinds.Left kinds.Keyword w other = keyword_fails is_left w refl refl refl
other_kind kinds.Left _ w other = refl
other_kind kinds.Right kinds.Right w other = absurd (other refl)
other_kind kinds.Right kinds.Name w other = name_fails is_right w refl refl
other_kind kinds.Right kinds.Keyword w other = keyword_fails is_right w refl refl refl
other_kind kinds.Right _ w other = refl
other_kind kinds.Dash kinds.Dash w other = absurd (other refl)
other_kind kinds.Dash kinds.Name w other = name_fails is_dash w refl refl
other_kind kinds.Dash kinds.Keyword w other = keyword_fails is_dash w refl refl refl
other_kind kinds.Dash _ w other = refl
other_kind kinds.Equal kinds.Equal w other = absurd (other refl)
other_kind kinds.Equal kinds.Name w other = name_fails is_equal w refl refl
other_kind kinds.Equal kinds.Keyword w other = keyword_fails is_equal w refl refl refl
other_kind kinds.Equal _ w other = refl
other_kind kinds.Variable kinds.Variable w other = absurd (other refl)
other_kind kinds.Variable kinds.Name w other = name_fails is_variable w refl refl
other_kind kinds.Variable kinds.Keyword w other = keyword_fails is_variable w refl refl refl
other_kind kinds.Variable _ w other = refl
other_kind kinds.Name kinds.Name w other = absurd (other refl)
other_kind kinds.Name kinds.Keyword w other = keyword_fails is_name w refl refl refl
other_kind kinds.Name _ w other = refl
other_kind kinds.Keyword kinds.Keyword w other = absurd (other refl)
other_kind kinds.Keyword kinds.Name w other = name_fails is_keyword w refl refl
other_kind kinds.Keyword _ w other = refl
