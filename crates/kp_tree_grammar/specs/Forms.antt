-- Forms: what the grammar is written in. A form gives a value of its sort.
use Rattle.std.specs.Prelude.{Bool, true, false, ◌&&◌}
use Rattle.kp_tree_grammar.specs.declared.symbol.Symbol.{Symbol}
use Rattle.kp_tree_grammar.specs.declared.symbol.Symbol.TheVariants as symbols
use Rattle.kp_tree_grammar.specs.Sorts.{Sort, s_none, s_word, s_pair, s_list, s_cond, s_eff, s_item, s_seen, Seen, Maker}

-- no bracket
abbrev pub is_no_bracket : Symbol → Bool
is_no_bracket symbols.Left = false
is_no_bracket symbols.Right = false
is_no_bracket _ = true

-- a token that is no bracket passes the test
abbrev pub hits : (Symbol → Bool) → Symbol → Bool
hits p s = is_no_bracket s && p s

-- the rules that go on within themselves
pub data Named : Sort → Type 0 where
  n_cond : Named s_cond
  n_goal : Named s_cond
  n_eff : Named s_eff
  n_item : Named s_item

-- A form describes a text of tokens and what is made of it. The truth value says that it takes at least one token.
-- A token that is taken by a test is never a bracket (`hits`); where a test only looks ahead it may be one.
--   token p m      a token that passes p, made into a value by m
--   none m         no token
--   nothing q      no text at all; it stops, and says so of a token that passes q (known and not supported)
--   X ▹ Y          X and then Y
--   p ▸ X          a token that passes p, and then X
--   many p X       X again and again, as long as the token there passes p
--   run p X done s the same, where each says which may come next; it ends well where done holds
--   maybe p m X    X where the token there passes p
--   make m X       X, made into another value by m
--   choose pick    the form that goes with the token there
--   loose X        X, said to take perhaps no token
--   bracket X      X between brackets
--   within n       the rule n between brackets
infixr 6 ◌▹◌
infixr 6 ◌▸◌
pub data Form : Bool → Sort → Type 0 where
  token : {c : Sort} → (Symbol → Bool) → (Symbol → Maker s_word c) → Form true c
  none : {c : Sort} → Maker s_none c → Form false c
  refuse : {b : Bool} {c : Sort} → (Symbol → Bool) → Form b c
  ◌▹◌ : {b d : Bool} {a c : Sort} → Form b a → Form d c → Form b (s_pair a c)
  ◌▸◌ : {b : Bool} {a : Sort} → (Symbol → Bool) → Form b a → Form true a
  many : {a : Sort} → (Symbol → Bool) → Form true a → Form false (s_list a)
  run : {a : Sort} → (Symbol → Bool) → (Seen → Form true (s_pair s_seen a)) → (Seen → Bool) → Seen → Form false (s_list a)
  maybe : {b : Bool} {a : Sort} → (Symbol → Bool) → Maker s_none a → Form b a → Form false a
  make : {b : Bool} {a c : Sort} → Maker a c → Form b a → Form b c
  choose : {b : Bool} {a : Sort} → (Symbol → Form b a) → Form b a
  loose : {a : Sort} → Form true a → Form false a
  bracket : {b : Bool} {a : Sort} → Form b a → Form true a
  within : {a : Sort} → Named a → Form true a
