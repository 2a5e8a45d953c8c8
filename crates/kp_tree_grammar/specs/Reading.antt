-- What it is for a form to read tokens as a value, and where a form stops that doesn't read.
use Rattle.std.specs.Prelude.{◌≡◌, List, [], ◌∷◌, Bool, true, false}
use Rattle.kp_tree_grammar.specs.declared.symbol.Symbol.{Symbol}
use Rattle.kp_tree_grammar.specs.Symbols.{Tok, first_is, is_left, is_right}
use Rattle.kp_tree_grammar.specs.Sorts.{Sort, s_none, s_word, s_pair, s_seen, Seen, El, Maker, apply}
use Rattle.kp_tree_grammar.specs.Forms.{hits, Named, Form, token, none, refuse, ◌▹◌, ◌▸◌, many, run, maybe, make, choose, loose, bracket, within}
use Rattle.kp_tree_grammar.specs.Grammar.{rule}

-- why a form stops: it is none of the language, or it is known and not supported
pub data Reason : Type 0 where
  Syntax : Reason
  Unsupported : Reason

-- the tokens from the offending one on; none at the end of the file
pub record At (W : Type 0) : Type 0 where
  pub tokens : List (Tok W)
  pub reason : Reason

-- a token that is known and not supported has a reason of its own
abbrev pub reason_of : Bool → Reason
reason_of true = Unsupported
reason_of false = Syntax

-- it stops at the first of these tokens
abbrev pub stop : {W : Type 0} → List (Tok W) → At W
stop ts = record { tokens = ts; reason = Syntax }

-- it stops at its first token, which may be one that is known and not supported
abbrev pub stop_by : {W : Type 0} → (Symbol → Bool) → List (Tok W) → At W
stop_by q ts = record { tokens = ts; reason = reason_of (first_is q ts) }

-- the form reads these tokens as this value, and leaves the others
pub data ReadBy {W : Type 0} : (b : Bool) (c : Sort) → Form b c → List (Tok W) → El W c → List (Tok W) → Type 0 where
  -- a token that passes is read as the value that the maker gives for its word
  r_token : {c : Sort} {p : Symbol → Bool} {m : Symbol → Maker s_word c} {t : Tok W} {ts : List (Tok W)} → hits p t.symbol ≡ true → ReadBy _ _ (token p m) (t ∷ ts) (apply W (m t.symbol) t.word) ts
  -- nothing is taken
  r_none : {c : Sort} {m : Maker s_none c} {ts : List (Tok W)} → ReadBy _ _ (none m) ts (apply W m tt) ts
  -- one form reads, and the next reads what is left
  r_both : {b d : Bool} {a c : Sort} {X : Form b a} {Y : Form d c} {ts mid rest : List (Tok W)} {x : El W a} {y : El W c} → ReadBy _ _ X ts x mid → ReadBy _ _ Y mid y rest → ReadBy _ _ (X ▹ Y) ts (x, y) rest
  -- a token that passes, and what the form reads after it
  r_after : {b : Bool} {a : Sort} {p : Symbol → Bool} {X : Form b a} {t : Tok W} {ts rest : List (Tok W)} {x : El W a} → hits p t.symbol ≡ true → ReadBy _ _ X ts x rest → ReadBy _ _ (p ▸ X) (t ∷ ts) x rest
  -- a repetition ends where the token there doesn't pass
  r_end : {a : Sort} {p : Symbol → Bool} {X : Form true a} {ts : List (Tok W)} → first_is p ts ≡ false → ReadBy _ _ (many p X) ts [] ts
  -- a repetition reads one more where the token there passes, and goes on with what is left
  r_more : {a : Sort} {p : Symbol → Bool} {X : Form true a} {ts mid rest : List (Tok W)} {x : El W a} {xs : List (El W a)} → first_is p ts ≡ true → ReadBy _ _ X ts x mid → ReadBy _ _ (many p X) mid xs rest → ReadBy _ _ (many p X) ts (x ∷ xs) rest
  -- sections end where the token there doesn't pass, if those that stood are enough
  r_last : {a : Sort} {p : Symbol → Bool} {X : Seen → Form true (s_pair s_seen a)} {done : Seen → Bool} {s : Seen} {ts : List (Tok W)} → first_is p ts ≡ false → done s ≡ true → ReadBy _ _ (run p X done s) ts [] ts
  -- one more section, which says what has stood when the others are read
  r_next : {a : Sort} {p : Symbol → Bool} {X : Seen → Form true (s_pair s_seen a)} {done : Seen → Bool} {s : Seen} {ts mid rest : List (Tok W)} {x : Seen × El W a} {xs : List (El W a)} → first_is p ts ≡ true → ReadBy _ _ (X s) ts x mid → ReadBy _ _ (run p X done x.0) mid xs rest → ReadBy _ _ (run p X done s) ts (x.1 ∷ xs) rest
  -- an optional part is absent where the token there doesn't pass
  r_absent : {b : Bool} {a : Sort} {p : Symbol → Bool} {m : Maker s_none a} {X : Form b a} {ts : List (Tok W)} → first_is p ts ≡ false → ReadBy _ _ (maybe p m X) ts (apply W m tt) ts
  -- it is read where the token there passes
  r_present : {b : Bool} {a : Sort} {p : Symbol → Bool} {m : Maker s_none a} {X : Form b a} {ts rest : List (Tok W)} {x : El W a} → first_is p ts ≡ true → ReadBy _ _ X ts x rest → ReadBy _ _ (maybe p m X) ts x rest
  -- another value is made of what was read
  r_make : {b : Bool} {a c : Sort} {m : Maker a c} {X : Form b a} {ts rest : List (Tok W)} {x : El W a} → ReadBy _ _ X ts x rest → ReadBy _ _ (make m X) ts (apply W m x) rest
  -- the alternative of the token there is read
  r_choice : {b : Bool} {a : Sort} {pick : Symbol → Form b a} {t : Tok W} {ts rest : List (Tok W)} {x : El W a} → ReadBy _ _ (pick t.symbol) (t ∷ ts) x rest → ReadBy _ _ (choose pick) (t ∷ ts) x rest
  -- the same, whether or not a token is promised
  r_loose : {a : Sort} {X : Form true a} {ts rest : List (Tok W)} {x : El W a} → ReadBy _ _ X ts x rest → ReadBy _ _ (loose X) ts x rest
  -- an opening bracket, the form, and a closing bracket
  r_bracket : {b : Bool} {a : Sort} {X : Form b a} {t u : Tok W} {ts rest : List (Tok W)} {x : El W a} → is_left t.symbol ≡ true → ReadBy _ _ X ts x (u ∷ rest) → is_right u.symbol ≡ true → ReadBy _ _ (bracket X) (t ∷ ts) x rest
  -- a rule of the grammar between brackets
  r_within : {a : Sort} {n : Named a} {ts rest : List (Tok W)} {x : El W a} → ReadBy _ _ (bracket (rule n)) ts x rest → ReadBy _ _ (within n) ts x rest

-- the form reads the tokens up to the rest as this value
abbrev pub Reads : {W : Type 0} {b : Bool} {c : Sort} → Form b c → List (Tok W) → El W c → List (Tok W) → Type 0
Reads {b = b} {c = c} X ts x rest = ReadBy b c X ts x rest

-- the form stops at the first of these tokens: what comes before it begins the form, and what stands there doesn't go on with it
pub data StopBy {W : Type 0} : (b : Bool) (c : Sort) → Form b c → List (Tok W) → At W → Type 0 where
  -- a token that must pass stops where none does; so at the end of the file
  s_token : {c : Sort} {p : Symbol → Bool} {m : Symbol → Maker s_word c} {ts : List (Tok W)} → first_is (hits p) ts ≡ false → StopBy _ _ (token p m) ts (stop ts)
  -- it stops at once
  s_nothing : {b : Bool} {c : Sort} {q : Symbol → Bool} {ts : List (Tok W)} → StopBy _ _ (refuse {b = b} {c = c} q) ts (stop_by q ts)
  -- the first of two forms stops
  s_first : {b d : Bool} {a c : Sort} {X : Form b a} {Y : Form d c} {ts : List (Tok W)} {at : At W} → StopBy _ _ X ts at → StopBy _ _ (X ▹ Y) ts at
  -- the first reads, and the second stops in what is left
  s_second : {b d : Bool} {a c : Sort} {X : Form b a} {Y : Form d c} {ts mid : List (Tok W)} {x : El W a} {at : At W} → ReadBy _ _ X ts x mid → StopBy _ _ Y mid at → StopBy _ _ (X ▹ Y) ts at
  -- the token that must come first doesn't pass
  s_before : {b : Bool} {a : Sort} {p : Symbol → Bool} {X : Form b a} {ts : List (Tok W)} → first_is (hits p) ts ≡ false → StopBy _ _ (p ▸ X) ts (stop ts)
  -- it passes, and the form after it stops
  s_after : {b : Bool} {a : Sort} {p : Symbol → Bool} {X : Form b a} {t : Tok W} {ts : List (Tok W)} {at : At W} → hits p t.symbol ≡ true → StopBy _ _ X ts at → StopBy _ _ (p ▸ X) (t ∷ ts) at
  -- the next of a repetition stops
  s_here : {a : Sort} {p : Symbol → Bool} {X : Form true a} {ts : List (Tok W)} {at : At W} → first_is p ts ≡ true → StopBy _ _ X ts at → StopBy _ _ (many p X) ts at
  -- the next reads, and a later one stops
  s_later : {a : Sort} {p : Symbol → Bool} {X : Form true a} {ts mid : List (Tok W)} {x : El W a} {at : At W} → first_is p ts ≡ true → ReadBy _ _ X ts x mid → StopBy _ _ (many p X) mid at → StopBy _ _ (many p X) ts at
  -- no further section stands there, and those that stood aren't enough
  s_lacks : {a : Sort} {p : Symbol → Bool} {X : Seen → Form true (s_pair s_seen a)} {done : Seen → Bool} {s : Seen} {ts : List (Tok W)} → first_is p ts ≡ false → done s ≡ false → StopBy _ _ (run p X done s) ts (stop ts)
  -- the next section stops
  s_at : {a : Sort} {p : Symbol → Bool} {X : Seen → Form true (s_pair s_seen a)} {done : Seen → Bool} {s : Seen} {ts : List (Tok W)} {at : At W} → first_is p ts ≡ true → StopBy _ _ (X s) ts at → StopBy _ _ (run p X done s) ts at
  -- the next section reads, and a later one stops
  s_next : {a : Sort} {p : Symbol → Bool} {X : Seen → Form true (s_pair s_seen a)} {done : Seen → Bool} {s : Seen} {ts mid : List (Tok W)} {x : Seen × El W a} {at : At W} → first_is p ts ≡ true → ReadBy _ _ (X s) ts x mid → StopBy _ _ (run p X done x.0) mid at → StopBy _ _ (run p X done s) ts at
  -- an optional part that stands there stops
  s_present : {b : Bool} {a : Sort} {p : Symbol → Bool} {m : Maker s_none a} {X : Form b a} {ts : List (Tok W)} {at : At W} → first_is p ts ≡ true → StopBy _ _ X ts at → StopBy _ _ (maybe p m X) ts at
  -- where the parts stop, what is made of them stops
  s_make : {b : Bool} {a c : Sort} {m : Maker a c} {X : Form b a} {ts : List (Tok W)} {at : At W} → StopBy _ _ X ts at → StopBy _ _ (make m X) ts at
  -- no alternative begins at the end of the file
  s_none_there : {b : Bool} {a : Sort} {pick : Symbol → Form b a} → StopBy _ _ (choose pick) [] (stop [])
  -- the alternative of the token there stops
  s_choice : {b : Bool} {a : Sort} {pick : Symbol → Form b a} {t : Tok W} {ts : List (Tok W)} {at : At W} → StopBy _ _ (pick t.symbol) (t ∷ ts) at → StopBy _ _ (choose pick) (t ∷ ts) at
  -- the same, whether or not a token is promised
  s_loose : {a : Sort} {X : Form true a} {ts : List (Tok W)} {at : At W} → StopBy _ _ X ts at → StopBy _ _ (loose X) ts at
  -- no opening bracket stands there
  s_unopened : {b : Bool} {a : Sort} {X : Form b a} {ts : List (Tok W)} → first_is is_left ts ≡ false → StopBy _ _ (bracket X) ts (stop ts)
  -- the form between the brackets stops
  s_inside : {b : Bool} {a : Sort} {X : Form b a} {t : Tok W} {ts : List (Tok W)} {at : At W} → is_left t.symbol ≡ true → StopBy _ _ X ts at → StopBy _ _ (bracket X) (t ∷ ts) at
  -- the form between the brackets reads, and no closing bracket stands after it
  s_unclosed : {b : Bool} {a : Sort} {X : Form b a} {t : Tok W} {ts rest : List (Tok W)} {x : El W a} → is_left t.symbol ≡ true → ReadBy _ _ X ts x rest → first_is is_right rest ≡ false → StopBy _ _ (bracket X) (t ∷ ts) (stop rest)
  -- a rule of the grammar stops between its brackets
  s_within : {a : Sort} {n : Named a} {ts : List (Tok W)} {at : At W} → StopBy _ _ (bracket (rule n)) ts at → StopBy _ _ (within n) ts at

-- the form stops in the tokens, at that place and for that reason
abbrev pub Stops : {W : Type 0} {b : Bool} {c : Sort} → Form b c → List (Tok W) → At W → Type 0
Stops {b = b} {c = c} X ts at = StopBy b c X ts at

-- ---- whole files

-- the tokens are the form, with none left
abbrev pub ReadsWhole : {W : Type 0} {b : Bool} {c : Sort} → Form b c → List (Tok W) → El W c → Type 0
ReadsWhole X ts x = Reads X ts x []

-- the file stops within the form, or at a token after the whole form
pub data StopsWhole {W : Type 0} {b : Bool} {c : Sort} (X : Form b c) : List (Tok W) → At W → Type 0 where
  within_form : {ts : List (Tok W)} {at : At W} → Stops X ts at → StopsWhole X ts at
  after_form : {t : Tok W} {ts rest : List (Tok W)} {x : El W c} → Reads X ts x (t ∷ rest) → StopsWhole X ts (stop (t ∷ rest))
