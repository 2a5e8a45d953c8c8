-- Reading from left to right, with so many levels of brackets. This file serves proofs alone.
-- It is what the laws of forms and the code's loops compute with; `specs/Reading.antt` says what is meant.
use Rattle.std.specs.Prelude.{ℕ, zero, suc, List, [], ◌∷◌, length, Bool, Result, Ok, Err, if◌then◌else◌}
use Rattle.kp_tree_grammar.specs.declared.symbol.Symbol.{Symbol}
use Rattle.kp_tree_grammar.specs.Symbols.{Tok, is_left, is_right, first_is}
use Rattle.kp_tree_grammar.specs.Sorts.{Sort, s_word, Seen, El, Maker, apply}
use Rattle.kp_tree_grammar.specs.Forms.{hits, Form, token, none, refuse, ◌▹◌, ◌▸◌, many, run, maybe, make, choose, loose, bracket, within}
use Rattle.kp_tree_grammar.specs.Grammar.{rule}
use Rattle.kp_tree_grammar.specs.Reading.{At, stop, stop_by}

-- the value and the tokens after it, or where it stopped
abbrev pub Outcome : Type 0 → Type 0 → Type 0
Outcome W A = Result (A × List (Tok W)) (At W)

infixl 10 ◌>>=◌
abbrev pub ◌>>=◌ : {A B E : Type 0} → Result A E → (A → Result B E) → Result B E
(Ok x) >>= f = f x
(Err at) >>= f = Err at

module _ {W : Type 0} where
  abbrev pub token_at : {c : Sort} → (Symbol → Bool) → (Symbol → Maker s_word c) → List (Tok W) → Outcome W (El W c)
  token_at p m [] = Err (stop [])
  token_at p m (t ∷ ts) = if hits p t.symbol then Ok (apply W (m t.symbol) t.word, ts) else Err (stop (t ∷ ts))

  abbrev pub after_at : {A : Type 0} → (Symbol → Bool) → (List (Tok W) → Outcome W A) → List (Tok W) → Outcome W A
  after_at p f [] = Err (stop [])
  after_at p f (t ∷ ts) = if hits p t.symbol then f ts else Err (stop (t ∷ ts))

  abbrev pub closed : {A : Type 0} → A → List (Tok W) → Outcome W A
  closed x [] = Err (stop [])
  closed x (t ∷ ts) = if is_right t.symbol then Ok (x, ts) else Err (stop (t ∷ ts))

  abbrev pub bracket_at : {A : Type 0} → (List (Tok W) → Outcome W A) → List (Tok W) → Outcome W A
  bracket_at f [] = Err (stop [])
  bracket_at f (t ∷ ts) = if is_left t.symbol then (f ts >>= λ x. closed x.0 x.1) else Err (stop (t ∷ ts))

  -- the number bounds how many
  unfoldable pub some_at : {A : Type 0} → (Symbol → Bool) → (List (Tok W) → Outcome W A) → ℕ → List (Tok W) → Outcome W (List A)
  some_at begins f zero ts = Ok ([], ts)
  some_at begins f (suc n) ts =
      if first_is begins ts then (f ts >>= λ x. some_at begins f n x.1 >>= λ xs. Ok (x.0 ∷ xs.0, xs.1)) else Ok ([], ts)

  abbrev pub pick_at : {A : Type 0} → (Symbol → List (Tok W) → Outcome W A) → List (Tok W) → Outcome W A
  pick_at f [] = Err (stop [])
  pick_at f (t ∷ ts) = f t.symbol (t ∷ ts)

  unfoldable pub next_at : {A : Type 0} → (Symbol → Bool) → (Seen → List (Tok W) → Outcome W (Seen × A)) → (Seen → Bool) → ℕ → Seen → List (Tok W) → Outcome W (List A)
  next_at begins f done zero s ts = if done s then Ok ([], ts) else Err (stop ts)
  next_at begins f done (suc n) s ts =
      if first_is begins ts then (f s ts >>= λ x. next_at begins f done n x.0.0 x.1 >>= λ xs. Ok (x.0.1 ∷ xs.0, xs.1)) else (if done s then Ok ([], ts) else Err (stop ts))

  -- k reads a bracket, a level deeper
  abbrev pub go : ((b : Bool) (c : Sort) → Form b c → List (Tok W) → Outcome W (El W c)) → (b : Bool) (c : Sort) → Form b c → List (Tok W) → Outcome W (El W c)
  go k _ _ (token p m) = token_at p m
  go k _ _ (none m) = λ ts. Ok (apply W m tt, ts)
  go k _ _ (refuse q) = λ ts. Err (stop_by q ts)
  go k _ _ (X ▹ Y) = λ ts. go k _ _ X ts >>= λ x. go k _ _ Y x.1 >>= λ y. Ok ((x.0, y.0), y.1)
  go k _ _ (p ▸ X) = after_at p (go k _ _ X)
  go k _ _ (many p X) = λ ts. some_at p (go k _ _ X) (length ts) ts
  go k _ _ (run p X done s) = λ ts. next_at p (λ v. go k _ _ (X v)) done (length ts) s ts
  go k _ _ (maybe p m X) = λ ts. if first_is p ts then go k _ _ X ts else Ok (apply W m tt, ts)
  go k _ _ (make m X) = λ ts. go k _ _ X ts >>= λ x. Ok (apply W m x.0, x.1)
  go k _ _ (choose pick) = pick_at (λ s. go k _ _ (pick s))
  go k _ _ (loose X) = go k _ _ X
  go k _ _ (bracket X) = k _ _ X
  go k _ _ (within n) = k _ _ (rule n)

  -- and nothing behind it
  abbrev pub ended : {A : Type 0} → A → List (Tok W) → Outcome W A
  ended x [] = Ok (x, [])
  ended x (t ∷ ts) = Err (stop (t ∷ ts))

  -- in a bracket: with no level left, or with a level less
  abbrev pub level : ℕ → (b : Bool) (c : Sort) → Form b c → List (Tok W) → Outcome W (El W c)
  level zero b c X = λ ts. Err (stop ts)
  level (suc d) b c X = bracket_at (go (level d) b c X)

  abbrev pub read : ℕ → {b : Bool} {c : Sort} → Form b c → List (Tok W) → Outcome W (El W c)
  read d {b} {c} X = go (level d) b c X
