-- Texts that are shown to read or to stop by computing.
use Rattle.std.proofs.Common.{◌≡◌, ℕ, Bool, List, [], None, Result, Ok, Err, inl, inr, subst}
use Rattle.kp_base.proofs.Cases.{some_none}
use Rattle.kp_lex.specs.declared.token.Token.{Token}
use Rattle.kp_lex.specs.Scanning.{cut}
use Rattle.kp_lex.proofs.Public.{TellsCutting as TellsTokens, cut_tells}
use Rattle.kp_tree_grammar.specs.declared.tree.Word.{Word}
use Rattle.kp_tree_grammar.specs.Symbols.{Tok, all_seen_in}
use Rattle.kp_tree_grammar.specs.Sorts.{Sort, El}
use Rattle.kp_tree_grammar.specs.Forms.{Form}
use Rattle.kp_tree_grammar.specs.Parsing.{Outcome, go, level}
use Rattle.kp_tree_grammar.specs.Texts.{ReadsAs}
use Rattle.kp_tree_grammar.specs.Reading.{At, StopBy}
use Rattle.kp_tree_grammar.specs.Depth.{deep}
use Rattle.kp_tree_grammar.proofs.Tells.{Tells, read_tells}
use Rattle.kp_tree_grammar.proofs.Exact.{go_reads}

-- the tokens of a text that is cut
abbrev pub tokens_in : Result (List Token) ℕ → List Token
tokens_in (Ok ts) = ts
tokens_in (Err i) = []

abbrev pub tokens : List ℕ → List Token
tokens text = tokens_in (cut 0 text)

module _ {b : Bool} {c : Sort} (X : Form b c) where
  -- what is read of a text's tokens with brackets of at most eight levels
  abbrev pub outcome : List ℕ → List Token → Outcome Word (El Word c)
  outcome text ts = go (level 8) b c X (all_seen_in text ts)

  pub reads_as : (text : List ℕ) (ts : List Token) (x : El Word c) → cut 0 text ≡ Ok ts → outcome text ts ≡ Ok (x, []) → ReadsAs X text x
  reads_as text ts x e r = record { tokens = ts; cut = subst (TellsTokens 0 text) e (cut_tells 0 text); reads = go_reads 8 b c X (all_seen_in text ts) x [] r }

  stops_by : (ts : List (Tok Word)) (at : At Word) → deep 8 ts ≡ None → Tells 8 b c X ts (Err at) → StopBy b c X ts at
  stops_by ts at shallow (inl h) = h.0
  stops_by ts at shallow (inr h) = absurd (some_none (h.0) shallow)

  -- where no more than eight brackets are open at once, an error is a stop
  pub stops : (ts : List (Tok Word)) (at : At Word) → deep 8 ts ≡ None → go (level 8) b c X ts ≡ Err at → StopBy b c X ts at
  stops ts at shallow e = stops_by ts at shallow (subst (λ (r : Outcome Word (El Word c)). Tells 8 b c X ts r) e (read_tells 8 b c X ts))
