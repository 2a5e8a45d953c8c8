-- What the reader of plan files computes. This file serves proofs alone.
use Rattle.std.specs.Prelude.{◌≡◌, ℕ, ◌+◌, ◌≤◌, ◌++◌, List, [], ◌∷◌, map, drop, Result, Ok, Err}
use Rattle.kp_base.specs.declared.refused.Part.TheVariants as parts
use Rattle.kp_base.specs.declared.refused.Refused.TheVariants as refusals
use Rattle.kp_base.specs.declared.refused.Stop.{Stop}
use Rattle.kp_base.specs.declared.refused.Stop.TheVariants as causes
use Rattle.kp_lex.specs.declared.token.Token.{Token}
use Rattle.kp_lex.specs.Places.{place_of}
use Rattle.kp_tree_grammar.specs.declared.tree.Word.{Word}
use Rattle.kp_tree_grammar.specs.Symbols.{Tok, all_seen_in}
use Rattle.kp_tree_grammar.specs.Reading.{At, stop, Reads, Stops, ReadsWhole, StopsWhole}
use Rattle.kp_tree_cursor.specs.declared.halt.Halt.{Halt}
use Rattle.kp_tree_cursor.specs.declared.halt.Halt.TheVariants as halts
use Rattle.kp_tree_cursor.specs.Lexemes.{word_of, from, byte_at}
use Rattle.kp_plans.specs.declared.step.PlanStep.{PlanStep}
use Rattle.kp_plans.specs.Grammar.{step, plan}
use Rattle.kp_plans.specs.PlanFiles.{step_of}

-- the tokens begin one behind the other, from one byte to another
abbrev pub Ascends : ℕ → List (Tok Word) → ℕ → Type 0
Ascends byte [] end = byte ≤ end
Ascends byte (t ∷ ts) end = (byte ≤ t.word.byte) × Ascends t.word.byte ts end

-- a step with these words stands at a place, and another place is behind it
pub record StepStands (ls : List (Tok Word)) (at : ℕ) (run : List (Tok Word)) (behind : ℕ) : Type 0 where
  pub first : Tok Word
  pub others : List (Tok Word)
  pub are : run ≡ first ∷ others
  pub opening : Tok Word
  pub named : Tok Word
  pub begins : from ls at ≡ opening ∷ named ∷ from ls (at + 2)
  pub is : named.word ≡ word_of first
  pub reads : Reads step (from ls at) (word_of first, map word_of others) (from ls behind)

-- no step stands there; it stops at a token
abbrev pub StepStops : List (Tok Word) → ℕ → Halt → Type 0
StepStops ls at halts.Memory = Unit {0}
StepStops ls at (halts.Syntax i) = Stops step (from ls at) (stop (from ls i))
StepStops ls at (halts.Unsupported i) = ⊥

-- the steps so far, in front of the tokens that are left
pub record StepsSoFar (text : List ℕ) (steps : List PlanStep) (left all : List (Tok Word)) : Type 0 where
  pub front : List (Word × List Word)
  pub are : map (step_of text) front ≡ steps
  pub reads : (xs : List (Word × List Word)) (rest : List (Tok Word)) → Reads plan left xs rest → Reads plan all (front ++ xs) rest
  pub stops : (at : At Word) → Stops plan left at → Stops plan all at

-- the tokens are a plan with these steps
pub record ArePlanOf (text : List ℕ) (ts : List (Tok Word)) (steps : List PlanStep) : Type 0 where
  pub tree : List (Word × List Word)
  pub are : map (step_of text) tree ≡ steps
  pub reads : ReadsWhole plan ts tree

-- of all tokens: the steps, or the token at which the grammar stops; want of memory is free
abbrev pub AnswersTokens : List ℕ → List (Tok Word) → Result (List PlanStep) Halt → Type 0
AnswersTokens text ls (Ok steps) = ArePlanOf text ls steps
AnswersTokens text ls (Err halts.Memory) = Unit {0}
AnswersTokens text ls (Err (halts.Syntax i)) = StopsWhole plan ls (stop (from ls i))
AnswersTokens text ls (Err (halts.Unsupported i)) = ⊥

-- the same of the tokens of a text
abbrev pub AnswersCut : List ℕ → List Token → Result (List PlanStep) Halt → Type 0
AnswersCut text ts (Ok steps) = ArePlanOf text (all_seen_in text ts) steps
AnswersCut text ts (Err halts.Memory) = Unit {0}
AnswersCut text ts (Err (halts.Syntax i)) = StopsWhole plan (all_seen_in text ts) (stop (all_seen_in text (drop i ts)))
AnswersCut text ts (Err (halts.Unsupported i)) = ⊥

-- what a stop is told as
abbrev pub IsTold : List ℕ → List Token → Halt → Stop → Type 0
IsTold text ts halts.Memory s = s ≡ causes.Memory
IsTold text ts (halts.Syntax i) s = s ≡ causes.Refused (refusals.PlanSyntax (place_of parts.Plan text (byte_at text (all_seen_in text (drop i ts)))))
IsTold text ts (halts.Unsupported i) s = Unit {0}
