-- Which texts are plan files, with which steps, and how the others are refused.
use Rattle.std.specs.Prelude.{◌≡◌, ℕ, List, map, Result, Ok, Err, ◌⊎◌}
use Rattle.kp_base.specs.declared.ground.GroundName.{GroundName}
use Rattle.kp_base.specs.declared.refused.Part.TheVariants as parts
use Rattle.kp_base.specs.declared.refused.Refused.{Refused}
use Rattle.kp_base.specs.declared.refused.Refused.TheVariants as refusals
use Rattle.kp_base.specs.declared.refused.Stop.{Stop}
use Rattle.kp_base.specs.declared.refused.Stop.TheVariants as causes
use Rattle.kp_lex.specs.declared.token.Token.{Token}
use Rattle.kp_lex.specs.Cutting.{Cut, BadAt}
use Rattle.kp_lex.specs.Places.{place_of}
use Rattle.kp_tree_grammar.specs.declared.tree.Word.{Word}
use Rattle.kp_tree_grammar.specs.Symbols.{all_seen_in}
use Rattle.kp_tree_grammar.specs.Reading.{At, StopsWhole}
use Rattle.kp_tree_grammar.specs.Texts.{ReadsAs}
use Rattle.kp_tree_cursor.specs.Lexemes.{byte_at}
use Rattle.kp_plans.specs.declared.step.PlanStep.{PlanStep}
use Rattle.kp_plans.specs.Grammar.{plan, step_name}

-- the names of steps
abbrev pub step_names : List PlanStep → List GroundName
step_names steps = map (λ s. s.name) steps

-- a step that was read: its name, and the place of its head
abbrev pub step_of : List ℕ → Word × List Word → PlanStep
step_of text x = record { name = step_name x; place = place_of parts.Plan text x.0.byte }

-- the text is cut and reads as a plan, and these are its steps
pub record IsPlanFile (text : List ℕ) (steps : List PlanStep) : Type 0 where
  pub tree : List (Word × List Word)
  pub are : map (step_of text) tree ≡ steps
  pub reads : ReadsAs plan text tree

-- the text has this refusal: a byte that begins no token, or a token at which the grammar stops; how deep brackets go is no matter
pub data RefusesPlan (text : List ℕ) : Refused → Type 0 where
  bad_token : (i : ℕ) → BadAt 0 text i → RefusesPlan text (refusals.BadToken (place_of parts.Plan text i))
  stops : (tokens : List Token) (at : At Word) → Cut 0 text tokens → StopsWhole plan (all_seen_in text tokens) at → RefusesPlan text (refusals.PlanSyntax (place_of parts.Plan text (byte_at text at.tokens)))

-- of a text: its steps, or its refusal; want of memory is free
abbrev pub AnswersPlan : List ℕ → Result (List PlanStep) Stop → Type 0
AnswersPlan text (Ok steps) = IsPlanFile text steps
AnswersPlan text (Err causes.Memory) = Unit {0}
AnswersPlan text (Err (causes.Refused r)) = RefusesPlan text r

-- ---- laws: one list of steps, or else one refusal

-- a text has one list of steps at most
abbrev pub PlansReadOnce : Type 0
PlansReadOnce = (text : List ℕ) (steps others : List PlanStep) → IsPlanFile text steps → IsPlanFile text others → steps ≡ others

-- a text has one refusal at most
abbrev pub PlansRefuseOnce : Type 0
PlansRefuseOnce = (text : List ℕ) (r s : Refused) → RefusesPlan text r → RefusesPlan text s → r ≡ s

-- a text that has steps has no refusal
abbrev pub PlansNeverBoth : Type 0
PlansNeverBoth = (text : List ℕ) (steps : List PlanStep) (r : Refused) → IsPlanFile text steps → RefusesPlan text r → ⊥

-- a text has steps or a refusal
abbrev pub PlansAlwaysOne : Type 0
PlansAlwaysOne = (text : List ℕ) → ((steps : List PlanStep) × IsPlanFile text steps) ⊎ ((r : Refused) × RefusesPlan text r)
