-- From the steps of tokens to those of files: one list of steps, or one refusal.
use Rattle.std.proofs.Common.{◌≡◌, ℕ, ◌⊎◌, inl, inr, List, [], ◌∷◌, map, drop, length, Result, Ok, Err, refl, sym, ap, subst, ◌∙◌, arith}
use Rattle.std.specs.List.{drop-map}
use Rattle.std.specs.Str.{str_to_ascii_lowercase}
use Rattle.kp_base.specs.declared.refused.Part.TheVariants as parts
use Rattle.kp_base.specs.declared.refused.Refused.{Refused}
use Rattle.kp_base.specs.declared.refused.Refused.TheVariants as refusals
use Rattle.kp_base.specs.declared.refused.Stop.{Stop}
use Rattle.kp_base.specs.declared.refused.Stop.TheVariants as causes
use Rattle.kp_lex.specs.declared.token.Token.{Token}
use Rattle.kp_lex.specs.Answers.{IsRight}
use Rattle.kp_lex.specs.Cutting.{Cut, BadAt}
use Rattle.kp_lex.specs.Places.{place_of}
use Rattle.kp_lex.specs.Spans.{InOrder}
use Rattle.kp_lex.proofs.Public.{cutting_or_bad_byte, never_cutting_and_bad_byte, one_cutting, one_bad_byte}
use Rattle.kp_tree_grammar.specs.declared.tree.Word.{Word}
use Rattle.kp_tree_grammar.specs.Symbols.{Tok, seen_in, all_seen_in}
use Rattle.kp_tree_grammar.specs.Reading.{At, stop, ReadsWhole, StopsWhole}
use Rattle.kp_tree_grammar.proofs.Public.{whole_reads_once, whole_never_both, whole_stops_once, whole_reads_or_stops}
use Rattle.kp_tree_cursor.specs.declared.halt.Halt.{Halt}
use Rattle.kp_tree_cursor.specs.declared.halt.Halt.TheVariants as halts
use Rattle.kp_tree_cursor.specs.Lexemes.{from, lexed, byte_at}
use Rattle.kp_tree_cursor.proofs.Public.{lexed_as_seen}
use Rattle.kp_plans.specs.declared.step.PlanStep.{PlanStep}
use Rattle.kp_plans.specs.Grammar.{plan}
use Rattle.kp_plans.specs.PlanFiles.{step_of, IsPlanFile, RefusesPlan, bad_token, stops, AnswersPlan, PlansReadOnce, PlansRefuseOnce, PlansNeverBoth, PlansAlwaysOne}
use Rattle.kp_plans.specs.Steps.{Ascends, ArePlanOf, AnswersTokens, AnswersCut, IsTold}
use Rattle.kp_plans.proofs.StepsRead.{weaker}

-- ---- tokens of a text

seen_ascend : (text : List ℕ) (a : ℕ) (ts : List Token) (end : ℕ) → InOrder a ts end → Ascends a (all_seen_in text ts) end
seen_ascend text a [] end h = h
seen_ascend text a (t ∷ ts) end h = (h.0, weaker t.from t.to (all_seen_in text ts) end (omega (arith, h.1)) (seen_ascend text t.to ts end h.2))

module _ (text lower : List ℕ) (ts : List Token) (ls : List (Tok Word)) (e : lower ≡ str_to_ascii_lowercase text) (read : ls ≡ map (lexed lower) ts) where
  seen : ls ≡ all_seen_in text ts
  seen = read ∙ lexed_as_seen text lower ts e

  pub tokens_ascend : InOrder 0 ts (length text) → Ascends 0 ls (length text)
  tokens_ascend h = subst (λ (us : List (Tok Word)). Ascends 0 us (length text)) (sym seen) (seen_ascend text 0 ts (length text) h)

  from_is : (i : ℕ) → from ls i ≡ all_seen_in text (drop i ts)
  from_is i = ap (drop i) seen ∙ drop-map (seen_in text) i ts

  pub of_tokens : (r : Result (List PlanStep) Halt) → AnswersTokens text ls r → AnswersCut text ts r
  of_tokens (Ok steps) h = subst (λ (us : List (Tok Word)). ArePlanOf text us steps) seen h
  of_tokens (Err halts.Memory) h = tt
  of_tokens (Err (halts.Syntax i)) h = rw (sym seen, sym (from_is i)) h
  of_tokens (Err (halts.Unsupported i)) h = h

-- ---- the answer of a file

pub uncut : (text : List ℕ) (e : Stop) → IsRight parts.Plan text (Err e) → AnswersPlan text (Err e)
uncut text causes.Memory h = tt
uncut text (causes.Refused (refusals.BadToken place)) h = subst (λ p. RefusesPlan text (refusals.BadToken p)) (sym h.1.1) (bad_token h.0 h.1.0)
uncut text (causes.Refused _) h = absurd h

pub refused : (text : List ℕ) (ts : List Token) (halt : Halt) (e : Stop) → Cut 0 text ts → AnswersCut text ts (Err halt) → IsTold text ts halt e → AnswersPlan text (Err e)
refused text ts halts.Memory e cut h told = rw told tt
refused text ts (halts.Syntax i) e cut h told = rw told (stops ts (stop (all_seen_in text (drop i ts))) cut h)
refused text ts (halts.Unsupported i) e cut h told = absurd h

-- ---- laws

same_tree : (text : List ℕ) (steps others : List PlanStep) (h : IsPlanFile text steps) (k : IsPlanFile text others) → h.tree ≡ k.tree
same_tree text steps others h k =
    let same : k.reads.tokens ≡ h.reads.tokens = one_cutting _ _ k.reads.cut h.reads.cut in
    whole_reads_once _ _ plan (all_seen_in text h.reads.tokens) h.tree k.tree h.reads.reads (subst (λ (ts : List Token). ReadsWhole plan (all_seen_in text ts) k.tree) same k.reads.reads)

pub read_once : PlansReadOnce
read_once text steps others h k = sym h.are ∙ ap (map (step_of text)) (same_tree text steps others h k) ∙ k.are

pub refused_once : PlansRefuseOnce
refused_once text r s (bad_token i h) (bad_token j k) = ap (λ (n : ℕ). refusals.BadToken (place_of parts.Plan text n)) (one_bad_byte i j h k)
refused_once text r s (bad_token i h) (stops ts at k p) = absurd (never_cutting_and_bad_byte ts i k h)
refused_once text r s (stops ts at h p) (bad_token i k) = absurd (never_cutting_and_bad_byte ts i h k)
refused_once text r s (stops ts at h p) (stops us there k q) =
    ap (λ (a : At Word). refusals.PlanSyntax (place_of parts.Plan text (byte_at text a.tokens)))
    (whole_stops_once _ _ plan (all_seen_in text ts) at there p (subst (λ (vs : List Token). StopsWhole plan (all_seen_in text vs) there) (one_cutting _ _ k h) q))

pub never_two : PlansNeverBoth
never_two text steps r h (bad_token i k) = never_cutting_and_bad_byte h.reads.tokens i h.reads.cut k
never_two text steps r h (stops ts at k p) =
    whole_never_both _ _ plan (all_seen_in text ts) h.tree at (subst (λ (us : List Token). ReadsWhole plan (all_seen_in text us) h.tree) (one_cutting _ _ h.reads.cut k) h.reads.reads) p

abbrev HasAnswer : List ℕ → Type 0
HasAnswer text = ((steps : List PlanStep) × IsPlanFile text steps) ⊎ ((r : Refused) × RefusesPlan text r)

by_tokens : (text : List ℕ) (ts : List Token) → Cut 0 text ts → ((x : List (Word × List Word)) × ReadsWhole plan (all_seen_in text ts) x) ⊎ ((at : At Word) × StopsWhole plan (all_seen_in text ts) at) → HasAnswer text
by_tokens text ts cut (inl h) = inl (map (step_of text) h.0, record { tree = h.0; are = refl; reads = record { tokens = ts; cut = cut; reads = h.1 } })
by_tokens text ts cut (inr h) = inr (_, stops ts h.0 cut h.1)

by_cutting : (text : List ℕ) → ((ts : List Token) × Cut 0 text ts) ⊎ ((i : ℕ) × BadAt 0 text i) → HasAnswer text
by_cutting text (inl h) = by_tokens text h.0 h.1 (whole_reads_or_stops _ _ plan (all_seen_in text h.0))
by_cutting text (inr h) = inr (_, bad_token h.0 h.1)

pub always_some : PlansAlwaysOne
always_some text = by_cutting text (cutting_or_bad_byte text)
