-- Plan files: one that strips, and three that are refused, at a name, at the end and at a byte.
use Rattle.std.proofs.Common.{◌≡◌, ℕ, List, [], ◌∷◌, Some, Vec, map, codes, refl, sym, subst, arith}
use Rattle.std.specs.FinMap.{empty, insert}
use lib.Utf8.{encode}
use Rattle.std.specs.Fmt.{digits}
use Rattle.std.specs.declared.alloc.Global.{Global}
use Rattle.kp_base.specs.declared.ground.GroundName.{GroundName}
use Rattle.kp_base.specs.declared.refused.Part.TheVariants as parts
use Rattle.kp_base.specs.declared.refused.Refused.TheVariants as refusals
use Rattle.kp_lex.specs.Bytes.{class_of}
use Rattle.kp_lex.specs.Scanning.{cut_from}
use Rattle.kp_lex.proofs.Public.{cut_tells}
use Rattle.kp_tree_grammar.specs.declared.tree.Word.{Word}
use Rattle.kp_tree_grammar.specs.Symbols.{symbol_of, all_seen_in}
use Rattle.kp_tree_grammar.specs.Parsing.{some_at, next_at}
use Rattle.kp_tree_grammar.specs.Reading.{stop, within_form}
use Rattle.kp_tree_grammar.proofs.Public.{tokens_of_text, reads_by_computing, stops_by_computing as stops}
use Rattle.kp_plans.specs.declared.step.PlanStep.{PlanStep}
use Rattle.kp_plans.specs.Grammar.{plan}
use Rattle.kp_plans.specs.PlanFiles.{step_of, IsPlanFile, bad_token}
use Rattle.kp_plans.specs.PlanFiles as files
use Rattle.kp_plans.specs.Stripping.{IsFirstUnstripped}
use Rattle.kp_run_outcome.specs.declared.outcome.Outcome.{Outcome}
use Rattle.kp_run_outcome.specs.declared.status.Status.TheVariants as status
use Rattle.kp_run_outcome.specs.Printing.{prints}
use Rattle.kp_words.specs.Asked.{Asked}
use Rattle.kp_words.specs.declared.verb.Verb.TheVariants as verbs
use Rattle.kp_words_options.specs.Words.{nothing, a_word, word as said_word}
use Rattle.kp_words.specs.Command.{IsCall, AreUtf8}
use Rattle.kp_words.specs.Owned.{bare}
use Rattle.kp_words.proofs.Public.{call_by_words, files_by_computing, usual_source, usual_numbers, nothing_generated}
use Rattle.kp_run.specs.Strip.{StripsText, no_plan, no_strip, strips}
use Rattle.kp_run.specs.Outcomes.{IsDue}
use Rattle.kp_run.proofs.Public.{got_after_insert, due_by, held_alone}

-- ---- the command

abbrev command : Asked
command = record (bare verbs.Strip) { written = codes "t" }

is_strip : (words : List (Vec ℕ Global)) → map (λ w. w.items) words ≡ codes "strip" ∷ codes "t" ∷ [] → IsCall verbs.Strip words command
unfolding encode
is_strip words e =
    call_by_words verbs.Strip words command _ (said_word (codes "t") ∷ []) (subst AreUtf8 (sym e) ((codes "strip", (refl, refl)), ((codes "t", (refl, refl)), tt))) e (a_word _ _ _ refl (nothing)) refl refl refl refl
    (record { files = files_by_computing refl tt; source = usual_source refl; numbers = usual_numbers refl; generated = nothing_generated refl })

-- what the text of its file is stripped to is due
due : (words : List (Vec ℕ Global)) (text : List ℕ) (o : Outcome) → map (λ w. w.items) words ≡ codes "strip" ∷ codes "t" ∷ [] → StripsText text o → IsDue words (Some (insert empty (codes "t") text)) o
due words text o e h =
    due_by verbs.Strip command (record { domain = []; problem = []; merges = []; plan = []; written = text }) o (is_strip words e)
    (record { domain = refl; problem = refl; merges = refl; plan = refl; written = held_alone _ _ _ (got_after_insert empty (codes "t") text) }) h

abbrev word_at : List ℕ → ℕ → Word
word_at text byte = record { text = text; byte = byte }

-- ---- a merge and an action

abbrev two_steps : List ℕ
two_steps = codes "(merge_-0)\n(do_-move_-a_-b)\n"

abbrev two_words : List (Word × List Word)
two_words = (word_at (codes "merge_-0") 1, []) ∷ (word_at (codes "do_-move_-a_-b") 12, []) ∷ []

two_are_a_plan : IsPlanFile two_steps (map (step_of two_steps) two_words)
unfolding cut_from class_of symbol_of some_at next_at
two_are_a_plan = record { tree = two_words; are = refl; reads = reads_by_computing plan two_steps (tokens_of_text two_steps) two_words refl refl }

abbrev moved : GroundName
moved = record { head = codes "move"; objects = codes "a" ∷ codes "b" ∷ [] }

two_steps_strip : StripsText two_steps (prints (codes "(move a b)\n"))
two_steps_strip = strips (map (step_of two_steps) two_words) (moved ∷ []) (omega arith) two_are_a_plan refl refl

two_steps_due : (words : List (Vec ℕ Global)) → map (λ w. w.items) words ≡ codes "strip" ∷ codes "t" ∷ [] → IsDue words (Some (insert empty (codes "t") two_steps)) (prints (codes "(move a b)\n"))
two_steps_due words e = due words two_steps (prints (codes "(move a b)\n")) e two_steps_strip

-- ---- a step that is no operator's, in the second line

abbrev stray : List ℕ
stray = codes "(do_-a)\n(left)\n"

abbrev stray_words : List (Word × List Word)
stray_words = (word_at (codes "do_-a") 1, []) ∷ (word_at (codes "left") 9, []) ∷ []

stray_is_a_plan : IsPlanFile stray (map (step_of stray) stray_words)
unfolding cut_from class_of symbol_of some_at next_at
stray_is_a_plan = record { tree = stray_words; are = refl; reads = reads_by_computing plan stray (tokens_of_text stray) stray_words refl refl }

abbrev left : PlanStep
left = step_of stray (word_at (codes "left") 9, [])

left_is_first : IsFirstUnstripped (map (step_of stray) stray_words) left
left_is_first = record { before = step_of stray (word_at (codes "do_-a") 1, []) ∷ []; after = []; is = refl; stripped_before = refl; not_stripped = refl }

stray_refused : StripsText stray (record { status = status.Refused (refusals.PlanSyntax (record { part = parts.Plan; line = 2; byte = 9 })); puts = []; text = codes "refused 19 PlanSyntax\nat plan line 2 byte 9\n" })
unfolding digits
stray_refused = no_strip (map (step_of stray) stray_words) left (omega arith) stray_is_a_plan left_is_first refl

-- ---- a bracket that isn't closed

abbrev unclosed : List ℕ
unclosed = codes "(do_-a"

unclosed_refused : StripsText unclosed (record { status = status.Refused (refusals.PlanSyntax (record { part = parts.Plan; line = 1; byte = 6 })); puts = []; text = codes "refused 19 PlanSyntax\nat plan line 1 byte 6\n" })
unfolding digits cut_from class_of symbol_of some_at next_at
unclosed_refused = no_plan (refusals.PlanSyntax (record { part = parts.Plan; line = 1; byte = 6 })) (omega arith) (files.stops (tokens_of_text unclosed) (stop []) (cut_tells 0 unclosed) (within_form (stops plan (all_seen_in unclosed (tokens_of_text unclosed)) (stop []) refl refl))) refl

-- ---- a byte that begins no token

abbrev strange : List ℕ
strange = codes "(do_-a)%\n"

strange_refused : StripsText strange (record { status = status.Refused (refusals.BadToken (record { part = parts.Plan; line = 1; byte = 7 })); puts = []; text = codes "refused 2 BadToken\nat plan line 1 byte 7\n" })
unfolding digits cut_from class_of
strange_refused = no_plan (refusals.BadToken (record { part = parts.Plan; line = 1; byte = 7 })) (omega arith) (bad_token 7 (cut_tells 0 strange)) refl
