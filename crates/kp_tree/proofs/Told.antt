-- From what the reader computes to what it promises.
use Rattle.std.proofs.Common.{◌≡◌, ℕ, Bool, List, [], drop, Ok, Err, refl, sym, ap, ◌∙◌}
use Rattle.std.specs.List.{drop-map}
use Rattle.kp_base.specs.declared.refused.Part.{Part}
use Rattle.kp_base.specs.declared.refused.Stop.{Stop}
use Rattle.kp_lex.specs.declared.token.Token.{Token}
use Rattle.kp_tree_grammar.specs.declared.tree.Word.{Word}
use Rattle.kp_tree_grammar.specs.Language.{Tok, seen_in, all_seen_in, Sort, El, Form, At, stop}
use Rattle.kp_tree_cursor.specs.declared.halt.Halt.{Halt}
use Rattle.kp_tree_cursor.specs.declared.halt.Halt.TheVariants as halts
use Rattle.kp_tree.specs.Files.{RefusedAt, AnswersTokens}
use Rattle.kp_tree_parts.specs.Lexemes.{from}
use Rattle.kp_tree_parts.specs.Readers.{Fails, unsupported, whole_at}
use Rattle.kp_tree.specs.Refusals.{IsTold}
use Rattle.kp_tree.proofs.Whole.{is_read, is_refused}

-- ---- the answer

module _ {T : Type 0} (part : Part) {b : Bool} {c : Sort} (X : Form b c) (view : T → El Word c) (text : List ℕ) (tokens : List Token) (ls : List (Tok Word)) (seen : ls ≡ all_seen_in text tokens) where
  from_is : (i : ℕ) → from ls i ≡ all_seen_in text (drop i tokens)
  from_is i = ap (drop i) seen ∙ drop-map (seen_in text) i tokens

  pub read_ok : (t : T) → whole_at X ls ≡ Ok (view t, []) → AnswersTokens part X view text tokens (Ok t)
  read_ok t e = is_read X (all_seen_in text tokens) (view t) (ap (whole_at X) (sym seen) ∙ e)

  refused_at : (at : List (Tok Word) → At Word) (i : ℕ) → whole_at X ls ≡ Err (at (from ls i)) → RefusedAt X (all_seen_in text tokens) (at (all_seen_in text (drop i tokens)))
  refused_at at i e = is_refused X (all_seen_in text tokens) (at (all_seen_in text (drop i tokens))) (ap (whole_at X) (sym seen) ∙ e ∙ ap (λ (us : List (Tok Word)). Err (at us)) (from_is i))

  pub read_err : (h : Halt) (s : Stop) → Fails ls h (whole_at X ls) → IsTold part text tokens h s → AnswersTokens {T = T} part X view text tokens (Err s)
  read_err halts.Memory s e told = rw told tt
  read_err (halts.Syntax i) s e told = rw told (stop (all_seen_in text (drop i tokens)), (refused_at (λ us. stop us) i e, refl))
  read_err (halts.Unsupported i) s e told = rw told (unsupported (all_seen_in text (drop i tokens)), (refused_at (λ us. unsupported us) i e, refl))
