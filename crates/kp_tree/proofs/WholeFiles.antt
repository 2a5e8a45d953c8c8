-- From the answers of the cutting to the answers for files.
use Rattle.std.proofs.Common.{ℕ, ◌≤◌, Bool, List, length, Err, sym, subst}
use Rattle.kp_base.specs.declared.refused.Part.{Part}
use Rattle.kp_base.specs.declared.refused.Refused.TheVariants as refusals
use Rattle.kp_base.specs.declared.refused.Stop.{Stop}
use Rattle.kp_base.specs.declared.refused.Stop.TheVariants as causes
use Rattle.kp_lex.specs.Answers.{IsRight}
use Rattle.kp_tree_grammar.specs.declared.tree.Word.{Word}
use Rattle.kp_tree_grammar.specs.Sorts.{Sort, El}
use Rattle.kp_tree_grammar.specs.Forms.{Form}
use Rattle.kp_base.specs.Files.{most_bytes}
use Rattle.kp_tree.specs.Files.{Refuses, bad_token, AnswersFile}

module _ {b : Bool} {c : Sort} (part : Part) (X : Form b c) (text : List ℕ) (short : length text ≤ most_bytes) where
  -- a text that isn't cut is refused at its bad byte
  pub uncut : {T : Type 0} (view : T → El Word c) (e : Stop) → IsRight part text (Err e) → AnswersFile part X view text (Err e)
  uncut view causes.Memory h = tt
  uncut view (causes.Refused (refusals.BadToken place)) h = subst (λ p. Refuses part X text (refusals.BadToken p)) (sym h.1.1) (bad_token h.0 short h.1.0)
  uncut view (causes.Refused _) h = absurd h
