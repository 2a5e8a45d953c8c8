-- What a file is read as.
use Rattle.std.proofs.Common.{◌≡◌, ℕ, Bool, true, false, List, length, take, nat_lt, Result, Ok, Err, IfOk, subst, ◌∙◌, arith}
use Rattle.std.proofs.lemmas.List.{take_all}
use Rattle.std.proofs.lemmas.Bool.Decides.{nat_tests}
use Rattle.kp_base.specs.declared.refused.Part.{Part}
use Rattle.kp_base.specs.declared.refused.Refused.{Refused}
use Rattle.kp_base.specs.declared.refused.Refused.TheVariants as refusals
use Rattle.kp_base.specs.declared.refused.Stop.{Stop}
use Rattle.kp_base.specs.declared.refused.Stop.TheVariants as causes
use Rattle.kp_base.specs.Files.{most_bytes}
use Rattle.kp_tree_grammar.specs.declared.tree.Word.{Word}
use Rattle.kp_tree_grammar.specs.Grammar as grammar
use Rattle.kp_tree_grammar.specs.Sorts.{Sort, El}
use Rattle.kp_tree_grammar.specs.Forms.{Form}
use Rattle.kp_tree_grammar.specs.Trees.{Domain, Problem}
use Rattle.kp_tree.specs.Files.{HasTree, Refuses, AnswersFile}
use Rattle.kp_names_numbered.specs.declared.lifted.Lifted.{Lifted}
use Rattle.kp_names.specs.Resolved.{RefusesNames, AnswersNames}
use Rattle.kp_run_prepare.specs.Texts.{IsProblemOf}

-- ---- one tree

-- bytes of which there are no more are the whole content
pub whole : (most : ℕ) (text bytes : List ℕ) (more : Bool) → bytes ≡ take most text → more ≡ nat_lt most (length text) → more ≡ false → bytes ≡ text
whole most text bytes more front is none = front ∙ take_all most text (grind (arith, nat_tests))

-- a file of more bytes is too long, whatever it is to be
pub too_long : (part : Part) {b : Bool} {c : Sort} (X : Form b c) (most : ℕ) (text : List ℕ) (more : Bool) → most ≡ most_bytes → more ≡ nat_lt most (length text) → more ≡ true → Refuses part X text (refusals.TooLong part)
too_long part X most text more m is true_ = Refuses.too_long (grind (arith, nat_tests))

-- what is told of a file that is refused
pub refused_file : {T : Type 0} (part : Part) {b : Bool} {c : Sort} (X : Form b c) (view : T → El Word c) (text : List ℕ) (result : Result T Stop) (r : Refused) → AnswersFile part X view text result → result ≡ Err (causes.Refused r) → Refuses part X text r
refused_file part X view text result r h e = subst (AnswersFile part X view text) e h

-- what is told of names that are refused
pub refused_names : (x y : List ℕ) (d : Domain Word) (p : Problem Word) (result : Result Lifted Stop) (r : Refused) → AnswersNames x y d p result → result ≡ Err (causes.Refused r) → RefusesNames x y d p r
refused_names x y d p result r h e = subst (AnswersNames x y d p) e h

-- the problem by number of the trees that were read
pub resolved_is : (x y : List ℕ) (d : Domain Word) (p : Problem Word) (result : Result Lifted Stop) → HasTree grammar.domain x d → HasTree grammar.problem y p → AnswersNames x y d p result → IfOk result (IsProblemOf x y)
resolved_is x y d p (Ok l) h k a = record { first = d; second = p; trees = record { domain_reads = h; problem_reads = k; no_fault = a.no_fault }; resolved = a }
resolved_is x y d p (Err e) h k a = tt

-- what holds anyway holds of an answer
pub where_ok : {A E : Type 0} {P : Type 0} (result : Result A E) → P → IfOk result (λ x. P)
where_ok (Ok x) p = p
where_ok (Err e) p = tt
