-- The name of a merge's operator can be written, and tells its number.
use Rattle.std.proofs.Common.{◌≡◌, ◌<◌, ◌^◌, ℕ, Bool, true, false, List, ◌++◌, codes, decimal, drop, refl, ap}
use Rattle.std.proofs.lemmas.Fmt.{decimal_is_IsNumeral, decimal_injective}
use Rattle.kp_lex.specs.Bytes.{class_of}
use Rattle.kp_tree_grammar.specs.Words.{IsName}
use Rattle.kp_names_semantics.specs.Names.{same}
use Rattle.kp_base.proofs.Lists.{same-true}
use Rattle.kp_write.proofs.Public.{plain_is_name, plain_joined, plain_by_computing, digits_are_plain}
use Rattle.kp_law_ktask.specs.Task.{merge_word}

pub merge_is_name : (m : ℕ) → m < 2 ^ 64 → IsName (merge_word m)
unfolding class_of
merge_is_name m fits = plain_is_name refl (plain_joined (codes "merge_-") (decimal m) (plain_by_computing (codes "merge_-") refl) (digits_are_plain (decimal m) (decimal_is_IsNumeral m fits).0.1))

-- ---- different names

-- names tell the numbers
pub one_merge : (m n : ℕ) → m < 2 ^ 64 → n < 2 ^ 64 → merge_word m ≡ merge_word n → m ≡ n
one_merge m n p q e = decimal_injective m n p q (ap (drop 7) e)

pub merges_apart : (m n : ℕ) → m < 2 ^ 64 → n < 2 ^ 64 → (m ≡ n → ⊥) → same (merge_word m) (merge_word n) ≡ false
merges_apart m n p q apart = go (same (merge_word m) (merge_word n)) refl where
  go : (b : Bool) → same (merge_word m) (merge_word n) ≡ b → same (merge_word m) (merge_word n) ≡ false
  go false e = e
  go true e = absurd (apart (one_merge m n p q (same-true (merge_word m) (merge_word n) e)))

-- no operator of an action has the name of one of a merge
pub action_no_merge : (w : List ℕ) (m : ℕ) → same (codes "do_-" ++ w) (merge_word m) ≡ false
action_no_merge w m = refl
