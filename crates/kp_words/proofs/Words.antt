-- Words that differ.
use Rattle.std.proofs.Common.{◌≡◌, ℕ, false, List, Option, Some, None, bytes_eq, sym, ◌∙◌}
use Rattle.std.proofs.lemmas.Bool.{false≢true}
use Rattle.std.proofs.lemmas.Slice.Eq.{bytes_eq-Decides}
use Rattle.kp_words.specs.Options.{AreApart, AreNotBoth}

-- two words that are seen to differ
pub words_differ : (x y : List ℕ) → bytes_eq x y ≡ false → x ≡ y → ⊥
words_differ x y h e = false≢true (sym h ∙ (bytes_eq-Decides x y).1 e)

-- ---- what is said by words that aren't there, or differ

pub two_apart : (x y : List ℕ) → bytes_eq x y ≡ false → AreApart (Some x) (Some y)
two_apart x y h = words_differ x y h
