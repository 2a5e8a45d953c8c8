-- A whole file has one tree or one offending token, and one of them always.
use Rattle.std.proofs.Common.{◌≡◌, ◌⊎◌, inl, inr, Bool, List, [], ◌∷◌, ap}
use Rattle.kp_tree_grammar.specs.Symbols.{Tok}
use Rattle.kp_tree_grammar.specs.Sorts.{Sort, El}
use Rattle.kp_tree_grammar.specs.Forms.{Form}
use Rattle.kp_tree_grammar.specs.Reading.{At, stop, Reads, Stops, ReadsWhole, StopsWhole, within_form, after_form}
use Rattle.kp_tree_grammar.proofs.Exact.{once_read, once_stopped, never_both, always_one}

module _ {W : Type 0} where
  no_rest : {t : Tok W} {ts : List (Tok W)} → [] ≡ t ∷ ts → ⊥
  no_rest e = cc

  pub whole_read_once : (b : Bool) (c : Sort) (X : Form b c) (ts : List (Tok W)) (x y : El W c) → ReadsWhole X ts x → ReadsWhole X ts y → x ≡ y
  whole_read_once b c X ts x y h k = (once_read b c X ts [] [] x y h k).0

  pub whole_never_both : (b : Bool) (c : Sort) (X : Form b c) (ts : List (Tok W)) (x : El W c) (at : At W) → ReadsWhole X ts x → StopsWhole X ts at → ⊥
  whole_never_both b c X ts x at h (within_form k) = never_both b c X ts [] x at h k
  whole_never_both b c X ts x at h (after_form {x = y} k) = no_rest (once_read b c X ts [] _ x y h k).1

  pub whole_stopped_once : (b : Bool) (c : Sort) (X : Form b c) (ts : List (Tok W)) (at there : At W) → StopsWhole X ts at → StopsWhole X ts there → at ≡ there
  whole_stopped_once b c X ts at there (within_form h) (within_form k) = once_stopped b c X ts at there h k
  whole_stopped_once b c X ts at there (within_form h) (after_form {x = y} k) = absurd (never_both b c X ts _ y at k h)
  whole_stopped_once b c X ts at there (after_form {x = y} h) (within_form k) = absurd (never_both b c X ts _ y there h k)
  whole_stopped_once b c X ts at there (after_form {x = x} h) (after_form {x = y} k) = ap (λ (us : List (Tok W)). stop us) (once_read b c X ts _ _ x y h k).1

  by_rest : (b : Bool) (c : Sort) (X : Form b c) (ts : List (Tok W)) (x : El W c) (rest : List (Tok W)) → Reads X ts x rest → ((y : El W c) × ReadsWhole X ts y) ⊎ ((at : At W) × StopsWhole X ts at)
  by_rest b c X ts x [] h = inl (x, h)
  by_rest b c X ts x (t ∷ rest) h = inr (stop (t ∷ rest), after_form h)

  by_one : (b : Bool) (c : Sort) (X : Form b c) (ts : List (Tok W)) → ((x : El W c) × (rest : List (Tok W)) × Reads X ts x rest) ⊎ ((at : At W) × Stops X ts at) → ((y : El W c) × ReadsWhole X ts y) ⊎ ((at : At W) × StopsWhole X ts at)
  by_one b c X ts (inl h) = by_rest b c X ts h.0 h.1 h.2
  by_one b c X ts (inr h) = inr (h.0, within_form h.1)

  pub whole_always_one : (b : Bool) (c : Sort) (X : Form b c) (ts : List (Tok W)) → ((y : El W c) × ReadsWhole X ts y) ⊎ ((at : At W) × StopsWhole X ts at)
  whole_always_one b c X ts = by_one b c X ts (always_one b c X ts)
