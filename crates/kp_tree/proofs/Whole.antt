-- What reading with 64 levels gives is the tree of the tokens, or the token at which they are refused.
use Rattle.std.proofs.Common.{◌≡◌, ℕ, ◌⊎◌, inl, inr, Bool, List, [], ◌∷◌, length, Option, Some, Ok, Err, refl, sym, ap, subst, ◌∙◌, arith}
use Rattle.kp_tree_grammar.specs.Language.{Tok, Sort, El, Form, Syntax, At, stop, ReadBy, ReadsWhole, StopsWhole, within_form, after_form, Outcome, ◌>>=◌, ended, go, level, deep, levels}
use Rattle.kp_tree_grammar.specs.declared.tree.Word.{Word}
use Rattle.kp_tree_grammar.proofs.Public.{TellsReading, reading_tells, deep_within, whole_never_both, whole_stops_once, whole_reads_or_stops}
use Rattle.kp_tree.specs.Files.{ReadsShallow, RefusedAt, offending, too_deep}
use Rattle.kp_tree_parts.specs.Readers.{whole_at}
use Rattle.kp_tree.proofs.First.{halts_before, stops_before, Comes}

same_some : {A : Type 0} {o : Option A} {x y : A} → o ≡ Some x → o ≡ Some y → x ≡ y
same_some e k = cc

module _ {b : Bool} {c : Sort} (X : Form b c) (ts : List (Tok Word)) where
  abbrev pub Answered : Outcome Word (El Word c) → Type 0
  Answered (Ok x) = ReadsShallow X ts x.0 × (x.1 ≡ [])
  Answered (Err at) = RefusedAt X ts at

  -- it stops there, and no bracket before is too deep
  stops_first : (at : At Word) → StopsWhole X ts at → (n : ℕ) → deep levels ts ≡ deep n at.tokens → RefusedAt X ts at
  stops_first at s n passed = offending at s (λ us e. deep_within n at.tokens us (sym passed ∙ e))

  comes_whole : (at there : At Word) → go (level levels) b c X ts ≡ Err at → StopsWhole X ts there → Comes there at
  comes_whole at there e (within_form h) = stops_before h levels e
  comes_whole at there e (after_form h) = inr (halts_before h levels e)

  is_stop : (at : At Word) → at.reason ≡ Syntax → at ≡ stop at.tokens
  is_stop at e = ap (λ r. record { tokens = at.tokens; reason = r }) e

  -- the first bracket that is too deep, where the whole stops
  deep_by : (at : At Word) → deep levels ts ≡ Some at.tokens → (there : At Word) → StopsWhole X ts there → Comes there at → at.reason ≡ Syntax → RefusedAt X ts at
  deep_by at opens there s (inl same) k =
      offending at (subst (λ (a : At Word). StopsWhole X ts a) same s) (λ us e. omega (arith, ap (λ (vs : List (Tok Word)). length vs) (same_some opens e)))
  deep_by at opens there s (inr less) k =
      subst (λ (a : At Word). RefusedAt X ts a) (sym (is_stop at k)) (too_deep at.tokens opens (λ other h. omega (arith, less, ap (λ (a : At Word). length a.tokens) (whole_stops_once b c X ts other there h s))))

  deep_first : (at : At Word) → go (level levels) b c X ts ≡ Err at → deep levels ts ≡ Some at.tokens → at.reason ≡ Syntax → ((x : El Word c) × ReadsWhole X ts x) ⊎ ((there : At Word) × StopsWhole X ts there) → RefusedAt X ts at
  deep_first at e opens k (inl h) = subst (λ (a : At Word). RefusedAt X ts a) (sym (is_stop at k)) (too_deep at.tokens opens (λ other s. absurd (whole_never_both b c X ts h.0 other h.1 s)))
  deep_first at e opens k (inr h) = deep_by at opens h.0 h.1 (comes_whole at h.0 e h.1) k

  ended_so : (x : El Word c) (rest : List (Tok Word)) → ReadBy b c X ts x rest → deep levels ts ≡ deep levels rest → Answered (ended x rest)
  ended_so x [] h l = (record { reads = h; shallow = l }, refl)
  ended_so x (t ∷ rest) h l = stops_first (stop (t ∷ rest)) (after_form h) levels l

  whole_by : (r : Outcome Word (El Word c)) → go (level levels) b c X ts ≡ r → TellsReading levels b c X ts r → Answered (r >>= λ x. ended x.0 x.1)
  whole_by (Ok x) e h = ended_so x.0 x.1 h.0 h.1
  whole_by (Err at) e (inl h) = stops_first at (within_form h.0) h.1.0 h.1.1
  whole_by (Err at) e (inr h) = deep_first at e h.0 h.1 (whole_reads_or_stops b c X ts)

  pub answered : (r : Outcome Word (El Word c)) → whole_at X ts ≡ r → Answered r
  unfolding whole_at
  answered r e = subst (λ (o : Outcome Word (El Word c)). Answered o) e (whole_by (go (level levels) b c X ts) refl (reading_tells levels b c X ts))

  -- a tree is the one of the tokens
  pub is_read : (x : El Word c) → whole_at X ts ≡ Ok (x, []) → ReadsShallow X ts x
  is_read x e = (answered (Ok (x, [])) e).0

  -- a refusal is at the first token that is refused
  pub is_refused : (at : At Word) → whole_at X ts ≡ Err at → RefusedAt X ts at
  is_refused at e = answered (Err at) e
