-- A file has one tree or one refusal, and one of them always.
use Rattle.std.proofs.Common.{◌≡◌, ℕ, ◌≤◌, ◌<◌, ◌⊎◌, inl, inr, Bool, List, length, Option, Some, None, refl, ap, subst, arith}
use Rattle.std.proofs.lemmas.Bool.{cases_lt}
use Rattle.kp_base.specs.declared.refused.Part.{Part}
use Rattle.kp_base.specs.declared.refused.Refused.{Refused}
use Rattle.kp_base.specs.declared.refused.Refused.TheVariants as refusals
use Rattle.kp_lex.specs.declared.token.Token.{Token}
use Rattle.kp_lex.specs.Cutting.{Cut, BadAt}
use Rattle.kp_lex.specs.Places.{place_of}
use Rattle.kp_lex.proofs.Public.{cutting_or_bad_byte, never_cutting_and_bad_byte, one_cutting, one_bad_byte}
use Rattle.kp_base.proofs.Cases.{some_none}
use Rattle.kp_tree_grammar.specs.declared.tree.Word.{Word}
use Rattle.kp_tree_grammar.specs.Language.{Tok, all_seen_in, Sort, El, Form, At, stop, ReadsWhole, StopsWhole, deep, levels}
use Rattle.kp_tree_grammar.proofs.Public.{whole_reads_once, whole_stops_once, whole_never_both, whole_reads_or_stops}
use Rattle.kp_base.specs.Files.{most_bytes}
use Rattle.kp_tree.specs.Files.{ReadsShallow, RefusedAt, offending, too_deep, refusal_at, HasTree, Refuses, too_long, bad_token, stops, FilesReadOnce, FilesRefuseOnce, FilesNeverBoth, FilesAlwaysOne}

-- ---- tokens

module _ (b : Bool) (c : Sort) (X : Form b c) (ts : List (Tok Word)) where
  -- the form stops before a bracket is too deep, or behind it, and not both
  pub refused_once : (at there : At Word) → RefusedAt X ts at → RefusedAt X ts there → at ≡ there
  refused_once at there (offending _ h f) (offending _ k g) = whole_stops_once b c X ts at there h k
  refused_once at there (offending _ h f) (too_deep us e g) = absurd (omega (arith, f us e, g at h))
  refused_once at there (too_deep us e f) (offending _ k g) = absurd (omega (arith, g us e, f there k))
  refused_once at there (too_deep us e f) (too_deep vs k g) = let same : us ≡ vs = cc (e, k) in ap (λ (ws : List (Tok Word)). stop ws) same

  pub not_refused : (x : El Word c) (at : At Word) → ReadsShallow X ts x → RefusedAt X ts at → ⊥
  not_refused x at h (offending _ k f) = whole_never_both b c X ts x at h.reads k
  not_refused x at h (too_deep us e f) = some_none e h.shallow

  abbrev Answered : Type 0
  Answered = ((x : El Word c) × ReadsShallow X ts x) ⊎ ((at : At Word) × RefusedAt X ts at)

  -- where all is read, a bracket may be too deep
  by_depth : (x : El Word c) → ReadsWhole X ts x → (o : Option (List (Tok Word))) → deep levels ts ≡ o → Answered
  by_depth x h None e = inl (x, record { reads = h; shallow = e })
  by_depth x h (Some us) e = inr (stop us, too_deep us e (λ at k. absurd (whole_never_both b c X ts x at h k)))

  -- where the form stops, a bracket before it may be too deep
  by_order : (at : At Word) → StopsWhole X ts at → (us : List (Tok Word)) → deep levels ts ≡ Some us → (length at.tokens < length us) ⊎ (length us ≤ length at.tokens) → Answered
  by_order at h us e (inl before) = inr (stop us, too_deep us e (λ there k. subst (λ (a : At Word). length a.tokens < length us) (whole_stops_once b c X ts at there h k) before))
  by_order at h us e (inr behind) = inr (at, offending at h (λ vs k. let same : us ≡ vs = cc (e, k) in subst (λ (ws : List (Tok Word)). length ws ≤ length at.tokens) same behind))

  by_stop : (at : At Word) → StopsWhole X ts at → (o : Option (List (Tok Word))) → deep levels ts ≡ o → Answered
  by_stop at h None e = inr (at, offending at h (λ us k. absurd (some_none k e)))
  by_stop at h (Some us) e = by_order at h us e (cases_lt (length at.tokens) (length us))

  by_whole : ((x : El Word c) × ReadsWhole X ts x) ⊎ ((at : At Word) × StopsWhole X ts at) → Answered
  by_whole (inl h) = by_depth h.0 h.1 (deep levels ts) refl
  by_whole (inr h) = by_stop h.0 h.1 (deep levels ts) refl

  answered : Answered
  answered = by_whole (whole_reads_or_stops b c X ts)

-- ---- files

pub read_once : FilesReadOnce
read_once b c X text x y h k =
    let same : k.tokens ≡ h.tokens = one_cutting _ _ k.cut h.cut in
    let other : ReadsWhole X (all_seen_in text h.tokens) y = subst (λ (ts : List Token). ReadsWhole X (all_seen_in text ts) y) same k.reads.reads in
    whole_reads_once b c X (all_seen_in text h.tokens) x y h.reads.reads other

module _ (part : Part) (b : Bool) (c : Sort) (X : Form b c) (text : List ℕ) where
  refused_in : (ts us : List Token) (at there : At Word) → Cut 0 text ts → Cut 0 text us → RefusedAt X (all_seen_in text ts) at → RefusedAt X (all_seen_in text us) there → at ≡ there
  refused_in ts us at there h k r s = refused_once b c X (all_seen_in text ts) at there r (subst (λ (vs : List Token). RefusedAt X (all_seen_in text vs) there) (one_cutting _ _ k h) s)

  pub refuse_once : (r s : Refused) → Refuses part X text r → Refuses part X text s → r ≡ s
  refuse_once r s (too_long h) (too_long k) = refl
  refuse_once r s (too_long h) (bad_token i k _) = absurd (omega (arith, h, k))
  refuse_once r s (too_long h) (stops ts at k _ _) = absurd (omega (arith, h, k))
  refuse_once r s (bad_token i h _) (too_long k) = absurd (omega (arith, h, k))
  refuse_once r s (bad_token i _ h) (bad_token j _ k) = ap (λ (n : ℕ). refusals.BadToken (place_of part text n)) (one_bad_byte i j h k)
  refuse_once r s (bad_token i _ h) (stops ts at _ k _) = absurd (never_cutting_and_bad_byte ts i k h)
  refuse_once r s (stops ts at h _ _) (too_long k) = absurd (omega (arith, h, k))
  refuse_once r s (stops ts at _ h _) (bad_token i _ k) = absurd (never_cutting_and_bad_byte ts i h k)
  refuse_once r s (stops ts at _ h p) (stops us there _ k q) = ap (λ (a : At Word). refusal_at part text a) (refused_in ts us at there h k p q)

  pub read_or_refused : (x : El Word c) (r : Refused) → HasTree X text x → Refuses part X text r → ⊥
  read_or_refused x r h (too_long k) = omega (arith, h.short, k)
  read_or_refused x r h (bad_token i _ k) = never_cutting_and_bad_byte h.tokens i h.cut k
  read_or_refused x r h (stops ts at _ k q) = not_refused b c X (all_seen_in text ts) x at (subst (λ (us : List Token). ReadsShallow X (all_seen_in text us) x) (one_cutting _ _ h.cut k) h.reads) q

  abbrev HasAnswer : Type 0
  HasAnswer = ((x : El Word c) × HasTree X text x) ⊎ ((r : Refused) × Refuses part X text r)

  by_tokens : length text ≤ most_bytes → (ts : List Token) → Cut 0 text ts → ((x : El Word c) × ReadsShallow X (all_seen_in text ts) x) ⊎ ((at : At Word) × RefusedAt X (all_seen_in text ts) at) → HasAnswer
  by_tokens short ts h (inl k) = inl (k.0, record { short = short; tokens = ts; cut = h; reads = k.1 })
  by_tokens short ts h (inr k) = inr (refusal_at part text k.0, stops ts k.0 short h k.1)

  by_cutting : length text ≤ most_bytes → ((ts : List Token) × Cut 0 text ts) ⊎ ((i : ℕ) × BadAt 0 text i) → HasAnswer
  by_cutting short (inl h) = by_tokens short h.0 h.1 (answered b c X (all_seen_in text h.0))
  by_cutting short (inr h) = inr (refusals.BadToken (place_of part text h.0), bad_token h.0 short h.1)

  by_length : (most_bytes < length text) ⊎ (length text ≤ most_bytes) → HasAnswer
  by_length (inl long) = inr (refusals.TooLong part, too_long long)
  by_length (inr short) = by_cutting short (cutting_or_bad_byte text)

  pub has_answer : HasAnswer
  has_answer = by_length (cases_lt most_bytes (length text))

pub refused_one : FilesRefuseOnce
refused_one part b c X text r s h k = refuse_once part b c X text r s h k

pub never_two : FilesNeverBoth
never_two part b c X text x r h k = read_or_refused part b c X text x r h k

pub always_some : FilesAlwaysOne
always_some part b c X text = has_answer part b c X text
