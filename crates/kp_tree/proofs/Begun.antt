-- A file is refused as its beginning is that ends with the first bracket that is too deep.
use Rattle.std.proofs.Common.{◌≡◌, ℕ, ◌+◌, ◌-◌, ◌==◌, ◌≤◌, ◌<◌, inl, inr, Bool, List, [], ◌∷◌, ◌++◌, length, take, drop, slice_range, count_by, Some, Ok, Err, refl, sym, ap, subst, ◌∙◌, length-drop, arith}
use Rattle.std.proofs.lemmas.List.{map-append, take_all, take-take, take-append-le, drop-append-le, take-append-drop, length-take-le}
use Rattle.std.specs.Str.{str_to_ascii_lowercase}
use Rattle.kp_base.specs.declared.refused.Part.{Part}
use Rattle.kp_base.specs.declared.refused.Refused.{Refused}
use Rattle.kp_base.specs.declared.refused.Stop.{Stop}
use Rattle.kp_base.specs.declared.refused.Stop.TheVariants as causes
use Rattle.kp_lex.specs.declared.token.Token.{Token}
use Rattle.kp_lex.specs.declared.cutting.Beginning.{Beginning}
use Rattle.kp_lex.specs.Cutting.{Cut}
use Rattle.kp_lex.specs.Places.{place_of}
use Rattle.kp_lex.specs.Spans.{InOrder}
use Rattle.kp_lex.specs.Levels.{up_to, reach, BeginsCutting}
use Rattle.kp_lex.proofs.Public.{spans_in_order}
use Rattle.kp_base.proofs.Cases.{some_none}
use Rattle.kp_tree_grammar.specs.declared.tree.Word.{Word}
use Rattle.kp_tree_grammar.specs.Language.{Tok, seen_in, all_seen_in, Sort, El, Form, Reason, Syntax, Unsupported, At, stop, Outcome, ◌>>=◌, ended, go, level, levels, deep, followed}
use Rattle.kp_tree_grammar.specs.Symbols.{symbol_of}
use Rattle.kp_tree_grammar.proofs.Public.{GoesOn, goes_on, Kept, kept}
use Rattle.kp_tree_cursor.specs.Lexemes.{byte_at}
use Rattle.kp_tree_parts.specs.Readers.{whole_at}
use Rattle.kp_base.specs.Files.{most_bytes}
use Rattle.kp_tree.specs.Files.{ReadsShallow, RefusedAt, offending, too_deep, refusal_for, refusal_at, HasTree, Refuses, stops, AnswersTokens, AnswersFile, IsToldWithin}
use Rattle.kp_tree.proofs.OneAnswer.{refused_once, not_refused}
use Rattle.kp_tree.proofs.Whole.{answered, is_refused}

-- ---- tokens

module _ {b : Bool} {c : Sort} (X : Form b c) (ts more : List (Tok Word)) where
  -- the reader refuses what is refused
  refused_by : (at : At Word) → RefusedAt X ts at → (r : Outcome Word (El Word c)) → whole_at X ts ≡ r → whole_at X ts ≡ Err at
  refused_by at h (Ok x) e = absurd (not_refused b c X ts x.0 at (answered X ts (Ok x) e).0 h)
  refused_by at h (Err there) e = e ∙ ap (λ (a : At Word). Err a) (refused_once b c X ts there at (answered X ts (Err there) e) h)

  ended_onward : (x : El Word c) (rest : List (Tok Word)) (s : Outcome Word (El Word c)) (at : At Word) → (0 < length rest → s ≡ Ok (x, rest ++ more)) → ended x rest ≡ Err at → (s >>= λ x. ended x.0 x.1) ≡ Err (followed at more)
  ended_onward x [] s at h e = absurd cc
  ended_onward x (t ∷ us) s at h e = let same : stop (t ∷ us) ≡ at = cc in rw (h (omega arith)) (ap (λ (a : At Word). Err (followed a more)) same)

  outcome_onward : (r s : Outcome Word (El Word c)) (at : At Word) → GoesOn more r s → (r >>= λ x. ended x.0 x.1) ≡ Err at → 0 < length at.tokens → (s >>= λ x. ended x.0 x.1) ≡ Err (followed at more)
  outcome_onward (Ok x) s at h e some = ended_onward x.0 x.1 s at h e
  outcome_onward (Err there) s at h e some = let same : there ≡ at = cc in rw (h (subst (λ (a : At Word). 0 < length a.tokens) (sym same) some)) (ap (λ (a : At Word). Err (followed a more)) same)

  whole_onward : (at : At Word) → whole_at X ts ≡ Err at → 0 < length at.tokens → whole_at X (ts ++ more) ≡ Err (followed at more)
  unfolding whole_at
  whole_onward at e some = outcome_onward (go (level levels) b c X ts) (go (level levels) b c X (ts ++ more)) at (goes_on more levels b c X ts) e some

  -- a token is left where they are refused
  some_left : (us : List (Tok Word)) (at : At Word) → deep levels ts ≡ Some us → 0 < length us → RefusedAt X ts at → 0 < length at.tokens
  some_left us at opens some (offending _ h f) = omega (arith, some, f us opens)
  some_left us at opens some (too_deep vs e f) = let same : us ≡ vs = cc (opens, e) in subst (λ (ws : List (Tok Word)). 0 < length ws) same some

  refused_onward : (at : At Word) → 0 < length at.tokens → RefusedAt X ts at → RefusedAt X (ts ++ more) (followed at more)
  refused_onward at some h = is_refused X (ts ++ more) (followed at more) (whole_onward at (refused_by at h (whole_at X ts) refl) some)

-- ---- texts

module _ (text : List ℕ) (n : ℕ) (within : n ≤ length text) where
  range_begun : (from to : ℕ) → from ≤ to → to ≤ n → slice_range (take n text) from to ≡ slice_range text from to
  range_begun from to le less =
      let len : length (take n text) ≡ n = length-take-le n text within in
      let start : from ≤ length (take n text) = omega (arith, le, less, len) in
      let count : to - from ≤ length (drop from (take n text)) = omega (arith, le, less, len, length-drop from (take n text)) in
      sym (take-append-le (to - from) (drop from (take n text)) (drop n text) count)
      ∙ ap (take (to - from)) (sym (drop-append-le from (take n text) (drop n text) start) ∙ ap (drop from) (take-append-drop n text))

  order_ends : (from to : ℕ) (ts : List Token) → InOrder from ts to → from ≤ to
  order_ends from to [] o = o
  order_ends from to (t ∷ ts) o = omega (arith, o.0, o.1, order_ends t.to to ts o.2)

  token_begun : (t : Token) → t.from ≤ t.to → t.to ≤ n → seen_in (take n text) t ≡ seen_in text t
  token_begun t le less =
      ap (λ (w : List ℕ). record { symbol = symbol_of t.kind (str_to_ascii_lowercase w); word = record { text = str_to_ascii_lowercase w; byte = t.from } }) (range_begun t.from t.to le less)

  seen_begun : (from : ℕ) (ts : List Token) → InOrder from ts n → all_seen_in (take n text) ts ≡ all_seen_in text ts
  seen_begun from [] o = refl
  seen_begun from (t ∷ ts) o =
      ap (λ (u : Tok Word). u ∷ all_seen_in (take n text) ts) (token_begun t (omega (arith, o.1)) (order_ends t.to n ts o.2)) ∙ ap (λ (us : List (Tok Word)). seen_in text t ∷ us) (seen_begun t.to ts o.2)

  place_begun : (part : Part) (byte : ℕ) → byte ≤ n → place_of part (take n text) byte ≡ place_of part text byte
  place_begun part byte le = ap (λ (bs : List ℕ). record { part = part; line = 1 + count_by (λ b. b == 10) bs; byte = byte }) (take-take byte n text le)

  byte_begun : (us more : List (Tok Word)) → 0 < length us → byte_at (take n text) us ≡ byte_at text (us ++ more)
  byte_begun [] more some = absurd (omega (arith, some))
  byte_begun (t ∷ us) more some = refl

  told_within : (part : Part) (reason : Reason) (byte : ℕ) (us : List ℕ) → IsToldWithin us (causes.Refused (refusal_for reason (place_of part us byte))) → byte ≤ length us
  told_within part Syntax byte us h = h
  told_within part Unsupported byte us h = h

  refusal_begun : (part : Part) (at : At Word) (more : List (Tok Word)) → 0 < length at.tokens → byte_at (take n text) at.tokens ≤ n → refusal_at part (take n text) at ≡ refusal_at part text (followed at more)
  refusal_begun part at more some le =
      ap (refusal_for at.reason) (place_begun part (byte_at (take n text) at.tokens) le ∙ ap (place_of part text) (byte_begun at.tokens more some))

-- ---- files

module _ {b : Bool} {c : Sort} (part : Part) (X : Form b c) (text : List ℕ) (short : length text ≤ most_bytes) (f : Beginning) (begins : BeginsCutting levels text f) where
  seen_same : all_seen_in (take f.to text) f.tokens ≡ all_seen_in text f.tokens
  seen_same =
      let order : InOrder 0 f.tokens f.to = subst (λ (k : ℕ). InOrder 0 f.tokens k) (length-take-le f.to text begins.within) (spans_in_order begins.begun) in
      seen_begun text f.to begins.within 0 f.tokens order

  -- all was kept
  all_kept : up_to levels begins.whole ≡ begins.whole → Cut 0 text f.tokens
  all_kept e = subst (λ (ts : List Token). Cut 0 text ts) (sym (begins.kept ∙ e)) begins.cut

  all_bytes : ((end : ℕ) → reach levels begins.whole end ≡ end) → take f.to text ≡ text
  all_bytes e = take_all f.to text (omega (arith, begins.end, e (length text)))

  opens_deep : (us : List (Tok Word)) → deep levels (all_seen_in (take f.to text) (up_to levels begins.whole)) ≡ Some us → deep levels (all_seen_in (take f.to text) f.tokens) ≡ Some us
  opens_deep us e = ap (λ (ts : List Token). deep levels (all_seen_in (take f.to text) ts)) begins.kept ∙ e

  read_by : (x : El Word c) → ReadsShallow X (all_seen_in (take f.to text) f.tokens) x → Kept (take f.to text) levels begins.whole → HasTree X text x
  read_by x h (inl k) = record { short = short; tokens = f.tokens; cut = all_kept k.0; reads = subst (λ (us : List (Tok Word)). ReadsShallow X us x) seen_same h }
  read_by x h (inr k) = absurd (some_none (opens_deep k.1 k.3) h.shallow)

  -- what is read is the whole file
  pub begun_read : (x : El Word c) → ReadsShallow X (all_seen_in (take f.to text) f.tokens) x → HasTree X text x
  begun_read x h = read_by x h (kept (take f.to text) levels begins.whole)

  -- the tokens of the file, seen as those that are kept and the others
  kept_and_rest : (rest : List Token) → begins.whole ≡ up_to levels begins.whole ++ rest → all_seen_in (take f.to text) f.tokens ++ all_seen_in text rest ≡ all_seen_in text begins.whole
  kept_and_rest rest is =
      ap (λ (us : List (Tok Word)). us ++ all_seen_in text rest) seen_same
      ∙ sym (map-append (seen_in text) f.tokens rest)
      ∙ ap (all_seen_in text) (ap (λ (ts : List Token). ts ++ rest) begins.kept ∙ sym is)

  refused_in : (at : At Word) → RefusedAt X (all_seen_in (take f.to text) f.tokens) at → byte_at (take f.to text) at.tokens ≤ f.to → Kept (take f.to text) levels begins.whole → Refuses part X text (refusal_at part (take f.to text) at)
  refused_in at h le (inl k) =
      let bytes : take f.to text ≡ text = all_bytes k.1 in
      subst (λ (us : List ℕ). Refuses part X text (refusal_at part us at)) (sym bytes) (stops f.tokens at short (all_kept k.0) (subst (λ (us : List (Tok Word)). RefusedAt X us at) seen_same h))
  refused_in at h le (inr k) =
      let front : List (Tok Word) = all_seen_in (take f.to text) f.tokens in
      let more : List (Tok Word) = all_seen_in text k.0 in
      let some : 0 < length at.tokens = some_left X front more k.1 at (opens_deep k.1 k.3) k.4 h in
      let refused : RefusedAt X (all_seen_in text begins.whole) (followed at more) = subst (λ (us : List (Tok Word)). RefusedAt X us (followed at more)) (kept_and_rest k.0 k.2) (refused_onward X front more at some h) in
      subst (λ (r : Refused). Refuses part X text r) (sym (refusal_begun text f.to begins.within part at more some le)) (stops begins.whole (followed at more) short begins.cut refused)

  refused_at : (r : Refused) (at : At Word) → RefusedAt X (all_seen_in (take f.to text) f.tokens) at → r ≡ refusal_at part (take f.to text) at → IsToldWithin (take f.to text) (causes.Refused r) → Refuses part X text r
  refused_at r at h is told =
      let place : IsToldWithin (take f.to text) (causes.Refused (refusal_at part (take f.to text) at)) = subst (λ (q : Refused). IsToldWithin (take f.to text) (causes.Refused q)) is told in
      let le : byte_at (take f.to text) at.tokens ≤ f.to = omega (arith, told_within text f.to begins.within part at.reason (byte_at (take f.to text) at.tokens) (take f.to text) place, length-take-le f.to text begins.within) in
      subst (λ (q : Refused). Refuses part X text q) (sym is) (refused_in at h le (kept (take f.to text) levels begins.whole))

  -- what is refused is refused as the whole file
  pub begun_refused : {N T : Type 0} (seen : N → El Word c) (view : T → El Word c) (e : Stop) → AnswersTokens part X seen (take f.to text) f.tokens (Err e) → IsToldWithin (take f.to text) e → AnswersFile part X view text (Err e)
  begun_refused seen view causes.Memory h told = tt
  begun_refused seen view (causes.Refused r) h told = refused_at r h.0 h.1.0 h.1.1 told

-- ---- what the parser answers for the bytes of a beginning

module _ {b : Bool} {c : Sort} (part : Part) (X : Form b c) (text : List ℕ) (short : length text ≤ most_bytes) (f : Beginning) (most : ℕ) (same : most ≡ levels) (begins : BeginsCutting most text f) (bytes : List ℕ) (front : bytes ≡ take f.to text) where
  begins_so : BeginsCutting levels text f
  begins_so = subst (λ (n : ℕ). BeginsCutting n text f) same begins

  pub file_refused : {N T : Type 0} (seen : N → El Word c) (view : T → El Word c) (e : Stop) → AnswersTokens part X seen bytes f.tokens (Err e) → IsToldWithin bytes e → AnswersFile part X view text (Err e)
  file_refused {N} {T} seen view e h told =
      begun_refused part X text short f begins_so {N = N} {T = T} seen view e (subst (λ (us : List ℕ). AnswersTokens part X seen us f.tokens (Err e)) front h) (subst (λ (us : List ℕ). IsToldWithin us e) front told)

  pub file_read : (x y : El Word c) → ReadsShallow X (all_seen_in bytes f.tokens) x → y ≡ x → HasTree X text y
  file_read x y h e = subst (λ (z : El Word c). HasTree X text z) (sym e) (begun_read part X text short f begins_so x (subst (λ (us : List ℕ). ReadsShallow X (all_seen_in us f.tokens) x) front h))
