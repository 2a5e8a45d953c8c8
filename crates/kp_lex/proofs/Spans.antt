-- The spans of a cutting.
use Rattle.std.proofs.Common.{◌≡◌, ℕ, zero, suc, ◌+◌, ◌-◌, ◌≤◌, ◌<◌, List, [], ◌∷◌, ◌++◌, length, drop, slice_get, slice_range, Some, refl, sym, subst, length-append, append_assoc, arith}
use Rattle.std.proofs.lemmas.List.{drop_at, take_at}
use Rattle.std.specs.Str.{str_to_ascii_lowercase}
use Rattle.kp_lex.specs.declared.token.Token.{Token}
use Rattle.kp_lex.specs.declared.token.TokenKind.{TokenKind}
use Rattle.kp_lex.specs.Cutting.{spanned, Cut, at_end, past_blank, past_comment, a_token, IsToken, left, right, dash, equal, name, variable, keyword}
use Rattle.kp_lex.specs.Spans.{InOrder, IsTokenOf}
use Rattle.kp_lex.proofs.LowerCase.{lowered}

-- a token has a byte
pub some_byte : {k : TokenKind} {w : List ℕ} → IsToken k w → 0 < length w
some_byte (left e) = omega arith
some_byte (right e) = omega arith
some_byte (dash e) = omega arith
some_byte (equal e) = omega arith
some_byte (name e h) = omega arith
some_byte (variable s e h) = omega arith
some_byte (keyword s e h) = omega arith

-- spans that begin later also begin earlier
earlier : (a b c : ℕ) (ts : List Token) → a ≤ b → InOrder b ts c → InOrder a ts c
earlier a b c [] h o = omega (arith, h, o)
earlier a b c (t ∷ ts) h o = (omega (arith, h, o.0), o.1, o.2)

-- where they end, told in another way
ending : (a b c : ℕ) (ts : List Token) → b ≡ c → InOrder a ts b → InOrder a ts c
ending a b c ts e o = subst (λ n. InOrder a ts n) e o

pub in_order : (at : ℕ) {text : List ℕ} {ts : List Token} → Cut at text ts → InOrder at ts (at + length text)
in_order at at_end = omega arith
in_order at (past_blank {b = b} {bs = bs} {ts = ts} e h) =
    earlier at (at + 1) (at + length (b ∷ bs)) ts (omega arith) (ending (at + 1) (at + 1 + length bs) (at + length (b ∷ bs)) ts (omega arith) (in_order (at + 1) h))
in_order at (past_comment {s = s} w rest {ts = ts} e a l h) =
    let n : ℕ = at + suc (length w) in
    earlier at n (at + length (s ∷ (w ++ rest))) ts (omega arith) (ending n (n + length rest) (at + length (s ∷ (w ++ rest))) ts (omega (arith, length-append w rest)) (in_order n h))
in_order at (a_token {w = w} {rest = rest} {ts = ts} t long h) =
    let n : ℕ = at + length w in
    (omega arith, omega (arith, some_byte t), ending n (n + length rest) (at + length (w ++ rest)) ts (omega (arith, length-append w rest)) (in_order n h))

pub in_text : {text : List ℕ} {ts : List Token} → Cut 0 text ts → InOrder 0 ts (length text)
in_text {text} {ts} h = ending 0 (0 + length text) (length text) ts (omega arith) (in_order 0 h)

-- there are no more of them than bytes
room : (a b : ℕ) (ts : List Token) → InOrder a ts b → a + length ts ≤ b
room a b [] o = omega (arith, o)
room a b (t ∷ ts) o = omega (arith, o.0, o.1, room t.to b ts o.2)

pub at_most : {text : List ℕ} (ts : List Token) → Cut 0 text ts → length ts ≤ length text
at_most {text} ts h = omega (arith, room 0 (length text) ts (in_text h))

-- ---- each token

range_of : (front w rest : List ℕ) (from n : ℕ) → length front ≡ from → length w ≡ n → slice_range (front ++ (w ++ rest)) from (from + n) ≡ w
range_of front w rest from n e len =
    let skipped : drop from (front ++ (w ++ rest)) ≡ w ++ rest = drop_at front (w ++ rest) from e in
    let count : from + n - from ≡ n = omega arith in
    rw (skipped, count) (take_at w rest n len)

same_kind : (front : List ℕ) {k : TokenKind} (w rest : List ℕ) (at : ℕ) → length front ≡ at → IsToken k w → IsTokenOf (front ++ (w ++ rest)) (spanned k at (length w))
same_kind front {k} w rest at e t =
    let bytes : slice_range (front ++ (w ++ rest)) at (at + length w) ≡ w = range_of front w rest at (length w) e refl in
    record {
      not_empty = omega (arith, some_byte t);
      within = omega (arith, length-append front (w ++ rest), length-append w rest, e);
      spelled = subst (λ (v : List ℕ). IsToken k v) (sym bytes) t;
      lowered = subst (λ (v : List ℕ). IsToken k (str_to_ascii_lowercase v)) (sym bytes) (lowered t);
    }

each : (front : List ℕ) {at : ℕ} {text : List ℕ} {ts : List Token} (i : ℕ) (t : Token) → length front ≡ at → Cut at text ts → slice_get ts i ≡ Some t → IsTokenOf (front ++ text) t
each front i t e at_end got = absurd cc
each front i t e (past_blank {b = b} {bs = bs} is h) got =
    subst (λ (l : List ℕ). IsTokenOf l t) (append_assoc front (b ∷ []) bs) (each (front ++ b ∷ []) i t (omega (arith, e, length-append front (b ∷ []))) h got)
each front i t e (past_comment {s = s} w rest is a l h) got =
    subst (λ (l : List ℕ). IsTokenOf l t) (append_assoc front (s ∷ w) rest) (each (front ++ s ∷ w) i t (omega (arith, e, length-append front (s ∷ w))) h got)
each front zero t e (a_token {at = at} {k = k} {w = w} {rest = rest} is long h) got =
    let same : spanned k at (length w) ≡ t = cc (got) in
    subst (λ (u : Token). IsTokenOf (front ++ (w ++ rest)) u) same (same_kind front w rest at e is)
each front (suc i) t e (a_token {w = w} {rest = rest} is long h) got =
    subst (λ (l : List ℕ). IsTokenOf l t) (append_assoc front w rest) (each (front ++ w) i t (omega (arith, e, length-append front w)) h got)

pub each_token : {text : List ℕ} (ts : List Token) (i : ℕ) (t : Token) → Cut 0 text ts → slice_get ts i ≡ Some t → IsTokenOf text t
each_token ts i t h got = each [] i t refl h got
