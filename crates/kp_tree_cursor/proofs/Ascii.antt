-- The text of each token is ASCII, and so is what is cut from the text in lower case.
use Rattle.std.proofs.Common.{◌≡◌, ℕ, zero, suc, ◌==◌, ◌-◌, ◌≤◌, ◌<◌, Bool, true, false, nat_le, List, [], ◌∷◌, length, slice_range, slice_index_or, map, drop, refl, sym, ap, ◌∙◌, arith}
use Rattle.std.specs.Str.{IsAscii, IsUtf8, str_to_ascii_lowercase}
use Rattle.std.specs.Char.{to_ascii_lowercase}
use Rattle.std.specs.List.{drop-map, take-map}
use Rattle.std.proofs.lemmas.Str.{IsUtf8-from_ascii}
use Rattle.std.proofs.lemmas.Option.{slice_get-get_or}
use Rattle.std.proofs.lemmas.List.{length-map}
use Rattle.std.proofs.lemmas.Str.Ascii.{IsAscii-cons}
use Rattle.kp_lex.specs.declared.token.Token.{Token}
use Rattle.kp_lex.specs.declared.token.TokenKind.{TokenKind}
use Rattle.kp_lex.specs.Bytes.{class_of, follows, follows_class}
use Rattle.kp_lex.specs.Cutting.{AllAre, IsToken, left, right, dash, equal, name, variable, keyword, Cut}
use Rattle.kp_lex.specs.Spans.{IsTokenOf}
use Rattle.kp_lex.specs.Words.{folded}
use Rattle.kp_lex.proofs.Public.{each_span_is_a_token}
use Rattle.kp_tree_grammar.specs.Symbols.{symbol_of, seen_in, all_seen_in}
use Rattle.kp_tree_cursor.specs.Lexemes.{lexed}

-- a byte that isn't ASCII begins nothing, like 200
high : (b : ℕ) → 128 ≤ b → class_of b ≡ class_of 200
unfolding class_of
high b h =
    let a1 : nat_le 48 b ≡ true = grind (arith, h) in
    let a2 : nat_le b 57 ≡ false = grind (arith, h) in
    let a3 : nat_le 65 b ≡ true = grind (arith, h) in
    let a4 : nat_le b 90 ≡ false = grind (arith, h) in
    let a5 : nat_le 97 b ≡ true = grind (arith, h) in
    let a6 : nat_le b 122 ≡ false = grind (arith, h) in
    let e1 : (b == 40) ≡ false = grind (arith, h) in
    let e2 : (b == 41) ≡ false = grind (arith, h) in
    let e3 : (b == 45) ≡ false = grind (arith, h) in
    let e4 : (b == 61) ≡ false = grind (arith, h) in
    let e5 : (b == 63) ≡ false = grind (arith, h) in
    let e6 : (b == 58) ≡ false = grind (arith, h) in
    let e7 : (b == 59) ≡ false = grind (arith, h) in
    let e8 : (b == 95) ≡ false = grind (arith, h) in
    let e9 : (b == 10) ≡ false = grind (arith, h) in
    let f1 : (b == 32) ≡ false = grind (arith, h) in
    let f2 : (b == 9) ≡ false = grind (arith, h) in
    let f3 : (b == 13) ≡ false = grind (arith, h) in
    rw (a1, a2, a3, a4, a5, a6, e1, e2, e3, e4, e5, e6, e7, e8, e9, f1, f2, f3) refl

below : (b : ℕ) → (class_of b ≡ class_of 200 → ⊥) → b < 128
below b other = go (nat_le 128 b) refl where
  go : (v : Bool) → nat_le 128 b ≡ v → b < 128
  go true l = absurd (other (high b (grind (arith, l))))
  go false l = grind (arith, l)

no_high : follows 200 ≡ true → ⊥
unfolding class_of
no_high e = cc

follow_below : (bs : List ℕ) → AllAre follows bs → IsAscii bs
follow_below [] h i = omega arith
follow_below (b ∷ bs) h zero = below b (λ e. no_high (ap follows_class (sym e) ∙ h.0))
follow_below (b ∷ bs) h (suc i) = follow_below bs h.1 i

none_ascii : IsAscii []
none_ascii i = omega arith

token_ascii : {k : TokenKind} {w : List ℕ} → IsToken k w → IsAscii w
unfolding class_of
token_ascii (left {b = b} e) = IsAscii-cons b [] (below b (λ same. let o = sym same ∙ e in cc)) none_ascii
token_ascii (right {b = b} e) = IsAscii-cons b [] (below b (λ same. let o = sym same ∙ e in cc)) none_ascii
token_ascii (dash {b = b} e) = IsAscii-cons b [] (below b (λ same. let o = sym same ∙ e in cc)) none_ascii
token_ascii (equal {b = b} e) = IsAscii-cons b [] (below b (λ same. let o = sym same ∙ e in cc)) none_ascii
token_ascii (name {b = b} {bs = bs} e h) = IsAscii-cons b bs (below b (λ same. let o = sym same ∙ e in cc)) (follow_below bs h)
token_ascii (variable {q = q} {b = b} {bs = bs} s e h) = IsAscii-cons q (b ∷ bs) (below q (λ same. let o = sym same ∙ s in cc)) (IsAscii-cons b bs (below b (λ same. let o = sym same ∙ e in cc)) (follow_below bs h))
token_ascii (keyword {q = q} {b = b} {bs = bs} s e h) = IsAscii-cons q (b ∷ bs) (below q (λ same. let o = sym same ∙ s in cc)) (IsAscii-cons b bs (below b (λ same. let o = sym same ∙ e in cc)) (follow_below bs h))

-- what is cut from the text in lower case is the token in lower case
pub lower_span : (text : List ℕ) (t : Token) → slice_range (str_to_ascii_lowercase text) t.from t.to ≡ folded text t
lower_span text t = rw (drop-map to_ascii_lowercase t.from text) (take-map to_ascii_lowercase (t.to - t.from) (drop t.from text))

pub span_utf8 : (text : List ℕ) (t : Token) → IsTokenOf text t → IsUtf8 (slice_range (str_to_ascii_lowercase text) t.from t.to)
span_utf8 text t h = rw (lower_span text t) (IsUtf8-from_ascii (folded text t) (token_ascii h.lowered))

-- each of the tokens of a text
token_at : (text : List ℕ) (ts : List Token) (i : ℕ) (d : Token) → Cut 0 text ts → i < length ts → IsTokenOf text (slice_index_or ts i d)
token_at text ts i d cut less = each_span_is_a_token ts i (slice_index_or ts i d) cut (slice_get-get_or ts i d less)

pub begins_first : (text : List ℕ) (ts : List Token) (i : ℕ) (d : Token) → Cut 0 text ts → i < length ts → (slice_index_or ts i d).from ≤ (slice_index_or ts i d).to
begins_first text ts i d cut less = omega (arith, (token_at text ts i d cut less).not_empty)

pub ends_within : (text lower : List ℕ) (ts : List Token) (i : ℕ) (d : Token) → Cut 0 text ts → i < length ts → lower ≡ str_to_ascii_lowercase text → (slice_index_or ts i d).to ≤ length lower
ends_within text lower ts i d cut less e = rw e (omega (arith, (token_at text ts i d cut less).within, length-map text to_ascii_lowercase))

pub is_utf8 : (text lower : List ℕ) (ts : List Token) (i : ℕ) (d : Token) → Cut 0 text ts → i < length ts → lower ≡ str_to_ascii_lowercase text → IsUtf8 (slice_range lower (slice_index_or ts i d).from (slice_index_or ts i d).to)
is_utf8 text lower ts i d cut less e = rw e (span_utf8 text (slice_index_or ts i d) (token_at text ts i d cut less))

-- tokens from a text in lower case are the tokens of the text
lexed_is : (text : List ℕ) (t : Token) → lexed (str_to_ascii_lowercase text) t ≡ seen_in text t
lexed_is text t = ap (λ (w : List ℕ). record { symbol = symbol_of t.kind w; word = record { text = w; byte = t.from } }) (lower_span text t)

pub all_lexed : (text lower : List ℕ) (ts : List Token) → lower ≡ str_to_ascii_lowercase text → map (lexed lower) ts ≡ all_seen_in text ts
all_lexed text lower [] e = refl
all_lexed text lower (t ∷ ts) e = let rest = all_lexed text lower ts e in let first : lexed lower t ≡ seen_in text t = rw e (lexed_is text t) in rw (first, rest) refl
