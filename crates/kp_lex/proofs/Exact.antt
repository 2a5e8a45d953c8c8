-- Cutting from left to right finds the cutting, and the bad byte where there is none.
use Rattle.std.proofs.Common.{◌≡◌, ℕ, zero, suc, ◌+◌, ◌≤◌, ◌<◌, Bool, true, false, cond, List, [], ◌∷◌, ◌++◌, length, drop, Result, Ok, Err, refl, sym, ap, subst, ◌∙◌, length-append, arith}
use Rattle.std.proofs.lemmas.List.{drop_at}
use Rattle.std.specs.List.{prefix_len}
use Rattle.kp_lex.specs.declared.token.TokenKind.{TokenKind}
use Rattle.kp_lex.specs.declared.token.TokenKind.TheVariants as kinds
use Rattle.kp_lex.specs.declared.token.Token.{Token}
use Rattle.kp_lex.specs.declared.class.Class.{Class}
use Rattle.kp_lex.specs.declared.class.Class.TheVariants as classes
use Rattle.kp_lex.specs.declared.piece.Piece.{Piece}
use Rattle.kp_lex.specs.declared.piece.Piece.TheVariants as pieces
use Rattle.kp_lex.specs.Bytes.{class_of, follows, in_line, is_blank, is_semicolon}
use Rattle.kp_lex.specs.Pieces.{signed, piece_of}
use Rattle.kp_lex.specs.Cutting.{AllAre, IsToken, left, right, dash, equal, name, variable, keyword, IsLongest, BeginsNone, EndsRunOf, EndsLine, spanned, Cut, at_end, past_blank, past_comment, a_token, BadAt, bad_here, bad_past_blank, bad_past_comment, bad_past_token}
use Rattle.kp_lex.specs.Scanning.{with, after, cut_from, cut}
use Rattle.kp_lex.proofs.Scan.{cut_step}

-- ---- runs

pub record Runs (p : ℕ → Bool) (bs : List ℕ) (n : ℕ) : Type 0 where
  pub front : List ℕ
  pub rest : List ℕ
  pub is : bs ≡ front ++ rest
  pub len : length front ≡ n
  pub each : AllAre p front
  pub past : drop n bs ≡ rest
  pub ends : EndsRunOf p rest

run_if : (p : ℕ → Bool) (b : ℕ) (bs : List ℕ) (c : Bool) → p b ≡ c → Runs p bs (prefix_len p bs) → Runs p (b ∷ bs) (cond c (1 + prefix_len p bs) 0)
run_if p b bs true e r = record {
  front = b ∷ r.front;
  rest = r.rest;
  is = ap (λ (l : List ℕ). b ∷ l) r.is;
  len = omega (arith, r.len);
  each = (e, r.each);
  past = let k : 1 + prefix_len p bs ≡ suc (prefix_len p bs) = omega arith in rw k r.past;
  ends = r.ends;
}
run_if p b bs false e r = record { front = []; rest = b ∷ bs; is = refl; len = refl; each = tt; past = refl; ends = e }

pub runs : (p : ℕ → Bool) (bs : List ℕ) → Runs p bs (prefix_len p bs)
runs p [] = record { front = []; rest = []; is = refl; len = refl; each = tt; past = refl; ends = tt }
runs p (b ∷ bs) = run_if p b bs (p b) refl (runs p bs)

-- what is all of a kind is within the run
pub within_run : (p : ℕ → Bool) (v rest : List ℕ) → AllAre p v → length v ≤ prefix_len p (v ++ rest)
within_run p [] rest h = omega arith
within_run p (b ∷ v) rest h = rw h.0 (omega (arith, within_run p v rest h.1))

-- ---- a token at the front says which piece stands there: the longest token

pub record Front (k : TokenKind) (v bs : List ℕ) : Type 0 where
  pub most : ℕ
  pub piece : piece_of bs ≡ pieces.Token k most
  pub within : length v ≤ most
  pub whole : List ℕ
  pub others : List ℕ
  pub token : IsToken k whole
  pub is : bs ≡ whole ++ others
  pub len : length whole ≡ most
  pub past : drop most bs ≡ others

one_byte : {k : TokenKind} (b : ℕ) (rest : List ℕ) → IsToken k (b ∷ []) → piece_of (b ∷ rest) ≡ pieces.Token k 1 → Front k (b ∷ []) (b ∷ rest)
one_byte b rest t e = record { most = 1; piece = e; within = omega arith; whole = b ∷ []; others = rest; token = t; is = refl; len = refl; past = refl }

signed_front : {k : TokenKind} (q b : ℕ) (bs rest : List ℕ) → ((us : List ℕ) → AllAre follows us → IsToken k (q ∷ b ∷ us)) → AllAre follows bs → piece_of (q ∷ b ∷ (bs ++ rest)) ≡ pieces.Token k (suc (suc (prefix_len follows (bs ++ rest)))) → Front k (q ∷ b ∷ bs) (q ∷ b ∷ (bs ++ rest))
signed_front q b bs rest make h e =
    let r = runs follows (bs ++ rest) in
    record {
      most = suc (suc (prefix_len follows (bs ++ rest)));
      piece = e;
      within = omega (arith, within_run follows bs rest h);
      whole = q ∷ b ∷ r.front;
      others = r.rest;
      token = make r.front r.each;
      is = ap (λ (l : List ℕ). q ∷ b ∷ l) r.is;
      len = ap suc (ap suc r.len);
      past = r.past;
    }

pub front_is : {k : TokenKind} {v : List ℕ} (rest : List ℕ) → IsToken k v → Front k v (v ++ rest)
front_is rest (left {b = b} e) = one_byte b rest (left e) (rw e refl)
front_is rest (right {b = b} e) = one_byte b rest (right e) (rw e refl)
front_is rest (dash {b = b} e) = one_byte b rest (dash e) (rw e refl)
front_is rest (equal {b = b} e) = one_byte b rest (equal e) (rw e refl)
front_is rest (name {b = b} {bs = bs} e h) =
    let r = runs follows (bs ++ rest) in
    record {
      most = suc (prefix_len follows (bs ++ rest));
      piece = rw e refl;
      within = omega (arith, within_run follows bs rest h);
      whole = b ∷ r.front;
      others = r.rest;
      token = name e r.each;
      is = ap (λ (l : List ℕ). b ∷ l) r.is;
      len = ap suc r.len;
      past = r.past;
    }
front_is rest (variable {q = q} {b = b} {bs = bs} s e h) = signed_front q b bs rest (λ us all. variable s e all) h (rw (s, e) refl)
front_is rest (keyword {q = q} {b = b} {bs = bs} s e h) = signed_front q b bs rest (λ us all. keyword s e all) h (rw (s, e) refl)

-- ---- the outcome of cutting is what the definitions say

abbrev pub Tells : ℕ → List ℕ → Result (List Token) ℕ → Type 0
Tells at bs (Ok ts) = Cut at bs ts
Tells at bs (Err i) = BadAt at bs i

-- the longest: where the piece has the length of the token, none is longer
pub longest : {k : TokenKind} {n : ℕ} (w text : List ℕ) → piece_of text ≡ pieces.Token k n → length w ≡ n → IsLongest w text
longest {k} {n} w text e len j v rest t is =
    let f = front_is rest t in
    let same : pieces.Token j f.most ≡ pieces.Token k n = sym f.piece ∙ sym (ap piece_of is) ∙ e in
    let most : f.most ≡ n = cc (same) in
    omega (arith, f.within, most, len)

none_there : (text : List ℕ) → piece_of text ≡ pieces.Bad → BeginsNone text
none_there text e j v rest t is =
    let f = front_is rest t in
    let clash : pieces.Token j f.most ≡ pieces.Bad = sym f.piece ∙ sym (ap piece_of is) ∙ e in
    absurd (cc (clash))

blank_tells : (at b : ℕ) (bs : List ℕ) (r : Result (List Token) ℕ) → is_blank (class_of b) ≡ true → Tells (at + 1) bs r → Tells at (b ∷ bs) r
blank_tells at b bs (Ok ts) e h = past_blank e h
blank_tells at b bs (Err i) e h = bad_past_blank e h

token_tells : (at : ℕ) {k : TokenKind} (w rest : List ℕ) (r : Result (List Token) ℕ) → IsToken k w → IsLongest w (w ++ rest) → Tells (at + length w) rest r → Tells at (w ++ rest) (with (spanned k at (length w) ∷ []) r)
token_tells at w rest (Ok ts) t l h = a_token t l h
token_tells at w rest (Err i) t l h = bad_past_token t l h

comment_tells : (at s : ℕ) (w rest : List ℕ) (r : Result (List Token) ℕ) → is_semicolon (class_of s) ≡ true → AllAre in_line w → EndsLine rest → Tells (at + suc (length w)) rest r → Tells at (s ∷ (w ++ rest)) r
comment_tells at s w rest (Ok ts) e a l h = past_comment w rest e a l h
comment_tells at s w rest (Err i) e a l h = bad_past_comment w rest e a l h

-- ---- soundness

token_case : (at : ℕ) {k : TokenKind} {v : List ℕ} (text : List ℕ) (f : ℕ → List ℕ → Result (List Token) ℕ) (r : Front k v text) → Tells (at + r.most) r.others (f (at + r.most) r.others) → Tells at text (after (piece_of text) at text f)
token_case at {k} text f r h =
    let whole_piece : piece_of (r.whole ++ r.others) ≡ pieces.Token k r.most = sym (ap piece_of r.is) ∙ r.piece in
    let long : IsLongest r.whole (r.whole ++ r.others) = longest r.whole (r.whole ++ r.others) whole_piece r.len in
    let P : ℕ → Type 0 = λ m. Tells (at + m) r.others (f (at + m) r.others) in
    let base : Tells at (r.whole ++ r.others) (with (spanned k at (length r.whole) ∷ []) (f (at + length r.whole) r.others)) = token_tells at r.whole r.others (f (at + length r.whole) r.others) r.token long (subst P (sym r.len) h) in
    let Q : ℕ → Type 0 = λ m. Tells at (r.whole ++ r.others) (with (spanned k at m ∷ []) (f (at + m) r.others)) in
    let R : List ℕ → Type 0 = λ l. Tells at (r.whole ++ r.others) (with (spanned k at r.most ∷ []) (f (at + r.most) l)) in
    let S : List ℕ → Type 0 = λ l. Tells at l (with (spanned k at r.most ∷ []) (f (at + r.most) (drop r.most text))) in
    let T : Piece → Type 0 = λ q. Tells at text (after q at text f) in
    subst T (sym r.piece) (subst S (sym r.is) (subst R (sym r.past) (subst Q r.len base)))

bad_case : (at b : ℕ) (bs : List ℕ) (f : ℕ → List ℕ → Result (List Token) ℕ) → is_blank (class_of b) ≡ false → is_semicolon (class_of b) ≡ false → piece_of (b ∷ bs) ≡ pieces.Bad → Tells at (b ∷ bs) (after (piece_of (b ∷ bs)) at (b ∷ bs) f)
bad_case at b bs f solid plain e = let T : Piece → Type 0 = λ q. Tells at (b ∷ bs) (after q at (b ∷ bs) f) in subst T (sym e) (bad_here solid plain (none_there (b ∷ bs) e))

blank_case : (at b : ℕ) (bs : List ℕ) (f : ℕ → List ℕ → Result (List Token) ℕ) → is_blank (class_of b) ≡ true → piece_of (b ∷ bs) ≡ pieces.Skip 1 → Tells (at + 1) bs (f (at + 1) bs) → Tells at (b ∷ bs) (after (piece_of (b ∷ bs)) at (b ∷ bs) f)
blank_case at b bs f is e h = let T : Piece → Type 0 = λ q. Tells at (b ∷ bs) (after q at (b ∷ bs) f) in subst T (sym e) (blank_tells at b bs (f (at + 1) bs) is h)

comment_case : (at s : ℕ) (bs : List ℕ) (f : ℕ → List ℕ → Result (List Token) ℕ) (r : Runs in_line bs (prefix_len in_line bs)) → is_semicolon (class_of s) ≡ true → piece_of (s ∷ bs) ≡ pieces.Skip (suc (prefix_len in_line bs))
    → Tells (at + suc (prefix_len in_line bs)) r.rest (f (at + suc (prefix_len in_line bs)) r.rest) → Tells at (s ∷ bs) (after (piece_of (s ∷ bs)) at (s ∷ bs) f)
comment_case at s bs f r is e h =
    let n : ℕ = prefix_len in_line bs in
    let P : ℕ → Type 0 = λ m. Tells (at + suc m) r.rest (f (at + suc n) r.rest) in
    let base : Tells at (s ∷ (r.front ++ r.rest)) (f (at + suc n) r.rest) = comment_tells at s r.front r.rest (f (at + suc n) r.rest) is r.each r.ends (subst P (sym r.len) h) in
    let R : List ℕ → Type 0 = λ l. Tells at (s ∷ (r.front ++ r.rest)) (f (at + suc n) l) in
    let S : List ℕ → Type 0 = λ l. Tells at (s ∷ l) (f (at + suc n) (drop n bs)) in
    let T : Piece → Type 0 = λ q. Tells at (s ∷ bs) (after q at (s ∷ bs) f) in
    subst T (sym e) (subst S (sym r.is) (subst R (sym r.past) base))

-- what is cut from behind the front is told
abbrev Told : ℕ → (ℕ → List ℕ → Result (List Token) ℕ) → Type 0
Told n f = (i : ℕ) (rest : List ℕ) → length rest ≤ n → Tells i rest (f i rest)

behind : {k : TokenKind} {v : List ℕ} (b : ℕ) (bs : List ℕ) (r : Front k v (b ∷ bs)) → 0 < length v → length r.others ≤ length bs
behind b bs r some = let whole : length (b ∷ bs) ≡ length (r.whole ++ r.others) = ap length r.is in omega (arith, whole, length-append r.whole r.others, r.len, r.within, some)

signed_tells : (c : Class) (k : TokenKind) (at q b : ℕ) (bs : List ℕ) (f : ℕ → List ℕ → Result (List Token) ℕ) → class_of b ≡ c → is_blank (class_of q) ≡ false → is_semicolon (class_of q) ≡ false
    → ((us : List ℕ) → class_of b ≡ classes.Alphanumeric → AllAre follows us → IsToken k (q ∷ b ∷ us)) → ((r : List ℕ) → piece_of (q ∷ r) ≡ signed k r) → Told (length (b ∷ bs)) f → Tells at (q ∷ b ∷ bs) (after (piece_of (q ∷ b ∷ bs)) at (q ∷ b ∷ bs) f)
signed_tells classes.Alphanumeric k at q b bs f e solid plain make is told = let r = front_is bs (make [] e tt) in token_case at (q ∷ b ∷ bs) f r (told _ _ (behind q (b ∷ bs) r (omega arith)))
signed_tells _ k at q b bs f e solid plain make is told = bad_case at q (b ∷ bs) f solid plain (is (b ∷ bs) ∙ rw e refl)

class_tells : (c : Class) (at b : ℕ) (bs : List ℕ) (f : ℕ → List ℕ → Result (List Token) ℕ) → class_of b ≡ c → Told (length bs) f → Tells at (b ∷ bs) (after (piece_of (b ∷ bs)) at (b ∷ bs) f)
class_tells classes.Alphanumeric at b bs f e told = let r = front_is bs (name {bs = []} e tt) in token_case at (b ∷ bs) f r (told _ _ (behind b bs r (omega arith)))
class_tells classes.Left at b bs f e told = let r = front_is bs (left e) in token_case at (b ∷ bs) f r (told _ _ (behind b bs r (omega arith)))
class_tells classes.Right at b bs f e told = let r = front_is bs (right e) in token_case at (b ∷ bs) f r (told _ _ (behind b bs r (omega arith)))
class_tells classes.Dash at b bs f e told = let r = front_is bs (dash e) in token_case at (b ∷ bs) f r (told _ _ (behind b bs r (omega arith)))
class_tells classes.Equal at b bs f e told = let r = front_is bs (equal e) in token_case at (b ∷ bs) f r (told _ _ (behind b bs r (omega arith)))
class_tells classes.Question at b [] f e told = bad_case at b [] f (rw e refl) (rw e refl) (rw e refl)
class_tells classes.Question at b (c ∷ cs) f e told = signed_tells (class_of c) kinds.Variable at b c cs f refl (rw e refl) (rw e refl) (λ us l all. variable e l all) (λ r. rw e refl) told
class_tells classes.Colon at b [] f e told = bad_case at b [] f (rw e refl) (rw e refl) (rw e refl)
class_tells classes.Colon at b (c ∷ cs) f e told = signed_tells (class_of c) kinds.Keyword at b c cs f refl (rw e refl) (rw e refl) (λ us l all. keyword e l all) (λ r. rw e refl) told
class_tells classes.Semicolon at b bs f e told =
    let r = runs in_line bs in
    let less : length r.rest ≤ length bs = omega (arith, ap length r.is, length-append r.front r.rest) in
    comment_case at b bs f r (rw e refl) (rw e refl) (told _ _ less)
class_tells classes.LineFeed at b bs f e told = blank_case at b bs f (rw e refl) (rw e refl) (told _ _ (omega arith))
class_tells classes.Blank at b bs f e told = blank_case at b bs f (rw e refl) (rw e refl) (told _ _ (omega arith))
class_tells _ at b bs f e told = bad_case at b bs f (rw e refl) (rw e refl) (rw e refl)

from_tells : (n at : ℕ) (bs : List ℕ) → length bs ≤ n → Tells at bs (cut_from n at bs)
unfolding cut_from
from_tells zero at [] h = at_end
from_tells zero at (b ∷ bs) h = absurd (omega (arith, h))
from_tells (suc n) at [] h = at_end
from_tells (suc n) at (b ∷ bs) h = class_tells (class_of b) at b bs (cut_from n) refl (λ i rest less. from_tells n i rest (omega (arith, less, h)))

pub cut_tells : (at : ℕ) (bs : List ℕ) → Tells at bs (cut at bs)
cut_tells at bs = from_tells (length bs) at bs (omega arith)

-- ---- completeness

blank_piece : (c : Class) (b : ℕ) (bs : List ℕ) → class_of b ≡ c → is_blank c ≡ true → piece_of (b ∷ bs) ≡ pieces.Skip 1
blank_piece classes.Blank b bs e h = rw e refl
blank_piece classes.LineFeed b bs e h = rw e refl
blank_piece _ b bs e h = absurd cc

comment_piece : (c : Class) (s : ℕ) (bs : List ℕ) → class_of s ≡ c → is_semicolon c ≡ true → piece_of (s ∷ bs) ≡ pieces.Skip (suc (prefix_len in_line bs))
comment_piece classes.Semicolon s bs e h = rw e refl
comment_piece _ s bs e h = absurd cc

pub run_is : (p : ℕ → Bool) (w rest : List ℕ) → AllAre p w → EndsRunOf p rest → prefix_len p (w ++ rest) ≡ length w
run_is p [] [] h e = refl
run_is p [] (b ∷ rest) h e = rw e refl
run_is p (b ∷ w) rest h e = rw h.0 (omega (arith, run_is p w rest h.1 e))

step_by : (p : Piece) (at b : ℕ) (bs : List ℕ) → piece_of (b ∷ bs) ≡ p → cut at (b ∷ bs) ≡ after p at (b ∷ bs) cut
step_by p at b bs e = cut_step at b bs ∙ ap (λ (q : Piece). after q at (b ∷ bs) cut) e

comment_step : (at s : ℕ) (w rest : List ℕ) → is_semicolon (class_of s) ≡ true → AllAre in_line w → EndsLine rest → cut at (s ∷ (w ++ rest)) ≡ cut (at + suc (length w)) rest
comment_step at s w rest is h e =
    let n : prefix_len in_line (w ++ rest) ≡ length w = run_is in_line w rest h e in
    let one : piece_of (s ∷ (w ++ rest)) ≡ pieces.Skip (suc (length w)) = comment_piece (class_of s) s (w ++ rest) refl is ∙ ap (λ (m : ℕ). pieces.Skip (suc m)) n in
    step_by (pieces.Skip (suc (length w))) at s (w ++ rest) one ∙ ap (cut (at + suc (length w))) (drop_at w rest (length w) refl)

token_piece : {k : TokenKind} (w rest : List ℕ) → IsToken k w → IsLongest w (w ++ rest) → piece_of (w ++ rest) ≡ pieces.Token k (length w)
token_piece {k} w rest t long =
    let r = front_is rest t in
    let most : r.most ≡ length w = omega (arith, r.within, long k r.whole r.others r.token r.is, r.len) in
    r.piece ∙ ap (λ (m : ℕ). pieces.Token k m) most

token_step : {k : TokenKind} (at : ℕ) (w rest : List ℕ) → IsToken k w → IsLongest w (w ++ rest) → cut at (w ++ rest) ≡ with (spanned k at (length w) ∷ []) (cut (at + length w) rest)
token_step {k} at [] rest t long = elim t [ ]
token_step {k} at (b ∷ w) rest t long =
    step_by (pieces.Token k (length (b ∷ w))) at b (w ++ rest) (token_piece (b ∷ w) rest t long)
    ∙ ap (λ (l : List ℕ). with (spanned k at (length (b ∷ w)) ∷ []) (cut (at + length (b ∷ w)) l)) (drop_at (b ∷ w) rest (length (b ∷ w)) refl)

pub cut_is : {at : ℕ} {bs : List ℕ} {ts : List Token} → Cut at bs ts → cut at bs ≡ Ok ts
unfolding cut_from
cut_is at_end = refl
cut_is (past_blank {at = at} {b = b} {bs = bs} e h) = step_by (pieces.Skip 1) at b bs (blank_piece (class_of b) b bs refl e) ∙ cut_is h
cut_is (past_comment {at = at} {s = s} w rest e a l h) = comment_step at s w rest e a l ∙ cut_is h
cut_is (a_token {at = at} {w = w} {rest = rest} t long h) = token_step at w rest t long ∙ rw (cut_is h) refl

signed_bad : (c : Class) (k : TokenKind) (q b : ℕ) (bs : List ℕ) → class_of b ≡ c → (class_of b ≡ classes.Alphanumeric → IsToken k (q ∷ b ∷ [])) → BeginsNone (q ∷ b ∷ bs) → signed k (b ∷ bs) ≡ pieces.Bad
signed_bad classes.Alphanumeric k q b bs e make none = absurd (none k (q ∷ b ∷ []) bs (make e) refl)
signed_bad _ k q b bs e make none = rw e refl

solid_bad : (c : Class) (b : ℕ) (bs : List ℕ) → class_of b ≡ c → is_blank c ≡ false → is_semicolon c ≡ false → BeginsNone (b ∷ bs) → piece_of (b ∷ bs) ≡ pieces.Bad
solid_bad classes.Alphanumeric b bs e s p none = absurd (none _ (b ∷ []) bs (name {bs = []} e tt) refl)
solid_bad classes.Left b bs e s p none = absurd (none _ (b ∷ []) bs (left e) refl)
solid_bad classes.Right b bs e s p none = absurd (none _ (b ∷ []) bs (right e) refl)
solid_bad classes.Dash b bs e s p none = absurd (none _ (b ∷ []) bs (dash e) refl)
solid_bad classes.Equal b bs e s p none = absurd (none _ (b ∷ []) bs (equal e) refl)
solid_bad classes.Question b [] e s p none = rw e refl
solid_bad classes.Question b (c ∷ cs) e s p none = rw e (signed_bad (class_of c) kinds.Variable b c cs refl (λ l. variable {bs = []} e l tt) none)
solid_bad classes.Colon b [] e s p none = rw e refl
solid_bad classes.Colon b (c ∷ cs) e s p none = rw e (signed_bad (class_of c) kinds.Keyword b c cs refl (λ l. keyword {bs = []} e l tt) none)
solid_bad classes.Underscore b bs e s p none = rw e refl
solid_bad classes.Other b bs e s p none = rw e refl
solid_bad classes.Semicolon b bs e s p none = absurd cc
solid_bad classes.LineFeed b bs e s p none = absurd cc
solid_bad classes.Blank b bs e s p none = absurd cc

pub bad_is : {at : ℕ} {bs : List ℕ} {i : ℕ} → BadAt at bs i → cut at bs ≡ Err i
bad_is (bad_here {at = at} {b = b} {bs = bs} s p none) = step_by pieces.Bad at b bs (solid_bad (class_of b) b bs refl s p none)
bad_is (bad_past_blank {at = at} {b = b} {bs = bs} e h) = step_by (pieces.Skip 1) at b bs (blank_piece (class_of b) b bs refl e) ∙ bad_is h
bad_is (bad_past_comment {at = at} {s = s} w rest e a l h) = comment_step at s w rest e a l ∙ bad_is h
bad_is (bad_past_token {at = at} {w = w} {rest = rest} t long h) = token_step at w rest t long ∙ rw (bad_is h) refl
