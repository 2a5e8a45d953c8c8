-- Cutting from left to right, as a loop does.
use Rattle.std.proofs.Common.{◌≡◌, ℕ, zero, suc, ◌+◌, ◌≤◌, ◌<◌, List, [], ◌∷◌, ◌++◌, length, drop, Result, Ok, Err, refl, sym, ap, ◌∙◌, append_assoc, append-nil, length-drop, arith}
use Rattle.kp_lex.specs.declared.token.TokenKind.{TokenKind}
use Rattle.kp_lex.specs.declared.token.Token.{Token}
use Rattle.kp_lex.specs.declared.class.Class.{Class}
use Rattle.kp_lex.specs.declared.class.Class.TheVariants as classes
use Rattle.kp_lex.specs.declared.piece.Piece.{Piece}
use Rattle.kp_lex.specs.declared.piece.Piece.TheVariants as pieces
use Rattle.kp_lex.specs.Bytes.{class_of}
use Rattle.kp_lex.specs.Pieces.{signed_class, signed, piece_class, piece_of}
use Rattle.kp_lex.specs.Cutting.{spanned}
use Rattle.kp_lex.specs.Scanning.{with, after, cut_from, cut}

-- it takes at least a byte
abbrev Moves : Piece → Type 0
Moves (pieces.Skip n) = 0 < n
Moves (pieces.Token k n) = 0 < n
Moves pieces.Bad = Unit {0}

moves_signed_class : (k : TokenKind) (c : Class) (bs : List ℕ) → Moves (signed_class k c bs)
moves_signed_class k classes.Alphanumeric bs = omega arith
moves_signed_class k _ bs = tt

moves_signed : (k : TokenKind) (bs : List ℕ) → Moves (signed k bs)
moves_signed k [] = tt
moves_signed k (b ∷ bs) = moves_signed_class k (class_of b) bs

moves_class : (c : Class) (bs : List ℕ) → Moves (piece_class c bs)
moves_class classes.Alphanumeric bs = omega arith
moves_class classes.Left bs = omega arith
moves_class classes.Right bs = omega arith
moves_class classes.Dash bs = omega arith
moves_class classes.Equal bs = omega arith
moves_class classes.Question bs = moves_signed _ bs
moves_class classes.Colon bs = moves_signed _ bs
moves_class classes.Semicolon bs = omega arith
moves_class classes.LineFeed bs = omega arith
moves_class classes.Blank bs = omega arith
moves_class _ bs = tt

same_after : (p : Piece) (at b : ℕ) (bs : List ℕ) (f g : ℕ → List ℕ → Result (List Token) ℕ) → Moves p → ((i : ℕ) (rest : List ℕ) → length rest < length (b ∷ bs) → f i rest ≡ g i rest) → after p at (b ∷ bs) f ≡ after p at (b ∷ bs) g
same_after (pieces.Skip n) at b bs f g m h = h (at + n) (drop n (b ∷ bs)) (omega (arith, m, length-drop n (b ∷ bs)))
same_after (pieces.Token k n) at b bs f g m h = ap (with (spanned k at n ∷ [])) (h (at + n) (drop n (b ∷ bs)) (omega (arith, m, length-drop n (b ∷ bs))))
same_after pieces.Bad at b bs f g m h = refl

enough : (n m at : ℕ) (bs : List ℕ) → length bs ≤ n → length bs ≤ m → cut_from n at bs ≡ cut_from m at bs
unfolding cut_from
enough zero zero at bs h k = refl
enough zero (suc m) at [] h k = refl
enough zero (suc m) at (b ∷ bs) h k = absurd (omega (arith, h))
enough (suc n) zero at [] h k = refl
enough (suc n) zero at (b ∷ bs) h k = absurd (omega (arith, k))
enough (suc n) (suc m) at [] h k = refl
enough (suc n) (suc m) at (b ∷ bs) h k =
    same_after (piece_of (b ∷ bs)) at b bs (cut_from n) (cut_from m) (moves_class (class_of b) bs) (λ i rest less. enough n m i rest (omega (arith, less, h)) (omega (arith, less, k)))

pub cut_step : (at b : ℕ) (bs : List ℕ) → cut at (b ∷ bs) ≡ after (piece_of (b ∷ bs)) at (b ∷ bs) cut
unfolding cut_from
cut_step at b bs = same_after (piece_of (b ∷ bs)) at b bs (cut_from (length bs)) cut (moves_class (class_of b) bs) (λ i rest less. enough (length bs) (length rest) i rest (omega (arith, less)) (omega arith))

pub cut_by : (p : Piece) (at : ℕ) (bs : List ℕ) → 0 < length bs → p ≡ piece_of bs → cut at bs ≡ after p at bs cut
cut_by p at [] some e = absurd (omega (arith, some))
cut_by p at (b ∷ bs) some e = cut_step at b bs ∙ ap (λ (q : Piece). after q at (b ∷ bs) cut) (sym e)

regroup : (front : List Token) (t : Token) (r : Result (List Token) ℕ) → with front (with (t ∷ []) r) ≡ with (front ++ t ∷ []) r
regroup front t (Ok ts) = ap (λ (xs : List Token). Ok xs) (simp append_assoc)
regroup front t (Err i) = refl

pub skip_on : (front : List Token) (at n : ℕ) (bs rest : List ℕ) (total : Result (List Token) ℕ) → 0 < length bs → pieces.Skip n ≡ piece_of bs → rest ≡ drop n bs → with front (cut at bs) ≡ total → with front (cut (at + n) rest) ≡ total
skip_on front at n bs rest total some e is so_far = rw is (ap (with front) (sym (cut_by (pieces.Skip n) at bs some e)) ∙ so_far)

pub token_on : (front : List Token) (k : TokenKind) (at n : ℕ) (bs rest : List ℕ) (total : Result (List Token) ℕ) → 0 < length bs → pieces.Token k n ≡ piece_of bs → rest ≡ drop n bs → with front (cut at bs) ≡ total
    → with (front ++ spanned k at n ∷ []) (cut (at + n) rest) ≡ total
token_on front k at n bs rest total some e is so_far =
    rw is (sym (regroup front (spanned k at n) (cut (at + n) (drop n bs))) ∙ ap (with front) (sym (cut_by (pieces.Token k n) at bs some e)) ∙ so_far)

pub bad_on : (front : List Token) (at : ℕ) (bs : List ℕ) (total : Result (List Token) ℕ) → 0 < length bs → pieces.Bad ≡ piece_of bs → with front (cut at bs) ≡ total → total ≡ Err at
bad_on front at bs total some e so_far = sym so_far ∙ ap (with front) (cut_by pieces.Bad at bs some e)

pub done_on : (front : List Token) (at : ℕ) (bs : List ℕ) (total : Result (List Token) ℕ) → bs ≡ [] → with front (cut at bs) ≡ total → total ≡ Ok front
unfolding cut_from
done_on front at bs total none so_far =
    let e : cut at bs ≡ Ok [] = rw none refl in
    sym so_far ∙ ap (with front) e ∙ ap (λ (ts : List Token). Ok ts) (append-nil front)
