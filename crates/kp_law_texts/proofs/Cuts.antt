-- Fine pieces are cut into their words.
use Rattle.std.proofs.Common.{◌≡◌, ℕ, ◌+◌, ◌-◌, ◌≤◌, List, [], ◌∷◌, ◌++◌, length, map, slice_range, refl, sym, subst, ◌∙◌, append_assoc, length-append, arith}
use Rattle.std.proofs.lemmas.Bool.{false≢true}
use Rattle.std.proofs.lemmas.List.{take_at, drop_at}
use Rattle.kp_lex.specs.declared.token.TokenKind.{TokenKind}
use Rattle.kp_lex.specs.declared.token.TokenKind.TheVariants as kinds
use Rattle.kp_lex.specs.declared.token.Token.{Token}
use Rattle.kp_lex.specs.Bytes.{class_of, follows}
use Rattle.kp_lex.specs.Cutting.{IsToken, left as a_left, right as a_right, dash, equal, name as a_name, variable as a_variable, keyword as a_keyword, AllAre, IsLongest, EndsRunOf, spanned, Cut, at_end, past_blank, a_token}
use Rattle.kp_lex.proofs.Public.{token_is_longest, token_is_front}
use Rattle.kp_tree_grammar.specs.Symbols.{symbol_of, seen_in, all_seen_in}
use Rattle.kp_tree_grammar.specs.Words.{IsLow}
use Rattle.kp_law_texts.specs.Pieces.{Piece, spelling}
use Rattle.kp_law_texts.specs.Tokens.{spans, words, bare, Fine, done, lefts, rights, blanks, says, FinePiecesAreCut}

-- ---- the cutting

-- a run that ends where the rest begins is the longest
runs_on : (bs cs rest others : List ℕ) → AllAre follows cs → EndsRunOf follows rest → bs ++ rest ≡ cs ++ others → length cs ≤ length bs
runs_on bs [] rest others all h e = omega arith
runs_on [] (c ∷ cs) rest others all h e = absurd (false≢true (sym (subst (EndsRunOf follows) e h) ∙ all.0))
runs_on (b ∷ bs) (c ∷ cs) rest others all h e = omega (arith, runs_on bs cs rest others all.1 h cc)

-- no token of its kind is longer than one whose next byte doesn't go on with it
none_longer : {k : TokenKind} {w v : List ℕ} (rest others : List ℕ) → IsToken k w → IsToken k v → EndsRunOf follows rest → w ++ rest ≡ v ++ others → length v ≤ length w
none_longer rest others (a_left e) (a_left k) h same = omega arith
none_longer rest others (a_right e) (a_right k) h same = omega arith
none_longer rest others (dash e) (dash k) h same = omega arith
none_longer rest others (equal e) (equal k) h same = omega arith
none_longer rest others (a_name {bs = bs} e all) (a_name {bs = cs} k every) h same = omega (arith, runs_on bs cs rest others every h cc)
none_longer rest others (a_variable {bs = bs} s e all) (a_variable {bs = cs} t k every) h same = omega (arith, runs_on bs cs rest others every h cc)
none_longer rest others (a_keyword {bs = bs} s e all) (a_keyword {bs = cs} t k every) h same = omega (arith, runs_on bs cs rest others every h cc)

-- a token whose next byte doesn't go on with it is the longest that stands there
ends_there : {k : TokenKind} (w rest : List ℕ) → IsToken k w → EndsRunOf follows rest → IsLongest w (w ++ rest)
ends_there w rest t h =
    let r = token_is_front rest t in
    token_is_longest w (w ++ rest) r.piece (omega (arith, r.within, r.len, none_longer rest r.others t r.token h r.is))

bracket_left : (at : ℕ) (rest : List ℕ) (ts : List Token) → Cut (at + 1) rest ts → Cut at (40 ∷ rest) (spanned kinds.Left at 1 ∷ ts)
unfolding class_of
bracket_left at rest ts h = a_token {w = 40 ∷ []} (a_left refl) (token_is_longest (40 ∷ []) (40 ∷ rest) refl refl) h

bracket_right : (at : ℕ) (rest : List ℕ) (ts : List Token) → Cut (at + 1) rest ts → Cut at (41 ∷ rest) (spanned kinds.Right at 1 ∷ ts)
unfolding class_of
bracket_right at rest ts h = a_token {w = 41 ∷ []} (a_right refl) (token_is_longest (41 ∷ []) (41 ∷ rest) refl refl) h

cuts : {ps : List Piece} (at : ℕ) → Fine ps → Cut at (spelling ps) (spans at ps)
cuts at done = at_end
cuts at (lefts h) = bracket_left at _ _ (cuts (at + 1) h)
cuts at (rights h) = bracket_right at _ _ (cuts (at + 1) h)
cuts at (blanks e h) = past_blank e (cuts (at + 1) h)
cuts at (says {w = w} {ps = ps} t low e h) = a_token t (ends_there w (spelling ps) t e) (cuts (at + length w) h)

-- ---- what its tokens are to the grammar

-- w stands in the text at a place
record Stands (text : List ℕ) (at : ℕ) (w rest : List ℕ) : Type 0 where
  pub front : List ℕ
  pub is : text ≡ front ++ (w ++ rest)
  pub len : length front ≡ at

cut_out : (text : List ℕ) (at : ℕ) (w rest : List ℕ) → Stands text at w rest → slice_range text at (at + length w) ≡ w
cut_out text at w rest s =
    let n : (at + length w) - at ≡ length w = omega arith in
    rw (s.is, drop_at s.front (w ++ rest) at s.len, n) (take_at w rest (length w) refl)

token_is : (text : List ℕ) (k : TokenKind) (at : ℕ) (w rest : List ℕ) → IsLow w → Stands text at w rest → bare (seen_in text (spanned k at (length w))) ≡ record { symbol = symbol_of k w; word = w }
token_is text k at w rest low s = rw (cut_out text at w rest s, low) refl

-- the pieces stand in the text from a place on
abbrev From : List ℕ → ℕ → List Piece → Type 0
From text at ps = Stands text at [] (spelling ps)

past : (text : List ℕ) (at : ℕ) (w : List ℕ) (ps : List Piece) → Stands text at [] (w ++ spelling ps) → From text (at + length w) ps
past text at w ps s = record {
  front = s.front ++ w;
  is = s.is ∙ sym (append_assoc s.front w (spelling ps));
  len = omega (arith, length-append s.front w, s.len);
}

here : (text : List ℕ) (at : ℕ) (w rest : List ℕ) → Stands text at [] (w ++ rest) → Stands text at w rest
here text at w rest s = record { front = s.front; is = s.is; len = s.len }

seen_as : {ps : List Piece} (text : List ℕ) (at : ℕ) → Fine ps → From text at ps → map bare (all_seen_in text (spans at ps)) ≡ words ps
unfolding symbol_of
seen_as text at done s = refl
seen_as text at (lefts {ps = ps} h) s = rw (token_is text kinds.Left at (40 ∷ []) (spelling ps) refl (here text at (40 ∷ []) (spelling ps) s), seen_as text (at + 1) h (past text at (40 ∷ []) ps s)) refl
seen_as text at (rights {ps = ps} h) s = rw (token_is text kinds.Right at (41 ∷ []) (spelling ps) refl (here text at (41 ∷ []) (spelling ps) s), seen_as text (at + 1) h (past text at (41 ∷ []) ps s)) refl
seen_as text at (blanks {b = b} {ps = ps} e h) s = seen_as text (at + 1) h (past text at (b ∷ []) ps s)
seen_as text at (says {k = k} {w = w} {ps = ps} t low e h) s = rw (token_is text k at w (spelling ps) low (here text at w (spelling ps) s), seen_as text (at + length w) h (past text at w ps s)) refl

pub pieces_are_cut : FinePiecesAreCut
pieces_are_cut ps fine = record { cut = cuts 0 fine; seen = seen_as (spelling ps) 0 fine (record { front = []; is = refl; len = refl }) }
