-- Pieces that are put in front of fine ones leave them fine.
use Rattle.std.proofs.Common.{◌≡◌, ℕ, Bool, true, false, ◌&&◌, List, [], ◌∷◌, nat_eq, eqb-true, refl, sym, subst}
use Rattle.std.proofs.lemmas.Bool.{and_parts}
use Rattle.std.specs.List.{AllByRecursion}
use Rattle.kp_lex.specs.declared.token.TokenKind.{TokenKind}
use Rattle.kp_lex.specs.declared.token.TokenKind.TheVariants as kinds
use Rattle.kp_lex.specs.Bytes.{is_alphanumeric, class_of, follows}
use Rattle.kp_lex.specs.Cutting.{AllAre, IsToken, name as a_name, keyword as a_keyword, EndsRunOf}
use Rattle.kp_tree_grammar.specs.Words.{IsLow, IsName}
use Rattle.kp_law_texts.specs.Pieces.{Piece, right, word, spelling, Put, each, spaced, name}
use Rattle.kp_law_texts.specs.Tokens.{Fine, rights, blanks, says}

-- ---- words that are written out

abbrev all_follow : List ℕ → Bool
all_follow [] = true
all_follow (b ∷ bs) = follows b && all_follow bs

-- the bytes are spelled as a token of the kind
abbrev is_spelled : TokenKind → List ℕ → Bool
is_spelled kinds.Name (b ∷ bs) = is_alphanumeric b && all_follow bs
is_spelled kinds.Keyword (q ∷ b ∷ bs) = nat_eq q 58 && (is_alphanumeric b && all_follow bs)
is_spelled _ _ = false

follow_all : (bs : List ℕ) → all_follow bs ≡ true → AllAre follows bs
follow_all [] e = tt
follow_all (b ∷ bs) e = let h = and_parts (follows b) (all_follow bs) e in (h.0, follow_all bs h.1)

pub named : (w : List ℕ) → is_spelled kinds.Name w ≡ true → IsToken kinds.Name w
unfolding class_of
named [] e = absurd cc
named (b ∷ bs) e = let h = and_parts (is_alphanumeric b) (all_follow bs) e in a_name (rw h.0 refl) (follow_all bs h.1)

keyed : (w : List ℕ) → is_spelled kinds.Keyword w ≡ true → IsToken kinds.Keyword w
unfolding class_of
keyed [] e = absurd cc
keyed (q ∷ []) e = absurd cc
keyed (q ∷ b ∷ bs) e =
    let h = and_parts (nat_eq q 58) (is_alphanumeric b && all_follow bs) e in
    let k = and_parts (is_alphanumeric b) (all_follow bs) h.1 in
    subst (λ (c : ℕ). IsToken kinds.Keyword (c ∷ b ∷ bs)) (sym (eqb-true q 58 h.0)) (a_keyword refl (rw k.0 refl) (follow_all bs k.1))

-- ---- pieces in front of fine ones

-- a word that is written out
pub said : {w : List ℕ} {ps : List Piece} → is_spelled kinds.Name w ≡ true → IsLow w → EndsRunOf follows (spelling ps) → Fine ps → Fine (word kinds.Name w ∷ ps)
said {w} e low h f = says (named w e) low h f

pub told : {w : List ℕ} {ps : List Piece} → is_spelled kinds.Keyword w ≡ true → IsLow w → EndsRunOf follows (spelling ps) → Fine ps → Fine (word kinds.Keyword w ∷ ps)
told {w} e low h f = says (keyed w e) low h f

-- what is put in front of fine pieces leaves them fine
pub record Keeps (f : Put) : Type 0 where
  pub keeps : {rest : List Piece} → Fine rest → Fine (f rest)

-- any number
pub fine_each : {T : Type 0} (f : T → Put) (P : T → Type 0) → ((x : T) → P x → Keeps (f x)) → (xs : List T) → AllByRecursion P xs → Keeps (each f xs)
fine_each f P h [] all = record { keeps = λ fine. fine }
fine_each f P h (x ∷ xs) all = record { keeps = λ fine. (h x all.0).keeps ((fine_each f P h xs all.1).keeps fine) }

-- names before a bracket that closes
pub ends_names : (ns : List (List ℕ)) (rest : List Piece) → EndsRunOf follows (spelling (each (spaced name) ns (right ∷ rest)))
unfolding class_of
ends_names [] rest = refl
ends_names (n ∷ ns) rest = refl

pub fine_names : (ns : List (List ℕ)) {rest : List Piece} → AllByRecursion IsName ns → Fine rest → Fine (each (spaced name) ns (right ∷ rest))
unfolding class_of
fine_names [] all f = rights f
fine_names (n ∷ ns) {rest} all f = blanks refl (says all.0.token all.0.low (ends_names ns rest) (fine_names ns all.1 f))
