-- Tokens seen over their spans.
use Rattle.std.proofs.Common.{◌≡◌, ℕ, ◌+◌, ◌<◌, List, [], ◌∷◌, length, map, drop, take, slice_index_or, ◌++◌, zero, suc, refl, sym, ap, ◌∙◌, append_assoc, arith}
use Rattle.std.specs.List.{All, drop-map, take-map}
use Rattle.std.specs.Str.{str_to_ascii_lowercase}
use Rattle.std.proofs.lemmas.List.{at_drop_more, length-map, map-append}
use Rattle.std.proofs.lemmas.List.Elements.{All-nil, All-from_get_or}
use Rattle.kp_lex.specs.declared.token.Token.{Token}
use Rattle.kp_lex.specs.Cutting.{Cut}
use Rattle.kp_tree_grammar.specs.declared.tree.Word.{Word}
use Rattle.kp_tree_grammar.specs.Symbols.{Tok}
use Rattle.kp_tree_cursor.specs.Lexemes.{lexed, from}
use Rattle.kp_tree_cursor.specs.Spans.{IsWordIn}
use Rattle.kp_tree_cursor.proofs.Ascii.{begins_first, ends_within, is_utf8}

-- the words of a text lie in it
pub words_in : (text lower : List ℕ) (ts : List Token) → Cut 0 text ts → lower ≡ str_to_ascii_lowercase text → All (IsWordIn lower) ts
words_in text lower [] cut e = All-nil (IsWordIn lower)
words_in text lower (t ∷ ts) cut e = All-from_get_or (IsWordIn lower) (t ∷ ts) t (λ i less. record {
  ordered = begins_first text (t ∷ ts) i t cut less;
  within = ends_within text lower (t ∷ ts) i t cut less e;
  utf8 = is_utf8 text lower (t ∷ ts) i t cut less e;
})

-- the token at a place, and those behind it
pub seen_at : (lower : List ℕ) (ts : List Token) (i : ℕ) (t : Token) → i < length ts → t ≡ slice_index_or ts i t → drop i (map (lexed lower) ts) ≡ lexed lower t ∷ drop (i + 1) (map (lexed lower) ts)
seen_at lower ts i t less is =
    drop-map (lexed lower) i ts ∙ at_drop_more (map (lexed lower)) ts i t less ∙ ap (λ u. lexed lower u ∷ map (lexed lower) (drop (i + 1) ts)) (sym is) ∙ ap (λ us. lexed lower t ∷ us) (sym (drop-map (lexed lower) (i + 1) ts))

-- the same where the list is known by its tokens
pub seen_within : (lower : List ℕ) (ts : List Token) (i : ℕ) (d : Token) (now : List (Tok Word)) (t : Tok Word) → map (lexed lower) ts ≡ now → i < length now → t ≡ lexed lower (slice_index_or ts i d) → drop i now ≡ t ∷ drop (i + 1) now
seen_within lower ts i d now t are less is =
    let within : i < length ts = omega (arith, less, ap (λ (us : List (Tok Word)). length us) are, length-map ts (lexed lower)) in
    ap (drop i) (sym are) ∙ drop-map (lexed lower) i ts ∙ at_drop_more (map (lexed lower)) ts i d within ∙ ap (λ u. u ∷ map (lexed lower) (drop (i + 1) ts)) (sym is) ∙ ap (λ us. t ∷ us) (sym (drop-map (lexed lower) (i + 1) ts) ∙ ap (drop (i + 1)) are)

-- part of them
pub seen_part : (lower : List ℕ) (ts : List Token) (n i : ℕ) → map (lexed lower) (take n (drop i ts)) ≡ take n (drop i (map (lexed lower) ts))
seen_part lower ts n i = sym (take-map (lexed lower) n (drop i ts)) ∙ ap (take n) (sym (drop-map (lexed lower) i ts))

-- ---- going over tokens one by one

next_by : {A : Type 0} (n : ℕ) (xs rest : List A) (x : A) → drop n xs ≡ x ∷ rest → take (suc n) xs ≡ take n xs ++ x ∷ []
next_by n [] rest x e = absurd (go n e) where
  go : (n : ℕ) → drop n [] ≡ x ∷ rest → ⊥
  go zero e = cc
  go (suc n) e = cc
next_by zero (y ∷ ys) rest x e = cc
next_by (suc n) (y ∷ ys) rest x e = ap (λ zs. y ∷ zs) (next_by n ys rest x e)

all_by : {A : Type 0} (n : ℕ) (xs : List A) → drop n xs ≡ [] → take n xs ≡ xs
all_by zero xs e = sym e
all_by (suc n) [] e = refl
all_by (suc n) (y ∷ ys) e = ap (λ zs. y ∷ zs) (all_by n ys e)

-- what is kept of the tokens so far, behind what was there before
module _ {B : Type 0} (f : Tok Word → B) (ts : List (Tok Word)) (before : List B) (i : ℕ) where
  pub kept_next : (so_far now : List B) (y : B) (t : Tok Word) (rest : List (Tok Word)) → from ts i ≡ t ∷ rest → now ≡ so_far ++ y ∷ [] → y ≡ f t → so_far ≡ before ++ map f (take i ts) → now ≡ before ++ map f (take (i + 1) ts)
  kept_next so_far now y t rest e is made h =
      let one : i + 1 ≡ suc i = omega arith in
      is ∙ ap (λ (ys : List B). ys ++ y ∷ []) h ∙ append_assoc before (map f (take i ts)) (y ∷ [])
      ∙ ap (λ (ys : List B). before ++ ys) (ap (λ z. map f (take i ts) ++ z ∷ []) made ∙ sym (map-append f (take i ts) (t ∷ [])) ∙ ap (map f) (sym (next_by i ts rest t e)) ∙ ap (λ n. map f (take n ts)) (sym one))

  pub kept_all : (so_far : List B) → from ts i ≡ [] → so_far ≡ before ++ map f (take i ts) → so_far ≡ before ++ map f ts
  kept_all so_far e h = h ∙ ap (λ us. before ++ map f us) (all_by i ts e)
