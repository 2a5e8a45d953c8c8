-- Names from words, the first of which is the head.
use Rattle.std.proofs.Common.{◌≡◌, ℕ, ◌-◌, List, [], ◌∷◌, length, map, drop, take, ap, ◌∙◌, arith}
use Rattle.std.proofs.lemmas.List.{take_all}
use Rattle.kp_tree_grammar.specs.declared.tree.Word.{Word}
use Rattle.kp_tree_grammar.specs.Symbols.{Tok}
use Rattle.kp_tree_cursor.specs.Lexemes.{word_of, from}

pub named : (words : List (Tok Word)) (t : Tok Word) (n : ℕ) (head : List ℕ) (objects : List (List ℕ)) → from words 0 ≡ t ∷ from words 1 → n ≡ length words → head ≡ t.word.text → objects ≡ map (λ w. (word_of w).text) (take (n - 1) (drop 1 words)) → head ∷ objects ≡ map (λ w. (word_of w).text) words
named [] t n head objects e len h k = absurd cc
named (w ∷ ws) t n head objects e len h k =
    let same : t ≡ w = cc in
    let all : take (n - 1) ws ≡ ws = take_all (n - 1) ws (omega (arith, len)) in
    ap (λ x. x ∷ objects) (h ∙ ap (λ (u : Tok Word). u.word.text) same) ∙ ap (λ xs. (word_of w).text ∷ xs) (k ∙ ap (map (λ w. (word_of w).text)) all)
