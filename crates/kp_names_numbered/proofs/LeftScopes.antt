-- Where the variables that came last are taken out, the scope is as it was.
use Rattle.std.proofs.Common.{◌≡◌, ◌+◌, ℕ, suc, List, [], ◌∷◌, length, map, drop, refl, sym, ap, ◌∙◌, arith}
use Rattle.std.proofs.lemmas.List.{drop-drop}
use Rattle.kp_tree_grammar.specs.declared.tree.Typed.{Typed}
use Rattle.kp_tree_grammar.specs.View.{typed_view}
use Rattle.kp_names_semantics.specs.Names.{Name}
use Rattle.kp_names_semantics.specs.Types.{declared}
use Rattle.kp_names_semantics.specs.Faults.{inside}

one_first : (n : ℕ) (ns : List Name) → drop (suc n) ns ≡ drop 1 (drop n ns)
one_first n ns = let count : suc n ≡ n + 1 = omega arith in ap (λ k. drop k ns) count ∙ sym (drop-drop 1 n ns)

pub as_before : (xs : List Typed) (scope : List Name) → drop (length xs) (inside (declared (map typed_view xs)) scope) ≡ scope
as_before [] scope = refl
as_before (x ∷ xs) scope =
    let inner = x.word.text ∷ scope in
    one_first (length xs) (inside (declared (map typed_view xs)) inner) ∙ ap (drop 1) (as_before xs inner)
