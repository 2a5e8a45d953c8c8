-- Which names stand under a type.
use Rattle.std.proofs.Common.{◌≡◌, Bool, true, false, ◌&&◌, ◌||◌, cond, List, [], ◌∷◌, fold, refl, sym, ap, ◌∙◌, inl, inr, subst}
use Rattle.std.specs.List.{list_any}
use Rattle.std.proofs.lemmas.Bool.{and_parts, and_from, or_cases, or_left, false≢true}
use Rattle.kp_tree_grammar.specs.declared.tree.Word.{Word}
use Rattle.kp_tree_grammar.specs.Trees.{Typed}
use Rattle.kp_base.specs.Lists.{Member}
use Rattle.kp_base.proofs.Lists.{map_member, any_member, any_from, same-true, same-refl}
use Rattle.kp_names_semantics.specs.Names.{Name, same, is_among}
use Rattle.kp_names_semantics.specs.Types.{names}
use Rattle.kp_names_declared.specs.Steps.{with_line_under, lines_under, under}

-- the line puts the name under the type
abbrev pub puts : Name → Name → Typed Word → Bool
puts k x l = list_any (λ v. same v.text k) l.kinds && same x l.word.text

module _ (k x : Name) where
  one_put : (ps : List (Name × Name)) (t n : Name) → is_among (under ((t, n) ∷ ps) k) x ≡ ((same t k && same x n) || is_among (under ps k) x)
  one_put ps t n = by (same t k)
    where
      by : (b : Bool) → is_among (cond b (n ∷ under ps k) (under ps k)) x ≡ ((b && same x n) || is_among (under ps k) x)
      by true = refl
      by false = refl

  one_of : (a b s r : Bool) → ((b && s) || ((a && s) || r)) ≡ (((a || b) && s) || r)
  one_of true true true r = refl
  one_of true true false r = refl
  one_of true false true r = refl
  one_of true false false r = refl
  one_of false b s r = refl

  words_put : (ps : List (Name × Name)) (n : Name) (ws : List Word)
      → is_among (under (fold (λ qs w. (w.text, n) ∷ qs) ps ws) k) x ≡ ((list_any (λ v. same v.text k) ws && same x n) || is_among (under ps k) x)
  words_put ps n [] = refl
  words_put ps n (w ∷ ws) =
      words_put ((w.text, n) ∷ ps) n ws
      ∙ (ap (λ b. (list_any (λ v. same v.text k) ws && same x n) || b) (one_put ps w.text n)
      ∙ one_of (same w.text k) (list_any (λ v. same v.text k) ws) (same x n) (is_among (under ps k) x))

  swap_or : (a b c : Bool) → (b || (a || c)) ≡ ((a || b) || c)
  swap_or true true c = refl
  swap_or true false c = refl
  swap_or false b c = refl

  lines_put : (ps : List (Name × Name)) (ls : List (Typed Word)) → is_among (under (fold with_line_under ps ls) k) x ≡ (list_any (puts k x) ls || is_among (under ps k) x)
  lines_put ps [] = refl
  lines_put ps (l ∷ ls) =
      lines_put (with_line_under ps l) ls
      ∙ (ap (λ b. list_any (puts k x) ls || b) (words_put ps l.word.text l.kinds)
      ∙ swap_or (puts k x l) (list_any (puts k x) ls) (is_among (under ps k) x))

  -- a name under a type is that of a line with the type
  pub put_by : (ls : List (Typed Word)) → is_among (under (lines_under ls) k) x ≡ true → (l : Typed Word) × Member ls l × Member (names l.kinds) k × (l.word.text ≡ x)
  put_by ls h = elim (or_cases (list_any (puts k x) ls) false (sym (lines_put [] ls) ∙ h)) [
    | inl e ↦
        let l = any_member (puts k x) ls e in
        let parts = and_parts (list_any (λ v. same v.text k) l.0.kinds) (same x l.0.word.text) l.2 in
        (l.0, l.1, kind l.0.kinds parts.0, sym (same-true x l.0.word.text parts.1))
    | inr e ↦ absurd (false≢true e)
  ]
    where
      kind : (ws : List Word) → list_any (λ v. same v.text k) ws ≡ true → Member (names ws) k
      kind [] h = absurd (false≢true h)
      kind (w ∷ ws) h = elim (or_cases (same w.text k) (list_any (λ v. same v.text k) ws) h) [
        | inl e ↦ inl (same-true w.text k e)
        | inr e ↦ inr (kind ws e)
      ]

-- a line puts its name under each of its types
pub puts_it : (ls : List (Typed Word)) (l : Typed Word) (k : Name) → Member ls l → Member (names l.kinds) k → is_among (under (lines_under ls) k) l.word.text ≡ true
puts_it ls l k m n =
    let w = map_member (λ v. v.text) l.kinds k n in
    let there : puts k l.word.text l ≡ true =
    and_from (list_any (λ v. same v.text k) l.kinds) (same l.word.text l.word.text) (any_from (λ v. same v.text k) l.kinds w.0 w.1 (subst (λ z. same w.0.text z ≡ true) w.2 (same-refl w.0.text))) (same-refl l.word.text) in
    lines_put k l.word.text [] ls ∙ or_left (list_any (puts k l.word.text) ls) false (any_from (puts k l.word.text) ls l m there)
