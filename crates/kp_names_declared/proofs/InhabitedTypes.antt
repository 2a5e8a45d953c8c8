-- What gathering types upward from those of objects holds: the types of all objects, and all above them.
use Rattle.std.proofs.Common.{◌≡◌, Bool, true, false, cond, List, [], ◌∷◌, ◌++◌, length, fold, flat_map, refl, sym, ap, subst, ◌∙◌, inl, inr, ◌⊎◌, arith}
use Rattle.std.proofs.lemmas.Bool.{or_left, or_right}
use Rattle.std.proofs.lemmas.List.{take_all}
use Rattle.std.proofs.lemmas.Grind.{flat_map-append, fold-append}
use Rattle.kp_tree_grammar.specs.declared.tree.Word.{Word}
use Rattle.kp_tree_grammar.specs.Trees.{Typed, Domain, Problem}
use Rattle.kp_base.specs.Lists.{Member}
use Rattle.kp_base.proofs.Lists.{member_flat_map, same-refl}
use Rattle.kp_names_semantics.specs.Names.{Name, same, is_among}
use Rattle.kp_names_semantics.specs.Types.{object, names, or_object, types_of, object_lines, IsBelow, itself, root, parent, onward}
use Rattle.kp_names_semantics.proofs.Public.{member_is_among}
use Rattle.kp_names_declared.specs.Steps.{with_name, under, with_line_over, lines_over, IsClosing, HoldTypes}
use Rattle.kp_names_declared.proofs.Gathering.{among_all}

-- ---- types over names

module _ (n k : Name) where
  -- one more pair takes none away
  one_more : (ps : List (Name × Name)) (m x : Name) → is_among (under ps n) k ≡ true → is_among (under ((m, x) ∷ ps) n) k ≡ true
  one_more ps m x h = by (same m n)
    where
      by : (b : Bool) → is_among (cond b (x ∷ under ps n) (under ps n)) k ≡ true
      by true = or_right (same k x) (is_among (under ps n) k) h
      by false = h

  words_more : (ps : List (Name × Name)) (m : Name) (ws : List Word) → is_among (under ps n) k ≡ true → is_among (under (fold (λ qs w. (m, w.text) ∷ qs) ps ws) n) k ≡ true
  words_more ps m [] h = h
  words_more ps m (w ∷ ws) h = words_more ((m, w.text) ∷ ps) m ws (one_more ps m w.text h)

  lines_more : (ps : List (Name × Name)) (ls : List (Typed Word)) → is_among (under ps n) k ≡ true → is_among (under (fold with_line_over ps ls) n) k ≡ true
  lines_more ps [] h = h
  lines_more ps (l ∷ ls) h = lines_more (with_line_over ps l) ls (words_more ps l.word.text l.kinds h)

  -- the new pair is there
  it_is_there : (ps : List (Name × Name)) (x : Name) → k ≡ x → is_among (under ((n, x) ∷ ps) n) k ≡ true
  it_is_there ps x e =
      ap (λ b. is_among (cond b (x ∷ under ps n) (under ps n)) k) (same-refl n)
      ∙ or_left (same k x) (is_among (under ps n) k) (subst (λ z. same k z ≡ true) e (same-refl k))

  words_there : (ps : List (Name × Name)) (ws : List Word) → Member (names ws) k → is_among (under (fold (λ qs w. (n, w.text) ∷ qs) ps ws) n) k ≡ true
  words_there ps [] m = absurd m
  words_there ps (w ∷ ws) (inl e) = words_more ((n, w.text) ∷ ps) n ws (it_is_there ps w.text (sym e))
  words_there ps (w ∷ ws) (inr m) = words_there ((n, w.text) ∷ ps) ws m

-- a type of a line is over its name
lines_there : (ps : List (Name × Name)) (ls : List (Typed Word)) (l : Typed Word) (k : Name) → Member ls l → Member (names l.kinds) k → is_among (under (fold with_line_over ps ls) l.word.text) k ≡ true
lines_there ps [] l k m h = absurd m
lines_there ps (x ∷ ls) l k (inl e) h = lines_more l.word.text k (with_line_over ps x) ls (subst (λ z. is_among (under (with_line_over ps z) l.word.text) k ≡ true) (sym e) (words_there l.word.text k ps l.kinds h))
lines_there ps (x ∷ ls) l k (inr m) h = lines_there (with_line_over ps x) ls l k m h

-- ---- together

-- a type behind a name is `object`, or is written there
root_or : (ws : List Word) (k : Name) → Member (or_object (names ws)) k → (object ≡ k) ⊎ Member (names ws) k
root_or [] k (inl e) = inl e
root_or [] k (inr m) = absurd m
root_or (w ∷ ws) k m = inr m

-- the types behind the names of two lists
pub kinds_gathered : (start : List Name) (xs ys : List (Typed Word)) → fold with_name (fold with_name start (flat_map (λ x. names x.kinds) xs)) (flat_map (λ x. names x.kinds) ys) ≡ fold with_name start (flat_map (λ x. names x.kinds) (xs ++ ys))
kinds_gathered start xs ys =
    sym (fold-append with_name start (flat_map (λ x. names x.kinds) xs) (flat_map (λ x. names x.kinds) ys))
    ∙ ap (fold with_name start) (sym (flat_map-append (λ x. names x.kinds) xs ys))

-- what is closed upward from `object` and the types of objects holds these, and all above them
pub closed_above : (d : Domain Word) (p : Problem Word) (ns : List Name) → IsClosing (lines_over d.kinds) (fold with_name [] (object ∷ flat_map (λ x. names x.kinds) (object_lines d p))) (length ns) ns → HoldTypes d p ns
closed_above d p ns c = record { own = own; above = above }
  where
    first : List Name
    first = object ∷ flat_map (λ x. names x.kinds) (object_lines d p)

    start : (k : Name) → Member first k → is_among ns k ≡ true
    start k m = c.kept k (among_all first k ∙ member_is_among first k m)

    there : (k : Name) → object ≡ k → is_among ns k ≡ true
    there k e = start k (inl e)

    own : (x : Typed Word) (k : Name) → Member (object_lines d p) x → Member (types_of x) k → is_among ns k ≡ true
    own x k m h = elim (root_or x.kinds k h) [
      | inl e ↦ there k e
      | inr n ↦ start k (inr (member_flat_map (λ x. names x.kinds) (object_lines d p) x k m n))
    ]

    above : (t u : Name) → IsBelow d.kinds t u → is_among ns t ≡ true → is_among ns u ≡ true
    above t u itself h = h
    above t u root h = there object refl
    above t u (parent l q m n) h = elim (root_or l.kinds u n) [
      | inl e ↦ there u e
      | inr r ↦ c.front l.word.text u (ap (λ z. is_among z l.word.text) (take_all (length ns) ns (omega arith)) ∙ h) (lines_there [] d.kinds l u m r)
    ]
    above t u (onward f g) h = above _ u g (above t _ f h)
