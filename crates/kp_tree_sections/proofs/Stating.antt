-- What the sections of a problem state, one section behind the other.
use Rattle.std.proofs.Common.{◌≡◌, List, [], ◌∷◌, ◌++◌, Option, Some, None, refl, sym, ap, ◌∙◌}
use Rattle.std.specs.List.{flat_map}
use Rattle.kp_tree_grammar.specs.declared.tree.Word.{Word}
use Rattle.kp_tree_grammar.specs.Trees.{Typed, Item, Cond, Given, given_objects, given_items, goal_of}
use Rattle.kp_tree_grammar.specs.Parsing.{Outcome}
use Rattle.kp_tree_files.specs.Parts.{goal_after, goal_or_true}
use Rattle.kp_tree_parts.proofs.Public.{with_front}
use Rattle.kp_tree_sections.proofs.Joining.{kept}

-- the first goal
abbrev goal_before : Given Word → Option (Cond Word) → Option (Cond Word)
goal_before (Given.goal g) o = Some g
goal_before _ o = o

abbrev pub goal_first : List (Given Word) → Option (Cond Word)
goal_first [] = None
goal_first (x ∷ xs) = goal_before x (goal_first xs)

goal_swap : (x y : Given Word) (o : Option (Cond Word)) → goal_before y (goal_after x o) ≡ goal_after x (goal_before y o)
goal_swap x (Given.goal g) o = refl
goal_swap x Given.of_domain o = refl
goal_swap x Given.requires o = refl
goal_swap x (Given.objects xs) o = refl
goal_swap x (Given.init is) o = refl

goal_alone : (x : Given Word) → goal_before x None ≡ goal_after x None
goal_alone (Given.goal g) = refl
goal_alone Given.of_domain = refl
goal_alone Given.requires = refl
goal_alone (Given.objects xs) = refl
goal_alone (Given.init is) = refl

goal_push : (front : List (Given Word)) (x : Given Word) → goal_first (front ++ x ∷ []) ≡ goal_after x (goal_first front)
goal_push [] x = goal_alone x
goal_push (y ∷ ys) x = ap (goal_before y) (goal_push ys x) ∙ goal_swap x y (goal_first ys)

goal_is_by : (x : Given Word) (xs : List (Given Word)) → goal_of xs ≡ goal_or_true (goal_first xs) → goal_of (x ∷ xs) ≡ goal_or_true (goal_first (x ∷ xs))
goal_is_by (Given.goal g) xs h = refl
goal_is_by Given.of_domain xs h = h
goal_is_by Given.requires xs h = h
goal_is_by (Given.objects ts) xs h = h
goal_is_by (Given.init is) xs h = h

pub goal_is : (xs : List (Given Word)) → goal_of xs ≡ goal_or_true (goal_first xs)
goal_is [] = refl
goal_is (x ∷ xs) = goal_is_by x xs (goal_is xs)

-- the sections read so far, and what they state
pub record Givens (objects : List (Typed Word)) (init : List (Item Word)) (goal : Option (Cond Word)) (here total : Outcome Word (List (Given Word))) : Type 0 where
  pub front : List (Given Word)
  pub so_far : with_front front here ≡ total
  pub objects_are : flat_map given_objects front ≡ objects
  pub init_is : flat_map given_items front ≡ init
  pub goal_is_first : goal_first front ≡ goal

module _ {objects : List (Typed Word)} {init : List (Item Word)} {goal : Option (Cond Word)} {here total : Outcome Word (List (Given Word))} (there : Outcome Word (List (Given Word))) (x : Given Word) where
  pub given_more : (objects' : List (Typed Word)) (init' : List (Item Word)) (goal' : Option (Cond Word)) (s : Givens objects init goal here total) → with_front (s.front ++ x ∷ []) there ≡ total
      → objects' ≡ objects ++ given_objects x → init' ≡ init ++ given_items x → goal' ≡ goal_after x goal → Givens objects' init' goal' there total
  given_more objects' init' goal' s e a b c = record {
    front = s.front ++ x ∷ [];
    so_far = e;
    objects_are = kept given_objects s.front x objects objects' s.objects_are a;
    init_is = kept given_items s.front x init init' s.init_is b;
    goal_is_first = goal_push s.front x ∙ ap (goal_after x) s.goal_is_first ∙ sym c;
  }
