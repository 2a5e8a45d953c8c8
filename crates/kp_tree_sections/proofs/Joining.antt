-- What sections declare, one section behind the other.
use Rattle.std.proofs.Common.{◌≡◌, List, [], ◌∷◌, ◌++◌, sym, ap, ◌∙◌}
use Rattle.std.specs.List.{flat_map}
use Rattle.kp_base.proofs.Parts.{flat_map-push}
use Rattle.kp_tree_grammar.specs.declared.tree.Word.{Word}
use Rattle.kp_tree_grammar.specs.Trees.{Typed, Pred, Schema, Section, section_types, section_constants, section_predicates, section_schemas}
use Rattle.kp_tree_grammar.specs.Parsing.{Outcome}
use Rattle.kp_tree_parts.proofs.Public.{with_front}

-- the sections read so far, and what they declare
pub record Sections (kinds constants : List (Typed Word)) (preds : List (Pred Word)) (schemas : List (Schema Word)) (here total : Outcome Word (List (Section Word))) : Type 0 where
  pub front : List (Section Word)
  pub so_far : with_front front here ≡ total
  pub kinds_are : flat_map section_types front ≡ kinds
  pub constants_are : flat_map section_constants front ≡ constants
  pub predicates_are : flat_map section_predicates front ≡ preds
  pub schemas_are : flat_map section_schemas front ≡ schemas

pub kept : {S T : Type 0} (f : S → List T) (front : List S) (x : S) (before after : List T) → flat_map f front ≡ before → after ≡ before ++ f x → flat_map f (front ++ x ∷ []) ≡ after
kept f front x before after e k = flat_map-push f front x ∙ ap (λ ys. ys ++ f x) e ∙ sym k

module _ {kinds constants : List (Typed Word)} {preds : List (Pred Word)} {schemas : List (Schema Word)} {here total : Outcome Word (List (Section Word))} (there : Outcome Word (List (Section Word))) (x : Section Word) where
  pub section_more : (kinds' constants' : List (Typed Word)) (preds' : List (Pred Word)) (schemas' : List (Schema Word)) (s : Sections kinds constants preds schemas here total) → with_front (s.front ++ x ∷ []) there ≡ total
      → kinds' ≡ kinds ++ section_types x → constants' ≡ constants ++ section_constants x → preds' ≡ preds ++ section_predicates x → schemas' ≡ schemas ++ section_schemas x → Sections kinds' constants' preds' schemas' there total
  section_more kinds' constants' preds' schemas' s e a b c d = record {
    front = s.front ++ x ∷ [];
    so_far = e;
    kinds_are = kept section_types s.front x kinds kinds' s.kinds_are a;
    constants_are = kept section_constants s.front x constants constants' s.constants_are b;
    predicates_are = kept section_predicates s.front x preds preds' s.predicates_are c;
    schemas_are = kept section_schemas s.front x schemas schemas' s.schemas_are d;
  }
