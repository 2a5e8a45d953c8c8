-- A problem by number from its parts.
use Rattle.std.proofs.Common.{◌≡◌, List, ◌∙◌, ap}
use Rattle.kp_names_semantics.specs.declared.lifted.Pred.{Pred}
use Rattle.kp_names_semantics.specs.declared.lifted.GroundLit.{GroundLit}
use Rattle.kp_names_semantics.specs.declared.lifted.Item.{Item}
use Rattle.kp_names_semantics.specs.Names.{Name}
use Rattle.kp_names_semantics.specs.Numbered.{Schema, Lifted}

-- the parts together
abbrev pub made : List Name → List Pred → List Schema → List Item → List GroundLit → Lifted
made os qs as' is gs = record { objects = os; predicates = qs; schemas = as'; init = is; goal = gs }

pub same_parts : (os os' : List Name) (qs qs' : List Pred) (ss ss' : List Schema) (is is' : List Item) (gs gs' : List GroundLit)
    → os ≡ os' → qs ≡ qs' → ss ≡ ss' → is ≡ is' → gs ≡ gs' → made os qs ss is gs ≡ made os' qs' ss' is' gs'
same_parts os os' qs qs' ss ss' is is' gs gs' a b c d e =
    ap (λ z. made z qs ss is gs) a ∙ ap (λ z. made os' z ss is gs) b ∙ ap (λ z. made os' qs' z is gs) c ∙ ap (λ z. made os' qs' ss' z gs) d ∙ ap (λ z. made os' qs' ss' is' z) e
