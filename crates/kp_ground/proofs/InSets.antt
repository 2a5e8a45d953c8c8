-- Whether a literal stands in one of two lists.
use Rattle.std.proofs.Common.{◌≡◌, Bool, false, ◌||◌, List, ◌++◌, sym, ap, ◌∙◌}
use Rattle.std.proofs.lemmas.List.Folds.{list_any-append}
use Rattle.kp_base.specs.declared.lit.Lit.{Lit}
use Rattle.kp_base.specs.Lit.{same_lit}
use Rattle.kp_base.specs.Steps.{has}

-- what isn't in the one set is in either where it is in the other
pub has_other : (b : Bool) (xs ys : List Lit) (l : Lit) → has xs l ≡ false → b ≡ has ys l → b ≡ has (xs ++ ys) l
has_other b xs ys l none is = is ∙ sym (list_any-append (same_lit l) xs ys ∙ ap (λ t. t || has ys l) none)
