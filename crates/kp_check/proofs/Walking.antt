-- What a look-up by number finds.
use Rattle.std.proofs.Common.{◌≡◌, ℕ, true, nat_lt, List, length, get_or, Some, slice_get, sym, ap, ◌∙◌, ltb-true}
use Rattle.std.proofs.lemmas.Option.{slice_get-get_or}

-- an element that a lookup found
pub found : {X : Type 0} (xs : List X) (n : ℕ) (x : X) → true ≡ nat_lt n (length xs) → x ≡ get_or xs n x → slice_get xs n ≡ Some x
found xs n x lt is = slice_get-get_or xs n x (ltb-true n (length xs) (sym lt)) ∙ ap Some (sym is)
