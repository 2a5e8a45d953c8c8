-- What a further read does to known bytes.
use Rattle.std.proofs.Common.{ℕ, ◌≤◌, List, ◌++◌, length, Option, Some, None, sym, ap, ◌∙◌, append_assoc}
use Rattle.std.specs.Io.KnownBytes.{Consumes}
use Rattle.kp_outside.specs.Transfer.{TakesAtMost}

consumed : (a b c : Option (List ℕ)) (bs cs : List ℕ) → Consumes a b bs → Consumes b c cs → Consumes a c (bs ++ cs)
consumed None b c bs cs p q = tt
consumed (Some x) None c bs cs p q = absurd p
consumed (Some x) (Some y) None bs cs p q = absurd q
consumed (Some x) (Some y) (Some z) bs cs p q = p ∙ ap (λ l. bs ++ l) q ∙ sym (append_assoc bs cs z)

-- a read took more
pub taken_more : (a b c : Option (List ℕ)) (front more : List ℕ) (most : ℕ) → Consumes a b front → Consumes b c more → length (front ++ more) ≤ most → TakesAtMost most a c
taken_more a b c front more most first second fits = (front ++ more, fits, consumed a b c front more first second)
