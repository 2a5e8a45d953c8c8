-- The closure of a tag tells which clauses the tag meets.
use Rattle.std.proofs.Common.{◌≡◌, true, List, nat_lt}
use Rattle.std.proofs.lemmas.Bool.{ltb-true}
use Rattle.std.specs.List.{list_any, list_all}
use Rattle.kp_base.specs.declared.lit.Lit.{Lit}
use Rattle.kp_base.specs.Lit.{has}
use Rattle.kp_base.specs.Entailed.{IsClosure}
use Rattle.kp_base.specs.Implicates.{are_below}
use Rattle.kp_base.proofs.Lists.{bool_same, all_member, any_alike, all_alike}
use Rattle.kp_primes.specs.Held.{Held, formula, AreWhole}
use Rattle.kp_primes.specs.Asked.{entailed_by}
use Rattle.kp_primes.proofs.Public.{entails_exact}
use Rattle.kp_cover.specs.Tested.{meets}

-- a closure has a literal of each clause where the tag entails one
pub meets_is : (h : Held) → AreWhole h → (cs : List (List Lit)) (tag set : List Lit) → list_all (are_below h.atoms) cs ≡ true → IsClosure h.atoms (formula h) tag set → list_all (list_any (has set)) cs ≡ meets h.clauses cs tag
meets_is h whole cs tag set below closure = all_alike (list_any (has set)) (list_any (entailed_by h.clauses tag)) cs (λ c m. any_alike (has set) (entailed_by h.clauses tag) c (λ l k.
    bool_same (has set l) (entailed_by h.clauses tag l)
    (λ e. (entails_exact h whole tag l).1 (closure.entailed l e))
    (λ e. closure.whole l (ltb-true l.atom.0 h.atoms (all_member (λ y. nat_lt y.atom.0 h.atoms) c l k (all_member (are_below h.atoms) cs c m below))) ((entails_exact h whole tag l).0 e))))
