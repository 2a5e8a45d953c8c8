-- What holds in each initial state, and atoms of which nothing is to be added.
use Rattle.std.proofs.Common.{◌≡◌, ℕ, false, List, [], ◌∷◌, filter, map, refl}
use Rattle.std.specs.List.{list_any}
use Rattle.std.proofs.lemmas.Bool.{or_parts}
use Rattle.kp_base.specs.declared.lit.Lit.{Lit}
use Rattle.kp_base.specs.Implicates.{formula_of}
use Rattle.kp_base.specs.Entailed.{IsClosure}
use Rattle.kp_base.specs.Relevance.{either_value}
use Rattle.kp_primes.specs.Held.{Held, AreWhole, formula}
use Rattle.kp_primes.proofs.Public.{always_is, consistent_free, entails_exact}
use Rattle.kp_relevance.specs.Gathered.{are_paired, is_unsettled}

-- whole prime implicates have a closure of the empty tag
pub some_closure : (h : Held) → AreWhole h → (known : List Lit) × IsClosure h.atoms (formula h) [] known
some_closure h whole = (_, always_is h.atoms (formula_of h.clauses) h.clauses whole.of_atoms.clauses (consistent_free h whole [] whole.has_model) (entails_exact h whole []))

-- where of no atom both literals are relevant, none is unsettled
pub none_unsettled : (pairs : List (Lit × Lit)) (known : List Lit) (target : Lit) (ps : List ℕ) → list_any (λ p. are_paired pairs target (either_value p)) ps ≡ false → filter (is_unsettled pairs known target) (map either_value ps) ≡ []
none_unsettled pairs known target [] e = refl
none_unsettled pairs known target (p ∷ ps) e =
    let parts = or_parts (are_paired pairs target (either_value p)) (list_any (λ q. are_paired pairs target (either_value q)) ps) e in
    rw parts.0 (none_unsettled pairs known target ps parts.1)
