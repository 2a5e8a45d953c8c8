-- When a pair may stay in a set of pairs, as a test. Beside proofs it serves the contracts that cite `deletes_within`.
use Rattle.std.specs.Prelude.{ℕ, Bool, not, ◌&&◌, ◌||◌, List}
use Rattle.std.specs.List.{list_any, list_all}
use Rattle.kp_base.specs.declared.lit.Lit.{Lit}
use Rattle.kp_base.specs.declared.ground.Effect.{Effect}
use Rattle.kp_base.specs.declared.ground.Action.{Action}
use Rattle.kp_base.specs.declared.ground.Ground.{Ground}
use Rattle.kp_base.specs.Planning.{positive, negative, same_lit, Pairs, are_compatible, compatible_effects, firing_with}
use Rattle.kp_base.specs.Implicates.{is_within}

-- the effects add the two atoms, and are compatible
abbrev pub adds_both : Pairs → ℕ → ℕ → Action → Effect → Effect → Bool
adds_both pairs p q a e f = (same_lit e.result (positive p) && same_lit f.result (positive q)) && compatible_effects pairs a e f

-- no two effects of the action do
abbrev pub never_adds_both : Pairs → ℕ → ℕ → Action → Bool
never_adds_both pairs p q a = list_all (λ e. list_all (λ f. not (adds_both pairs p q a e f)) a.effects) a.effects

-- the action has a delete of the atom whose condition is within these literals
abbrev pub deletes_within : Action → ℕ → List Lit → Bool
deletes_within a q ls = list_any (λ d. same_lit d.result (negative q) && is_within d.cond ls) a.effects

-- if the effect adds p and is compatible with q being true, the action deletes q with it
abbrev pub keeps_apart : Pairs → ℕ → ℕ → Action → Effect → Bool
keeps_apart pairs p q a e = not (same_lit e.result (positive p)) || (not (are_compatible pairs (firing_with a e q)) || deletes_within a q (firing_with a e q))

abbrev pub all_keep_apart : Pairs → ℕ → ℕ → Action → Bool
all_keep_apart pairs p q a = list_all (keeps_apart pairs p q a) a.effects

-- the action keeps the two atoms apart, whichever comes first
abbrev pub stays_in : Pairs → ℕ → ℕ → Action → Bool
stays_in pairs p q a = never_adds_both pairs p q a && (never_adds_both pairs q p a && (all_keep_apart pairs p q a && all_keep_apart pairs q p a))

-- each action does
abbrev pub stays : Ground → Pairs → ℕ → ℕ → Bool
stays g pairs p q = list_all (stays_in pairs p q) g.actions
