-- How the first clash is searched for, step by step. This file serves proofs alone.
use Rattle.std.specs.Prelude.{◌≡◌, ◌%◌, ℕ, suc, Bool, true, false, ◌&&◌, ◌||◌, List, [], ◌∷◌, Option, Some, None, option_map, if◌then◌else◌, nat_lt, slice_index_or}
use Rattle.std.specs.List.{list_all, position_from}
use Rattle.kp_base.specs.declared.ground.Effect.{Effect}
use Rattle.kp_base.specs.declared.ground.Action.{Action}
use Rattle.kp_base.specs.declared.refused.ClashAt.{ClashAt}
use Rattle.kp_base.specs.Lit.{negated, same_lit}
use Rattle.kp_base.specs.Clashes.{Pairs, compatible_effects}

-- ---- atoms that are deleted

-- the slot of the atom is marked
abbrev pub may_be_deleted : List Bool → ℕ → Bool
may_be_deleted slots p = slice_index_or slots (p % 4096) false

-- the effect is no delete, or the slot of its atom is marked
abbrev pub is_noted : List Bool → Effect → Bool
is_noted slots e = e.result.positive || may_be_deleted slots e.result.atom.0

abbrev pub all_noted : List Bool → List Effect → Bool
all_noted slots es = list_all (is_noted slots) es

-- what was marked is marked still
abbrev pub KeepsMarks : List Bool → List Bool → Type 0
KeepsMarks old new = (k : ℕ) → slice_index_or old k false ≡ true → slice_index_or new k false ≡ true

-- ---- two effects

-- they are an add and a delete of one atom, whose conditions are compatible
abbrev pub clash_together : Pairs → Action → Effect → Effect → Bool
clash_together pairs a e f = same_lit (negated e.result) f.result && compatible_effects pairs a e f

-- ---- one action

-- the clash of the action n, of its add i with its effect j
abbrev pub clash_at : ℕ → ℕ → Effect → ℕ → ClashAt
clash_at n i e j = record { action = n; atom = e.result.atom; add = i; delete = j }

-- the first clash of an effect, if it adds
abbrev pub found_at : Pairs → ℕ → Action → ℕ → Effect → Option ClashAt
found_at pairs n a i e = if e.result.positive then option_map (clash_at n i e) (position_from (clash_together pairs a e) 0 a.effects) else None

-- what is first of what was found before and what is found now
abbrev pub earlier : Option ClashAt → ClashAt → ClashAt
earlier None d = d
earlier (Some c) d = if nat_lt d.atom.0 c.atom.0 then d else c

abbrev pub keep : Option ClashAt → Option ClashAt → Option ClashAt
keep first None = first
keep first (Some d) = Some (earlier first d)

-- over the effects, the first of which has the place i
abbrev pub best_from : Pairs → ℕ → Action → ℕ → List Effect → Option ClashAt → Option ClashAt
best_from pairs n a i [] first = first
best_from pairs n a i (e ∷ es) first = best_from pairs n a (suc i) es (keep first (found_at pairs n a i e))

-- ---- all actions

-- the first clash of an action, or of those behind it
abbrev pub or_later : Option ClashAt → Option ClashAt → Option ClashAt
or_later None later = later
or_later (Some c) later = Some c

-- over the actions, the first of which has the number n
abbrev pub first_from : Pairs → ℕ → List Action → Option ClashAt
first_from pairs n [] = None
first_from pairs n (a ∷ as') = or_later (best_from pairs n a 0 a.effects None) (first_from pairs (suc n) as')
