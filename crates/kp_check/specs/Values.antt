-- Values of atoms, which are known or open, and what an action makes of them. This file serves proofs alone.
use Rattle.std.specs.Prelude.{ℕ, if◌then◌else◌, List, Option, Some, None, length, map, fold, nat_lt, slice_get, slice_set}
use Rattle.std.specs.List.{range_with_len}
use Rattle.kp_base.specs.declared.lit.Lit.{Lit}
use Rattle.kp_base.specs.declared.ground.Effect.{Effect}
use Rattle.kp_base.specs.declared.ground.Action.{Action}
use Rattle.kp_base.specs.Lit.{positive}
use Rattle.kp_primes_first_model.specs.declared.truth.Truth.{Truth}
use Rattle.kp_primes_first_model.specs.declared.truth.Truth.TheVariants.{Yes, No}
use Rattle.kp_primes_first_model.specs.Truths.{opposite, both, either, truth_in}
use Rattle.kp_check.specs.declared.steps.Firing.{Firing}

abbrev pub value_of : Option Truth → Truth
value_of None = No
value_of (Some t) = t

abbrev pub value_at : List Truth → ℕ → Truth
value_at vs p = value_of (slice_get vs p)

abbrev pub truth_at : List Truth → Lit → Truth
truth_at vs l = if l.positive then value_at vs l.atom.0 else opposite (value_at vs l.atom.0)

abbrev pub all_true : List Truth → List Lit → Truth
all_true vs ls = fold (λ t l. both t (truth_at vs l)) Yes ls

abbrev pub with_value : List Truth → ℕ → Truth → List Truth
with_value vs p t = if nat_lt p (length vs) then slice_set vs p t else vs

abbrev pub start : List Lit → ℕ → List Truth
start known n = map (λ p. truth_in known (positive p)) (range_with_len 0 n)

-- ---- a step: deletes first, and then adds, each as far as it fires in the values before

abbrev pub firing : List Truth → Effect → Firing
firing vs e = record { result = e.result; fires = all_true vs e.cond }

abbrev pub deleted : List Truth → Firing → List Truth
deleted vs f = if f.result.positive then vs else with_value vs f.result.atom.0 (both (value_at vs f.result.atom.0) (opposite f.fires))

abbrev pub added : List Truth → Firing → List Truth
added vs f = if f.result.positive then with_value vs f.result.atom.0 (either (value_at vs f.result.atom.0) f.fires) else vs

abbrev pub with_firings : List Truth → List Firing → List Truth
with_firings vs fs = fold added (fold deleted vs fs) fs

abbrev pub stepped : List Truth → List Effect → List Truth
stepped vs es = with_firings vs (map (firing vs) es)

-- ---- a run

abbrev pub next_values : Option Action → List Truth → List Truth
next_values None vs = vs
next_values (Some a) vs = stepped vs a.effects
