-- Effects by number, each once. This file serves proofs alone.
use Rattle.std.specs.Prelude.{ℕ, Bool, ◌&&◌, if◌then◌else◌, List, [], ◌∷◌, ◌++◌}
use Rattle.std.specs.Hash as fed
use Rattle.std.specs.List.{list_any}
use Rattle.kp_base.specs.declared.lit.Lit.{Lit}
use Rattle.kp_base.specs.declared.ground.Effect.{Effect}
use Rattle.kp_base.specs.Lit.{same_lit}
use Rattle.kp_base.specs.LitSet.{same_set}
use Rattle.kp_ground.specs.declared.made.Made.{Made}

-- whether two effects by number are one
abbrev pub same_made : Effect → Effect → Bool
same_made e d = same_lit e.result d.result && same_set e.cond d.cond

-- the effects with one more at the end, if it isn't there yet
abbrev pub with_made : List Effect → Effect → List Effect
with_made es e = if list_any (same_made e) es then es else es ++ e ∷ []

-- the effect that a table keeps
abbrev pub made_effect : Made → Effect
made_effect m = m.effect

-- what a hash is fed of a literal
abbrev pub fed_lit : Lit → List (List ℕ)
fed_lit l = fed.u32 l.atom.0 ++ fed.bool l.positive
