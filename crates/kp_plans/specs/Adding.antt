-- Actions that are added to those that steps came to so far. This file serves proofs alone.
use Rattle.std.specs.Prelude.{◌≡◌, Bool, true, false, List, ◌++◌, Some, None, option_map}
use Rattle.kp_base.specs.declared.ground.GroundName.{GroundName}
use Rattle.kp_names_semantics.specs.Strip.{stripped}

-- the step is an operator's, and what it comes to was added; or it is no operator's
abbrev pub Adds : List GroundName → List GroundName → GroundName → Bool → Type 0
Adds before now step true = option_map (λ more. before ++ more) (stripped step.head step.objects) ≡ Some now
Adds before now step false = stripped step.head step.objects ≡ None
