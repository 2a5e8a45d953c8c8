-- Effects by number of which those with one result come by ascending conditions. This file serves proofs alone.
use Rattle.std.specs.Prelude.{◌≡◌, ◌⊎◌, ℕ, List, [], fold, Option, Some, None, slice_get}
use Rattle.std.specs.declared.cmp.Ordering.{Ordering}
use Rattle.std.specs.declared.cmp.Ordering.TheVariants.{Less, Greater}
use Rattle.kp_base.specs.declared.ground.Effect.{Effect}
use Rattle.kp_base.specs.Lists.{Member}
use Rattle.kp_base.specs.Lit.{code_of}
use Rattle.kp_base.specs.LitSet.{lits_cmp}
use Rattle.kp_ground.specs.declared.made.Made.{Made}
use Rattle.kp_ground.specs.Made.{with_made}

-- how the condition of an effect compares with that of another, if there is one
abbrev pub beside : Option Effect → Effect → Ordering
beside None e = Less
beside (Some other) e = lits_cmp e.cond other.cond

-- how it compares with that of the effect at the last place of its result; above, where there is no such place
abbrev pub beside_last : Option ℕ → List Effect → Effect → Ordering
beside_last None es e = Greater
beside_last (Some place) es e = beside (slice_get es place) e

-- an effect at this place has the result of this code
pub record LeadsTo (es : List Effect) (n place : ℕ) : Type 0 where
  pub other : Effect
  pub there : slice_get es place ≡ Some other
  pub result : code_of other.result ≡ n

-- the last effect of this one's result has no lower condition
pub record IsUnder (last : ℕ → Option ℕ) (es : List Effect) (e : Effect) : Type 0 where
  pub place : ℕ
  pub known : last (code_of e.result) ≡ Some place
  pub other : Effect
  pub there : slice_get es place ≡ Some other
  pub under : lits_cmp other.cond e.cond ≡ Less → ⊥

-- the table has for the code of each result the place of an effect with it, and no effect with it has a greater condition
pub record IsRising (last : ℕ → Option ℕ) (es : List Effect) : Type 0 where
  pub leads : (n place : ℕ) → last n ≡ Some place → LeadsTo es n place
  pub under : (e : Effect) → Member es e → IsUnder last es e

-- effects that come one by one, unless they are there, are these
abbrev pub AreOnce : List Effect → Type 0
AreOnce es = fold with_made [] es ≡ es

-- all effects are rising ones, or all are in the set
abbrev pub AreApart : List Made → List Effect → Type 0
AreApart keys rising = ((keys ≡ []) × AreOnce rising) ⊎ (rising ≡ [])
