-- Tables of the costs of facts, a number above a thousand million for those that aren't reached. This file serves proofs alone, but for `fits_rule`.
use Rattle.std.specs.Prelude.{◌≡◌, ◌<◌, ◌≤◌, ◌+◌, ◌⊎◌, ℕ, Bool, true, false, ◌&&◌, if◌then◌else◌, min, nat_lt, nat_le, nat_eq, List, [], ◌∷◌, ◌++◌, length, set, slice_index_or}
use Rattle.std.specs.List.{list_any, list_all}
use Rattle.kp_base.specs.Lists.{Member}
use Rattle.kp_classic.specs.Fits.{are_below}
use Rattle.kp_classic.specs.Steps.{Holding}
use Rattle.kp_guide.specs.declared.rule.Rule.{Rule}
use Rattle.kp_guide.specs.Added.{Costs}

-- the cost of a fact
abbrev pub value : List ℕ → ℕ → ℕ
value costs f = slice_index_or costs f 0

-- the sum of two costs; none where one of them is none
abbrev pub joined : ℕ → ℕ → ℕ
joined a b = if nat_le a 1000000000 && nat_le b 1000000000 then min (a + b) 1000000000 else 1000000001

-- what these facts cost together
abbrev pub total : List ℕ → List ℕ → ℕ
total costs [] = 0
total costs (f ∷ fs) = joined (value costs f) (total costs fs)

-- what a rule's fact costs by it
abbrev pub cost_by : List ℕ → Rule → ℕ
cost_by costs r = joined 1 (total costs r.needs)

abbrev pub are_costs : List ℕ → Bool
are_costs costs = list_all (λ c. nat_le c 1000000001) costs

abbrev pub fits_rule : ℕ → Rule → Bool
fits_rule n r = nat_lt r.fact n && are_below n r.needs

-- a list of facts with one more, unless it is there
abbrev pub with_fact : List ℕ → ℕ → List ℕ
with_fact fs f = if list_any (nat_eq f) fs then fs else fs ++ f ∷ []

-- at first no cost is known but those of the facts that hold
abbrev pub first_cost : Holding → ℕ → ℕ
first_cost s f = if s f then 0 else 1000000001

-- each cost is that of a chain
pub record AreAchieved (rules : List Rule) (s : Holding) (costs : List ℕ) : Type 0 where
  pub each : (f : ℕ) → f < length costs → value costs f ≤ 1000000000 → (n : ℕ) × Costs rules s (f ∷ []) n × (value costs f ≡ min n 1000000000)

-- no cost rises
pub record AreLow (old new : List ℕ) : Type 0 where
  pub each : (f : ℕ) → value new f ≤ value old f

-- no rule reaches its fact for less
pub record IsClosed (rules : List Rule) (costs : List ℕ) : Type 0 where
  pub each : (r : Rule) → Member rules r → value costs r.fact ≤ cost_by costs r

-- a rule lowers the cost of its fact, or says that it doesn't
pub record Relaxes (r : Rule) (old : List ℕ) (fell : Bool) (new : List ℕ) : Type 0 where
  pub is : (fell ≡ true) × (cost_by old r < value old r.fact) × (new ≡ set old r.fact (cost_by old r))
      ⊎ (fell ≡ false) × (value old r.fact ≤ cost_by old r) × (new ≡ old)

-- costs that come of others by rules
pub record Lowers (rules : List Rule) (old new : List ℕ) : Type 0 where
  pub len : length new ≡ length old
  pub costs : are_costs new ≡ true
  pub low : AreLow old new
  pub achieved : (s : Holding) → AreAchieved rules s old → AreAchieved rules s new

-- costs of so many facts: those of facts that hold are none, each is that of a chain, and no rule lowers one
pub record AreSettled (rules : List Rule) (s : Holding) (n : ℕ) (costs : List ℕ) : Type 0 where
  pub long : length costs ≡ n
  pub in_range : are_costs costs ≡ true
  pub given_free : (f : ℕ) → s f ≡ true → value costs f ≡ 0
  pub achieved : AreAchieved rules s costs
  pub closed : IsClosed rules costs
