-- Rules by number, and which of them wait to be tried. This file serves proofs alone.
use Rattle.std.specs.Prelude.{◌≡◌, ◌<◌, ◌≤◌, ◌+◌, ◌-◌, ◌⊎◌, ℕ, Bool, true, false, ◌||◌, cond, nat_eq, nat_lt, nat_le, min, sum, List, [], ◌∷◌, ◌++◌, Some, map, length, slice_get, slice_index_or}
use Rattle.kp_base.specs.Lists.{Member}
use Rattle.kp_classic.specs.Fits.{are_below}
use Rattle.kp_guide.specs.declared.rule.Rule.{Rule}
use Rattle.kp_guide.specs.CostTables.{value, cost_by, are_costs, Lowers}

-- the rules of a fact
abbrev pub row : List (List ℕ) → ℕ → List ℕ
row users f = slice_index_or users f []

-- ---- how many

-- one where the test holds, and else none
abbrev pub one_if : Bool → ℕ
one_if b = cond b 1 0

-- how many of these numbers pass a test
abbrev pub how_many : (ℕ → Bool) → List ℕ → ℕ
how_many p [] = 0
how_many p (x ∷ xs) = one_if (p x) + how_many p xs

-- how often a number stands in a list
abbrev pub times : List ℕ → ℕ → ℕ
times xs x = how_many (nat_eq x) xs

-- ---- which rules need a fact

-- these numbers are all below one, for each fact
pub record AllBelow (m : ℕ) (users : List (List ℕ)) : Type 0 where
  pub each : (f : ℕ) → are_below m (row users f) ≡ true

-- a number is put to the facts of a list
pub record Notes (fs : List ℕ) (number : ℕ) (old new : List (List ℕ)) : Type 0 where
  pub long : length new ≡ length old
  pub noted : (f : ℕ) → times (row new f) number ≡ times (row old f) number + times fs f
  pub others : (f k : ℕ) → (k ≡ number → ⊥) → times (row new f) k ≡ times (row old f) k
  pub below : (m : ℕ) → number < m → AllBelow m old → AllBelow m new

-- the first i rules stand with the facts that they need, as often as they need them
pub record AreUsers (rules : List Rule) (i : ℕ) (users : List (List ℕ)) : Type 0 where
  pub listed : (k : ℕ) (r : Rule) (f : ℕ) → k < i → slice_get rules k ≡ Some r → times (row users f) k ≡ times r.needs f
  pub later : (k f : ℕ) → i ≤ k → times (row users f) k ≡ 0
  pub below : AllBelow (length rules) users

-- ---- how many needs aren't met

-- a fact has no cost
abbrev pub unreached : List ℕ → ℕ → Bool
unreached costs f = nat_lt 1000000000 (value costs f)

-- a fact has no cost, or isn't one of the first i
abbrev pub unreached_before : List ℕ → ℕ → ℕ → Bool
unreached_before costs i f = nat_le i f || unreached costs f

-- the count of a rule
abbrev pub count_at : List ℕ → ℕ → ℕ
count_at counts k = slice_index_or counts k 0

-- how much each rule needs
abbrev pub needs_of : List Rule → List ℕ
needs_of rules = map (λ r. length r.needs) rules

-- the counts say how many of each rule's needs pass a test
pub record AreCounts (rules : List Rule) (test : ℕ → Bool) (counts : List ℕ) : Type 0 where
  pub long : length counts ≡ length rules
  pub each : (k : ℕ) (r : Rule) → slice_get rules k ≡ Some r → count_at counts k ≡ how_many test r.needs

-- no rule is named more often than its count says
pub record AreEnough (numbers counts : List ℕ) : Type 0 where
  pub each : (k : ℕ) → times numbers k ≤ count_at counts k

-- the counts of these rules fall, by one for each time that a rule is named
pub record CountsDown (numbers : List ℕ) (old new : List ℕ) : Type 0 where
  pub long : length new ≡ length old
  pub each : (k : ℕ) → count_at new k ≡ count_at old k - times numbers k

-- ---- which rules wait

abbrev pub waits_at : List Bool → ℕ → Bool
waits_at waits k = slice_index_or waits k false

-- more rules wait, just those whose counts are none; and those that didn't are listed
pub record Waits (counts : List ℕ) (more : List ℕ) (waits : List Bool) (next : List ℕ) (waits' : List Bool) (next' : List ℕ) : Type 0 where
  pub long : length waits' ≡ length waits
  pub below : are_below (length waits) next ≡ true → are_below (length waits) next' ≡ true
  pub keeps : (k : ℕ) → waits_at waits k ≡ true → waits_at waits' k ≡ true
  pub all : (k : ℕ) → Member more k → count_at counts k ≡ 0 → waits_at waits' k ≡ true
  pub only : (k : ℕ) → waits_at waits' k ≡ true → (waits_at waits k ≡ true) ⊎ (count_at counts k ≡ 0)
  pub listed : (k : ℕ) → waits_at waits' k ≡ true → (waits_at waits k ≡ true) ⊎ Member next' k
  pub stays : (k : ℕ) → Member next k → Member next' k

-- each rule waits, or lowers no cost; and what waits is listed
pub record IsReady (rules : List Rule) (costs : List ℕ) (waits : List Bool) (list : List ℕ) : Type 0 where
  pub each : (k : ℕ) (r : Rule) → slice_get rules k ≡ Some r → (waits_at waits k ≡ true) ⊎ (value costs r.fact ≤ cost_by costs r)
  pub listed : (k : ℕ) → waits_at waits k ≡ true → Member list k

-- costs of n facts, counts and flags of the rules, of which none waits that lacks a need, and numbers of rules
pub record IsWork (rules : List Rule) (n : ℕ) (costs counts : List ℕ) (waits : List Bool) (next : List ℕ) : Type 0 where
  pub long : length costs ≡ n
  pub in_range : are_costs costs ≡ true
  pub counted : AreCounts rules (unreached costs) counts
  pub flags : length waits ≡ length rules
  pub lack_none : (k : ℕ) → waits_at waits k ≡ true → count_at counts k ≡ 0
  pub known : are_below (length rules) next ≡ true

-- what falls with each round
abbrev pub weight : List ℕ → List ℕ → ℕ
weight costs next = sum costs + min 1 (length next)

-- a rule is tried
pub record Tries (rules : List Rule) (n k : ℕ) (costs counts : List ℕ) (waits : List Bool) (next : List ℕ) (costs' counts' : List ℕ) (waits' : List Bool) (next' : List ℕ) : Type 0 where
  pub work : IsWork rules n costs' counts' waits' next'
  pub lowers : Lowers rules costs costs'
  pub lighter : weight costs' next' ≤ weight costs next
  pub ready : (rest : List ℕ) → IsReady rules costs waits (k ∷ (rest ++ next)) → IsReady rules costs' waits' (rest ++ next')

-- all rules that waited are tried, and others wait then
pub record Rounds (rules : List Rule) (n : ℕ) (costs costs' counts' : List ℕ) (waits' : List Bool) (rest next' : List ℕ) : Type 0 where
  pub work : IsWork rules n costs' counts' waits' next'
  pub lowers : Lowers rules costs costs'
  pub lighter : weight costs' next' ≤ sum costs
  pub ready : IsReady rules costs' waits' (rest ++ next')
