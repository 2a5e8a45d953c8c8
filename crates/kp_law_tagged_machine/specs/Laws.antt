-- What is proved of the tagged machine.
use Rattle.std.specs.Prelude.{◌≡◌, ℕ, true, false, not, ◌&&◌, ◌||◌, List, [], map, length}
use Rattle.std.specs.List.{list_any, list_all}
use Rattle.kp_base.specs.declared.lit.Lit.{Lit}
use Rattle.kp_base.specs.declared.ground.Effect.{Effect}
use Rattle.kp_base.specs.declared.ground.Action.{Action}
use Rattle.kp_base.specs.declared.ground.Ground.{Ground}
use Rattle.kp_base.specs.declared.ground.Initial.{Initial}
use Rattle.kp_base.specs.declared.ground.TagTable.{TagTable}
use Rattle.kp_base.specs.Planning.{negated, same_lit, State, Valuation, fires, is_model, runs, state_after, IsGroundPlan, IsClosure, IsTable, AreValid, NeverClashes, Pairs, HasNoClash, IsInductive, AreExclusive, IsClashFree, MachineStep, facts_after, accepts, stripped, one_tag_table}

-- ---- soundness

-- where a table is right, its merges are valid and nothing clashes, each list that the machine accepts is, without its merges, a plan
abbrev pub AcceptedListsArePlans : Type 0
AcceptedListsArePlans = (g : Ground) (i : Initial) (table : TagTable) → IsTable g i table → AreValid i table → NeverClashes g i → (steps : List MachineStep) → accepts g table steps ≡ true → IsGroundPlan g i (stripped steps)

-- ---- pairs

-- no state on a run from a model has both atoms of a pair of an inductive set
abbrev pub InductivePairsStayApart : Type 0
InductivePairsStayApart = (g : Ground) (i : Initial) (atoms : ℕ) (pairs : Pairs) → IsInductive g i atoms pairs → (s : State) (ns : List ℕ) → is_model i s ≡ true → runs g s ns ≡ true → (p q : ℕ) → pairs p q ≡ true → (state_after g s ns p && state_after g s ns q) ≡ false

-- where no action clashes under an inductive set, nothing clashes
abbrev pub InductiveNeverClashes : Type 0
InductiveNeverClashes = (g : Ground) (i : Initial) (atoms : ℕ) (pairs : Pairs) → IsInductive g i atoms pairs → HasNoClash pairs g → NeverClashes g i

-- the exclusive pairs are an inductive set, and so the greatest one
abbrev pub ExclusivePairsAreInductive : Type 0
ExclusivePairsAreInductive = (g : Ground) (i : Initial) (atoms : ℕ) (pairs : Pairs) → AreExclusive g i atoms pairs → IsInductive g i atoms pairs

-- where no action clashes under the exclusive pairs, nothing clashes
abbrev pub ClashFreeNeverClashes : Type 0
ClashFreeNeverClashes = (g : Ground) (i : Initial) → IsClashFree g i → NeverClashes g i

-- ---- operators

-- some cancellation fires: it makes this literal no fact, and the negation of none of its conditions is one
abbrev pub is_cancelled : List Effect → Valuation → Valuation
is_cancelled es k l = list_any (λ e. same_lit (negated e.result) l && list_all (λ c. not (k (negated c))) e.cond) es

-- the facts after the supports and cancellations of an action's effects: what is cancelled goes, and then what is supported comes
abbrev pub facts_after_operator : Action → Valuation → Valuation
facts_after_operator a k l = fires a.effects k l || (k l && not (is_cancelled a.effects k l))

-- supports and cancellations do what the machine does
abbrev pub OperatorsAreExact : Type 0
OperatorsAreExact = (a : Action) (k : Valuation) (l : Lit) → facts_after_operator a k l ≡ facts_after a k l

-- ---- one tag

-- with the closure of the empty tag, the table of that tag alone is right, and its merges are valid
abbrev pub OneTagIsTable : Type 0
OneTagIsTable = (g : Ground) (i : Initial) (closure : List Lit) → IsClosure (length g.atoms) i [] closure → IsTable g i (one_tag_table closure) × AreValid i (one_tag_table closure)

-- with that table, the machine accepts lists of actions alone
abbrev pub OneTagHasNoMerges : Type 0
OneTagHasNoMerges = (g : Ground) (closure : List Lit) (steps : List MachineStep) → accepts g (one_tag_table closure) steps ≡ true → steps ≡ map MachineStep.act (stripped steps)
