-- The exclusive pairs are one set, which the initial states determine; where no action clashes under it, nothing clashes.
use Rattle.std.proofs.Common.{◌≡◌, ℕ, ◌++◌, length, sym, ◌∙◌}
use Rattle.kp_base.specs.declared.ground.Action.{Action}
use Rattle.kp_base.specs.declared.ground.Ground.{Ground}
use Rattle.kp_base.specs.declared.ground.Initial.{Initial}
use Rattle.kp_base.specs.declared.refused.ClashAt.{ClashAt}
use Rattle.kp_base.specs.Clashes.{Pairs, Clashes, IsClash, IsFirstClash}
use Rattle.kp_base.specs.Exclusive.{IsPart, IsInductive, IsExclusive, AreExclusive, ClashesFirst, IsClashFree}
use Rattle.kp_base.proofs.Lists.{bool_same}
use Rattle.kp_base.proofs.Exclusive.{compatible_under_fewer}
use Rattle.kp_law_tagged_machine.specs.Laws.{ClashFreeNeverClashes}
use Rattle.kp_base.specs.Entailed.{HaveSameModels}
use Rattle.kp_law_tagged_machine.proofs.Inductive as inductive
use Rattle.kp_law_tagged_machine.proofs.Union.{union_inductive}

pub never_clashes : ClashFreeNeverClashes
never_clashes g i free = inductive.never_clashes g i (length g.atoms) free.pairs (union_inductive g i (length g.atoms) free.pairs free.exclusive) free.none

-- ---- by the initial states alone

inductive_by_models : (g : Ground) (i j : Initial) (atoms : ℕ) (pairs : Pairs) → HaveSameModels i j → IsInductive g i atoms pairs → IsInductive g j atoms pairs
inductive_by_models g i j atoms pairs same ind = record {
  are_pairs = ind.are_pairs;
  never_at_the_start = λ p q pair s model. ind.never_at_the_start p q pair s (same s ∙ model);
  never_both_added = ind.never_both_added;
  other_deleted = ind.other_deleted;
}

exclusive_by_models : (g : Ground) (i j : Initial) (atoms p q : ℕ) → HaveSameModels i j → IsExclusive g i atoms p q → IsExclusive g j atoms p q
exclusive_by_models g i j atoms p q same x = record { pairs = x.pairs; inductive = inductive_by_models g i j atoms x.pairs same x.inductive; has_pair = x.has_pair }

pub by_models : (g : Ground) (i j : Initial) (atoms : ℕ) (pairs : Pairs) → HaveSameModels i j → AreExclusive g i atoms pairs → AreExclusive g j atoms pairs
by_models g i j atoms pairs same are = record {
  each = λ p q pair. exclusive_by_models g i j atoms p q same (are.each p q pair);
  all = λ p q x. are.all p q (exclusive_by_models g j i atoms p q (λ s. sym (same s)) x);
}

pub first_by_models : (g : Ground) (i j : Initial) (c : ClashAt) → HaveSameModels i j → ClashesFirst g i c → ClashesFirst g j c
first_by_models g i j c same h = record { pairs = h.pairs; exclusive = by_models g i j (length g.atoms) h.pairs same h.exclusive; first = h.first }

pub free_by_models : (g : Ground) (i j : Initial) → HaveSameModels i j → IsClashFree g i → IsClashFree g j
free_by_models g i j same h = record { pairs = h.pairs; exclusive = by_models g i j (length g.atoms) h.pairs same h.exclusive; none = h.none }

-- ---- one set

-- the same pairs
abbrev pub AreSame : Pairs → Pairs → Type 0
AreSame some other = (p q : ℕ) → some p q ≡ other p q

same_pairs : (g : Ground) (i : Initial) (atoms : ℕ) (some other : Pairs) → AreExclusive g i atoms some → AreExclusive g i atoms other → AreSame some other
same_pairs g i atoms some other one two p q = bool_same (some p q) (other p q) (λ h. two.all p q (one.each p q h)) (λ h. one.all p q (two.each p q h))

-- ---- clashes under the same pairs

-- an action that clashes under more pairs clashes under fewer
clashes_under_fewer : (some more : Pairs) → IsPart some more → (a : Action) (p k j : ℕ) → Clashes more a p k j → Clashes some a p k j
clashes_under_fewer some more part a p k j c = record {
  adding = c.adding;
  deleting = c.deleting;
  add_at = c.add_at;
  delete_at = c.delete_at;
  adds = c.adds;
  deletes = c.deletes;
  compatible = compatible_under_fewer some more part (a.pre ++ (c.adding.cond ++ c.deleting.cond)) c.compatible;
}

is_clash_under_fewer : (some more : Pairs) → IsPart some more → (g : Ground) (c : ClashAt) → IsClash more g c → IsClash some g c
is_clash_under_fewer some more part g c h = record { action = h.action; action_at = h.action_at; clashes = clashes_under_fewer some more part h.action c.atom.0 c.add c.delete h.clashes }

same_first : (some other : Pairs) → AreSame some other → (g : Ground) (c : ClashAt) → IsFirstClash some g c → IsFirstClash other g c
same_first some other same g c h = record {
  clash = is_clash_under_fewer other some (λ p q e. same p q ∙ e) g c h.clash;
  first = λ d k. h.first d (is_clash_under_fewer some other (λ p q e. sym (same p q) ∙ e) g d k);
}

-- under the exclusive pairs no clash is first where there is none
pub clash_or_free : (g : Ground) (i : Initial) (c : ClashAt) → ClashesFirst g i c → IsClashFree g i → ⊥
clash_or_free g i c first free =
    let here = same_first first.pairs free.pairs (same_pairs g i (length g.atoms) first.pairs free.pairs first.exclusive free.exclusive) g c first.first in
    free.none c.action c.atom.0 c.add c.delete here.clash.action here.clash.action_at here.clash.clashes

-- a clash that is first under the exclusive pairs is so under those of another
pub under_one : (g : Ground) (i : Initial) (c d : ClashAt) (h : ClashesFirst g i c) (k : ClashesFirst g i d) → IsFirstClash h.pairs g d
under_one g i c d h k = same_first k.pairs h.pairs (same_pairs g i (length g.atoms) k.pairs h.pairs k.exclusive h.exclusive) g d k.first
