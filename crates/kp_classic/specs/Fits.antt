-- Tasks whose numbers are those of their facts.
use Rattle.std.specs.Prelude.{◌≡◌, ◌<◌, ℕ, Bool, true, ◌&&◌, List, length, nat_lt}
use Rattle.std.specs.List.{list_all}
use Rattle.kp_classic.specs.declared.task.Conds.{Conds}
use Rattle.kp_classic.specs.declared.task.OpEffect.{OpEffect}
use Rattle.kp_classic.specs.declared.task.Op.{Op}
use Rattle.kp_classic.specs.declared.task.Task.{Task}

-- each number is below n
abbrev pub are_below : ℕ → List ℕ → Bool
are_below n fs = list_all (λ f. nat_lt f n) fs

-- conditions on the first n facts
abbrev pub fits : ℕ → Conds → Bool
fits n c = are_below n c.yes && are_below n c.no

-- an effect on the first n facts
abbrev pub fits_effect : ℕ → OpEffect → Bool
fits_effect n e = nat_lt e.fact n && fits n e.cond

-- an operator on the first n facts
abbrev pub fits_op : ℕ → Op → Bool
fits_op n o = fits n o.pre && list_all (fits_effect n) o.effects

-- each number in the task is that of one of its facts, and a `u32` counts facts and operators
pub record IsFit (t : Task) : Type 0 where
  pub few_facts : length t.facts < 2147483648
  pub few_ops : length t.ops < 2147483648
  pub init : are_below (length t.facts) t.init ≡ true
  pub goal : fits (length t.facts) t.goal ≡ true
  pub ops : list_all (fits_op (length t.facts)) t.ops ≡ true
