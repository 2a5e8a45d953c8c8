-- How large a problem is: the number of its bindings, and the weights of its kept instances.
use Rattle.std.specs.Prelude.{ℕ, zero, suc, ◌+◌, ◌*◌, length, sum_by}
use Rattle.kp_names_semantics.specs.Numbered.{Cond, Conds, Eff, Effs, Schema, Lifted}
use Rattle.kp_names_semantics.specs.Lifted.{bindings}
use Rattle.kp_ground_semantics.specs.Ground.{kept_bindings}

-- the number of lists of objects for the parameters of all schemas
abbrev pub binding_count : Lifted → ℕ
binding_count l = sum_by (λ a. length (bindings a.params)) l.schemas

-- the number of literals and equalities of a condition
abbrev mutual
  pub cond_size : Cond → ℕ
  cond_size (Cond.all cs) = conds_size cs
  cond_size (Cond.atom positive q ts) = 1
  cond_size (Cond.same positive left right) = 1

  pub conds_size : Conds → ℕ
  conds_size Conds.no_cond = 0
  conds_size (Conds.more_conds c cs) = cond_size c + conds_size cs

-- the weight of what stands within, and where nothing does, that of a leaf; so what is empty is a leaf
abbrev pub or_leaf : ℕ → ℕ → ℕ
or_leaf leaf zero = leaf
or_leaf leaf (suc n) = suc n

-- the weights of the leaves of an effect, where those that aren't under further conditions have this one; each condition adds its size, and a body counts once for each list of objects. An add or delete weighs one more than the literals and equalities round it; what is empty weighs like an add
abbrev mutual
  pub leaves_weight : ℕ → Eff → ℕ
  leaves_weight leaf (Eff.both es) = or_leaf leaf (all_leaves_weight leaf es)
  leaves_weight leaf (Eff.when c e) = leaves_weight (leaf + cond_size c) e
  leaves_weight leaf (Eff.each rs e) = or_leaf leaf (length (bindings rs) * leaves_weight leaf e)
  leaves_weight leaf (Eff.makes positive q ts) = leaf

  pub all_leaves_weight : ℕ → Effs → ℕ
  all_leaves_weight leaf Effs.no_eff = 0
  all_leaves_weight leaf (Effs.more_effs e es) = leaves_weight leaf e + all_leaves_weight leaf es

-- the weight of an instance of a schema: the size of its precondition, and its leaves, each with one
abbrev pub weight : Schema → ℕ
weight a = cond_size a.pre + leaves_weight 1 a.effect

-- the weights of all kept instances
abbrev pub total_weight : Lifted → ℕ
total_weight l = sum_by (λ a. length (kept_bindings l a) * weight a) l.schemas
