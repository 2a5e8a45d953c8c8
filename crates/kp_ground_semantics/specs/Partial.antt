-- Partial bindings: objects for the first parameters of a schema under which no static literal and no equality is false that speaks of these alone; and how many bindings have to be looked at.
use Rattle.std.specs.Prelude.{ℕ, zero, suc, Bool, true, not, ◌==◌, ◌+◌, ◌&&◌, ◌||◌, List, filter, length, min, nat_lt, sum_by, take}
use Rattle.std.specs.List.{list_all}
use Rattle.kp_base.specs.Lists.{signed}
use Rattle.kp_names_semantics.specs.declared.lifted.Term.{Term}
use Rattle.kp_names_semantics.specs.Numbered.{Cond, Conds, Schema, Lifted}
use Rattle.kp_names_semantics.specs.Lifted.{Binding, bindings, object_of, literal, literal_holds}
use Rattle.kp_ground_semantics.specs.Static.{is_static, initially}
use Rattle.kp_ground_semantics.specs.Weights.{binding_count}

-- the term is an object, or one of the first n variables
abbrev pub is_bound : ℕ → Term → Bool
is_bound n (Term.Param i) = nat_lt i n
is_bound n (Term.Object o) = true

-- whether each static literal and each equality of a condition is true, of those whose variables all have objects
abbrev mutual
  pub unrefuted : Lifted → Binding → Cond → Bool
  unrefuted l b (Cond.all cs) = all_unrefuted l b cs
  unrefuted l b (Cond.atom positive q ts) = not (is_static l q && list_all (is_bound (length b)) ts) || literal_holds (initially l) (literal positive q ts b)
  unrefuted l b (Cond.same positive left right) = not (is_bound (length b) left && is_bound (length b) right) || signed positive (object_of b left == object_of b right)

  pub all_unrefuted : Lifted → Binding → Conds → Bool
  all_unrefuted l b Conds.no_cond = true
  all_unrefuted l b (Conds.more_conds c cs) = unrefuted l b c && all_unrefuted l b cs

-- the partial bindings of a length
abbrev pub partial_bindings : Lifted → Schema → ℕ → List Binding
partial_bindings l a i = filter (λ b. unrefuted l b a.pre) (bindings (take i a.params))

-- how many there are of this length and of all lesser ones
abbrev pub partials_to : Lifted → Schema → ℕ → ℕ
partials_to l a zero = length (partial_bindings l a zero)
partials_to l a (suc i) = partials_to l a i + length (partial_bindings l a (suc i))

-- of all lengths
abbrev pub schema_partials : Lifted → Schema → ℕ
schema_partials l a = partials_to l a (length a.params)

-- of all schemas
abbrev pub partial_count : Lifted → ℕ
partial_count l = sum_by (schema_partials l) l.schemas

-- how many bindings have to be looked at: all, or the partial ones, where these are fewer. It is above a limit where both numbers are
abbrev pub looked_at : Lifted → ℕ
looked_at l = min (binding_count l) (partial_count l)
