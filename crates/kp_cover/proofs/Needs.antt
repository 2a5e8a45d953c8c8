-- The set of all literals of preconditions and of the goal has just the targets.
use Rattle.std.proofs.Common.{◌≡◌, ◌++◌, List, sym, subst, ◌∙◌, inl, inr}
use Rattle.std.specs.List.{flat_map}
use Rattle.kp_base.specs.declared.lit.Lit.{Lit}
use Rattle.kp_base.specs.declared.ground.Action.{Action}
use Rattle.kp_base.specs.declared.ground.Ground.{Ground}
use Rattle.kp_base.specs.Planning.{Member, same_lit, IsAscending, set_of, IsTarget}
use Rattle.kp_base.proofs.Lists.{append_member, member_left, member_right, flat_member, member_flat_map}
use Rattle.kp_base.proofs.Lits.{has-member, member-has}
use Rattle.kp_base.proofs.Sets.{any-set_of, set_ascends}
use Rattle.kp_cover.specs.Targets.{AreTargets}

-- the preconditions, and then the goal
abbrev pub lits_of : Ground → List Lit
lits_of g = flat_map (λ (a : Action). a.pre) g.actions ++ g.goal

in_set : (ls : List Lit) (l : Lit) → Member (set_of ls) l → Member ls l
in_set ls l m = member-has ls l (sym (any-set_of (same_lit l) ls) ∙ has-member (set_of ls) l m)

from_set : (ls : List Lit) (l : Lit) → Member ls l → Member (set_of ls) l
from_set ls l m = member-has (set_of ls) l (any-set_of (same_lit l) ls ∙ has-member ls l m)

target : (g : Ground) (l : Lit) → Member (lits_of g) l → IsTarget g l
target g l m = elim (append_member (flat_map (λ (a : Action). a.pre) g.actions) g.goal l m) [
  | inl p ↦ let a = flat_member (λ (a : Action). a.pre) g.actions l p in IsTarget.of_precondition a.0 a.1 a.2
  | inr q ↦ IsTarget.of_goal q
]

is_lit : (g : Ground) (l : Lit) → IsTarget g l → Member (lits_of g) l
is_lit g l (IsTarget.of_precondition a m p) = member_left (flat_map (λ (a : Action). a.pre) g.actions) g.goal l (member_flat_map (λ (a : Action). a.pre) g.actions a l m p)
is_lit g l (IsTarget.of_goal q) = member_right (flat_map (λ (a : Action). a.pre) g.actions) g.goal l q

pub are_targets : (g : Ground) (ls : List Lit) → ls ≡ set_of (lits_of g) → AreTargets g ls
are_targets g ls is = record {
  exact = λ l. (
    λ m. target g l (in_set (lits_of g) l (subst (λ (xs : List Lit). Member xs l) is m)),
    λ t. subst (λ (xs : List Lit). Member xs l) (sym is) (from_set (lits_of g) l (is_lit g l t)),
  );
  ascending = subst IsAscending (sym is) (set_ascends (lits_of g));
}
