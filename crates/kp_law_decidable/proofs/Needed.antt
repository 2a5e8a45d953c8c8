-- Some list of literals is that of the targets.
use Rattle.std.proofs.Common.{◌++◌, List, flat_map, sym, ◌∙◌, inl, inr}
use Rattle.kp_base.specs.declared.lit.Lit.{Lit}
use Rattle.kp_base.specs.declared.ground.Ground.{Ground}
use Rattle.kp_base.specs.Planning.{Member, same_lit, set_of, IsTarget}
use Rattle.kp_base.proofs.Lists.{append_member, member_left, member_right, flat_member, member_flat_map}
use Rattle.kp_base.proofs.Lits.{has-member, member-has}
use Rattle.kp_base.proofs.Sets.{any-set_of, set_ascends}
use Rattle.kp_law_decidable.specs.Laws.{TargetsAreDecided}

-- a set has the literals of its list

pub set_member : (ls : List Lit) (l : Lit) → Member (set_of ls) l → Member ls l
set_member ls l m = member-has ls l (sym (any-set_of (same_lit l) ls) ∙ has-member (set_of ls) l m)

pub member_set : (ls : List Lit) (l : Lit) → Member ls l → Member (set_of ls) l
member_set ls l m = member-has (set_of ls) l (any-set_of (same_lit l) ls ∙ has-member ls l m)

module _ (g : Ground) where
  abbrev in_actions : List Lit
  in_actions = flat_map (λ a. a.pre) g.actions

  target_of : (l : Lit) → Member (in_actions ++ g.goal) l → IsTarget g l
  target_of l m = elim (append_member in_actions g.goal l m) [
    | inl there ↦ let a = flat_member (λ a. a.pre) g.actions l there in IsTarget.of_precondition a.0 a.1 a.2
    | inr there ↦ IsTarget.of_goal there
  ]

  of_target : (l : Lit) → IsTarget g l → Member (in_actions ++ g.goal) l
  of_target l (IsTarget.of_precondition a in_acts in_pre) = member_left in_actions g.goal l (member_flat_map (λ a. a.pre) g.actions a l in_acts in_pre)
  of_target l (IsTarget.of_goal m) = member_right in_actions g.goal l m

pub targets_decided : TargetsAreDecided
targets_decided g = (
  set_of (in_actions g ++ g.goal),
  record {
    exact = λ l. (λ m. target_of g l (set_member (in_actions g ++ g.goal) l m), λ t. member_set (in_actions g ++ g.goal) l (of_target g l t));
    ascending = set_ascends (in_actions g ++ g.goal);
  },
)
