-- The tree of an instance means what the schema means under the binding.
use Rattle.std.proofs.Common.{◌≡◌, ℕ, not, ◌||◌, List, [], ◌∷◌, ◌++◌, Option, Some, None, option_map, slice_get, refl, sym, ap, map, ◌∙◌}
use Rattle.std.specs.List.{flat_map}
use Rattle.kp_base.specs.Lists.{only_if}
use Rattle.kp_base.proofs.Lists.{map_map}
use Rattle.kp_names_semantics.specs.declared.lifted.Term.{Term}
use Rattle.kp_names_semantics.specs.declared.lifted.GroundLit.{GroundLit}
use Rattle.kp_names_semantics.specs.Numbered.{Cond, Conds, Eff, Effs, Schema, Lifted}
use Rattle.kp_names_semantics.specs.Lifted.{State, Binding, object_of, ground, literal_holds, all_hold, bindings, fires, all_fire}
use Rattle.kp_names.specs.View.{effs_of}
use Rattle.kp_ground_semantics.specs.declared.flat.FlatEffect.{FlatEffect}
use Rattle.kp_ground_semantics.specs.Static.{is_static, initially, settled, all_settled, remaining, all_remaining}
use Rattle.kp_ground_semantics.specs.Flattening.{flat, all_flat, flat_of}
use Rattle.kp_ground_flatten.specs.Bound.{Tree, bound_term, bound_cond, bound_conds, bound_eff, bound_effs, bound, bound_at, flat_tree, flat_at}
use Rattle.kp_ground_flatten.specs.Laws.{IsHoldsBound, IsFiresBound, IsSplitBound, IsFlatBound, IsFlatOfTree}

-- ---- conditions

-- the objects of bound terms are those of the terms
objects_bound : (b : Binding) (ts : List Term) → map (object_of []) (map (bound_term b) ts) ≡ map (object_of b) ts
objects_bound b ts = map_map (bound_term b) (object_of []) (object_of b) ts (λ t. refl)

mutual
  pub holds_bound : IsHoldsBound
  holds_bound s b (Cond.all cs) = all_hold_bound s b cs
  holds_bound s b (Cond.atom positive q ts) = ap (λ os. literal_holds s (ground positive q os)) (objects_bound b ts)
  holds_bound s b (Cond.same positive left right) = refl

  all_hold_bound : (s : State) (b : Binding) (cs : Conds) → all_hold s [] (bound_conds b cs) ≡ all_hold s b cs
  all_hold_bound s b Conds.no_cond = refl
  all_hold_bound s b (Conds.more_conds c cs) = rw (holds_bound s b c, all_hold_bound s b cs) refl

module _ (l : Lifted) (b : Binding) where
  mutual
    settled_bound : (c : Cond) → settled l [] (bound_cond b c) ≡ settled l b c
    settled_bound (Cond.all cs) = all_settled_bound cs
    settled_bound (Cond.atom positive q ts) = ap (λ os. not (is_static l q) || literal_holds (initially l) (ground positive q os)) (objects_bound b ts)
    settled_bound (Cond.same positive left right) = refl

    all_settled_bound : (cs : Conds) → all_settled l [] (bound_conds b cs) ≡ all_settled l b cs
    all_settled_bound Conds.no_cond = refl
    all_settled_bound (Conds.more_conds c cs) = rw (settled_bound c, all_settled_bound cs) refl

  mutual
    remaining_bound : (c : Cond) → remaining l [] (bound_cond b c) ≡ remaining l b c
    remaining_bound (Cond.all cs) = all_remaining_bound cs
    remaining_bound (Cond.atom positive q ts) = ap (λ os. only_if (not (is_static l q)) (ground positive q os ∷ [])) (objects_bound b ts)
    remaining_bound (Cond.same positive left right) = refl

    all_remaining_bound : (cs : Conds) → all_remaining l [] (bound_conds b cs) ≡ all_remaining l b cs
    all_remaining_bound Conds.no_cond = refl
    all_remaining_bound (Conds.more_conds c cs) = rw (remaining_bound c, all_remaining_bound cs) refl

pub split_bound : IsSplitBound
split_bound l b c = record { settled_alike = settled_bound l b c; remaining_alike = remaining_bound l b c }

-- ---- effects

-- the parts of a list of effects, one by one
pub fires_parts : (s : State) (b : Binding) (es : List Eff) → all_fire s b (effs_of es) ≡ flat_map (fires s b) es
fires_parts s b [] = refl
fires_parts s b (e ∷ es) = ap (λ z. fires s b e ++ z) (fires_parts s b es)

pub flat_parts : (l : Lifted) (b : Binding) (es : List Eff) → all_flat l b (effs_of es) ≡ flat_map (flat l b) es
flat_parts l b [] = refl
flat_parts l b (e ∷ es) = ap (λ z. flat l b e ++ z) (flat_parts l b es)

-- what holds of the body under each binding holds of the bodies
each_body : {X : Type 0} (f : Eff → List X) (g : Binding → List X) (body : Binding → Eff) → ((os : Binding) → f (body os) ≡ g os) → (bs : List Binding) → flat_map f (map body bs) ≡ flat_map g bs
each_body f g body inner [] = refl
each_body f g body inner (os ∷ bs) = rw (inner os, each_body f g body inner bs) refl

mutual
  pub fires_bound : IsFiresBound
  fires_bound s b (Eff.both es) = all_fire_bound s b es
  fires_bound s b (Eff.when c e) = rw (holds_bound s b c, fires_bound s b e) refl
  fires_bound s b (Eff.each rs e) =
      fires_parts s [] (map (λ os. bound_eff (b ++ os) e) (bindings rs))
      ∙ each_body (fires s []) (λ os. fires s (b ++ os) e) (λ os. bound_eff (b ++ os) e) (λ os. fires_bound s (b ++ os) e) (bindings rs)
  fires_bound s b (Eff.makes positive q ts) = ap (λ os. ground positive q os ∷ []) (objects_bound b ts)

  all_fire_bound : (s : State) (b : Binding) (es : Effs) → all_fire s [] (bound_effs b es) ≡ all_fire s b es
  all_fire_bound s b Effs.no_eff = refl
  all_fire_bound s b (Effs.more_effs e es) = rw (fires_bound s b e, all_fire_bound s b es) refl

-- an effect without conditions
abbrev makes_one : GroundLit → List FlatEffect
makes_one m = record { cond = []; result = m } ∷ []

mutual
  pub flat_bound : IsFlatBound
  flat_bound l b (Eff.both es) = all_flat_bound l b es
  flat_bound l b (Eff.when c e) = rw (settled_bound l b c, remaining_bound l b c, flat_bound l b e) refl
  flat_bound l b (Eff.each rs e) =
      flat_parts l [] (map (λ os. bound_eff (b ++ os) e) (bindings rs))
      ∙ each_body (flat l []) (λ os. flat l (b ++ os) e) (λ os. bound_eff (b ++ os) e) (λ os. flat_bound l (b ++ os) e) (bindings rs)
  flat_bound l b (Eff.makes positive q ts) = ap (λ os. makes_one (ground positive q os)) (objects_bound b ts)

  all_flat_bound : (l : Lifted) (b : Binding) (es : Effs) → all_flat l [] (bound_effs b es) ≡ all_flat l b es
  all_flat_bound l b Effs.no_eff = refl
  all_flat_bound l b (Effs.more_effs e es) = rw (flat_bound l b e, all_flat_bound l b es) refl

pub flat_of_tree : IsFlatOfTree
flat_of_tree l a os = rw (remaining_bound l os a.pre, flat_bound l os a.effect) refl

-- the flat form of the tree of a number's schema is that of the schema
pub flat_of_bound : (l : Lifted) (n : ℕ) (os : List ℕ) (t : Tree) → bound_at l n os ≡ Some t → flat_at l n os ≡ Some (flat_tree l t)
flat_of_bound l n os t h = go (slice_get l.schemas n) h
  where
    go : (o : Option Schema) → option_map (bound os) o ≡ Some t → option_map (λ a. flat_of l a os) o ≡ Some (flat_tree l t)
    go None e = cc
    go (Some a) e = let same : bound os a ≡ t = cc in ap Some (sym (flat_of_tree l a os) ∙ ap (flat_tree l) same)
