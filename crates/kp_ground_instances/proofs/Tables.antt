-- What the tables tell: which predicates aren't static, and which atoms are stated.
use Rattle.std.proofs.Common.{◌≡◌, ℕ, ◌==◌, Bool, true, false, not, ◌&&◌, ◌||◌, List, map, nat_eq, eqb-true, eq-eqb, refl, sym, ap, ap₂, ◌∙◌}
use Rattle.std.specs.List.{list_any, list_all}
use Rattle.kp_base.proofs.Lists.{bool_same, any-not, any_map}
use Rattle.kp_names_semantics.specs.declared.lifted.GroundLit.{GroundLit}
use Rattle.kp_names_semantics.specs.declared.lifted.Item.{Item}
use Rattle.kp_names_semantics.specs.Names.{same}
use Rattle.kp_names_semantics.proofs.Public.{same_name-sym}
use Rattle.kp_names_numbered.specs.declared.lifted.Schema as schemas
use Rattle.kp_names_numbered.specs.declared.lifted.Lifted as lifteds
use Rattle.kp_names.specs.View.{eff_view, schema_view, lifted_view}
use Rattle.kp_base.proofs.Once.{any-added}
use Rattle.kp_base.specs.Atoms.{same_atom}
use Rattle.kp_base.proofs.AtomOrder.{same_atoms}
use Rattle.kp_ground_semantics.specs.Static.{changes, leaves_static, is_static, says}
use Rattle.kp_ground_instances.specs.StaticTables.{has_atom, with_atom}

-- ---- truth values

eq-sym : (a b : ℕ) → nat_eq a b ≡ nat_eq b a
eq-sym a b = bool_same (nat_eq a b) (nat_eq b a) (λ e. eq-eqb b a (sym (eqb-true a b e))) (λ e. eq-eqb a b (sym (eqb-true b a e)))

-- ---- static predicates

-- the predicates that effects or items name are those that aren't static
pub changed_are : (l : lifteds.Lifted) (q : ℕ) → (list_any (λ a. changes q (eff_view a.effect)) l.schemas || list_any (λ i. not (leaves_static q i)) l.init) ≡ not (is_static (lifted_view l) q)
changed_are l q =
    ap₂ (λ a b. a || b) (sym (any_map schema_view (λ a. changes q a.effect) (λ (a : schemas.Schema). changes q (eff_view a.effect)) l.schemas (λ a. refl))) (any-not (leaves_static q) (λ i. not (leaves_static q i)) l.init (λ i. refl))
    ∙ both (list_any (λ a. changes q a.effect) (map schema_view l.schemas)) (list_all (leaves_static q) l.init)
  where
    both : (a b : Bool) → (a || not b) ≡ not (not a && b)
    both true b = refl
    both false b = refl

-- ---- atoms

atom_is : (p q : ℕ) (us os : List ℕ) → (p == q && same us os) ≡ (q == p && same os us)
atom_is p q us os = ap₂ (λ a b. a && b) (eq-sym p q) (same_name-sym us os)

-- an atom that comes is told, and the others as before
pub atom_added : (atoms : List (ℕ × List ℕ)) (p : ℕ) (us : List ℕ) (q : ℕ) (os : List ℕ) → has_atom (with_atom atoms (p, us)) q os ≡ (has_atom atoms q os || (p == q && same us os))
atom_added atoms p us q os =
    any-added same_atom same_atoms (λ a. record { pred = a.0; objects = a.1 }) atoms (p, us) (record { pred = q; objects = os })
    ∙ ap (λ b. has_atom atoms q os || b) (sym (atom_is p q us os))

-- a positive item says its atom
pub says_positive : (l : GroundLit) (q : ℕ) (os : List ℕ) → l.positive ≡ true → (l.pred == q && same l.objects os) ≡ says q os (Item.One l)
says_positive l q os h = sym (ap (λ b. b && (l.pred == q && same l.objects os)) h)
