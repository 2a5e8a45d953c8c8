-- What one more element of a list does.
use Rattle.std.proofs.Common.{◌≡◌, ℕ, zero, suc, ◌+◌, ◌<◌, Bool, true, false, List, [], ◌∷◌, length, map, filter, drop, get_or, cond, refl, sym, ap, subst, ◌∙◌, arith}
use Rattle.std.specs.List.{list_all}
use Rattle.std.proofs.lemmas.Bool.{and_parts, ltb-true}
use Rattle.std.proofs.lemmas.List.{drop_more}
use Rattle.kp_names_semantics.specs.declared.lifted.GroundLit.{GroundLit}
use Rattle.kp_names_semantics.specs.Numbered.{Lifted}
use Rattle.kp_base.specs.Atoms.{Atom}
use Rattle.kp_ground.specs.Gathered.{gather}
use Rattle.kp_ground_instances.specs.declared.kept.Kept.{Kept}
use Rattle.kp_ground_instances.specs.Counts.{kept_view}
use Rattle.kp_ground.specs.Passes.{has_schema}

pub filter_more : (limit : ℕ) (p : GroundLit → Bool) (atoms : List Atom) (m : GroundLit) (rest : List GroundLit) → gather limit (gather limit atoms (filter p (m ∷ []))) (filter p rest) ≡ gather limit atoms (filter p (m ∷ rest))
filter_more limit p atoms m rest = by (p m)
  where
    by : (b : Bool) → gather limit (gather limit atoms (cond b (m ∷ []) [])) (filter p rest) ≡ gather limit atoms (cond b (m ∷ filter p rest) (filter p rest))
    by true = refl
    by false = refl

-- each of the instances has a schema
pub known_there : (l : Lifted) (ks : List Kept) (i : ℕ) (k : Kept) → i < length ks → k ≡ get_or ks i k → list_all (has_schema l) (map kept_view ks) ≡ true → k.schema < length l.schemas
known_there l [] i k lt is all = absurd (omega arith)
known_there l (j ∷ ks) zero k lt is all = ltb-true k.schema (length l.schemas) (subst (λ n. has_schema l (kept_view n) ≡ true) (sym is) (and_parts (has_schema l (kept_view j)) (list_all (has_schema l) (map kept_view ks)) all).0)
known_there l (j ∷ ks) (suc i) k lt is all = known_there l ks i k (omega arith) is (and_parts (has_schema l (kept_view j)) (list_all (has_schema l) (map kept_view ks)) all).1

-- what is left begins with the element there
pub drop_item : {X : Type 0} (xs : List X) (i : ℕ) (x : X) → i < length xs → x ≡ get_or xs i x → drop i xs ≡ x ∷ drop (i + 1) xs
drop_item xs i x lt is = drop_more xs i x lt ∙ ap (λ y. y ∷ drop (i + 1) xs) (sym is)
