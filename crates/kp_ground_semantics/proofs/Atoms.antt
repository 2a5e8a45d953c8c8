-- The ground atoms are those that occur, each once and in order.
use Rattle.std.proofs.Common.{◌≡◌, ◌⊎◌, Bool, true, false, if◌then◌else◌, List, [], ◌∷◌, refl, sym, subst, map, inl, inr}
use Rattle.std.specs.List.{list_all}
use Rattle.std.proofs.lemmas.Bool.{and_parts, and_from}
use Rattle.kp_base.specs.Lists.{Member}
use Rattle.kp_base.specs.Atoms.{Atom, atom_before, same_atom, AtomsAscend}
use Rattle.kp_base.proofs.Lists.{member_map, all_weaker}
use Rattle.kp_base.proofs.AtomOrder.{atom_before_transitive, atom_before_total, same_atom-true, atom_at_its_number, number_once}
use Rattle.kp_ground_semantics.specs.Ground.{atom_of, occurring, insert_atom, ascending_atoms, ground_atoms}
use Rattle.kp_ground_semantics.specs.Laws.{AtomsAreNumbered}

-- ---- insertion

insert_here : (a : Atom) (bs : List Atom) → Member (insert_atom a bs) a
insert_here a [] = inl refl
insert_here a (b ∷ bs) = pick (atom_before a b) (same_atom a b) refl (insert_here a bs)
  where
    pick : (t u : Bool) → same_atom a b ≡ u → Member (insert_atom a bs) a → Member (if t then a ∷ b ∷ bs else if u then b ∷ bs else b ∷ insert_atom a bs) a
    pick true u is rest = inl refl
    pick false true is rest = inl (sym (same_atom-true a b is))
    pick false false is rest = inr rest

insert_there : (a : Atom) (bs : List Atom) (x : Atom) → Member bs x → Member (insert_atom a bs) x
insert_there a [] x m = absurd m
insert_there a (b ∷ bs) x m = pick (atom_before a b) (same_atom a b) (λ r. insert_there a bs x r)
  where
    pick : (t u : Bool) → (Member bs x → Member (insert_atom a bs) x) → Member (if t then a ∷ b ∷ bs else if u then b ∷ bs else b ∷ insert_atom a bs) x
    pick true u rest = inr m
    pick false true rest = m
    pick false false rest = elim m [ inl e ↦ inl e | inr r ↦ inr (rest r) ]

insert_only : (a : Atom) (bs : List Atom) (x : Atom) → Member (insert_atom a bs) x → (a ≡ x) ⊎ Member bs x
insert_only a [] x m = elim m [ inl e ↦ inl e | inr r ↦ absurd r ]
insert_only a (b ∷ bs) x m = pick (atom_before a b) (same_atom a b) (λ r. insert_only a bs x r) m
  where
    pick : (t u : Bool) → (Member (insert_atom a bs) x → (a ≡ x) ⊎ Member bs x) → Member (if t then a ∷ b ∷ bs else if u then b ∷ bs else b ∷ insert_atom a bs) x → (a ≡ x) ⊎ Member (b ∷ bs) x
    pick true u rest m = m
    pick false true rest m = inr m
    pick false false rest m = elim m [
      | inl e ↦ inr (inl e)
      | inr r ↦ elim (rest r) [ inl e ↦ inl e | inr h ↦ inr (inr h) ]
    ]

insert_above : (b a : Atom) (bs : List Atom) → atom_before b a ≡ true → list_all (atom_before b) bs ≡ true → list_all (atom_before b) (insert_atom a bs) ≡ true
insert_above b a [] h all = and_from (atom_before b a) true h refl
insert_above b a (c ∷ bs) h all = pick (atom_before a c) (same_atom a c) (insert_above b a bs h (and_parts (atom_before b c) (list_all (atom_before b) bs) all).1)
  where
    pick : (t u : Bool) → list_all (atom_before b) (insert_atom a bs) ≡ true → list_all (atom_before b) (if t then a ∷ c ∷ bs else if u then c ∷ bs else c ∷ insert_atom a bs) ≡ true
    pick true u rest = and_from (atom_before b a) (list_all (atom_before b) (c ∷ bs)) h all
    pick false true rest = all
    pick false false rest = and_from (atom_before b c) (list_all (atom_before b) (insert_atom a bs)) (and_parts (atom_before b c) (list_all (atom_before b) bs) all).0 rest

insert_ascending : (a : Atom) (bs : List Atom) → AtomsAscend bs → AtomsAscend (insert_atom a bs)
insert_ascending a [] h = (refl, tt)
insert_ascending a (b ∷ bs) h = pick (atom_before a b) (same_atom a b) refl refl (insert_ascending a bs h.1)
  where
    pick : (t u : Bool) → atom_before a b ≡ t → same_atom a b ≡ u → AtomsAscend (insert_atom a bs) → AtomsAscend (if t then a ∷ b ∷ bs else if u then b ∷ bs else b ∷ insert_atom a bs)
    pick true u before eq rest = (and_from (atom_before a b) (list_all (atom_before a) bs) before (all_weaker (atom_before b) (atom_before a) bs (λ c m g. atom_before_transitive a b c before g) h.0), h)
    pick false true before eq rest = h
    pick false false before eq rest = (insert_above b a bs (atom_before_total a b before eq) h.0, rest)

all_ascending : (bs : List Atom) → AtomsAscend (ascending_atoms bs)
all_ascending [] = tt
all_ascending (a ∷ bs) = insert_ascending a (ascending_atoms bs) (all_ascending bs)

ascending_member : (bs : List Atom) (x : Atom) → Member bs x → Member (ascending_atoms bs) x
ascending_member [] x m = absurd m
ascending_member (a ∷ bs) x m = elim m [
  | inl e ↦ subst (Member (insert_atom a (ascending_atoms bs))) e (insert_here a (ascending_atoms bs))
  | inr r ↦ insert_there a (ascending_atoms bs) x (ascending_member bs x r)
]

ascending_only : (bs : List Atom) (x : Atom) → Member (ascending_atoms bs) x → Member bs x
ascending_only [] x m = absurd m
ascending_only (a ∷ bs) x m = elim (insert_only a (ascending_atoms bs) x m) [ inl e ↦ inl e | inr r ↦ inr (ascending_only bs x r) ]

pub atoms_are_numbered : AtomsAreNumbered
atoms_are_numbered l = record {
  numbering = record {
    once = number_once (ground_atoms l) (all_ascending (map atom_of (occurring l)));
    covers = λ m i. atom_at_its_number (ground_atoms l) (atom_of m) (ascending_member (map atom_of (occurring l)) (atom_of m) (member_map atom_of (occurring l) m i));
  };
  occur = ascending_only (map atom_of (occurring l));
  ascending = all_ascending (map atom_of (occurring l));
}
