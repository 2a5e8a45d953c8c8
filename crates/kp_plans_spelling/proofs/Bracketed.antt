-- What is put in front of a bracket is bracketed.
use Rattle.std.proofs.Common.{◌≡◌, ℕ, Bool, true, false, List, [], ◌∷◌, ◌++◌, Option, Some, None, codes, slice_get, refl, sym, ap, ◌∙◌, append_assoc}
use Rattle.kp_base.specs.declared.ground.GroundName.{GroundName}
use Rattle.kp_law_texts.specs.Pieces.{Piece, each, spaced, name, right, spelling}
use Rattle.kp_plans_spelling.specs.Spelling.{name_put, atom_put, signed_put, IsBracketed, LiteralsAreBracketed}

objects_before : (os : List (List ℕ)) (rest : List Piece) → spelling (each (spaced name) os rest) ≡ spelling (each (spaced name) os []) ++ spelling rest
objects_before [] rest = refl
objects_before (o ∷ os) rest = ap (λ (t : List ℕ). 32 ∷ (o ++ t)) (objects_before os rest) ∙ ap (32 ∷◌) (sym (append_assoc o (spelling (each (spaced name) os [])) (spelling rest)))

-- a name, up to its closing bracket
open_name : GroundName → List ℕ
open_name n = n.head ++ spelling (each (spaced name) n.objects [])

name_is : (n : GroundName) (rest : List Piece) → spelling (name_put n rest) ≡ 40 ∷ (open_name n ++ (41 ∷ spelling rest))
unfolding open_name
name_is n rest = ap (λ (t : List ℕ). 40 ∷ (n.head ++ t)) (objects_before n.objects (right ∷ rest)) ∙ ap (40 ∷◌) (sym (append_assoc n.head (spelling (each (spaced name) n.objects [])) (41 ∷ spelling rest)))

-- an atom, up to its closing bracket
open_atom : Option GroundName → List ℕ
open_atom None = []
open_atom (Some n) = open_name n

atom_is : (a : Option GroundName) (rest : List Piece) → spelling (atom_put a rest) ≡ 40 ∷ (open_atom a ++ (41 ∷ spelling rest))
unfolding open_atom
atom_is None rest = refl
atom_is (Some n) rest = name_is n rest

signed : (b : Bool) (a : Option GroundName) → IsBracketed (spelling (signed_put b (atom_put a) []))
signed true a = record { inner = open_atom a; is = atom_is a [] }
signed false a =
    let inside : List ℕ = codes "not " ++ (40 ∷ (open_atom a ++ (41 ∷ []))) in
    record { inner = inside; is = ap (λ (t : List ℕ). codes "(not " ++ t) (atom_is a (right ∷ [])) ∙ ap (λ (t : List ℕ). codes "(not (" ++ t) (sym (append_assoc (open_atom a) (41 ∷ []) (41 ∷ []))) }

pub literals_are_bracketed : LiteralsAreBracketed
literals_are_bracketed atoms l = signed l.positive (slice_get atoms l.atom.0)
