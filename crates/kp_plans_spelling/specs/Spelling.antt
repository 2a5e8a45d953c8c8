-- How names, atoms and literals are printed: as pieces, which say how a text reads back, and as the bytes that these spell.
use Rattle.std.specs.Prelude.{◌≡◌, ◌++◌, ℕ, Bool, true, false, List, [], ◌∷◌, Option, Some, None, slice_get, codes, decimal}
use Rattle.kp_base.specs.declared.ground.GroundName.{GroundName}
use Rattle.kp_base.specs.declared.lit.AtomId.{AtomId}
use Rattle.kp_base.specs.declared.lit.Lit.{Lit}
use Rattle.kp_law_texts.specs.Pieces.{Put, ◌⨾◌, each, opens, closes, space, name, spaced, spelling}

-- ---- as pieces

-- (HEAD OBJECT OBJECT)
abbrev pub name_put : GroundName → Put
name_put n = opens ⨾ name n.head ⨾ each (spaced name) n.objects ⨾ closes

-- an atom; () where there is none
abbrev pub atom_put : Option GroundName → Put
atom_put None = opens ⨾ closes
atom_put (Some n) = name_put n

-- the atom of a number
abbrev pub numbered_put : List GroundName → AtomId → Put
numbered_put atoms a = atom_put (slice_get atoms a.0)

-- atoms by number, a space before each
abbrev pub atoms_put : List GroundName → List AtomId → Put
atoms_put atoms = each (spaced (numbered_put atoms))

-- an atom, or (not ATOM)
abbrev pub signed_put : Bool → Put → Put
signed_put true f = f
signed_put false f = opens ⨾ name (codes "not") ⨾ space ⨾ f ⨾ closes

-- a literal
abbrev pub lit_put : List GroundName → Lit → Put
lit_put atoms l = signed_put l.positive (atom_put (slice_get atoms l.atom.0))

-- literals, a space before each
abbrev pub lits_put : List GroundName → List Lit → Put
lits_put atoms = each (spaced (lit_put atoms))

-- one after the other, with a space between
abbrev pub joined : {T : Type 0} → (T → Put) → List T → Put
joined f [] rest = rest
joined f (x ∷ xs) rest = f x (each (spaced f) xs rest)

-- ---- as bytes

-- a name
abbrev pub name_text : GroundName → List ℕ
name_text n = spelling (name_put n [])

-- an atom; () where there is none
abbrev pub atom_text : Option GroundName → List ℕ
atom_text a = spelling (atom_put a [])

-- atoms by number, a space before each
abbrev pub atoms_text : List GroundName → List AtomId → List ℕ
atoms_text atoms others = spelling (atoms_put atoms others [])

-- a literal
abbrev pub literal_text : List GroundName → Lit → List ℕ
literal_text atoms l = spelling (lit_put atoms l [])

-- literals, a space before each
abbrev pub literals_text : List GroundName → List Lit → List ℕ
literals_text atoms ls = spelling (lits_put atoms ls [])

-- the line of a number under a title
abbrev pub number_line : List ℕ → ℕ → List ℕ
number_line title n = title ++ (decimal n ++ codes "\n")

-- ---- a law

-- brackets stand round the text
pub record IsBracketed (text : List ℕ) : Type 0 where
  pub inner : List ℕ
  pub is : text ≡ codes "(" ++ (inner ++ codes ")")

-- each literal is printed in brackets, also one whose atom isn't there
abbrev pub LiteralsAreBracketed : Type 0
LiteralsAreBracketed = (atoms : List GroundName) (l : Lit) → IsBracketed (literal_text atoms l)
