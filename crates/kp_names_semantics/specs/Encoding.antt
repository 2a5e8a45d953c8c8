-- How the name of an action or atom is written as one word, and read back.
use Rattle.std.specs.Prelude.{◌≡◌, ℕ, Bool, true, false, not, ◌==◌, List, [], ◌∷◌, ◌++◌, if◌then◌else◌, Option, Some, None, option_map, option_and_then, codes}
use Rattle.std.specs.List.{list_any}
use Rattle.kp_base.specs.declared.ground.GroundName.{GroundName}
use Rattle.kp_names_semantics.specs.Names.{Name}

-- the byte of `_`
abbrev pub underscore : ℕ
underscore = 95

-- the byte of `-`
abbrev pub dash : ℕ
dash = 45

-- ---- writing

-- an underscore stands doubled, any other byte for itself
abbrev pub doubled_byte : ℕ → List ℕ
doubled_byte b = if b == underscore then underscore ∷ underscore ∷ [] else b ∷ []

-- each byte of a name
abbrev pub doubled : Name → List ℕ
doubled [] = []
doubled (b ∷ bs) = doubled_byte b ++ doubled bs

-- the objects, `_-` before each
abbrev pub encoded_objects : List Name → List ℕ
encoded_objects [] = []
encoded_objects (o ∷ os) = codes "_-" ++ (doubled o ++ encoded_objects os)

-- the head and the objects, `_-` between them
abbrev pub encoded : GroundName → List ℕ
encoded n = doubled n.head ++ encoded_objects n.objects

-- ---- reading back

-- the byte in front of the first component
abbrev pub with_byte : ℕ → List Name → List Name
with_byte b [] = (b ∷ []) ∷ []
with_byte b (x ∷ xs) = (b ∷ x) ∷ xs

-- the components, from the left: `__` is an underscore, `_-` ends a component, and nothing else follows an underscore
abbrev pub split : List ℕ → Option (List Name)
split [] = Some ([] ∷ [])
split (b ∷ []) = if b == underscore then None else Some ((b ∷ []) ∷ [])
split (b ∷ c ∷ cs) =
    if not (b == underscore) then option_map (with_byte b) (split (c ∷ cs))
    else if c == underscore then option_map (with_byte underscore) (split cs)
    else if c == dash then option_map (λ xs. [] ∷ xs) (split cs)
    else None

-- no byte at all
abbrev pub is_empty : Name → Bool
is_empty [] = true
is_empty (b ∷ bs) = false

-- the name with these components: a head and objects, none of them empty
abbrev pub name_of : List Name → Option GroundName
name_of [] = None
name_of (x ∷ xs) = if list_any is_empty (x ∷ xs) then None else Some (record { head = x; objects = xs })

-- the name that is written so; none where the word is no encoded name
abbrev pub decoded : List ℕ → Option GroundName
decoded word = option_and_then name_of (split word)

-- ---- laws

-- neither the head nor an object is empty
abbrev pub HasNoEmptyPart : GroundName → Type 0
HasNoEmptyPart n = list_any is_empty (n.head ∷ n.objects) ≡ false

-- decoding gives back the name that was encoded
abbrev pub EncodedDecodes : Type 0
EncodedDecodes = (n : GroundName) → HasNoEmptyPart n → decoded (encoded n) ≡ Some n

-- what is decoded has no empty part, and is written so
abbrev pub DecodedIsEncoding : Type 0
DecodedIsEncoding = (word : List ℕ) (n : GroundName) → decoded word ≡ Some n → HasNoEmptyPart n × (encoded n ≡ word)
