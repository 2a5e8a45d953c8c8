-- Facts that say what is known of ground atoms: their names, and what an effect makes of them.
use Rattle.std.specs.Prelude.{ℕ, Bool, true, false, if◌then◌else◌, List, [], ◌∷◌, ◌++◌, Option, Some, None, codes, map, slice_get, decimal}
use Rattle.kp_base.specs.declared.lit.Lit.{Lit}
use Rattle.kp_base.specs.declared.ground.GroundName.{GroundName}
use Rattle.kp_base.specs.declared.ground.Effect.{Effect as GroundEffect}
use Rattle.kp_base.specs.Lit.{negated}
use Rattle.kp_base.specs.LitSet.{set_of}
use Rattle.kp_names_semantics.specs.Encoding.{encoded}
use Rattle.kp_write.specs.Operators.{Signed, Effect}

-- ---- names

-- the first part of a fact's name tells the sign of its literal
abbrev pub sign_word : Bool → List ℕ
sign_word positive = if positive then codes "kp_-" else codes "kn_-"

-- an atom's encoded name; nothing where there is no such atom
abbrev pub encoded_or_none : Option GroundName → List ℕ
encoded_or_none None = []
encoded_or_none (Some n) = encoded n

-- the last part of a fact's name tells the tag
abbrev pub tag_word : ℕ → List ℕ
tag_word t = codes "_-" ++ decimal t

-- the fact of an atom's literal under a tag
abbrev pub atom_fact : ℕ → Bool → GroundName → List ℕ
atom_fact t positive n = sign_word positive ++ (encoded n ++ tag_word t)

-- the fact of a literal under a tag: that the literal is known, where the tag is the case
abbrev pub fact_of : List GroundName → ℕ → Lit → List ℕ
fact_of atoms t l = sign_word l.positive ++ (encoded_or_none (slice_get atoms l.atom.0) ++ tag_word t)

-- the two facts of an atom
abbrev pub facts_of_atom : ℕ → GroundName → List (List ℕ)
facts_of_atom t n = atom_fact t true n ∷ atom_fact t false n ∷ []

-- ---- effects by name, for laws alone: what is written has its effects by number, and these are their names

-- the negations of some literals, as a set
abbrev pub opposites : List Lit → List Lit
opposites ls = set_of (map negated ls)

-- the literal is known, or not known
abbrev pub known : List GroundName → ℕ → Bool → Lit → Signed
known atoms t holds l = record { holds = holds; fact = fact_of atoms t l }

-- where the conditions are known, the result becomes known
abbrev pub support : List GroundName → ℕ → GroundEffect → Effect
support atoms t e = record { conds = map (known atoms t true) e.cond; result = known atoms t true e.result }

-- where the negation of no condition is known, the negation of the result is known no longer
abbrev pub cancellation : List GroundName → ℕ → GroundEffect → Effect
cancellation atoms t e = record { conds = map (known atoms t false) (opposites e.cond); result = known atoms t false (negated e.result) }
