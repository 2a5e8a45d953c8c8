-- Stripped lists of steps and written names, computed.
use Rattle.std.proofs.Common.{◌≡◌, ℕ, List, [], ◌∷◌, Some, None, refl, sym, codes}
use Rattle.std.proofs.lemmas.Bool.{false≢true}
use Rattle.kp_names_semantics.specs.Steps.{Step}
use Rattle.kp_names_semantics.specs.Encoding.{encoded, decoded, HasNoEmptyPart}
use Rattle.kp_names_semantics.specs.Strip.{strip}
use Rattle.kp_names_semantics.proofs.ExamplePlans.{step}

abbrev operator : List ℕ → Step
operator name = step name []

-- an action and a merge
two_steps : strip (operator (codes "do_-go__to_-a__1") ∷ operator (codes "merge_-0") ∷ []) ≡ Some (step (codes "go_to") (codes "a_1" ∷ []) ∷ [])
two_steps = refl

in_order : strip (operator (codes "do_-a") ∷ operator (codes "merge_-10") ∷ operator (codes "do_-b") ∷ []) ≡ Some (step (codes "a") [] ∷ step (codes "b") [] ∷ [])
in_order = refl

no_steps : strip [] ≡ Some []
no_steps = refl

-- ---- no strip

-- a name of another kind
plain_name : strip (operator (codes "go_to") ∷ []) ≡ None
plain_name = refl

-- a number with a leading zero, none, or not digits alone
leading_zero : strip (operator (codes "merge_-01") ∷ []) ≡ None
leading_zero = refl

no_number : strip (operator (codes "merge_-") ∷ []) ≡ None
no_number = refl

not_digits : strip (operator (codes "merge_-1a") ∷ []) ≡ None
not_digits = refl

-- an empty component, at the end or before
no_name : strip (operator (codes "do_-") ∷ []) ≡ None
no_name = refl

no_object : strip (operator (codes "do_-a_-") ∷ []) ≡ None
no_object = refl

no_head : strip (operator (codes "do_-_-a") ∷ []) ≡ None
no_head = refl

-- an underscore before another byte, or at the end
lone_underscore : strip (operator (codes "do_-a_b") ∷ []) ≡ None
lone_underscore = refl

last_underscore : strip (operator (codes "do_-a_") ∷ []) ≡ None
last_underscore = refl

-- a step with an object
with_objects : strip (step (codes "do_-a") (codes "b" ∷ []) ∷ []) ≡ None
with_objects = refl

merge_with_objects : strip (step (codes "merge_-0") (codes "b" ∷ []) ∷ []) ≡ None
merge_with_objects = refl

-- one step without a strip is enough
one_of_two : strip (operator (codes "do_-a") ∷ operator (codes "a") ∷ []) ≡ None
one_of_two = refl

-- ---- names

written : encoded (step (codes "go_to") (codes "a_1" ∷ codes "b-2" ∷ [])) ≡ codes "go__to_-a__1_-b-2"
written = refl

read_back : decoded (codes "go__to_-a__1_-b-2") ≡ Some (step (codes "go_to") (codes "a_1" ∷ codes "b-2" ∷ []))
read_back = refl

-- an underscore at the end, and a dash at the front
ends_in_underscore : encoded (step (codes "a_") (codes "-b" ∷ [])) ≡ codes "a___--b"
ends_in_underscore = refl

and_back : decoded (codes "a___--b") ≡ Some (step (codes "a_") (codes "-b" ∷ []))
and_back = refl

-- ---- no empty part

no_empty_part : HasNoEmptyPart (step (codes "go_to") (codes "a_1" ∷ codes "b-2" ∷ []))
no_empty_part = refl

-- an empty head, and an empty object, are refused, and aren't read back
empty_head : HasNoEmptyPart (step [] (codes "a" ∷ [])) → ⊥
empty_head h = false≢true (sym h)

empty_head_is_lost : decoded (encoded (step [] (codes "a" ∷ []))) ≡ None
empty_head_is_lost = refl

empty_object : HasNoEmptyPart (step (codes "a") ([] ∷ [])) → ⊥
empty_object h = false≢true (sym h)

empty_object_is_lost : decoded (encoded (step (codes "a") ([] ∷ []))) ≡ None
empty_object_is_lost = refl
