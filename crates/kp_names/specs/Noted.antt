-- How the first fault is found: one is noted, and others that come. This file serves proofs alone.
use Rattle.std.specs.Prelude.{◌≡◌, ℕ, if◌then◌else◌, List, [], Option, Some, None, Result, Ok, Err, fold, map, nat_lt}
use Rattle.kp_base.specs.declared.refused.Part.{Part}
use Rattle.kp_base.specs.declared.refused.Stop.{Stop}
use Rattle.kp_base.specs.declared.refused.Stop.TheVariants as stops
use Rattle.kp_tree_grammar.specs.declared.tree.Word.{Word}
use Rattle.kp_tree_grammar.specs.Trees.{Pred, Schema, Domain, Problem}
use Rattle.kp_names_semantics.specs.Faults as spec
use Rattle.kp_names.specs.Resolved.{first_fault, refusal_of, RefusesNames}
use Rattle.kp_names.specs.declared.first.Fault.{Fault}
use Rattle.kp_names.specs.declared.first.Fault.TheVariants as faults

-- a fault of the program
abbrev pub fault_view : Fault → spec.Fault
fault_view (faults.UnknownName byte) = spec.unknown_name byte
fault_view (faults.DeclaredTwice byte) = spec.declared_twice byte
fault_view (faults.WrongUse byte) = spec.wrong_use byte

-- the one that is noted, or another one that stands before it in the text
abbrev pub sooner : Option spec.Fault → spec.Fault → Option spec.Fault
sooner None f = Some f
sooner (Some g) f = if nat_lt (spec.byte_of f) (spec.byte_of g) then Some f else Some g

-- what is noted once these faults have come too
abbrev pub noted : Option spec.Fault → List spec.Fault → Option spec.Fault
noted o fs = fold sooner o fs

-- the heads of predicates
abbrev pub heads_of : List (Pred Word) → List Word
heads_of qs = map (λ q. q.head) qs

-- the names of schemas
abbrev pub names_of : List (Schema Word) → List Word
names_of xs = map (λ a. a.name) xs

-- of a file where this fault is noted: nothing where there is none, or its refusal
abbrev pub Refuses : {T : Type 0} → Part → List ℕ → Option spec.Fault → Result T Stop → Type 0
Refuses part text o (Ok x) = o ≡ None
Refuses part text o (Err stops.Memory) = ⊥
Refuses part text o (Err (stops.Refused r)) = (f : spec.Fault) × ((o ≡ Some f) × (r ≡ refusal_of part text f))

-- of a file with these faults: nothing where there is none, or the refusal at the first; want of memory is free
abbrev pub Judges : {T : Type 0} → Part → List ℕ → List spec.Fault → Result T Stop → Type 0
Judges part text fs (Ok x) = fs ≡ []
Judges part text fs (Err stops.Memory) = Unit {0}
Judges part text fs (Err (stops.Refused r)) = (f : spec.Fault) × ((first_fault fs ≡ Some f) × (r ≡ refusal_of part text f))

-- of two trees: nothing where they have no fault, or their refusal; want of memory is free
abbrev pub JudgesBoth : {T : Type 0} → List ℕ → List ℕ → Domain Word → Problem Word → Result T Stop → Type 0
JudgesBoth domain problem d p (Ok x) = spec.HasNoFault d p
JudgesBoth domain problem d p (Err stops.Memory) = Unit {0}
JudgesBoth domain problem d p (Err (stops.Refused r)) = RefusesNames domain problem d p r
