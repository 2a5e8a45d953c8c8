-- What resolving the names of two trees gives: the problem by number, or the first fault in the text.
use Rattle.std.specs.Prelude.{◌≡◌, ℕ, nat_lt, if◌then◌else◌, List, [], ◌∷◌, Option, Some, None, Result, Ok, Err}
use Rattle.kp_base.specs.declared.refused.Part.{Part}
use Rattle.kp_base.specs.declared.refused.Part.TheVariants as parts
use Rattle.kp_base.specs.declared.refused.Refused.{Refused}
use Rattle.kp_base.specs.declared.refused.Refused.TheVariants as refusals
use Rattle.kp_base.specs.declared.refused.Stop.{Stop}
use Rattle.kp_base.specs.declared.refused.Stop.TheVariants as stops
use Rattle.kp_lex.specs.Places.{place_of}
use Rattle.kp_tree_grammar.specs.declared.tree.Word.{Word}
use Rattle.kp_tree_grammar.specs.Trees.{Domain, Problem}
use Rattle.kp_names_semantics.specs.Faults.{Fault, unknown_name, declared_twice, wrong_use, byte_of, domain_faults, problem_faults, HasNoFault}
use Rattle.kp_names_semantics.specs.Numbering.{numbered_problem}
use Rattle.kp_names_numbered.specs.declared.lifted.Lifted.{Lifted}
use Rattle.kp_names_numbered.specs.View.{lifted_view}
pub use Rattle.kp_names_declared.specs.Unsure.{or_else, unsure_item, unsure_items, first_unsure, place_in, unsure_place}

-- ---- faults

-- this fault or that one, whichever stands first in the text
abbrev pub earlier : Fault → Option Fault → Fault
earlier f None = f
earlier f (Some g) = if nat_lt (byte_of g) (byte_of f) then g else f

-- the fault that stands first in the text
abbrev pub first_fault : List Fault → Option Fault
first_fault [] = None
first_fault (f ∷ fs) = Some (earlier f (first_fault fs))

-- the refusal of a fault in this file
abbrev pub refusal_of : Part → List ℕ → Fault → Refused
refusal_of part text (unknown_name byte) = refusals.UnknownName (place_of part text byte)
refusal_of part text (declared_twice byte) = refusals.DeclaredTwice (place_of part text byte)
refusal_of part text (wrong_use byte) = refusals.WrongUse (place_of part text byte)

-- the trees of these texts are refused: at the first fault of the domain, or, where it has none, of the problem
pub data RefusesNames (domain problem : List ℕ) (d : Domain Word) (p : Problem Word) : Refused → Type 0 where
  in_domain : (f : Fault) → first_fault (domain_faults d p) ≡ Some f → RefusesNames domain problem d p (refusal_of parts.Domain domain f)
  in_problem : (f : Fault) → domain_faults d p ≡ [] → first_fault (problem_faults d p) ≡ Some f → RefusesNames domain problem d p (refusal_of parts.Problem problem f)

-- ---- answers

-- the problem by number of two trees that have no fault, with the place of what leaves its initial state open
pub record IsResolved (problem : List ℕ) (d : Domain Word) (p : Problem Word) (l : Lifted) : Type 0 where
  pub no_fault : HasNoFault d p
  pub numbered : lifted_view l ≡ numbered_problem d p
  pub unsure : l.unsure ≡ unsure_place problem p

-- of two trees: the problem by number, or their refusal; want of memory is free
abbrev pub AnswersNames : (domain problem : List ℕ) (d : Domain Word) (p : Problem Word) → Result Lifted Stop → Type 0
AnswersNames domain problem d p (Ok l) = IsResolved problem d p l
AnswersNames domain problem d p (Err stops.Memory) = Unit {0}
AnswersNames domain problem d p (Err (stops.Refused r)) = RefusesNames domain problem d p r
