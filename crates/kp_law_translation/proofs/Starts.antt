-- Initial states and models of the initial formula, for all trees; and what is known at the start is the one closure of the empty tag in order.
use Rattle.std.proofs.Common.{◌≡◌, ℕ, List, [], refl, sym, subst, Contains, length}
use Rattle.std.proofs.lemmas.List.{length-map}
use Rattle.std.proofs.lemmas.Map.Views.{Contains-from_any}
use Rattle.kp_base.specs.declared.lit.Lit.{Lit}
use Rattle.kp_base.specs.declared.ground.Initial.{Initial}
use Rattle.kp_base.specs.LitSet.{IsAscending}
use Rattle.kp_base.specs.Entailed.{IsClosure}
use Rattle.kp_base.specs.Implicates.{IsOfAtoms}
use Rattle.kp_base.proofs.Ascending.{same_members}
use Rattle.kp_base.proofs.Lits.{same_lit-true, contains_has}
use Rattle.kp_names_semantics.specs.Numbered.{Lifted}
use Rattle.kp_names_semantics.specs.Numbering.{numbered_problem}
use Rattle.kp_names_semantics.proofs.Public.{initial_states_are_the_same_by_number}
use Rattle.kp_ground_semantics.specs.Ground.{ground_atoms, atom_name, seen_on}
use Rattle.kp_ground_semantics.specs.Ground as by_number
use Rattle.kp_ground_semantics.proofs.Public.{atoms_are_numbered}
use Rattle.kp_init.specs.Initial as init
use Rattle.kp_init.specs.Laws.{AreModels}
use Rattle.kp_base.proofs.Closures.{closure_over_first_atoms}
use Rattle.kp_init.proofs.Public.{models_are_initial_states, initial_formula_is_over_ground_atoms}
use Rattle.kp_law_translation.specs.OfTrees.{ground_of, initial_of, start_of}
use Rattle.kp_law_translation.specs.Given.{InitialStatesAreModels, FormulasSpeakOfGroundAtoms, ClosuresAreStarts}

-- ---- initial states and models

models : (l : Lifted) → AreModels l (ground_atoms l)
models l = models_are_initial_states l (ground_atoms l) (atoms_are_numbered l).numbering

pub states_are_models : InitialStatesAreModels
states_are_models d p no_fault = (
  λ has.
      let t = (initial_states_are_the_same_by_number d p no_fault).by_number has.state has.is_initial in
      record { state = seen_on (ground_atoms (numbered_problem d p)) t.0; model = (models (numbered_problem d p)).model t.0 t.1; all_true = refl },
  λ m.
      let t = (models (numbered_problem d p)).state m.state m.model in
      let s = (initial_states_are_the_same_by_number d p no_fault).by_name t.0 t.1 in
      record { state = s.0; is_initial = s.1 },
)

-- ---- the formula's atoms

-- of a problem by number
pub formula_over_atoms : (l : Lifted) → IsOfAtoms (length (by_number.ground_of l).atoms) (init.initial_of l)
formula_over_atoms l = subst (λ n. IsOfAtoms n (init.initial_of l)) (sym (length-map (ground_atoms l) (atom_name l))) (initial_formula_is_over_ground_atoms l (ground_atoms l) (atoms_are_numbered l).numbering)

pub formulas_over_atoms : FormulasSpeakOfGroundAtoms
formulas_over_atoms d p = formula_over_atoms (numbered_problem d p)

-- ---- closures in order

-- a tag has one closure in order
pub one_closure : (n : ℕ) (i : Initial) (tag xs ys : List Lit) → IsClosure n i tag xs → IsClosure n i tag ys → IsAscending xs → IsAscending ys → xs ≡ ys
one_closure n i tag xs ys h g up vp = same_members xs ys up vp (way xs ys h g) (way ys xs g h)
  where
    way : (as' bs : List Lit) → IsClosure n i tag as' → IsClosure n i tag bs → (m : Lit) → Contains as' m → Contains bs m
    way as' bs h g m c =
        let there = contains_has as' m c in
        Contains-from_any same_lit-true m bs (g.whole m (h.of_atoms m there) (h.entailed m there))

pub closures_are_starts : ClosuresAreStarts
closures_are_starts d p ls is_closure ascending =
    let n = length (ground_of d p).atoms in
    let exact = closure_over_first_atoms (initial_of d p) n (formulas_over_atoms d p) [] refl in
    one_closure n (initial_of d p) [] ls (start_of d p) is_closure exact.closure ascending exact.ascending
