-- The steps strip to the names of their actions.
use Rattle.std.proofs.Common.{◌≡◌, ◌<◌, ◌^◌, ℕ, zero, suc, true, false, ◌==◌, List, [], ◌∷◌, ◌++◌, Option, Some, None, option_map, map, length, slice_get, get_or, decimal, refl, ap, subst, arith}
use Rattle.std.proofs.lemmas.Bool.Decides.{nat_tests}
use Rattle.std.proofs.lemmas.Fmt.{decimal_is_IsNumeral, decimal_digit, first_decimal}
use Rattle.std.proofs.lemmas.Str.Parse.{digit_from_value}
use Rattle.std.proofs.lemmas.Option.{slice_get_within, same_Some}
use Rattle.std.specs.Int.{IsInRange}
use Rattle.std.specs.Str.Parse.{AllDigits}
use Rattle.std.specs.List.{list_all}
use Rattle.kp_base.specs.declared.ground.GroundName.{GroundName}
use Rattle.kp_base.specs.declared.ground.Action.{Action}
use Rattle.kp_base.specs.declared.ground.Ground.{Ground}
use Rattle.kp_base.specs.declared.ground.TagTable.{TagTable}
use Rattle.kp_base.specs.declared.ground.Merge.{Merge}
use Rattle.kp_base.specs.Machine.{MachineStep}
use Rattle.kp_base.proofs.Each.{each_member}
use Rattle.kp_base.proofs.Lists.{member_at}
use Rattle.kp_names_semantics.specs.Steps.{Step}
use Rattle.kp_names_semantics.specs.Encoding.{encoded, decoded}
use Rattle.kp_names_semantics.specs.Strip.{do_front, is_digit, is_number, strip, stripped_operator}
use Rattle.kp_write.specs.Operators.{Op}
use Rattle.kp_write.specs.Grounds.{IsGroundAction}
use Rattle.kp_write.specs.Runs.{step_of}
use Rattle.kp_write.proofs.Public.{encoded_name_decodes}
use Rattle.kp_law_ktask.specs.Task.{merge_word}
use Rattle.kp_law_ktask.specs.ByName.{op_of, merge_op}
use Rattle.kp_law_ktask.specs.Writable.{IsWritableTask}
use Rattle.kp_law_ktask.specs.Accepted.{IsStrippedTo}
use Rattle.kp_law_ktask.specs.Laws.{TaggedStepsStrip}
use Rattle.kp_law_ktask.proofs.Runs.{AreAt, ops_at}

-- ---- numbers

one_digit : (c : ℕ) → IsInRange 48 57 c → is_digit c ≡ true
one_digit c h = grind (arith, nat_tests)

all_digits : (ds : List ℕ) → AllDigits 10 ds → list_all is_digit ds ≡ true
all_digits [] h = refl
all_digits (c ∷ cs) h = rw (one_digit c (digit_from_value c h.0), all_digits cs h.1) refl

is_written : (ds : List ℕ) → AllDigits 10 ds → 48 < get_or ds 0 0 → is_number ds ≡ true
is_written [] h first = absurd (omega (arith, first))
is_written (b ∷ []) h first = one_digit b (digit_from_value b h.0)
is_written (b ∷ c ∷ bs) h first = rw (other, all_digits (b ∷ c ∷ bs) h) refl where
  other : (b == 48) ≡ false
  other = grind (arith, nat_tests, first)

numbers : (m : ℕ) → m < 2 ^ 64 → is_number (decimal m) ≡ true
numbers zero fits = ap is_number (decimal_digit 0 (omega arith))
numbers (suc m) fits = is_written (decimal (suc m)) (decimal_is_IsNumeral (suc m) fits).0.1 (first_decimal (suc m) (omega arith) fits)

-- ---- strips

action_strips : (n : GroundName) → decoded (encoded n) ≡ Some n → stripped_operator (do_front ++ encoded n) ≡ Some (n ∷ [])
action_strips n e = ap (option_map (λ i. i ∷ [])) e

merge_strips : (m : ℕ) → is_number (decimal m) ≡ true → stripped_operator (merge_word m) ≡ Some []
merge_strips m e = rw e refl

strips : (g : Ground) (table : TagTable) → IsWritableTask g table → (ms : List MachineStep) (os : List Op) → AreAt g table ms os → IsStrippedTo g (map step_of os) ms
strips g table w [] [] at = record { names = []; strips = refl; are_names = refl }
strips g table w [] (o ∷ os) at = absurd cc
strips g table w (m ∷ ms) [] at = absurd cc
strips g table w (MachineStep.act n ∷ ms) (o ∷ os) at =
    let here : option_map (op_of g.atoms (length table.tags)) (slice_get g.actions n) ≡ Some o = cc in
    let rest : AreAt g table ms os = cc in
    go (strips g table w ms os rest) here (slice_get g.actions n) refl
  where
    go : IsStrippedTo g (map step_of os) ms → option_map (op_of g.atoms (length table.tags)) (slice_get g.actions n) ≡ Some o → (x : Option Action) → slice_get g.actions n ≡ x → IsStrippedTo g (map step_of (o ∷ os)) (MachineStep.act n ∷ ms)
    go rest here None is = let gone : None ≡ Some o = subst (λ (x : Option Action). option_map (op_of g.atoms (length table.tags)) x ≡ Some o) is here in absurd cc
    go rest here (Some a) is =
        let it : op_of g.atoms (length table.tags) a ≡ o = same_Some (op_of g.atoms (length table.tags) a) o (subst (λ (x : Option Action). option_map (op_of g.atoms (length table.tags)) x ≡ Some o) is here) in
        let can : IsGroundAction g.atoms a = each_member (IsGroundAction g.atoms) g.actions a w.ground.actions (member_at g.actions n a is) in
        let whole : strip (map step_of (op_of g.atoms (length table.tags) a ∷ os)) ≡ Some (a.name ∷ rest.names) = rw (action_strips a.name (encoded_name_decodes a.name can.name), rest.strips) refl in
        record { names = a.name ∷ rest.names; strips = subst (λ (z : Op). strip (map step_of (z ∷ os)) ≡ Some (a.name ∷ rest.names)) it whole; are_names = rw (is, rest.are_names) refl }
strips g table w (MachineStep.merge n ∷ ms) (o ∷ os) at =
    let here : option_map (merge_op g.atoms n) (slice_get table.merges n) ≡ Some o = cc in
    let rest : AreAt g table ms os = cc in
    go (strips g table w ms os rest) here (slice_get table.merges n) refl
  where
    go : IsStrippedTo g (map step_of os) ms → option_map (merge_op g.atoms n) (slice_get table.merges n) ≡ Some o → (x : Option Merge) → slice_get table.merges n ≡ x → IsStrippedTo g (map step_of (o ∷ os)) (MachineStep.merge n ∷ ms)
    go rest here None is = let gone : None ≡ Some o = subst (λ (x : Option Merge). option_map (merge_op g.atoms n) x ≡ Some o) is here in absurd cc
    go rest here (Some a) is =
        let it : merge_op g.atoms n a ≡ o = same_Some (merge_op g.atoms n a) o (subst (λ (x : Option Merge). option_map (merge_op g.atoms n) x ≡ Some o) is here) in
        let whole : strip (map step_of (merge_op g.atoms n a ∷ os)) ≡ Some rest.names = rw (merge_strips n (numbers n (omega (arith, slice_get_within table.merges n a is, w.merges_fit))), rest.strips) refl in
        record { names = rest.names; strips = subst (λ (z : Op). strip (map step_of (z ∷ os)) ≡ Some rest.names) it whole; are_names = rest.are_names }

pub steps_strip : TaggedStepsStrip
steps_strip g table w steps ms e =
    let a = ops_at g table ms steps e in
    subst (λ (is : List Step). IsStrippedTo g is ms) a.steps_are (strips g table w ms a.ops a.at)
