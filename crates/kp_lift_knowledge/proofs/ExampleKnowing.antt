-- The premises can be met: an atom, the empty tag, a tag of the atom and one of its negation, an action that adds the atom
-- where it is false, and the merge of the two tags.
use Rattle.std.proofs.Common.{◌≡◌, ◌<◌, ◌&&◌, ℕ, zero, suc, Bool, true, false, not, List, [], ◌∷◌, Some, length, nat_lt, refl, subst, arith}
use Rattle.std.specs.List.{list_all}
use Rattle.kp_base.specs.declared.lit.Lit.{Lit}
use Rattle.kp_base.specs.declared.ground.Action.{Action}
use Rattle.kp_base.specs.declared.ground.Merge.{Merge}
use Rattle.kp_base.specs.declared.ground.TagTable.{TagTable}
use Rattle.kp_base.specs.Planning.{positive, negative, IsAscending, are_below, action_below, Known, start, after_act, may_merge, after_merge}
use Rattle.kp_lift_knowledge.specs.Known.{Table, known, Says, Starts}

abbrev adding : Action
adding = record { name = record { head = []; objects = [] }; pre = []; effects = record { cond = negative 0 ∷ []; result = positive 0 } ∷ [] }

abbrev both_values : Merge
both_values = record { target = positive 0; tags = 1 ∷ 2 ∷ [] }

abbrev tags : TagTable
tags = record {
  tags = record { lits = []; closure = [] } ∷ record { lits = positive 0 ∷ []; closure = positive 0 ∷ [] } ∷ record { lits = negative 0 ∷ []; closure = negative 0 ∷ [] } ∷ [];
  merges = both_values ∷ [];
}

-- a table of three tags and one atom
abbrev of_rows : List Bool → List Bool → Table
of_rows is is_not = record { tags = 3; atoms = 1; rows = is ∷ is_not ∷ [] }

-- its three bits of a literal are right
abbrev AreRight : Table → Known → Bool → Type 0
AreRight table k b = let l : Lit = record { atom = record { 0 = 0 }; positive = b } in (known table 0 l ≡ k 0 l) × (known table 1 l ≡ k 1 l) × (known table 2 l ≡ k 2 l)

says_by : (table : Table) (k : Known) → table.tags ≡ 3 → table.atoms ≡ 1 → AreRight table k true → AreRight table k false → Says table k
says_by table k three one is is_not = record { each = λ t l ht hl. at t l (subst (λ n. t < n) three ht) (subst (λ n. l.atom.0 < n) one hl) }
  where
    right : (b : Bool) → AreRight table k b
    right true = is
    right false = is_not

    bit : (t : ℕ) (b : Bool) → t < 3 → known table t (record { atom = record { 0 = 0 }; positive = b }) ≡ k t (record { atom = record { 0 = 0 }; positive = b })
    bit zero b h = (right b).0
    bit (suc zero) b h = (right b).1
    bit (suc (suc zero)) b h = (right b).2
    bit (suc (suc (suc t))) b h = absurd (omega (arith, h))

    at : (t : ℕ) (l : Lit) → t < 3 → l.atom.0 < 1 → known table t l ≡ k t l
    at t l ht hl = subst (λ (a : ℕ). known table t (record { atom = record { 0 = a }; positive = l.positive }) ≡ k t (record { atom = record { 0 = a }; positive = l.positive })) (let e : 0 ≡ l.atom.0 = omega (arith, hl) in e) (bit t l.positive ht)

-- ---- at the start

few_tags : length tags.tags < 4294967296
few_tags = omega arith

closures_below : list_all (λ row. are_below 1 row.closure) tags.tags ≡ true
closures_below = refl

abbrev first : Table
first = of_rows (false ∷ true ∷ false ∷ []) (false ∷ false ∷ true ∷ [])

starts : Starts 1 tags first
starts = record {
  of_tags = refl;
  of_atoms = refl;
  says = says_by first (start tags) refl refl (refl, refl, refl) (refl, refl, refl);
}

-- the atom isn't known
asked : (0 < first.tags) × (are_below first.atoms (positive 0 ∷ []) ≡ true) × IsAscending (positive 0 ∷ [])
asked = (omega arith, refl, tt)

-- ---- after the action the atom is known under both tags of its values

action_fits : action_below first.atoms adding ≡ true
action_fits = refl

abbrev second : Table
second = of_rows (false ∷ true ∷ true ∷ []) (false ∷ false ∷ false ∷ [])

acts : Says second (after_act (Some adding) (start tags))
acts = says_by second (after_act (Some adding) (start tags)) refl refl (refl, refl, refl) (refl, refl, refl)

-- ---- and after the merge it is known

merge_fits : (both_values.target.atom.0 < second.atoms) × (list_all (λ t. nat_lt t second.tags) both_values.tags ≡ true)
merge_fits = (omega arith, refl)

merges_now : (may_merge (Some both_values) (known second) && not (known second 0 both_values.target)) ≡ true
merges_now = refl

abbrev third : Table
third = of_rows (true ∷ true ∷ true ∷ []) (false ∷ false ∷ false ∷ [])

merges : Says third (after_merge (Some both_values) (known second))
merges = says_by third (after_merge (Some both_values) (known second)) refl refl (refl, refl, refl) (refl, refl, refl)

-- once more it isn't taken
merges_once : (may_merge (Some both_values) (known third) && not (known third 0 both_values.target)) ≡ false
merges_once = refl
