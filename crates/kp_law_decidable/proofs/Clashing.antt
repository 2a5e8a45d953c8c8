-- Some clash is the first, or no action clashes.
use Rattle.std.proofs.Common.{◌≡◌, ◌⊎◌, inl, inr, refl, ℕ, List, Option, Some, None, length, arith}
use Rattle.kp_base.specs.declared.ground.Ground.{Ground}
use Rattle.kp_base.specs.declared.ground.Initial.{Initial}
use Rattle.kp_base.specs.declared.refused.ClashAt.{ClashAt}
use Rattle.kp_base.specs.Exclusive.{AreExclusive, ClashesFirst, IsClashFree}
use Rattle.kp_base.specs.Implicates.{IsOfAtoms}
use Rattle.kp_clash_exclusive.specs.Paired.{is_pair}
use Rattle.kp_clash.specs.Searching.{first_from}
use Rattle.kp_clash.proofs.Public.{settled_pairs_are_exclusive, first_found_is_first_clash, none_found_is_no_clash}
use Rattle.kp_law_decidable.specs.Laws.{ClashesAreDecided}
use Rattle.kp_law_decidable.proofs.Together.{at_start, never_together}
use Rattle.kp_law_decidable.proofs.Settling.{settled}

-- the exclusive pairs, as a list
pub exclusive_pairs : (g : Ground) (i : Initial) → IsOfAtoms (length g.atoms) i → (pairs : List (ℕ × ℕ)) × AreExclusive g i (length g.atoms) (is_pair pairs)
exclusive_pairs g i over =
    let start = at_start i (length g.atoms) over in
    let end = settled g (length start) start (omega arith) in
    (end.0, settled_pairs_are_exclusive g i (length g.atoms) start end.0 (never_together i (length g.atoms) over) end.1)

pub clash_or_none : ClashesAreDecided
clash_or_none g i over = go (exclusive_pairs g i over)
  where
    go : ((pairs : List (ℕ × ℕ)) × AreExclusive g i (length g.atoms) (is_pair pairs)) → ((c : ClashAt) × ClashesFirst g i c) ⊎ IsClashFree g i
    go (pairs, exclusive) = by (first_from (is_pair pairs) 0 g.actions) refl
      where
        by : (o : Option ClashAt) → o ≡ first_from (is_pair pairs) 0 g.actions → ((c : ClashAt) × ClashesFirst g i c) ⊎ IsClashFree g i
        by (Some c) is = inl (c, record { pairs = is_pair pairs; exclusive = exclusive; first = first_found_is_first_clash (is_pair pairs) g (Some c) is })
        by None is = inr (record { pairs = is_pair pairs; exclusive = exclusive; none = none_found_is_no_clash (is_pair pairs) g None is })
