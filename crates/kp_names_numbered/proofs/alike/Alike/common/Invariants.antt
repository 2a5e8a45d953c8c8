use Rattle.std.proofs.Common.{◌≡◌, Bool, false, take, map}
use Rattle.std.specs.List.{list_any}
use Rattle.std.specs.Option.{option_map}
use Rattle.kp_names_semantics.specs.Names.{Name, is_among}
use Rattle.kp_names_numbered.specs.Alike.{of_found, AreAlike}
use Rattle.kp_names_numbered.proofs.alike.Alike.common.Given as goal

-- what is the same for both names of each entry stays so, and is true of one of the names so far where it is true of the one that was found
abbrev pub invariant-loop-name : goal.invariant-loop-name
invariant-loop-name l = record {
  kept : (f : Name → Bool) → AreAlike f l.fn.self → AreAlike f l.self;
  so_far : (f : Name → Bool) → AreAlike f l.fn.self → ((n : Name) → is_among l.inhabited n ≡ false → f n ≡ false) → list_any f (map (λ n. n.now) (take l.name-index l.name-items)) ≡ of_found f (option_map (λ n. n.now) l.found);
}
