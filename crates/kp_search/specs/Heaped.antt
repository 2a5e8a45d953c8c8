-- How a heap keeps keys. This file serves proofs alone.
use Rattle.std.specs.Prelude.{List, map}
use Rattle.std.specs.Ordering.{nat_cmp, ordering_then}
use Rattle.std.specs.declared.cmp.Ordering.{Ordering}
use Rattle.std.specs.declared.cmp.Reverse.{Reverse}
use Rattle.kp_search.specs.declared.key.Key.{Key}

-- the order of the heap, which gives its greatest first
abbrev pub later : Reverse Key → Reverse Key → Ordering
later x y = ordering_then (nat_cmp y.0.estimate x.0.estimate) (nat_cmp y.0.number x.0.number)

-- the keys of a heap
abbrev pub keys_of : List (Reverse Key) → List Key
keys_of items = map (λ r. r.0) items
