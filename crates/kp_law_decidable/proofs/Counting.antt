-- The clauses of an initial formula are in order, and those whose prime implicates pass a limit are found.
use Rattle.std.proofs.Common.{◌≡◌, ◌⊎◌, ◌<◌, ◌≤◌, inl, inr, refl, subst, ℕ, zero, suc, Bool, true, false, List, [], ◌∷◌, map, take, length, arith}
use Rattle.std.proofs.lemmas.Bool.{cases_lt}
use Rattle.kp_base.specs.declared.lit.Lit.{Lit}
use Rattle.kp_base.specs.declared.ground.Initial.{Initial}
use Rattle.kp_base.specs.declared.refused.Refused.TheVariants as refusals
use Rattle.kp_base.specs.declared.refused.Stop.TheVariants as stops
use Rattle.kp_base.specs.Planning.{Member, only_if, each_once, negated, same_lit, IsAscending, set_of, IsLeastOver, IsNeverOver, Atom, has_atom}
use Rattle.kp_base.proofs.Lists.{append_member, map_member, flat_member}
use Rattle.kp_base.proofs.Sets.{set_ascends}
use Rattle.kp_primes.specs.Included.{all_included, AreSets, passed_at}
use Rattle.kp_primes.specs.Answers.{RefusesPrimes, too_many}
use Rattle.kp_primes.proofs.Public.{counted_is_never_over, prefix_stops_the_build}
use Rattle.kp_names_semantics.specs.declared.lifted.Item.{Item}
use Rattle.kp_ground_semantics.specs.Ground.{atom_of, numbered, numbered_set, ground_atoms}
use Rattle.kp_init.specs.Initial.{no_two, item_clauses}
use Rattle.kp_law_decidable.specs.Laws.{FormulasAreAscending, ImplicatesAreCounted}

-- ---- the clauses of an initial formula

-- a clause alone
alone : (x c : List Lit) → IsAscending x → Member (x ∷ []) c → IsAscending c
alone x c h m = elim m [ inl e ↦ subst IsAscending e h | inr none ↦ absurd none ]

both_ascend : (ls c : List Lit) → Member (no_two ls) c → IsAscending c
both_ascend [] c m = absurd m
both_ascend (x ∷ xs) c m = elim (append_member (map (λ y. set_of (negated x ∷ negated y ∷ [])) xs) (no_two xs) c m) [
  | inl here ↦ let y = map_member (λ y. set_of (negated x ∷ negated y ∷ [])) xs c here in subst IsAscending y.2 (set_ascends (negated x ∷ negated y.0 ∷ []))
  | inr later ↦ both_ascend xs c later
]

item_ascends : (atoms : List Atom) (item : Item) (c : List Lit) → Member (item_clauses atoms item) c → IsAscending c
item_ascends atoms (Item.One m) c at = if_there (has_atom atoms (atom_of m)) at
  where
    if_there : (b : Bool) → Member (only_if b ((numbered atoms m ∷ []) ∷ [])) c → IsAscending c
    if_there true at = alone (numbered atoms m ∷ []) c tt at
    if_there false at = absurd at
item_ascends atoms (Item.OneOf ms) c at = elim at [
  | inl e ↦ subst IsAscending e (set_ascends (map (numbered atoms) ms))
  | inr later ↦ both_ascend (each_once same_lit (map (numbered atoms) ms)) c later
]
item_ascends atoms (Item.AnyOf ms) c at = alone (numbered_set atoms ms) c (set_ascends (map (numbered atoms) ms)) at
item_ascends atoms (Item.Unknown m) c at = absurd at

pub formulas_ascend : FormulasAreAscending
formulas_ascend l c at = let item = flat_member (item_clauses (ground_atoms l)) l.init c at in item_ascends (ground_atoms l) item.0 c item.2

-- ---- how many prime implicates the first clauses have

taken_member : {X : Type 0} (k : ℕ) (xs : List X) (x : X) → Member (take k xs) x → Member xs x
taken_member zero xs x m = absurd m
taken_member (suc k) [] x m = absurd m
taken_member (suc k) (y ∷ xs) x m = elim m [ inl e ↦ inl e | inr r ↦ inr (taken_member k xs x r) ]

module _ (i : Initial) (limit : ℕ) (sets : AreSets i.clauses) where
  pub taken : (k : ℕ) → AreSets (take k i.clauses)
  taken k c m = sets c (taken_member k i.clauses c m)

  abbrev count : ℕ → ℕ
  count k = length (all_included [] (take k i.clauses))

  -- the least number below k whose count is over the limit
  record IsFirstOver (k j : ℕ) : Type 0 where
    below : j < k
    over : limit < count j
    before : (m : ℕ) → m < j → count m ≤ limit

  searched : (k : ℕ) → ((j : ℕ) × IsFirstOver k j) ⊎ ((m : ℕ) → m < k → count m ≤ limit)
  searched zero = inr (λ m lt. absurd (omega (arith, lt)))
  searched (suc k) = elim (searched k) [
    | inl found ↦ let lt = found.1.below in inl (found.0, record { below = omega (arith, lt); over = found.1.over; before = found.1.before })
    | inr none ↦ elim (cases_lt limit (count k)) [
      | inl over ↦ inl (k, record { below = omega arith; over = over; before = none })
      | inr within ↦ inr (λ m lt. elim (cases_lt m k) [
        | inl below ↦ none m below
        | inr above ↦ let same : k ≡ m = omega (arith, lt, above) in subst (λ n. count n ≤ limit) same within
      ])
    ]
  ]

  least_over : (k : ℕ) → IsFirstOver (suc (length i.clauses)) k → IsLeastOver i limit k
  least_over k first = go (prefix_stops_the_build i 0 limit (stops.Refused (refusals.ImplicatesOver k)) (passed_at k (let lt = first.below in record { there = omega (arith, lt); sets = taken k; over = first.over; before = first.before })))
    where
      go : RefusesPrimes i limit (refusals.ImplicatesOver k) → IsLeastOver i limit k
      go (too_many _ least) = least

  found_or_never : ((k : ℕ) × IsLeastOver i limit k) ⊎ IsNeverOver i limit
  found_or_never = elim (searched (suc (length i.clauses))) [
    | inl found ↦ inl (found.0, least_over found.0 found.1)
    | inr none ↦ inr (counted_is_never_over i limit (all_included [] (take (length i.clauses) i.clauses)) (record { so_far = refl; sets = taken (length i.clauses); within_limit = λ j le. none j (omega (arith, le)) }))
  ]

pub counted : ImplicatesAreCounted
counted i limit sets = found_or_never i limit sets
