-- From the partial bindings of one length to those of the next, and to the kept bindings.
use Rattle.std.proofs.Common.{◌≡◌, ◌≤◌, ◌<◌, ◌+◌, ◌*◌, ◌∷◌, [], ◌++◌, ℕ, zero, suc, Bool, true, false, cond, List, Some, drop, filter, flat_map, get_or, length, map, min, slice_get, take, refl, sym, ap, ap₂, subst, inl, inr, ◌∙◌, arith, add-one, length-append}
use Rattle.std.proofs.lemmas.Bool.{cases_lt}
use Rattle.std.proofs.lemmas.List.{drop_more, length-map}
use Rattle.kp_base.specs.Lists.{only_if}
use Rattle.kp_names_semantics.specs.declared.lifted.Range.{Range}
use Rattle.kp_names_semantics.specs.Numbered.{Schema, Lifted}
use Rattle.kp_names_semantics.specs.Lifted.{Binding, Instance}
use Rattle.kp_ground_semantics.specs.Static.{settled}
use Rattle.kp_ground_semantics.specs.Ground.{instance, kept_bindings}
use Rattle.kp_ground_semantics.specs.Weights.{binding_count}
use Rattle.kp_ground_semantics.specs.Partial.{unrefuted, partial_bindings, partials_to, partial_count, looked_at}
use Rattle.kp_ground_instances.specs.declared.kept.Kept.{Kept}
use Rattle.kp_ground_instances.specs.Counts.{kept_view}
use Rattle.kp_ground_joins.specs.Laws.{longer, extended}
use Rattle.kp_ground_joins.specs.Joining.{tried, all_tried, if_settled}
use Rattle.kp_ground_joins.proofs.Joined.{filter_append, partial_go_on, kept_joined}

-- ---- what a loop has still to come to

-- what comes of the next, and then of the others
pub flat_next : {X Y : Type 0} (f : X → List Y) (xs : List X) (i : ℕ) (x : X) → i < length xs → x ≡ get_or xs i x → flat_map f (drop i xs) ≡ f x ++ flat_map f (drop (i + 1) xs)
flat_next f xs i x lt is = ap (flat_map f) (drop_more xs i x lt ∙ ap (λ y. y ∷ drop (i + 1) xs) (sym is))

pub flat_next_at : {Y : Type 0} (f : ℕ → List Y) (xs : List ℕ) (i : ℕ) → i < length xs → flat_map f (drop i xs) ≡ f (get_or xs i 0) ++ flat_map f (drop (i + 1) xs)
flat_next_at f xs i lt = ap (flat_map f) (drop_more xs i 0 lt)

pub item_at : {X : Type 0} (xs : List X) (i : ℕ) (x : X) → i < length xs → x ≡ get_or xs i x → slice_get xs i ≡ Some x
item_at [] i x lt is = absurd (omega (arith, lt))
item_at (y ∷ ys) zero x lt is = ap Some (sym is)
item_at (y ∷ ys) (suc i) x lt is = item_at ys i x (omega (arith, lt)) is

-- the front of a list that was made longer
pub front_of : (b more : List ℕ) → take (length b) (b ++ more) ≡ b
front_of [] more = refl
front_of (x ∷ b) more = ap (λ xs. x ∷ xs) (front_of b more)

-- ---- what is tried one after another is what is extended

one_tried : (l : Lifted) (a : Schema) (b : Binding) (os : List ℕ) → flat_map (tried l a.pre b) os ≡ filter (λ x. unrefuted l x a.pre) (longer os b)
one_tried l a b [] = refl
one_tried l a b (o ∷ os) = pick (unrefuted l (b ++ o ∷ []) a.pre) (one_tried l a b os) where
  pick : (t : Bool) → flat_map (tried l a.pre b) os ≡ filter (λ x. unrefuted l x a.pre) (longer os b)
      → only_if t ((b ++ o ∷ []) ∷ []) ++ flat_map (tried l a.pre b) os ≡ cond t ((b ++ o ∷ []) ∷ filter (λ x. unrefuted l x a.pre) (longer os b)) (filter (λ x. unrefuted l x a.pre) (longer os b))
  pick true e = ap (λ zs. (b ++ o ∷ []) ∷ zs) e
  pick false e = e

all_extended : (l : Lifted) (a : Schema) (os : List ℕ) (bs : List Binding) → all_tried l a.pre os bs ≡ extended l a os bs
all_extended l a os [] = refl
all_extended l a os (b ∷ bs) = ap₂ (λ (xs ys : List Binding). xs ++ ys) (one_tried l a b os) (all_extended l a os bs) ∙ sym (filter_append (λ x. unrefuted l x a.pre) (longer os b) (flat_map (longer os) bs))

-- ---- one parameter more

pub next_level : (l : Lifted) (a : Schema) (i : ℕ) (r : Range) (rows more : List Binding) → slice_get a.params i ≡ Some r → rows ≡ partial_bindings l a i → more ≡ all_tried l a.pre r.objects rows → more ≡ partial_bindings l a (i + 1)
next_level l a i r rows more at is comes =
    let on : suc i ≡ i + 1 = omega arith in
    comes ∙ (all_extended l a r.objects rows ∙ (ap (extended l a r.objects) is ∙ (sym (partial_go_on l a i r at) ∙ ap (partial_bindings l a) on)))

pub next_count : (l : Lifted) (a : Schema) (i : ℕ) → partials_to l a (i + 1) ≡ partials_to l a i + length (partial_bindings l a (i + 1))
next_count l a i = rw add-one refl

-- ---- counts grow

pub counts_grow : (l : Lifted) (a : Schema) (i j : ℕ) → i ≤ j → partials_to l a i ≤ partials_to l a j
counts_grow l a i zero le = let e : i ≡ zero = omega (arith, le) in subst (λ k. partials_to l a k ≤ partials_to l a zero) (sym e) (omega arith)
counts_grow l a i (suc j) le = elim (cases_lt i (suc j)) [
  | inl lt ↦ let h = counts_grow l a i j (omega (arith, lt)) in omega (arith, h)
  | inr ge ↦ let e : i ≡ suc j = omega (arith, le, ge) in subst (λ k. partials_to l a k ≤ partials_to l a (suc j)) (sym e) (omega arith)
]

-- ---- the last level

if_each : (p : Binding → Bool) (f : Binding → Instance) (bs : List Binding) → flat_map (λ b. only_if (p b) (f b ∷ [])) bs ≡ map f (filter p bs)
if_each p f [] = refl
if_each p f (b ∷ bs) = pick (p b) (if_each p f bs) where
  pick : (t : Bool) → flat_map (λ x. only_if (p x) (f x ∷ [])) bs ≡ map f (filter p bs) → only_if t (f b ∷ []) ++ flat_map (λ x. only_if (p x) (f x ∷ [])) bs ≡ map f (cond t (b ∷ filter p bs) (filter p bs))
  pick true e = ap (λ zs. f b ∷ zs) e
  pick false e = e

-- of the partial bindings of all parameters those stay that are settled
pub last_level : (l : Lifted) (a : Schema) (n : ℕ) (rows : List Binding) → rows ≡ partial_bindings l a (length a.params) → flat_map (if_settled l a.pre n) rows ≡ map (instance n) (kept_bindings l a)
last_level l a n rows is =
    if_each (λ os. settled l os a.pre) (instance n) rows
    ∙ ap (map (instance n)) (ap (filter (λ os. settled l os a.pre)) is ∙ sym (kept_joined l a))

-- ---- what is kept is counted and weighed

pub came : (old new : List Kept) (more : List Instance) → map kept_view new ≡ map kept_view old ++ more → length new ≡ length old + length more
came old new more is =
    let e = ap length is in
    let f = length-append (map kept_view old) more in
    let g = length-map old kept_view in
    let h = length-map new kept_view in
    omega (arith, e, f, g, h)

capped_times : (m n w : ℕ) → min (n * min w m) m ≡ min (n * w) m
capped_times m n w = elim (cases_lt m w) [
  | inl over ↦ large over n
  | inr within ↦ let e : min w m ≡ w = omega (arith, within) in ap (λ x. min (n * x) m) e
]
  where
    large : m < w → (k : ℕ) → min (k * min w m) m ≡ min (k * w) m
    large over zero = omega arith
    large over (suc k) = let e : min w m ≡ m = omega (arith, over) in ap (λ x. min (suc k * x) m) e ∙ omega (arith, over)

-- the weight of so many instances comes to a sum
pub weighed : (m s k n w one product : ℕ) → k ≡ n → one ≡ min w m → product ≡ min (k * one) m → min (s + product) m ≡ min (s + n * w) m
weighed m s k n w one product e f g = ap (λ x. min (s + x) m) (g ∙ (ap₂ (λ x y. min (x * y) m) e f ∙ capped_times m n w)) ∙ sum_capped (n * w)
  where
    sum_capped : (x : ℕ) → min (s + min x m) m ≡ min (s + x) m
    sum_capped x = omega arith

-- ---- which count is the lesser

pub few_listed : (l : Lifted) (most : ℕ) → binding_count l ≤ most → looked_at l ≤ most
few_listed l most few = at_most (binding_count l) (partial_count l) few
  where
    at_most : (a b : ℕ) → a ≤ most → min a b ≤ most
    at_most a b h = omega (arith, h)

pub few_joined : (l : Lifted) (most : ℕ) → partial_count l ≤ most → looked_at l ≤ most
few_joined l most few = at_most (binding_count l) (partial_count l) few
  where
    at_most : (a b : ℕ) → b ≤ most → min a b ≤ most
    at_most a b h = omega (arith, h)

pub both_over : (l : Lifted) (most : ℕ) → most < binding_count l → most < partial_count l → most < looked_at l
both_over l most over over' = above (binding_count l) (partial_count l) over over'
  where
    above : (a b : ℕ) → most < a → most < b → most < min a b
    above a b h g = omega (arith, h, g)
