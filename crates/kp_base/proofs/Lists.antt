-- Members of lists, and tests over them.
use Rattle.std.proofs.Common.{◌≡◌, ◌<◌, ◌≤◌, ◌+◌, ◌⊎◌, ℕ, zero, suc, Bool, true, false, not, ◌&&◌, ◌||◌, cond, if◌then◌else◌, List, [], ◌∷◌, ◌++◌, Some, map, filter, slice_get, bytes_eq, Contains, arith, refl, sym, ap, subst, ◌∙◌, inl, inr}
use Rattle.std.proofs.lemmas.Bool.{and_parts, and_from, or_cases, or_left, or_right, false≢true, cases_lt}
use Rattle.std.proofs.lemmas.List.{map-append}
use Rattle.std.proofs.lemmas.Slice.Eq.{bytes_eq-Decides}
use Rattle.std.specs.List.{AllByRecursion, list_any, list_all, flat_map, range_with_len}
use Rattle.kp_base.specs.Lists.{Member, choices}

-- ---- truth values

-- truth values that hold together
pub bool_same : (a b : Bool) → (a ≡ true → b ≡ true) → (b ≡ true → a ≡ true) → a ≡ b
bool_same true b f g = sym (f refl)
bool_same false true f g = g refl
bool_same false false f g = refl

pub not_not : (b : Bool) → not (not b) ≡ b
not_not true = refl
not_not false = refl

-- ---- tests that hold of more

pub all_weaker : {X : Type 0} (p q : X → Bool) (xs : List X) → ((x : X) → Member xs x → p x ≡ true → q x ≡ true) → list_all p xs ≡ true → list_all q xs ≡ true
all_weaker p q [] f h = refl
all_weaker p q (x ∷ xs) f h =
    let parts = and_parts (p x) (list_all p xs) h in
    and_from (q x) (list_all q xs) (f x (inl refl) parts.0) (all_weaker p q xs (λ y m. f y (inr m)) parts.1)

pub any_weaker : {X : Type 0} (p q : X → Bool) (xs : List X) → ((x : X) → Member xs x → p x ≡ true → q x ≡ true) → list_any p xs ≡ true → list_any q xs ≡ true
any_weaker p q [] f h = h
any_weaker p q (x ∷ xs) f h =
    elim (or_cases (p x) (list_any p xs) h) [
      | inl e ↦ or_left (q x) (list_any q xs) (f x (inl refl) e)
      | inr e ↦ or_right (q x) (list_any q xs) (any_weaker p q xs (λ y m. f y (inr m)) e)
    ]

-- ---- tests that agree

pub any_alike : {X : Type 0} (p q : X → Bool) (xs : List X) → ((x : X) → Member xs x → p x ≡ q x) → list_any p xs ≡ list_any q xs
any_alike p q [] f = refl
any_alike p q (x ∷ xs) f = rw (f x (inl refl), any_alike p q xs (λ y m. f y (inr m))) refl

pub all_alike : {X : Type 0} (p q : X → Bool) (xs : List X) → ((x : X) → Member xs x → p x ≡ q x) → list_all p xs ≡ list_all q xs
all_alike p q [] f = refl
all_alike p q (x ∷ xs) f = rw (f x (inl refl), all_alike p q xs (λ y m. f y (inr m))) refl

-- a test on what a list is mapped to
pub any_map : {X Y : Type 0} (m : X → Y) (g : Y → Bool) (h : X → Bool) (xs : List X) → ((x : X) → g (m x) ≡ h x) → list_any g (map m xs) ≡ list_any h xs
any_map m g h [] e = refl
any_map m g h (x ∷ xs) e = rw (e x, any_map m g h xs e) refl

-- some element fails a test where not all pass it
pub any-not : {X : Type 0} (p q : X → Bool) (xs : List X) → ((x : X) → q x ≡ not (p x)) → list_any q xs ≡ not (list_all p xs)
any-not p q [] f = refl
any-not p q (x ∷ xs) f = rw (f x, any-not p q xs f) (de_morgan (p x) (list_all p xs))
  where
    de_morgan : (a b : Bool) → (not a || not b) ≡ not (a && b)
    de_morgan true b = refl
    de_morgan false b = refl

-- all elements fail a test where none passes it
pub all-not : {X : Type 0} (p q : X → Bool) (xs : List X) → ((x : X) → q x ≡ not (p x)) → list_all q xs ≡ not (list_any p xs)
all-not p q [] f = refl
all-not p q (x ∷ xs) f = rw (f x, all-not p q xs f) (de_morgan (p x) (list_any p xs))
  where
    de_morgan : (a b : Bool) → (not a && not b) ≡ not (a || b)
    de_morgan true b = refl
    de_morgan false b = refl

-- ---- tests and members

pub all_member : {X : Type 0} (p : X → Bool) (xs : List X) (x : X) → Member xs x → list_all p xs ≡ true → p x ≡ true
all_member p [] x m h = absurd m
all_member p (y ∷ ys) x m h =
    let parts = and_parts (p y) (list_all p ys) h in
    elim m [
      | inl e ↦ subst (λ z. p z ≡ true) e parts.0
      | inr m' ↦ all_member p ys x m' parts.1
    ]

pub all_from : {X : Type 0} (p : X → Bool) (xs : List X) → ((x : X) → Member xs x → p x ≡ true) → list_all p xs ≡ true
all_from p [] f = refl
all_from p (x ∷ xs) f = and_from (p x) (list_all p xs) (f x (inl refl)) (all_from p xs (λ y m. f y (inr m)))

pub any_from : {X : Type 0} (p : X → Bool) (xs : List X) (x : X) → Member xs x → p x ≡ true → list_any p xs ≡ true
any_from p [] x m h = absurd m
any_from p (y ∷ ys) x m h =
    elim m [
      | inl e ↦ or_left (p y) (list_any p ys) (subst (λ z. p z ≡ true) (sym e) h)
      | inr m' ↦ or_right (p y) (list_any p ys) (any_from p ys x m' h)
    ]

pub any_member : {X : Type 0} (p : X → Bool) (xs : List X) → list_any p xs ≡ true → (x : X) × Member xs x × (p x ≡ true)
any_member p [] h = absurd (false≢true h)
any_member p (x ∷ xs) h =
    elim (or_cases (p x) (list_any p xs) h) [
      | inl e ↦ (x, inl refl, e)
      | inr e ↦ let r = any_member p xs e in (r.0, inr r.1, r.2)
    ]

-- an element that a test finds equal is a member, where the test tells equality
pub same_member : {X : Type 0} (same : X → X → Bool) → ((x y : X) → same x y ≡ true → x ≡ y) → (xs : List X) (x : X) → list_any (same x) xs ≡ true → Member xs x
same_member same equal xs x h = let r = any_member (same x) xs h in subst (Member xs) (sym (equal x r.0 r.2)) r.1

-- ---- members by their places

pub contains_member : {X : Type 0} (xs : List X) (x : X) → Contains xs x → Member xs x
contains_member [] x (k, lt, e) = absurd (omega (arith, lt))
contains_member (y ∷ ys) x (zero, lt, e) = inl e
contains_member (y ∷ ys) x (suc k, lt, e) = inr (contains_member ys x (k, omega (arith, lt), e))

pub member_contains : {X : Type 0} (xs : List X) (x : X) → Member xs x → Contains xs x
member_contains [] x m = absurd m
member_contains (y ∷ ys) x (inl e) = (zero, omega arith, e)
member_contains (y ∷ ys) x (inr m) = let r = member_contains ys x m in let lt = r.1 in (suc r.0, omega (arith, lt), r.2)

-- ---- members of lists that are made of others

pub member_at : {X : Type 0} (xs : List X) (n : ℕ) (x : X) → slice_get xs n ≡ Some x → Member xs x
member_at [] n x h = cc
member_at (y ∷ ys) zero x h = inl cc
member_at (y ∷ ys) (suc n) x h = inr (member_at ys n x h)

-- where a member stands
pub number_at : {X : Type 0} (xs : List X) (x : X) → Member xs x → (n : ℕ) × (slice_get xs n ≡ Some x)
number_at [] x m = absurd m
number_at (y ∷ ys) x (inl e) = (zero, ap Some e)
number_at (y ∷ ys) x (inr m) = let r = number_at ys x m in (suc r.0, r.1)

pub range_there : (a n k : ℕ) → a ≤ k → k < a + n → Member (range_with_len a n) k
range_there a zero k le lt = absurd (omega arith)
range_there a (suc n) k le lt =
    elim (cases_lt a k) [
      | inl below ↦ inr (range_there (a + 1) n k (omega arith) (omega arith))
      | inr here ↦ inl (omega arith)
    ]

pub member_left : {X : Type 0} (xs ys : List X) (x : X) → Member xs x → Member (xs ++ ys) x
member_left [] ys x m = absurd m
member_left (z ∷ xs) ys x m = elim m [ inl e ↦ inl e | inr r ↦ inr (member_left xs ys x r) ]

pub member_right : {X : Type 0} (xs ys : List X) (x : X) → Member ys x → Member (xs ++ ys) x
member_right [] ys x m = m
member_right (z ∷ xs) ys x m = inr (member_right xs ys x m)

pub append_member : {X : Type 0} (xs ys : List X) (z : X) → Member (xs ++ ys) z → Member xs z ⊎ Member ys z
append_member [] ys z m = inr m
append_member (x ∷ xs) ys z m = elim m [ inl e ↦ inl (inl e) | inr r ↦ elim (append_member xs ys z r) [ inl h ↦ inl (inr h) | inr h ↦ inr h ] ]

pub member_map : {X Y : Type 0} (f : X → Y) (xs : List X) (x : X) → Member xs x → Member (map f xs) (f x)
member_map f [] x m = absurd m
member_map f (z ∷ xs) x m = elim m [ inl e ↦ inl (ap f e) | inr r ↦ inr (member_map f xs x r) ]

pub map_member : {X Y : Type 0} (f : X → Y) (xs : List X) (y : Y) → Member (map f xs) y → (x : X) × Member xs x × (f x ≡ y)
map_member f [] y m = absurd m
map_member f (x ∷ xs) y m = elim m [ inl e ↦ (x, inl refl, e) | inr r ↦ let h = map_member f xs y r in (h.0, inr h.1, h.2) ]

pub member_flat_map : {X Y : Type 0} (f : X → List Y) (xs : List X) (x : X) (y : Y) → Member xs x → Member (f x) y → Member (flat_map f xs) y
member_flat_map f [] x y m h = absurd m
member_flat_map f (z ∷ xs) x y m h =
    elim m [
      | inl e ↦ member_left (f z) (flat_map f xs) y (subst (λ w. Member (f w) y) (sym e) h)
      | inr r ↦ member_right (f z) (flat_map f xs) y (member_flat_map f xs x y r h)
    ]

pub flat_member : {X Y : Type 0} (f : X → List Y) (xs : List X) (y : Y) → Member (flat_map f xs) y → (x : X) × Member xs x × Member (f x) y
flat_member f [] y m = absurd m
flat_member f (x ∷ xs) y m = elim (append_member (f x) (flat_map f xs) y m) [
  | inl h ↦ (x, inl refl, h)
  | inr h ↦ let r = flat_member f xs y h in (r.0, inr r.1, r.2)
]

pub member_filter : {X : Type 0} (p : X → Bool) (xs : List X) (x : X) → Member xs x → p x ≡ true → Member (filter p xs) x
member_filter p [] x m h = absurd m
member_filter {X} p (y ∷ ys) x m h = pick (λ r. member_filter p ys x r h) (p y) refl m
  where
    pick : (Member ys x → Member (filter p ys) x) → (b : Bool) → p y ≡ b → (y ≡ x) ⊎ Member ys x → Member (cond b (y ∷ filter p ys) (filter p ys)) x
    pick rest true is m = elim m [ inl e ↦ inl e | inr r ↦ inr (rest r) ]
    pick rest false is m = elim m [ inl e ↦ absurd (false≢true (sym is ∙ (ap p e ∙ h))) | inr r ↦ rest r ]

pub filter_member : {X : Type 0} (p : X → Bool) (xs : List X) (x : X) → Member (filter p xs) x → Member xs x × (p x ≡ true)
filter_member p [] x m = absurd m
filter_member {X} p (y ∷ ys) x m = pick (filter_member p ys x) (p y) refl m
  where
    pick : (Member (filter p ys) x → Member ys x × (p x ≡ true)) → (b : Bool) → p y ≡ b → Member (cond b (y ∷ filter p ys) (filter p ys)) x → Member (y ∷ ys) x × (p x ≡ true)
    pick rest true is m = elim m [
      | inl e ↦ (inl e, subst (λ z. p z ≡ true) e is)
      | inr r ↦ let h = rest r in (inr h.0, h.1)
    ]
    pick rest false is m = let h = rest m in (inr h.0, h.1)

-- a choice of one element of each list has an element of each
pub choice_has : {X : Type 0} (xss : List (List X)) (ys : List X) → Member (choices xss) ys → (xs : List X) → Member xss xs → (x : X) × Member xs x × Member ys x
choice_has [] ys m xs k = absurd k
choice_has (zs ∷ xss) ys m xs k =
    let q = flat_member (λ x. map (λ rest. x ∷ rest) (choices xss)) zs ys m in
    let r = map_member (λ rest. q.0 ∷ rest) (choices xss) ys q.2 in
    elim k [
      | inl e ↦ (q.0, subst (λ ws. Member ws q.0) e q.1, subst (λ ws. Member ws q.0) r.2 (inl refl))
      | inr later ↦ let h = choice_has xss r.0 r.1 xs later in (h.0, h.1, subst (λ ws. Member ws h.0) r.2 (inr h.2))
    ]

-- ---- what holds of each element

pub each_append : {X : Type 0} (P : X → Type 0) (xs ys : List X) → AllByRecursion P xs → AllByRecursion P ys → AllByRecursion P (xs ++ ys)
each_append P [] ys h g = g
each_append P (x ∷ xs) ys h g = (h.0, each_append P xs ys h.1 g)

pub each_flat_map : {X Y : Type 0} (f : X → List Y) (P : X → Type 0) (Q : Y → Type 0) → ((x : X) → P x → AllByRecursion Q (f x)) → (xs : List X) → AllByRecursion P xs → AllByRecursion Q (flat_map f xs)
each_flat_map f P Q g [] h = tt
each_flat_map f P Q g (x ∷ xs) h = each_append Q (f x) (flat_map f xs) (g x h.0) (each_flat_map f P Q g xs h.1)

-- ---- lists that are mapped

pub map_map : {X Y Z : Type 0} (m : X → Y) (g : Y → Z) (h : X → Z) (xs : List X) → ((x : X) → g (m x) ≡ h x) → map g (map m xs) ≡ map h xs
map_map m g h [] e = refl
map_map m g h (x ∷ xs) e = rw (e x, map_map m g h xs e) refl

pub flat_swap : {A B C D : Type 0} (f : B → D) (g : A → List B) (h : C → List D) (k : A → C) (xs : List A) → ((x : A) → map f (g x) ≡ h (k x)) → map f (flat_map g xs) ≡ flat_map h (map k xs)
flat_swap f g h k [] e = refl
flat_swap f g h k (x ∷ xs) e = map-append f (g x) (flat_map g xs) ∙ rw (e x, flat_swap f g h k xs e) refl

pub flat_alike : {X Y : Type 0} (f g : X → List Y) (xs : List X) → ((x : X) → Member xs x → f x ≡ g x) → flat_map f xs ≡ flat_map g xs
flat_alike f g [] h = refl
flat_alike f g (x ∷ xs) h = rw (h x (inl refl), flat_alike f g xs (λ y m. h y (inr m))) refl

-- what is gathered behind a function is gathered as its values are
pub gathered : {K Y : Type 0} (eq : Y → Y → Bool) (now : K → Y) (ks : List K) (k : K)
    → map now (if list_any (λ x. eq (now k) (now x)) ks then ks else ks ++ k ∷ []) ≡ (if list_any (eq (now k)) (map now ks) then map now ks else map now ks ++ now k ∷ [])
gathered {K} {Y} eq now ks k = by (list_any (λ x. eq (now k) (now x)) ks) (any_map now (eq (now k)) (λ x. eq (now k) (now x)) ks (λ x. refl))
  where
    both : List Y → Bool → List Y
    both ys b = if b then ys else ys ++ now k ∷ []

    by : (b : Bool) → list_any (eq (now k)) (map now ks) ≡ b → map now (if b then ks else ks ++ k ∷ []) ≡ both (map now ks) (list_any (eq (now k)) (map now ks))
    by true is = sym (ap (both (map now ks)) is)
    by false is = map-append now ks (k ∷ []) ∙ sym (ap (both (map now ks)) is)

-- ---- lists without elements

pub append_empty : {X : Type 0} (xs ys : List X) → xs ++ ys ≡ [] → (xs ≡ []) × (ys ≡ [])
append_empty [] ys h = (refl, h)
append_empty (x ∷ xs) ys h = cc

pub flat_empty : {X Y : Type 0} (f : X → List Y) (xs : List X) → flat_map f xs ≡ [] → (x : X) → Member xs x → f x ≡ []
flat_empty f [] h x m = absurd m
flat_empty f (y ∷ ys) h x m =
    let parts = append_empty (f y) (flat_map f ys) h in
    elim m [ inl e ↦ subst (λ z. f z ≡ []) e parts.0 | inr r ↦ flat_empty f ys parts.1 x r ]

-- ---- lists of numbers

pub same-true : (xs ys : List ℕ) → bytes_eq xs ys ≡ true → xs ≡ ys
same-true xs ys = (bytes_eq-Decides xs ys).0

pub same-refl : (xs : List ℕ) → bytes_eq xs xs ≡ true
same-refl xs = (bytes_eq-Decides xs xs).1 refl
