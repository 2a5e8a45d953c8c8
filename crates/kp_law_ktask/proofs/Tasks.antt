-- The task of a ground problem and a table is a task.
use Rattle.std.proofs.Common.{◌≡◌, ◌<◌, ◌≤◌, ◌+◌, ◌^◌, inl, inr, ℕ, zero, suc, Bool, true, false, List, [], ◌∷◌, ◌++◌, map, length, refl, sym, ap, subst, ◌∙◌, arith}
use Rattle.std.proofs.lemmas.Bool.{false≢true}
use Rattle.std.specs.List.{AllByRecursion, IsDistinct}
use Rattle.kp_base.specs.declared.lit.Lit.{Lit}
use Rattle.kp_base.specs.declared.ground.GroundName.{GroundName}
use Rattle.kp_base.specs.Lit.{same_lit}
use Rattle.kp_base.specs.Lists.{Member}
use Rattle.kp_base.proofs.Each.{each_map}
use Rattle.kp_base.proofs.Lists.{member_map, member_left, member_right, each_append}
use Rattle.kp_base.proofs.Lits.{same_lit-true}
use Rattle.kp_tree_grammar.specs.Words.{IsHead}
use Rattle.kp_names_semantics.specs.Names.{same}
use Rattle.kp_names_semantics.specs.GroundNames.{IsGroundName, same_name}
use Rattle.kp_write.specs.Facts.{fact_of}
use Rattle.kp_write.specs.Grounds.{IsOfAtom, AreOfAtoms}
use Rattle.kp_write.proofs.Public.{fact_is_head}
use Rattle.kp_law_ktask.specs.Task.{Fact, name_of_fact, lits_from, under, facts_from}
use Rattle.kp_law_ktask.proofs.Facts.{named, fact_is, same_fact, other_fact}

-- ---- lists

pub distinct_append : {X : Type 0} (e : X → X → Bool) (xs ys : List X) → IsDistinct e xs → IsDistinct e ys → ((x : X) → Member xs x → AllByRecursion (λ y. e x y ≡ false) ys) → IsDistinct e (xs ++ ys)
unfolding IsDistinct
distinct_append e [] ys d k h = k
distinct_append e (x ∷ xs) ys d k h = (each_append (λ y. e x y ≡ false) xs ys d.0 (h x (inl refl)), distinct_append e xs ys d.1 k (λ z m. h z (inr m)))

-- what is told apart by f is distinct when mapped
pub distinct_map : {X : Type 0} (f : X → List ℕ) (xs : List X) → IsDistinct (λ a b. same (f a) (f b)) xs → IsDistinct same (map f xs)
unfolding IsDistinct
distinct_map f [] d = tt
distinct_map f (x ∷ xs) d = (each_map (λ y. same (f x) (f y) ≡ false) (λ w. same (f x) w ≡ false) f (λ y e. e) xs d.0, distinct_map f xs d.1)

-- ---- literals

unlit : (l m : Lit) → (l ≡ m → ⊥) → same_lit l m ≡ false
unlit l m apart = go (same_lit l m) refl where
  go : (b : Bool) → same_lit l m ≡ b → same_lit l m ≡ false
  go false e = e
  go true e = absurd (apart (same_lit-true l m e))

lits_apart : (l : Lit) (i n : ℕ) → l.atom.0 < i → AllByRecursion (λ m. same_lit l m ≡ false) (lits_from i n)
lits_apart l i zero h = tt
lits_apart l i (suc n) h = (
  unlit l (record { atom = record { 0 = i }; positive = true }) (λ e. let same : l.atom.0 ≡ i = ap (λ (m : Lit). m.atom.0) e in omega (arith, same, h)),
  (unlit l (record { atom = record { 0 = i }; positive = false }) (λ e. let same : l.atom.0 ≡ i = ap (λ (m : Lit). m.atom.0) e in omega (arith, same, h)), lits_apart l (suc i) n (omega (arith, h))),
)

pub lits_differ : (i n : ℕ) → IsDistinct same_lit (lits_from i n)
unfolding IsDistinct
lits_differ i zero = tt
lits_differ i (suc n) = (
  (unlit (record { atom = record { 0 = i }; positive = true }) (record { atom = record { 0 = i }; positive = false }) (λ e. false≢true (sym (ap (λ (m : Lit). m.positive) e))), lits_apart (record { atom = record { 0 = i }; positive = true }) (suc i) n (omega arith)),
  (lits_apart (record { atom = record { 0 = i }; positive = false }) (suc i) n (omega arith), lits_differ (suc i) n),
)

pub lits_of : (atoms : List GroundName) (i n : ℕ) → i + n ≤ length atoms → AreOfAtoms atoms (lits_from i n)
lits_of atoms i zero h = tt
lits_of atoms i (suc n) h = (omega (arith, h), (omega (arith, h), lits_of atoms (suc i) n (omega (arith, h))))

pub lit_among : (i n d a : ℕ) (b : Bool) → a ≡ i + d → d < n → Member (lits_from i n) (record { atom = record { 0 = a }; positive = b })
lit_among i zero d a b e less = absurd (omega (arith, less))
lit_among i (suc n) zero a true e less = let here : i ≡ a = omega (arith, e) in inl (ap (λ x. record { atom = record { 0 = x }; positive = true }) here)
lit_among i (suc n) zero a false e less = let here : i ≡ a = omega (arith, e) in inr (inl (ap (λ x. record { atom = record { 0 = x }; positive = false }) here))
lit_among i (suc n) (suc d) a b e less = inr (inr (lit_among (suc i) n d a b (omega (arith, e)) (omega (arith, less))))

pub fact_among : (t n d u : ℕ) (ls : List Lit) (l : Lit) → u ≡ t + d → d < n → Member ls l → Member (facts_from t n ls) (record { tag = u; lit = l })
fact_among t zero d u ls l e less m = absurd (omega (arith, less))
fact_among t (suc n) zero u ls l e less m =
    let here : t ≡ u = omega (arith, e) in
    member_left (under t ls) (facts_from (suc t) n ls) (record { tag = u; lit = l }) (subst (λ x. Member (under t ls) (record { tag = x; lit = l })) here (member_map (λ l. record { tag = t; lit = l }) ls l m))
fact_among t (suc n) (suc d) u ls l e less m = member_right (under t ls) (facts_from (suc t) n ls) (record { tag = u; lit = l }) (fact_among (suc t) n d u ls l (omega (arith, e)) (omega (arith, less)) m)

module _ (atoms : List GroundName) (names : AllByRecursion IsGroundName atoms) (differ : IsDistinct same_name atoms) where
  -- ---- names of facts

  head : (t : ℕ) → t < 2 ^ 64 → (l : Lit) → IsOfAtom atoms l → IsHead (fact_of atoms t l)
  head t fit l h = let n = named atoms names l.atom.0 h in subst (λ w. IsHead w) (sym (fact_is atoms names differ t l n.name n.at)) (fact_is_head t fit l.positive n.name n.is_name)

  heads_under : (t : ℕ) → t < 2 ^ 64 → (ls : List Lit) → AreOfAtoms atoms ls → AllByRecursion (λ f. IsHead (name_of_fact atoms f)) (under t ls)
  heads_under t fit [] h = tt
  heads_under t fit (l ∷ ls) h = (head t fit l h.0, heads_under t fit ls h.1)

  pub heads : (t n : ℕ) → t + n < 2 ^ 64 → (ls : List Lit) → AreOfAtoms atoms ls → AllByRecursion (λ f. IsHead (name_of_fact atoms f)) (facts_from t n ls)
  heads t zero fit ls h = tt
  heads t (suc n) fit ls h = each_append (λ f. IsHead (name_of_fact atoms f)) (under t ls) (facts_from (suc t) n ls) (heads_under t (omega (arith, fit)) ls h) (heads (suc t) n (omega (arith, fit)) ls h)

  apart_under : (t : ℕ) → t < 2 ^ 64 → (l : Lit) → IsOfAtom atoms l → (ls : List Lit) → AreOfAtoms atoms ls → AllByRecursion (λ m. same_lit l m ≡ false) ls → AllByRecursion (λ f. same (fact_of atoms t l) (name_of_fact atoms f) ≡ false) (under t ls)
  apart_under t fit l b [] h d = tt
  apart_under t fit l b (m ∷ ms) h d = (same_fact atoms names differ t fit l m b h.0 ∙ d.0, apart_under t fit l b ms h.1 d.1)

  differ_under : (t : ℕ) → t < 2 ^ 64 → (ls : List Lit) → AreOfAtoms atoms ls → IsDistinct same_lit ls → IsDistinct (λ f g. same (name_of_fact atoms f) (name_of_fact atoms g)) (under t ls)
  unfolding IsDistinct
  differ_under t fit [] h d = tt
  differ_under t fit (l ∷ ls) h d = (apart_under t fit l h.0 ls h.1 d.0, differ_under t fit ls h.1 d.1)

  others_under : (u t : ℕ) → u < 2 ^ 64 → t < 2 ^ 64 → (u ≡ t → ⊥) → (l : Lit) → IsOfAtom atoms l → (ls : List Lit) → AreOfAtoms atoms ls → AllByRecursion (λ f. same (fact_of atoms u l) (name_of_fact atoms f) ≡ false) (under t ls)
  others_under u t p q apart l b [] h = tt
  others_under u t p q apart l b (m ∷ ms) h = (other_fact atoms names differ u t p q apart l m b h.0, others_under u t p q apart l b ms h.1)

  later : (u : ℕ) (l : Lit) → IsOfAtom atoms l → (t n : ℕ) → u < t → t + n < 2 ^ 64 → (ls : List Lit) → AreOfAtoms atoms ls → AllByRecursion (λ f. same (fact_of atoms u l) (name_of_fact atoms f) ≡ false) (facts_from t n ls)
  later u l b t zero less fit ls h = tt
  later u l b t (suc n) less fit ls h =
      each_append (λ f. same (fact_of atoms u l) (name_of_fact atoms f) ≡ false) (under t ls) (facts_from (suc t) n ls)
      (others_under u t (omega (arith, less, fit)) (omega (arith, fit)) (λ e. omega (arith, less, e)) l b ls h)
      (later u l b (suc t) n (omega (arith, less)) (omega (arith, fit)) ls h)

  from_under : (t : ℕ) (P : Fact → Type 0) (ls : List Lit) → AreOfAtoms atoms ls → ((l : Lit) → IsOfAtom atoms l → P (record { tag = t; lit = l })) → (f : Fact) → Member (under t ls) f → P f
  from_under t P [] h step f m = absurd m
  from_under t P (l ∷ ls) h step f (inl e) = subst (λ f. P f) e (step l h.0)
  from_under t P (l ∷ ls) h step f (inr m) = from_under t P ls h.1 step f m

  pub facts_differ : (t n : ℕ) → t + n < 2 ^ 64 → (ls : List Lit) → AreOfAtoms atoms ls → IsDistinct same_lit ls → IsDistinct (λ f g. same (name_of_fact atoms f) (name_of_fact atoms g)) (facts_from t n ls)
  unfolding IsDistinct
  facts_differ t zero fit ls h d = tt
  facts_differ t (suc n) fit ls h d =
      distinct_append (λ f g. same (name_of_fact atoms f) (name_of_fact atoms g)) (under t ls) (facts_from (suc t) n ls)
      (differ_under t (omega (arith, fit)) ls h d) (facts_differ (suc t) n (omega (arith, fit)) ls h d)
      (λ f m. from_under t (λ f. AllByRecursion (λ g. same (name_of_fact atoms f) (name_of_fact atoms g) ≡ false) (facts_from (suc t) n ls)) ls h (λ l b. later t l b (suc t) n (omega arith) (omega (arith, fit)) ls h) f m)
