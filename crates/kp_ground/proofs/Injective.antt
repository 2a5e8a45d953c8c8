-- On numbered atoms, effects by number are one where the effects are; so those that come once come once by number.
use Rattle.std.proofs.Common.{◌≡◌, ℕ, fold, Bool, true, false, not, ◌&&◌, cond, List, [], ◌∷◌, map, filter, refl, sym, ap, ap₂, subst, ◌∙◌, inl, inr}
use Rattle.std.specs.List.{list_all, flat_map}
use Rattle.std.specs.Prelude.{Contains}
use Rattle.std.specs.Cmp.{IsEquivalence, and_equiv, on_equiv}
use Rattle.std.proofs.lemmas.Bool.{and_parts, and_from}
use Rattle.kp_base.specs.declared.lit.Lit.{Lit}
use Rattle.kp_base.specs.declared.ground.Effect.{Effect}
use Rattle.kp_base.specs.Planning.{Member, each_once, same_lit, same_set, Atom, number_of}
use Rattle.kp_base.specs.Lit.{has}
use Rattle.kp_base.proofs.Ascending.{same_members}
use Rattle.kp_base.proofs.Lists.{bool_same, any_map, any_alike, any_member, any_from, all_member, all_from, member_map, map_member, filter_member, member_left, member_right, member_flat_map}
use Rattle.kp_base.proofs.Lits.{same_lits, contains_has, has_contains}
use Rattle.kp_base.proofs.Once.{once_by_one}
use Rattle.kp_base.proofs.Sets.{same_sets, same_set-true, any-set_of, set_ascends}
use Rattle.kp_names_semantics.specs.declared.lifted.GroundLit.{GroundLit}
use Rattle.kp_names_semantics.specs.Numbered.{Schema, Lifted}
use Rattle.kp_names_semantics.specs.Lifted.{same_literal, names_literal}
use Rattle.kp_ground_semantics.specs.declared.flat.FlatEffect.{FlatEffect}
use Rattle.kp_ground_semantics.specs.Static.{remaining}
use Rattle.kp_ground_semantics.specs.Flattening.{same_literals, same_flat, flat, flat_of}
use Rattle.kp_ground_semantics.specs.Ground.{atom_of, numbered, numbered_set, numbered_effect, effect_literals, IsNumbering}
use Rattle.kp_ground_semantics.proofs.Public.{same_literal-true, same_literal-refl, IsCoveredLiteral, literal_number_is_its_own, instance_literals_occur}
use Rattle.kp_ground.specs.Made.{same_made, with_made}
use Rattle.kp_ground.specs.Passes.{IsKnown}

-- ---- each once behind a function

filter_behind : {X Y : Type 0} (p : Y → Bool) (f : X → Y) (q : X → Bool) (xs : List X) → ((x : X) → Member xs x → p (f x) ≡ q x) → filter p (map f xs) ≡ map f (filter q xs)
filter_behind p f q [] alike = refl
filter_behind {X} {Y} p f q (x ∷ xs) alike = rw (alike x (inl refl), filter_behind p f q xs (λ y i. alike y (inr i))) (pick (q x))
  where
    pick : (t : Bool) → cond t (f x ∷ map f (filter q xs)) (map f (filter q xs)) ≡ map f (cond t (x ∷ filter q xs) (filter q xs))
    pick true = refl
    pick false = refl

once_member : {X : Type 0} (same : X → X → Bool) (xs : List X) (x : X) → Member (each_once same xs) x → Member xs x
once_member same [] x i = i
once_member same (y ∷ ys) x i = elim i [
  | inl e ↦ inl e
  | inr r ↦ inr (once_member same ys x (filter_member (λ z. not (same y z)) (each_once same ys) x r).0)
]

once_behind : {X Y : Type 0} (same : Y → Y → Bool) (f : X → Y) (alike : X → X → Bool) (xs : List X) → ((x y : X) → Member xs x → Member xs y → same (f x) (f y) ≡ alike x y) → each_once same (map f xs) ≡ map f (each_once alike xs)
once_behind same f alike [] h = refl
once_behind same f alike (x ∷ xs) h =
    ap (λ ys. f x ∷ filter (λ y. not (same (f x) y)) ys) (once_behind same f alike xs (λ y z i j. h y z (inr i) (inr j)))
    ∙ ap (λ ys. f x ∷ ys) (filter_behind (λ y. not (same (f x) y)) f (λ y. not (alike x y)) (each_once alike xs) (λ y i. ap not (h x y (inl refl) (inr (once_member alike xs y i)))))

-- ---- effects by number

module _ (l : Lifted) (atoms : List Atom) (numbering : IsNumbering l atoms) where
  -- all atoms of these literals are numbered
  abbrev pub AllKnown : List GroundLit → Type 0
  AllKnown ms = (m : GroundLit) → Member ms m → IsCoveredLiteral atoms m

  turned : (x y : GroundLit) → same_literal x y ≡ true → same_literal y x ≡ true
  turned x y h = subst (λ z. same_literal z x ≡ true) (same_literal-true x y h) (same_literal-refl x)

  same_by_number : (m k : GroundLit) → IsCoveredLiteral atoms m → IsCoveredLiteral atoms k → same_lit (numbered atoms m) (numbered atoms k) ≡ same_literal m k
  same_by_number m k c d =
      literal_number_is_its_own l atoms numbering m c k.positive (number_of atoms (atom_of k)) (atom_of k) d
      ∙ bool_same (same_literal k m) (same_literal m k) (turned k m) (turned m k)

  has_by_number : (ms : List GroundLit) (m : GroundLit) → IsCoveredLiteral atoms m → AllKnown ms → has (numbered_set atoms ms) (numbered atoms m) ≡ names_literal ms m
  has_by_number ms m c known =
      any-set_of (same_lit (numbered atoms m)) (map (numbered atoms) ms)
      ∙ (any_map (numbered atoms) (same_lit (numbered atoms m)) (λ k. same_lit (numbered atoms m) (numbered atoms k)) ms (λ k. refl)
      ∙ any_alike (λ k. same_lit (numbered atoms m) (numbered atoms k)) (same_literal m) ms (λ k i. same_by_number m k c (known k i)))

  -- what one set has, the other has
  goes_over : (xs ys : List GroundLit) → list_all (names_literal ys) xs ≡ true → (k : Lit) → Contains (numbered_set atoms xs) k → Contains (numbered_set atoms ys) k
  goes_over xs ys within k h =
      let here = any_member (same_lit k) (map (numbered atoms) xs) (sym (any-set_of (same_lit k) (map (numbered atoms) xs)) ∙ contains_has (numbered_set atoms xs) k h) in
      let from = map_member (numbered atoms) xs here.0 here.1 in
      let twin = any_member (same_literal from.0) ys (all_member (names_literal ys) xs from.0 from.1 within) in
      let one : numbered atoms twin.0 ≡ here.0 = ap (numbered atoms) (sym (same_literal-true from.0 twin.0 twin.2)) ∙ from.2 in
      has_contains (numbered_set atoms ys) k
      (any-set_of (same_lit k) (map (numbered atoms) ys)
      ∙ any_from (same_lit k) (map (numbered atoms) ys) (numbered atoms twin.0) (member_map (numbered atoms) ys twin.0 twin.1) (subst (λ z. same_lit k z ≡ true) (sym one) here.2))

  -- sets by number are one just where they have the same literals
  sets_by_number : (ls ms : List GroundLit) → AllKnown ls → AllKnown ms → same_set (numbered_set atoms ls) (numbered_set atoms ms) ≡ same_literals ls ms
  sets_by_number ls ms known known_too = bool_same (same_set (numbered_set atoms ls) (numbered_set atoms ms)) (same_literals ls ms) there back
    where
      inside : (xs ys : List GroundLit) → AllKnown xs → AllKnown ys → numbered_set atoms xs ≡ numbered_set atoms ys → list_all (names_literal ys) xs ≡ true
      inside xs ys cx cy e = all_from (names_literal ys) xs (λ m i.
          sym (has_by_number ys m (cx m i) cy)
          ∙ (ap (λ s. has s (numbered atoms m)) (sym e)
          ∙ (has_by_number xs m (cx m i) cx ∙ any_from (same_literal m) xs m i (same_literal-refl m))))

      there : same_set (numbered_set atoms ls) (numbered_set atoms ms) ≡ true → same_literals ls ms ≡ true
      there h =
          let e = same_set-true (numbered_set atoms ls) (numbered_set atoms ms) h in
          and_from (list_all (names_literal ms) ls) (list_all (names_literal ls) ms) (inside ls ms known known_too e) (inside ms ls known_too known (sym e))

      back : same_literals ls ms ≡ true → same_set (numbered_set atoms ls) (numbered_set atoms ms) ≡ true
      back h =
          let parts = and_parts (list_all (names_literal ms) ls) (list_all (names_literal ls) ms) h in
          let e : numbered_set atoms ls ≡ numbered_set atoms ms =
          same_members (numbered_set atoms ls) (numbered_set atoms ms) (set_ascends (map (numbered atoms) ls)) (set_ascends (map (numbered atoms) ms)) (goes_over ls ms parts.0) (goes_over ms ls parts.1) in
          subst (λ z. same_set (numbered_set atoms ls) z ≡ true) e (same_sets.refl (numbered_set atoms ls))

  -- so are effects
  made_by_number : (f g : FlatEffect) → AllKnown (effect_literals f) → AllKnown (effect_literals g) → same_made (numbered_effect atoms f) (numbered_effect atoms g) ≡ same_flat f g
  made_by_number f g cf cg =
      ap₂ (λ a b. a && b)
      (same_by_number f.result g.result (cf f.result (member_right f.cond (f.result ∷ []) f.result (inl refl))) (cg g.result (member_right g.cond (g.result ∷ []) g.result (inl refl))))
      (sets_by_number f.cond g.cond (λ m i. cf m (member_left f.cond (f.result ∷ []) m i)) (λ m i. cg m (member_left g.cond (g.result ∷ []) m i)))

  -- and each comes once by number where it comes once
  pub once_by_number : (fs : List FlatEffect) → ((f : FlatEffect) → Member fs f → AllKnown (effect_literals f)) → each_once same_made (map (numbered_effect atoms) fs) ≡ map (numbered_effect atoms) (each_once same_flat fs)
  once_by_number fs known = once_behind same_made (numbered_effect atoms) same_flat fs (λ f g i j. made_by_number f g (known f i) (known g j))

same_mades : IsEquivalence same_made
same_mades = and_equiv (on_equiv (λ (e : Effect). e.result) same_lits) (on_equiv (λ (e : Effect). e.cond) same_sets)

-- the effects of a kept instance that come one by one, each once by number, are those of its flat form
pub made_once : (l : Lifted) (atoms : List Atom) (a : Schema) (os : List ℕ) → IsKnown l atoms a os → fold with_made [] (map (numbered_effect atoms) (flat l os a.effect)) ≡ map (numbered_effect atoms) (flat_of l a os).effects
made_once l atoms a os known =
    once_by_one same_made same_mades (map (numbered_effect atoms) (flat l os a.effect))
    ∙ once_by_number l atoms known.numbering (flat l os a.effect) (λ f i m j.
    known.numbering.covers m (instance_literals_occur l a os known.schema known.kept m
    (member_right (remaining l os a.pre) (flat_map effect_literals (flat l os a.effect)) m (member_flat_map effect_literals (flat l os a.effect) f m i j))))
