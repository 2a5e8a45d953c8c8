-- On the ground atoms, an action does what its instance does.
use Rattle.std.proofs.Common.{◌≡◌, ℕ, Bool, true, false, not, ◌&&◌, ◌||◌, List, [], ◌∷◌, ◌++◌, Option, Some, None, refl, sym, ap, subst, map, ◌∙◌, inl, inr, nat_eq, eqb-true, eq-eqb, slice_get}
use Rattle.std.specs.List.{list_any, list_all, flat_map}
use Rattle.std.specs.Bool.{beq}
use Rattle.std.proofs.lemmas.Bool.{and_parts, and_from}
use Rattle.std.proofs.lemmas.List.Folds.{list_any-append, list_all-map}
use Rattle.std.proofs.Math.Bool.{and-true, and-false, or-false}
use Rattle.kp_base.specs.declared.lit.Lit.{Lit}
use Rattle.kp_base.specs.declared.ground.Effect.{Effect}
use Rattle.kp_base.specs.Lists.{Member, only_if, signed, each_once}
use Rattle.kp_base.specs.Lit.{positive, negative, same_lit}
use Rattle.kp_base.specs.Steps as steps
use Rattle.kp_base.proofs.Lists.{any_alike, all_alike, any_member, all_member, all_from, bool_same, same-true, same-refl, filter_member, member_left, member_right, member_flat_map, member_filter}
use Rattle.kp_base.proofs.Once.{any-each_once}
use Rattle.kp_base.proofs.Sets.{all-set_of}
use Rattle.kp_names_semantics.specs.declared.lifted.GroundLit.{GroundLit}
use Rattle.kp_names_semantics.specs.Names.{same}
use Rattle.kp_names_semantics.specs.Numbered.{Schema, Lifted}
use Rattle.kp_names_semantics.specs.Lifted as lifted
use Rattle.kp_names_semantics.specs.Lifted.{State, ground, same_literal, names_literal, literal_holds, bindings, state_by}
use Rattle.kp_base.specs.Atoms.{Atom, number_of}
use Rattle.kp_ground_semantics.specs.declared.flat.FlatEffect.{FlatEffect}
use Rattle.kp_ground_semantics.specs.Static.{settled, remaining}
use Rattle.kp_ground_semantics.specs.Flattening.{same_literals, same_flat, flat, flat_of, flat_fires}
use Rattle.kp_ground_semantics.specs.Ground.{kept_bindings, atom_of, effect_literals, instance_literals, kept_literals, open_literals, occurring, numbered, numbered_set, IsNumbering, numbered_effect, lasting, ground_pre, action_of, at_atom, seen_on}
use Rattle.kp_ground_semantics.specs.Laws.{IsOnceExact, IsStepExact, IsKeptExact}
use Rattle.kp_ground_semantics.proofs.Lists.{beq-true, beq-refl}
use Rattle.kp_ground_semantics.proofs.Flattening.{split, flat_exact}
use Rattle.kp_ground_semantics.proofs.Effects.{lasting_adds, lasting_deletes}

-- ---- literals by number

-- whether two literals by number of atom and objects are one
pub same_literal-true : (l m : GroundLit) → same_literal l m ≡ true → l ≡ m
same_literal-true l m h =
    let parts = and_parts (beq l.positive m.positive) (nat_eq l.pred m.pred && same l.objects m.objects) h in
    let inner = and_parts (nat_eq l.pred m.pred) (same l.objects m.objects) parts.1 in
    equal l.positive m.positive l.pred m.pred l.objects m.objects (beq-true l.positive m.positive parts.0) (eqb-true l.pred m.pred inner.0) (same-true l.objects m.objects inner.1)
  where
    equal : (a b : Bool) (p q : ℕ) (os us : List ℕ) → a ≡ b → p ≡ q → os ≡ us → ground a p os ≡ ground b q us
    equal a b p q os us e f g = cc

pub same_literal-refl : (l : GroundLit) → same_literal l l ≡ true
same_literal-refl l = and_from (beq l.positive l.positive) (nat_eq l.pred l.pred && same l.objects l.objects) (beq-refl l.positive) (and_from (nat_eq l.pred l.pred) (same l.objects l.objects) (eq-eqb l.pred l.pred refl) (same-refl l.objects))

-- the literal's atom is in the list, at its number
abbrev pub Covered : List Atom → GroundLit → Type 0
Covered atoms m = slice_get atoms (number_of atoms (atom_of m)) ≡ Some (atom_of m)

abbrev pub lit : Bool → ℕ → Lit
lit sign n = record { atom = record { 0 = n }; positive = sign }

pub holds_numbered : (atoms : List Atom) (s : State) (m : GroundLit) → Covered atoms m → steps.holds (seen_on atoms s) (numbered atoms m) ≡ literal_holds s m
holds_numbered atoms s m c = ap (λ o. signed m.positive (at_atom s o)) c

pub all_numbered : (atoms : List Atom) (s : State) (ms : List GroundLit) → ((m : GroundLit) → Member ms m → Covered atoms m) → list_all (steps.holds (seen_on atoms s)) (numbered_set atoms ms) ≡ list_all (literal_holds s) ms
all_numbered atoms s ms covered =
    all-set_of (steps.holds (seen_on atoms s)) (map (numbered atoms) ms)
    ∙ (list_all-map (steps.holds (seen_on atoms s)) (numbered atoms) ms
    ∙ all_alike (λ m. steps.holds (seen_on atoms s) (numbered atoms m)) (literal_holds s) ms (λ m i. holds_numbered atoms s m (covered m i)))

-- a literal's number is its own
pub same_numbered : (l : Lifted) (atoms : List Atom) → IsNumbering l atoms → (m : GroundLit) → Covered atoms m → (sign : Bool) (n : ℕ) (a : Atom) → slice_get atoms n ≡ Some a → same_lit (numbered atoms m) (lit sign n) ≡ same_literal (ground sign a.pred a.objects) m
same_numbered l atoms numbering m covered sign n a at =
    bool_same (same_lit (numbered atoms m) (lit sign n)) (same_literal (ground sign a.pred a.objects) m)
    (λ h.
    let parts = and_parts (nat_eq (number_of atoms (atom_of m)) n) (beq m.positive sign) h in
    let number = eqb-true (number_of atoms (atom_of m)) n parts.0 in
    let there : Some (atom_of m) ≡ Some a = sym covered ∙ (ap (slice_get atoms) number ∙ at) in
    let e : atom_of m ≡ a = cc in
    let f : ground sign a.pred a.objects ≡ m = one m.positive sign a (atom_of m) (beq-true m.positive sign parts.1) e in
    subst (λ z. same_literal z m ≡ true) (sym f) (same_literal-refl m))
    (λ h.
    let e = same_literal-true (ground sign a.pred a.objects) m h in
    subst (λ z. same_lit (numbered atoms z) (lit sign n) ≡ true) e
    (and_from (nat_eq (number_of atoms a) n) (beq sign sign) (eq-eqb (number_of atoms a) n (numbering.once n a at)) (beq-refl sign)))
  where
    one : (b c : Bool) (x y : Atom) → b ≡ c → y ≡ x → ground c x.pred x.objects ≡ ground b y.pred y.objects
    one b c x y e f = rw (e, f) refl

-- ---- effects by number

names_fired : (s : State) (x : GroundLit) (fs : List FlatEffect) → names_literal (flat_fires s fs) x ≡ list_any (λ f. same_literal x f.result && list_all (literal_holds s) f.cond) fs
names_fired s x [] = refl
names_fired s x (f ∷ fs) =
    list_any-append (same_literal x) (only_if (list_all (literal_holds s) f.cond) (f.result ∷ [])) (flat_fires s fs)
    ∙ rw (names_fired s x fs) (ap (λ t. t || list_any (λ f. same_literal x f.result && list_all (literal_holds s) f.cond) fs) (pick (list_all (literal_holds s) f.cond) (same_literal x f.result)))
  where
    pick : (t u : Bool) → list_any (same_literal x) (only_if t (f.result ∷ [])) ≡ (same_literal x f.result && t)
    pick true u = or-false (same_literal x f.result) ∙ sym (and-true (same_literal x f.result))
    pick false u = sym (and-false (same_literal x f.result))

abbrev AllCovered : List Atom → List FlatEffect → Type 0
AllCovered atoms fs = (f : FlatEffect) → Member fs f → (m : GroundLit) → Member (effect_literals f) m → Covered atoms m

fires_map : (atoms : List Atom) (k : steps.Valuation) (x : Lit) (fs : List FlatEffect) → steps.fires (map (numbered_effect atoms) fs) k x ≡ list_any (λ f. same_lit (numbered atoms f.result) x && list_all k (numbered_set atoms f.cond)) fs
fires_map atoms k x [] = refl
fires_map atoms k x (f ∷ fs) = ap (λ t. (same_lit (numbered atoms f.result) x && list_all k (numbered_set atoms f.cond)) || t) (fires_map atoms k x fs)

-- all of the same literals pass alike
same_pass : (p : GroundLit → Bool) (ls ms : List GroundLit) → same_literals ls ms ≡ true → list_all p ls ≡ list_all p ms
same_pass p ls ms h =
    let parts = and_parts (list_all (names_literal ms) ls) (list_all (names_literal ls) ms) h in bool_same (list_all p ls) (list_all p ms) (passes ls ms parts.1) (passes ms ls parts.0)
  where
    passes : (xs ys : List GroundLit) → list_all (names_literal xs) ys ≡ true → list_all p xs ≡ true → list_all p ys ≡ true
    passes xs ys within all = all_from p ys (λ y i. let found = any_member (same_literal y) xs (all_member (names_literal xs) ys y i within) in
        subst (λ z. p z ≡ true) (sym (same_literal-true y found.0 found.2)) (all_member p xs found.0 found.1 all))

-- repeated effects fire nothing more
fires_once : (atoms : List Atom) (k : steps.Valuation) (x : Lit) (fs : List FlatEffect) → steps.fires (map (numbered_effect atoms) (each_once same_flat fs)) k x ≡ steps.fires (map (numbered_effect atoms) fs) k x
fires_once atoms k x fs = fires_map atoms k x (each_once same_flat fs) ∙ (any-each_once same_flat fired alike fs ∙ sym (fires_map atoms k x fs))
  where
    fired : FlatEffect → Bool
    fired f = same_lit (numbered atoms f.result) x && list_all k (numbered_set atoms f.cond)

    conds : (f : FlatEffect) → list_all k (numbered_set atoms f.cond) ≡ list_all (λ m. k (numbered atoms m)) f.cond
    conds f = all-set_of k (map (numbered atoms) f.cond) ∙ list_all-map k (numbered atoms) f.cond

    alike : (f g : FlatEffect) → same_flat f g ≡ true → fired f ≡ fired g
    alike f g h =
        let parts = and_parts (same_literal f.result g.result) (same_literals f.cond g.cond) h in
        rw (same_literal-true f.result g.result parts.0, conds f ∙ (same_pass (λ m. k (numbered atoms m)) f.cond g.cond parts.1 ∙ sym (conds g))) refl

pub once_exact : IsOnceExact
once_exact s fs m = names_fired s m (each_once same_flat fs) ∙ (any-each_once same_flat fired alike fs ∙ sym (names_fired s m fs))
  where
    fired : FlatEffect → Bool
    fired f = same_literal m f.result && list_all (literal_holds s) f.cond

    alike : (f g : FlatEffect) → same_flat f g ≡ true → fired f ≡ fired g
    alike f g h =
        let parts = and_parts (same_literal f.result g.result) (same_literals f.cond g.cond) h in
        rw (same_literal-true f.result g.result parts.0, same_pass (literal_holds s) f.cond g.cond parts.1) refl

-- at a ground atom the numbered effects fire what the flat ones do
fires_numbered : (l : Lifted) (atoms : List Atom) → IsNumbering l atoms → (s : State) (fs : List FlatEffect) → AllCovered atoms fs → (sign : Bool) (n : ℕ) (a : Atom) → slice_get atoms n ≡ Some a → steps.fires (map (numbered_effect atoms) fs) (steps.holds (seen_on atoms s)) (lit sign n) ≡ names_literal (flat_fires s fs) (ground sign a.pred a.objects)
fires_numbered l atoms numbering s fs covered sign n a at =
    fires_map atoms (steps.holds (seen_on atoms s)) (lit sign n) fs
    ∙ (any_alike (λ f. same_lit (numbered atoms f.result) (lit sign n) && list_all (steps.holds (seen_on atoms s)) (numbered_set atoms f.cond)) (λ f. same_literal (ground sign a.pred a.objects) f.result && list_all (literal_holds s) f.cond) fs
    (λ f i. rw (same_numbered l atoms numbering f.result (covered f i f.result (member_right f.cond (f.result ∷ []) f.result (inl refl))) sign n a at, all_numbered atoms s f.cond (λ m j. covered f i m (member_left f.cond (f.result ∷ []) m j))) refl)
    ∙ sym (names_fired s (ground sign a.pred a.objects) fs))

-- beyond the ground atoms nothing fires
fires_none : (atoms : List Atom) (k : steps.Valuation) (fs : List FlatEffect) → AllCovered atoms fs → (sign : Bool) (n : ℕ) → slice_get atoms n ≡ None → steps.fires (map (numbered_effect atoms) fs) k (lit sign n) ≡ false
fires_none atoms k [] covered sign n at = refl
fires_none atoms k (f ∷ fs) covered sign n at =
    pick (same_lit (numbered atoms f.result) (lit sign n)) refl (fires_none atoms k fs (λ g i. covered g (inr i)) sign n at)
  where
    pick : (t : Bool) → same_lit (numbered atoms f.result) (lit sign n) ≡ t → steps.fires (map (numbered_effect atoms) fs) k (lit sign n) ≡ false → ((t && list_all k (numbered_set atoms f.cond)) || steps.fires (map (numbered_effect atoms) fs) k (lit sign n)) ≡ false
    pick false is rest = rest
    pick true is rest =
        let parts = and_parts (nat_eq (number_of atoms (atom_of f.result)) n) (beq f.result.positive sign) is in
        let number = eqb-true (number_of atoms (atom_of f.result)) n parts.0 in
        let there : Some (atom_of f.result) ≡ None = sym (covered f (inl refl) f.result (member_right f.cond (f.result ∷ []) f.result (inl refl))) ∙ (ap (slice_get atoms) number ∙ at) in
        cc

-- ---- the literals of a kept instance occur

pub occurs : (l : Lifted) (a : Schema) (os : List ℕ) → Member l.schemas a → Member (kept_bindings l a) os → (m : GroundLit) → Member (instance_literals l a os) m → Member (occurring l) m
occurs l a os at kept m i =
    member_right l.goal (open_literals l ++ flat_map (kept_literals l) l.schemas) m
    (member_right (open_literals l) (flat_map (kept_literals l) l.schemas) m
    (member_flat_map (kept_literals l) l.schemas a m at
    (member_flat_map (instance_literals l a) (kept_bindings l a) os m kept i)))

-- ---- the step

lasting_after : (pre : List Lit) (es : List Effect) (s : steps.State) (n : ℕ) → list_all (steps.holds s) pre ≡ true → (steps.fires (lasting pre es) (steps.holds s) (positive n) || (s n && not (steps.fires (lasting pre es) (steps.holds s) (negative n)))) ≡ (steps.fires es (steps.holds s) (positive n) || (s n && not (steps.fires es (steps.holds s) (negative n))))
lasting_after pre es s n h = rw (lasting_adds pre es (steps.holds s) n) (pick (steps.fires es (steps.holds s) (positive n)) refl)
  where
    pick : (t : Bool) → steps.fires es (steps.holds s) (positive n) ≡ t → (t || (s n && not (steps.fires (lasting pre es) (steps.holds s) (negative n)))) ≡ (t || (s n && not (steps.fires es (steps.holds s) (negative n))))
    pick true is = refl
    pick false is = rw (lasting_deletes pre es (steps.holds s) n h is) refl

pub kept_exact : IsKeptExact
kept_exact l s truth a os b h = member_filter (λ os. settled l os a.pre) (bindings a.params) os b (and_parts (settled l os a.pre) (list_all (literal_holds s) (remaining l os a.pre)) (sym (split l s truth os a.pre) ∙ h)).0

pub step_exact : IsStepExact
step_exact l atoms numbering s truth a os at kept = record { applicable = pre_exact; next = λ h n. go h n (slice_get atoms n) refl }
  where
    is_settled : settled l os a.pre ≡ true
    is_settled = (filter_member (λ os. settled l os a.pre) (bindings a.params) os kept).1

    covered : (m : GroundLit) → Member (instance_literals l a os) m → Covered atoms m
    covered m i = numbering.covers m (occurs l a os at kept m i)

    flat_covered : AllCovered atoms (flat l os a.effect)
    flat_covered f i m j = covered m (member_right (remaining l os a.pre) (flat_map effect_literals (flat l os a.effect)) m (member_flat_map effect_literals (flat l os a.effect) f m i j))

    pre_exact : list_all (steps.holds (seen_on atoms s)) (ground_pre l atoms a os) ≡ lifted.holds s os a.pre
    pre_exact =
        all_numbered atoms s (remaining l os a.pre) (λ m i. covered m (member_left (remaining l os a.pre) (flat_map effect_literals (flat l os a.effect)) m i))
        ∙ sym (split l s truth os a.pre ∙ rw is_settled refl)

    go : lifted.holds s os a.pre ≡ true → (n : ℕ) (o : Option Atom) → slice_get atoms n ≡ o → steps.after (action_of l atoms a os) (seen_on atoms s) n ≡ at_atom (state_by (Some a) os s) o
    go h n o is =
        lasting_after (ground_pre l atoms a os) (map (numbered_effect atoms) (flat_of l a os).effects) (seen_on atoms s) n (pre_exact ∙ h)
        ∙ (rw (fires_once atoms (steps.holds (seen_on atoms s)) (positive n) (flat l os a.effect), fires_once atoms (steps.holds (seen_on atoms s)) (negative n) (flat l os a.effect)) (at_n o is))
      where
        at_n : (o : Option Atom) → slice_get atoms n ≡ o → (steps.fires (map (numbered_effect atoms) (flat l os a.effect)) (steps.holds (seen_on atoms s)) (positive n) || (seen_on atoms s n && not (steps.fires (map (numbered_effect atoms) (flat l os a.effect)) (steps.holds (seen_on atoms s)) (negative n)))) ≡ at_atom (state_by (Some a) os s) o
        at_n None is = rw (fires_none atoms (steps.holds (seen_on atoms s)) (flat l os a.effect) flat_covered true n is, fires_none atoms (steps.holds (seen_on atoms s)) (flat l os a.effect) flat_covered false n is, is) refl
        at_n (Some c) is = rw (fires_numbered l atoms numbering s (flat l os a.effect) flat_covered true n c is, fires_numbered l atoms numbering s (flat l os a.effect) flat_covered false n c is, flat_exact l s truth os a.effect, is) refl
