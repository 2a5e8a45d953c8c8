-- Effects of one shape are one, and of no other.
use Rattle.std.proofs.Common.{◌≡◌, Bool, true, false, ◌&&◌, if◌then◌else◌, List, [], ◌∷◌, ◌++◌, map, refl, sym, ap, subst, ◌∙◌, length, take}
use Rattle.std.specs.List.{list_any}
use Rattle.std.specs.Cmp.Lexicographic.{pointwise}
use Rattle.std.proofs.lemmas.Bool.{and_parts, and_from, false≢true}
use Rattle.kp_base.proofs.Lists.{bool_same}
use Rattle.kp_names_semantics.specs.Lifted.{same_literal, names_literal}
use Rattle.kp_ground_semantics.specs.declared.flat.FlatEffect.{FlatEffect}
use Rattle.kp_ground_semantics.specs.Flattening.{same_flat}
use Rattle.kp_ground_semantics.proofs.Public.{same_literal-true, same_literal-refl}
use Rattle.kp_ground_flatten.specs.declared.shape.KeyLit.{KeyLit}
use Rattle.kp_ground_flatten.specs.declared.shape.Shape.{Shape}
use Rattle.kp_ground_flatten.specs.Shapes.{key_view, IsShapeOf, AreShapes, with_effect}
use Rattle.kp_ground_flatten.proofs.Sets.{alike_from, alike_to, sets_are_one}

-- whether two literals of shapes are one
abbrev pub same_key : KeyLit → KeyLit → Bool
same_key a b = same_literal (key_view a) (key_view b)

-- whether two shapes are one
abbrev pub same_shape : Shape → Shape → Bool
same_shape s t = same_key s.result t.result && pointwise same_key s.conds.items t.conds.items

-- literals that are one, one by one, are the same literals
views_same : (ks ls : List KeyLit) → pointwise same_key ks ls ≡ true → map key_view ks ≡ map key_view ls
views_same [] [] h = refl
views_same [] (l ∷ ls) h = absurd (false≢true h)
views_same (k ∷ ks) [] h = absurd (false≢true h)
views_same (k ∷ ks) (l ∷ ls) h =
    let parts = and_parts (same_key k l) (pointwise same_key ks ls) h in
    let first = same_literal-true (key_view k) (key_view l) parts.0 in
    let rest = views_same ks ls parts.1 in
    rw (first, rest) refl

same_views : (ks ls : List KeyLit) → map key_view ks ≡ map key_view ls → pointwise same_key ks ls ≡ true
same_views [] [] h = refl
same_views [] (l ∷ ls) h = cc
same_views (k ∷ ks) [] h = cc
same_views (k ∷ ks) (l ∷ ls) h =
    let first : key_view k ≡ key_view l = cc in
    let rest : map key_view ks ≡ map key_view ls = cc in
    and_from (same_key k l) (pointwise same_key ks ls)
    (subst (λ z. same_literal (key_view k) z ≡ true) first (same_literal-refl (key_view k)))
    (same_views ks ls rest)

-- two effects are one just where their shapes are
pub shapes_decide : (s t : Shape) (f g : FlatEffect) → IsShapeOf s f → IsShapeOf t g → same_shape s t ≡ same_flat f g
shapes_decide s t f g of_f of_g =
    bool_same (same_shape s t) (same_flat f g)
    (λ h.
    let parts = and_parts (same_key s.result t.result) (pointwise same_key s.conds.items t.conds.items) h in
    let views = views_same s.conds.items t.conds.items parts.1 in
    alike_to f g (record {
      result = sym of_f.result ∙ (same_literal-true (key_view s.result) (key_view t.result) parts.0 ∙ of_g.result);
      members = λ m. sym (of_f.conds.members m) ∙ (ap (λ z. names_literal z m) views ∙ of_g.conds.members m);
    }))
    (λ h.
    let a = alike_from f g h in
    and_from (same_key s.result t.result) (pointwise same_key s.conds.items t.conds.items)
    (subst (λ z. same_literal (key_view s.result) z ≡ true) (of_f.result ∙ (a.result ∙ sym of_g.result)) (same_literal-refl (key_view s.result)))
    (same_views s.conds.items t.conds.items (sets_are_one (map key_view s.conds.items) (map key_view t.conds.items) f.cond g.cond of_f.conds of_g.conds a.members)))

-- an effect is among some effects just where its shape is among theirs
pub shape_among : (s : Shape) (f : FlatEffect) → IsShapeOf s f → (ts : List Shape) (gs : List FlatEffect) → AreShapes ts gs → list_any (same_shape s) ts ≡ list_any (same_flat f) gs
shape_among s f of_f [] [] h = refl
shape_among s f of_f [] (g ∷ gs) h = absurd h
shape_among s f of_f (t ∷ ts) [] h = absurd h
shape_among s f of_f (t ∷ ts) (g ∷ gs) h = rw (shapes_decide s t f g of_f h.0, shape_among s f of_f ts gs h.1) refl

-- one more shape, one more effect
pub shapes_more : (s : Shape) (f : FlatEffect) → IsShapeOf s f → (ts : List Shape) (gs : List FlatEffect) → AreShapes ts gs → AreShapes (ts ++ s ∷ []) (gs ++ f ∷ [])
shapes_more s f of_f [] [] h = (of_f, tt)
shapes_more s f of_f [] (g ∷ gs) h = absurd h
shapes_more s f of_f (t ∷ ts) [] h = absurd h
shapes_more s f of_f (t ∷ ts) (g ∷ gs) h = (h.0, shapes_more s f of_f ts gs h.1)

-- ---- adding an effect by its shape

-- an effect whose shape is there isn't added
pub known : (s : Shape) (f : FlatEffect) → IsShapeOf s f → (ts : List Shape) (gs : List FlatEffect) → AreShapes ts gs → list_any (same_shape s) ts ≡ true → with_effect gs f ≡ gs
known s f of_f ts gs h there = ap (λ (t : Bool). if t then gs else gs ++ f ∷ []) (sym (shape_among s f of_f ts gs h) ∙ there)

-- and one whose shape is new is
pub new : (s : Shape) (f : FlatEffect) → IsShapeOf s f → (ts : List Shape) (gs : List FlatEffect) → AreShapes ts gs → list_any (same_shape s) ts ≡ false → with_effect gs f ≡ gs ++ f ∷ []
new s f of_f ts gs h absent = ap (λ (t : Bool). if t then gs else gs ++ f ∷ []) (sym (shape_among s f of_f ts gs h) ∙ absent)

-- the shapes before the last one
pub shapes_before : (ts us : List Shape) → take (length ts) (ts ++ us) ≡ ts
shapes_before [] us = refl
shapes_before (t ∷ ts) us = ap (λ z. t ∷ z) (shapes_before ts us)
