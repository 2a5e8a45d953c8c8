-- There is one first clash at most.
use Rattle.std.proofs.Common.{◌≡◌, ◌≢◌, ℕ, List, refl, sym, ap, ◌∙◌}
use Rattle.std.specs.declared.cmp.Ordering.{Ordering}
use Rattle.std.specs.declared.cmp.Ordering.TheVariants.{Less, Equal, Greater}
use Rattle.std.specs.Ordering.{is_eq, nat_cmp, ordering_reverse}
use Rattle.std.specs.Cmp.Lexicographic.{slice_cmp, nat_list_cmp_total}
use Rattle.std.proofs.lemmas.Map.Text.{is_eq-slice_cmp}
use Rattle.kp_base.specs.declared.ground.Ground.{Ground}
use Rattle.kp_base.specs.declared.refused.ClashAt.{ClashAt}
use Rattle.kp_base.specs.Clashes.{Pairs, clash_place, IsFirstClash}
use Rattle.kp_base.proofs.Lists.{same-true}

-- lists of which neither is greater are one
neither_greater : (xs ys : List ℕ) → slice_cmp nat_cmp xs ys ≢ Greater → slice_cmp nat_cmp ys xs ≢ Greater → xs ≡ ys
neither_greater xs ys f g = by (slice_cmp nat_cmp xs ys) refl
  where
    by : (o : Ordering) → slice_cmp nat_cmp xs ys ≡ o → xs ≡ ys
    by Less e = absurd (g (nat_list_cmp_total.antisymm ys xs ∙ ap ordering_reverse e))
    by Equal e = same-true xs ys (sym (is_eq-slice_cmp xs ys) ∙ ap is_eq e)
    by Greater e = absurd (f e)

same_parts : (c d : ClashAt) → c.action ≡ d.action → c.atom.0 ≡ d.atom.0 → c.add ≡ d.add → c.delete ≡ d.delete → c ≡ d
same_parts c d a b e f =
    ap (λ x. let k : ClashAt = record { action = x; atom = c.atom; add = c.add; delete = c.delete } in k) a
    ∙ (ap (λ x. let k : ClashAt = record { action = d.action; atom = record { 0 = x }; add = c.add; delete = c.delete } in k) b
    ∙ (ap (λ x. let k : ClashAt = record { action = d.action; atom = d.atom; add = x; delete = c.delete } in k) e
    ∙ ap (λ x. let k : ClashAt = record { action = d.action; atom = d.atom; add = d.add; delete = x } in k) f))

pub first_once : (pairs : Pairs) (g : Ground) (c d : ClashAt) → IsFirstClash pairs g c → IsFirstClash pairs g d → c ≡ d
first_once pairs g c d h k =
    let e : clash_place c ≡ clash_place d = neither_greater (clash_place c) (clash_place d) (h.first d k.clash) (k.first c h.clash) in
    same_parts c d (cc e) (cc e) (cc e) (cc e)
