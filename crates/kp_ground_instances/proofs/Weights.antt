-- Weights as far as a bound.
use Rattle.std.proofs.Common.{◌≡◌, ℕ, ◌+◌, ◌*◌, ◌<◌, ◌≤◌, min, List, length, map, take, get_or, sym, ap, ap₂, ◌∙◌, arith}
use Rattle.kp_names_semantics.specs.declared.lifted.Range.{Range}
use Rattle.kp_names_semantics.specs.Numbered.{Cond, Eff, Effs}
use Rattle.kp_names_semantics.specs.Lifted.{bindings}
use Rattle.kp_ground_semantics.specs.Weights.{cond_size, or_leaf, leaves_weight, all_leaves_weight}
use Rattle.kp_ground_instances.proofs.Capped.{Alike, alike_refl, alike_cap, alike_add, alike_mul, alike_or_leaf, or_leaf-le, cap_mul}
use Rattle.kp_ground_instances.proofs.Choices.{length_last}
use Rattle.kp_ground_instances.proofs.Digits.{objects, one_more}

-- ---- leaves

-- weights of leaves that are one as far as the bound give such weights of effects
mutual
  pub alike_leaves : (m a b : ℕ) → 0 < m → Alike m a b → (e : Eff) → Alike m (leaves_weight a e) (leaves_weight b e)
  alike_leaves m a b p h (Eff.both es) = alike_or_leaf m a b (all_leaves_weight a es) (all_leaves_weight b es) p h (alike_all_leaves m a b p h es)
  alike_leaves m a b p h (Eff.when c e) = alike_leaves m (a + cond_size c) (b + cond_size c) p (alike_add m a b (cond_size c) (cond_size c) h (alike_refl m (cond_size c))) e
  alike_leaves m a b p h (Eff.each rs e) =
      alike_or_leaf m a b (length (bindings rs) * leaves_weight a e) (length (bindings rs) * leaves_weight b e) p h
      (alike_mul m (length (bindings rs)) (length (bindings rs)) (leaves_weight a e) (leaves_weight b e) (alike_refl m (length (bindings rs))) (alike_leaves m a b p h e))
  alike_leaves m a b p h (Eff.makes positive q ts) = h

  alike_all_leaves : (m a b : ℕ) → 0 < m → Alike m a b → (es : Effs) → Alike m (all_leaves_weight a es) (all_leaves_weight b es)
  alike_all_leaves m a b p h Effs.no_eff = alike_refl m 0
  alike_all_leaves m a b p h (Effs.more_effs e es) = alike_add m (leaves_weight a e) (leaves_weight b e) (all_leaves_weight a es) (all_leaves_weight b es) (alike_leaves m a b p h e) (alike_all_leaves m a b p h es)

-- the weight of what stands within, capped, where that of a leaf is
pub cap_or_leaf : (m leaf w r : ℕ) → 0 < m → leaf ≤ m → r ≡ min w m → or_leaf leaf r ≡ min (or_leaf leaf w) m
cap_or_leaf m leaf w r p small is =
    let r-le : r ≤ m = omega arith in
    let le = or_leaf-le m leaf r small r-le in
    let e : min (or_leaf leaf r) m ≡ min (or_leaf leaf w) m = (alike_or_leaf m leaf leaf r w p (alike_refl m leaf) (record { same = ap (λ x. min x m) is ∙ (alike_cap m w).same })).same in
    let f : or_leaf leaf r ≡ min (or_leaf leaf r) m = omega arith in
    f ∙ e

pub capped_product : (m s f product more : ℕ) → product ≡ min s m → more ≡ min f m → min (product * more) m ≡ min (s * f) m
capped_product m s f product more e g = ap₂ (λ x y. min (x * y) m) e g ∙ cap_mul m s f

-- a condition adds its size to the weight of the leaves within
pub when_leaves : (m leaf size sum : ℕ) (c : Cond) (e : Eff) → 0 < m → size ≡ min (cond_size c) m → sum ≡ min (leaf + size) m → min (leaves_weight sum e) m ≡ min (leaves_weight (leaf + cond_size c) e) m
when_leaves m leaf size sum c e p is is' =
    let same : min sum m ≡ min (leaf + cond_size c) m = omega arith in
    (alike_leaves m sum (leaf + cond_size c) p (record { same = same }) e).same

-- a body counts once for each list of objects
pub each_leaves : (m leaf number body product : ℕ) (rs : List Range) (e : Eff) → 0 < m → leaf ≤ m → number ≡ min (length (bindings rs)) m → body ≡ min (leaves_weight leaf e) m → product ≡ min (number * body) m → or_leaf leaf product ≡ min (leaves_weight leaf (Eff.each rs e)) m
each_leaves m leaf number body product rs e p small is is' is'' =
    cap_or_leaf m leaf (length (bindings rs) * leaves_weight leaf e) product p small (is'' ∙ capped_product m (length (bindings rs)) (leaves_weight leaf e) number body is is')

-- ---- one more

-- how many objects the next range has is a factor
pub next_factor : (m : ℕ) (rs : List Range) (i : ℕ) (r : Range) (product : ℕ) → i < length rs → r ≡ get_or rs i r → product ≡ min (length (bindings (take i rs))) m → min (product * length r.objects) m ≡ min (length (bindings (take (i + 1) rs))) m
next_factor m rs i r product lt is h =
    ap (λ p. min (p * length r.objects) m) h ∙ one_capped (length (bindings (take i rs))) (length r.objects)
    ∙ ap (λ s. min s m) (sym (ap length (one_more rs i r lt is) ∙ length_last (map objects (take i rs)) r.objects))
  where
    one_capped : (a b : ℕ) → min (min a m * b) m ≡ min (a * b) m
    one_capped a b = (alike_mul m (min a m) a b b (alike_cap m a) (alike_refl m b)).same
