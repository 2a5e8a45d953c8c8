-- Conditions and effects of the program as plain data, form by form.
use Rattle.std.proofs.Common.{◌≡◌, ℕ, ◌+◌, ◌||◌, List, [], ◌∷◌, sum_by, sym, ap, map, ◌∙◌, refl, Box}
use Rattle.std.specs.declared.alloc.Global.{Global}
use Rattle.std.specs.List.{list_any}
use Rattle.std.proofs.lemmas.List.Sums.{sum_by-cons}
use Rattle.kp_names_semantics.specs.declared.lifted.Range.{Range}
use Rattle.kp_names_semantics.specs.Numbered.{Cond, Eff}
use Rattle.kp_names_numbered.specs.declared.lifted.Cond as conds
use Rattle.kp_names_numbered.specs.declared.lifted.Cond.TheOpen.{Cond-F}
use Rattle.kp_names_numbered.specs.declared.lifted.Cond.TheFolds.{fold-roll-Cond}
use Rattle.kp_names_numbered.specs.declared.lifted.Cond.TheVariants as cond_variants
use Rattle.kp_names_numbered.specs.declared.lifted.Eff as effs
use Rattle.kp_names_numbered.specs.declared.lifted.Eff.TheOpen.{Eff-F}
use Rattle.kp_names_numbered.specs.declared.lifted.Eff.TheFolds.{fold-roll-Eff}
use Rattle.kp_names_numbered.specs.declared.lifted.Eff.TheVariants as eff_variants
use Rattle.kp_names.specs.View.{conds_of, effs_of, cond_view, cond_step, eff_view, eff_step}
use Rattle.kp_ground_semantics.specs.Static.{changes, some_change}
use Rattle.kp_ground_semantics.specs.Weights.{cond_size, conds_size, leaves_weight, all_leaves_weight}

pub cond_all : (cs : List conds.Cond) → cond_view (cond_variants.All cs) ≡ Cond.all (conds_of (map cond_view cs))
cond_all cs = ap cond_view (sym (cond_variants.rolls-All cs)) ∙ fold-roll-Cond Cond cond_step (Cond-F.All cs)

pub eff_all : (es : List effs.Eff) → eff_view (eff_variants.All es) ≡ Eff.both (effs_of (map eff_view es))
eff_all es = ap eff_view (sym (eff_variants.rolls-All es)) ∙ fold-roll-Eff Eff eff_step (Eff-F.All es)

pub eff_when : (c : conds.Cond) (body : Box effs.Eff Global) → eff_view (eff_variants.When c body) ≡ Eff.when (cond_view c) (eff_view body.value)
eff_when c body = ap eff_view (sym (eff_variants.rolls-When c body)) ∙ fold-roll-Eff Eff eff_step (Eff-F.When c body)

pub eff_each : (rs : List Range) (body : Box effs.Eff Global) → eff_view (eff_variants.Each rs body) ≡ Eff.each rs (eff_view body.value)
eff_each rs body = ap eff_view (sym (eff_variants.rolls-Each rs body)) ∙ fold-roll-Eff Eff eff_step (Eff-F.Each rs body)

-- ---- what is counted part by part

pub conds_sum : (cs : List conds.Cond) → conds_size (conds_of (map cond_view cs)) ≡ sum_by (λ c. cond_size (cond_view c)) cs
conds_sum [] = refl
conds_sum (c ∷ cs) = ap (λ n. cond_size (cond_view c) + n) (conds_sum cs) ∙ sym (sum_by-cons (λ (c : conds.Cond). cond_size (cond_view c)) c cs)

pub effs_sum : (leaf : ℕ) (es : List effs.Eff) → all_leaves_weight leaf (effs_of (map eff_view es)) ≡ sum_by (λ e. leaves_weight leaf (eff_view e)) es
effs_sum leaf [] = refl
effs_sum leaf (e ∷ es) = ap (λ n. leaves_weight leaf (eff_view e) + n) (effs_sum leaf es) ∙ sym (sum_by-cons (λ (e : effs.Eff). leaves_weight leaf (eff_view e)) e es)

pub effs_change : (q : ℕ) (es : List effs.Eff) → some_change q (effs_of (map eff_view es)) ≡ list_any (λ e. changes q (eff_view e)) es
effs_change q [] = refl
effs_change q (e ∷ es) = ap (λ b. changes q (eff_view e) || b) (effs_change q es)

-- an effect of several parts names what some part names
pub all_change : (q : ℕ) (items parts : List effs.Eff) (e : effs.Eff) → items ≡ parts → e ≡ eff_variants.All parts → list_any (λ i. changes q (eff_view i)) items ≡ changes q (eff_view e)
all_change q items parts e same is =
    sym (effs_change q items) ∙ (ap (λ es. some_change q (effs_of (map eff_view es))) same ∙ (sym (ap (changes q) (eff_all parts)) ∙ ap (λ i. changes q (eff_view i)) (sym is)))

pub all_size : (items parts : List conds.Cond) (c : conds.Cond) → items ≡ parts → c ≡ cond_variants.All parts → sum_by (λ i. cond_size (cond_view i)) items ≡ cond_size (cond_view c)
all_size items parts c same is =
    sym (conds_sum items) ∙ (ap (λ cs. conds_size (conds_of (map cond_view cs))) same ∙ (sym (ap cond_size (cond_all parts)) ∙ ap (λ i. cond_size (cond_view i)) (sym is)))
