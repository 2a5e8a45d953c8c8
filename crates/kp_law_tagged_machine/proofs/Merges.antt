-- What is known before and after merges in turn.
use Rattle.std.proofs.Common.{◌≡◌, ℕ, Bool, true, false, ◌&&◌, if◌then◌else◌, List, [], ◌∷◌, Some, refl, sym, ◌∙◌, subst, inl, inr, nat_eq, eqb-true}
use Rattle.std.proofs.lemmas.Bool.{and_parts, or_cases, or_left, or_right, false≢true, false_from_ne_true}
use Rattle.std.specs.List.{list_any}
use Rattle.kp_base.specs.declared.lit.Lit.{Lit}
use Rattle.kp_base.specs.declared.ground.Merge.{Merge}
use Rattle.kp_base.specs.Lists.{Member}
use Rattle.kp_base.specs.Lit.{same_lit}
use Rattle.kp_base.specs.Machine.{Known, may_merge, after_merge}
use Rattle.kp_base.proofs.Lists.{all_weaker, all_member, any_member, any_from}
use Rattle.kp_base.proofs.Lits.{same_lit-true, same_lit-refl}
use Rattle.kp_law_tagged_machine.specs.Lifts.{adds, after_merges}

-- the second knows all that the first knows
abbrev pub Knows_more : Known → Known → Type 0
Knows_more k j = (t : ℕ) (l : Lit) → k t l ≡ true → j t l ≡ true

-- ---- one merge

pub may_merge_more : (m : Merge) (k j : Known) → Knows_more k j → may_merge (Some m) k ≡ true → may_merge (Some m) j ≡ true
may_merge_more m k j more h = all_weaker (λ t. k t m.target) (λ t. j t m.target) m.tags (λ t _. more t m.target) h

after_merge_more : (m : Merge) (k : Known) → Knows_more k (after_merge (Some m) k)
after_merge_more m k t l h = or_left (k t l) (nat_eq t 0 && same_lit m.target l) h

-- one merge keeps more knowledge more
pub after_merge_grows : (m : Merge) (k j : Known) → Knows_more k j → Knows_more (after_merge (Some m) k) (after_merge (Some m) j)
after_merge_grows m k j more t l h =
    elim (or_cases (k t l) (nat_eq t 0 && same_lit m.target l) h) [
      | inl e ↦ or_left (j t l) (nat_eq t 0 && same_lit m.target l) (more t l e)
      | inr e ↦ or_right (j t l) (nat_eq t 0 && same_lit m.target l) e
    ]

target_there : (m : Merge) (k : Known) → after_merge (Some m) k 0 m.target ≡ true
target_there m k = or_right (k 0 m.target) (nat_eq 0 0 && same_lit m.target m.target) (same_lit-refl m.target)

-- taken or not
one_more : (m : Merge) (k : Known) (b : Bool) → Knows_more k (if b then after_merge (Some m) k else k)
one_more m k true t l h = after_merge_more m k t l h
one_more m k false t l h = h

-- ---- some merges in turn

-- what is known after the first of them
abbrev after_one : Merge → Known → Known
after_one m k = if adds m k then after_merge (Some m) k else k

pub after_merges_more : (ms : List Merge) (k : Known) → Knows_more k (after_merges ms k)
after_merges_more [] k t l h = h
after_merges_more (m ∷ ms) k t l h = after_merges_more ms (after_one m k) t l (one_more m k (adds m k) t l h)

-- the target of a merge that is allowed before is known afterwards
pub merge_taken : (ms : List Merge) (k : Known) (m : Merge) → Member ms m → may_merge (Some m) k ≡ true → after_merges ms k 0 m.target ≡ true
merge_taken [] k m i h = absurd i
merge_taken (x ∷ ms) k m (inl e) h =
    after_merges_more ms (after_one x k) 0 m.target (subst (λ (y : Merge). after_one x k 0 y.target ≡ true) e (here (k 0 x.target) refl (subst (λ (y : Merge). may_merge (Some y) k ≡ true) (sym e) h)))
  where
    here : (b : Bool) → k 0 x.target ≡ b → may_merge (Some x) k ≡ true → after_one x k 0 x.target ≡ true
    here true is h = one_more x k (adds x k) 0 x.target is
    here false is h = rw (h, is) (target_there x k)
merge_taken (x ∷ ms) k m (inr r) h = merge_taken ms (after_one x k) m r (may_merge_more m k (after_one x k) (one_more x k (adds x k)) h)

-- merges make nothing known under other tags than tag 0
other_tags : (ms : List Merge) (k : Known) (t : ℕ) (l : Lit) → nat_eq t 0 ≡ false → after_merges ms k t l ≡ true → k t l ≡ true
other_tags [] k t l n h = h
other_tags (m ∷ ms) k t l n h = here (adds m k) (other_tags ms (after_one m k) t l n h)
  where
    here : (b : Bool) → (if b then after_merge (Some m) k else k) t l ≡ true → k t l ≡ true
    here true h = elim (or_cases (k t l) (nat_eq t 0 && same_lit m.target l) h) [
      | inl e ↦ e
      | inr e ↦ absurd (false≢true (sym n ∙ (and_parts (nat_eq t 0) (same_lit m.target l) e).0))
    ]
    here false h = h

-- the target of a merge that is allowed afterwards is known already
closed : (ms : List Merge) (k : Known) (m : Merge) → Member ms m → may_merge (Some m) (after_merges ms k) ≡ true → after_merges ms k 0 m.target ≡ true
closed ms k m i h = split (list_any (λ t. nat_eq t 0) m.tags) refl
  where
    split : (b : Bool) → list_any (λ t. nat_eq t 0) m.tags ≡ b → after_merges ms k 0 m.target ≡ true
    split true is =
        let z = any_member (λ t. nat_eq t 0) m.tags is in
        subst (λ t. after_merges ms k t m.target ≡ true) (eqb-true z.0 0 z.2) (all_member (λ t. after_merges ms k t m.target) m.tags z.0 z.1 h)
    split false is =
        merge_taken ms k m i (all_weaker (λ t. after_merges ms k t m.target) (λ t. k t m.target) m.tags (λ t in-tags. other_tags ms k t m.target (false_from_ne_true (nat_eq t 0) (λ e. false≢true (sym is ∙ any_from (λ t. nat_eq t 0) m.tags t in-tags e)))) h)

-- so one more merge adds nothing
pub merge_adds_nothing : (ms : List Merge) (k : Known) (m : Merge) → Member ms m → may_merge (Some m) (after_merges ms k) ≡ true → Knows_more (after_merge (Some m) (after_merges ms k)) (after_merges ms k)
merge_adds_nothing ms k m i may t l h =
    let now = after_merges ms k in
    elim (or_cases (now t l) (nat_eq t 0 && same_lit m.target l) h) [
      | inl e ↦ e
      | inr e ↦
          let both = and_parts (nat_eq t 0) (same_lit m.target l) e in
          subst (λ (x : Lit). now t x ≡ true) (same_lit-true m.target l both.1)
          (subst (λ u. now u m.target ≡ true) (sym (eqb-true t 0 both.0)) (closed ms k m i may))
    ]
