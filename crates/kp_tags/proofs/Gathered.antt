-- Tags as a set keeps them.
use Rattle.std.proofs.Common.{◌≡◌, Bool, true, false, if◌then◌else◌, List, [], ◌∷◌, ◌++◌, fold, map, sym, ap, subst, ◌∙◌, inl, inr}
use Rattle.std.specs.List.{list_any, flat_map}
use Rattle.kp_base.specs.declared.lit.Lit.{Lit}
use Rattle.kp_base.specs.Lists.{Member}
use Rattle.kp_base.specs.Lit.{same_lit}
use Rattle.kp_base.specs.LitSet.{IsAscending, set_of, same_set}
use Rattle.kp_base.proofs.Lists.{append_member, gathered}
use Rattle.kp_base.proofs.Lits.{contains_has, has_contains}
use Rattle.kp_base.proofs.Ascending.{same_members}
use Rattle.kp_base.proofs.Sets.{same_sets, any-set_of, set_ascends}
use Rattle.kp_base.proofs.Once.{once_by_one}
use Rattle.kp_tags_files.specs.declared.merge.FileMerge.{FileMerge}
use Rattle.kp_tags.specs.MergeTables.{used_tags}
use Rattle.kp_tags.specs.Kept.{AreSets, with_tag}

-- ---- sets

pub sets_with : (tags : List (List Lit)) (t : List Lit) → AreSets tags → IsAscending t → AreSets (with_tag tags t)
sets_with tags t sets s = by (list_any (same_set t) tags)
  where
    at_end : (u : List Lit) → Member (tags ++ t ∷ []) u → IsAscending u
    at_end u m = elim (append_member tags (t ∷ []) u m) [
      | inl h ↦ sets.each u h
      | inr h ↦ elim h [ inl e ↦ subst IsAscending e s | inr none ↦ absurd none ]
    ]

    by : (b : Bool) → AreSets (if b then tags else tags ++ t ∷ [])
    by true = sets
    by false = record { each = at_end }

-- ---- the keys of a set

module _ {K : Type 0} (seen : K → List Lit) (ks ls : List K) (k : K) (t : List Lit) (is : seen k ≡ t) (grown : ls ≡ (if list_any (λ x. same_set (seen k) (seen x)) ks then ks else ks ++ k ∷ [])) where
  -- with a key more, where it is new, they are the tags with its tag
  pub key_added : map seen ls ≡ with_tag (map seen ks) t
  key_added = ap (map seen) grown ∙ (gathered same_set seen ks k ∙ ap (with_tag (map seen ks)) is)

  pub sets_added : AreSets (map seen ks) → IsAscending t → AreSets (map seen ls)
  sets_added sets s = subst AreSets (sym key_added) (sets_with (map seen ks) t sets s)

-- ---- a set again

-- the set of an ascending list is that list
pub set_again : (ls : List Lit) → IsAscending ls → set_of ls ≡ ls
set_again ls s = same_members (set_of ls) ls (set_ascends ls) s
    (λ m h. has_contains ls m (sym (any-set_of (same_lit m) ls) ∙ contains_has (set_of ls) m h))
    (λ m h. has_contains (set_of ls) m (any-set_of (same_lit m) ls ∙ contains_has ls m h))

-- ---- all tags of merges

-- one by one they are those that are used
pub all_used : (ms : List FileMerge) → fold with_tag (with_tag [] []) (flat_map (λ m. m.tags) ms) ≡ used_tags ms
all_used ms = once_by_one same_set same_sets ([] ∷ flat_map (λ m. m.tags) ms)
