-- Tags and merges without a fault, one by one.
use Rattle.std.proofs.Common.{◌≡◌, ◌+◌, ℕ, Bool, not, List, [], ◌∷◌, Some, Err, take, slice_get, sym, subst, inl, inr}
use Rattle.std.specs.List.{flat_map}
use Rattle.kp_base.specs.declared.lit.Lit.{Lit}
use Rattle.kp_base.specs.declared.ground.Initial.{Initial}
use Rattle.kp_base.specs.declared.refused.Stop.{Stop}
use Rattle.kp_base.specs.declared.refused.Stop.TheVariants as stops
use Rattle.kp_base.specs.Lists.{Member, each_once}
use Rattle.kp_base.specs.Entailed.{IsConsistent, HasModel}
use Rattle.kp_base.proofs.Lists.{append_member, flat_member, filter_member}
use Rattle.kp_tags_files.specs.declared.merge.FileMerge.{FileMerge}
use Rattle.kp_base.specs.LitSet.{same_set}
use Rattle.kp_tags.specs.MergeTables.{used_tags}
use Rattle.kp_tags.specs.Answers.{AreConsistent, AreAcceptable, AreAllAcceptable, AnswersMerges, RefusesTable, AnswersTable}
use Rattle.kp_tags.proofs.Places.{take_next}

-- ---- one by one

pub next_consistent : (i : Initial) (tags : List (List Lit)) (k : ℕ) (t : List Lit) → slice_get tags k ≡ Some t → AreConsistent i (take k tags) → IsConsistent i t → AreConsistent i (take (k + 1) tags)
next_consistent i tags k t at before here = subst (AreConsistent i) (sym (take_next tags k t at)) (record {
  each = λ u m. elim (append_member (take k tags) (t ∷ []) u m) [
    | inl h ↦ before.each u h
    | inr h ↦ elim h [ inl e ↦ subst (IsConsistent i) e here | inr none ↦ absurd none ]
  ];
})

pub next_acceptable : (i : Initial) (ms : List FileMerge) (k : ℕ) (m : FileMerge) → slice_get ms k ≡ Some m → AreAllAcceptable i (take k ms) → AreAcceptable i m.tags → AreAllAcceptable i (take (k + 1) ms)
next_acceptable i ms k m at before here = subst (AreAllAcceptable i) (sym (take_next ms k m at)) (record {
  each = λ n in-n. elim (append_member (take k ms) (m ∷ []) n in-n) [
    | inl h ↦ before.each n h
    | inr h ↦ elim h [ inl e ↦ subst (λ (x : FileMerge). AreAcceptable i x.tags) e here | inr none ↦ absurd none ]
  ];
})

-- ---- the tags that are used

member_once : {X : Type 0} (same : X → X → Bool) (xs : List X) (x : X) → Member (each_once same xs) x → Member xs x
member_once same [] x m = m
member_once same (y ∷ ys) x m = elim m [
  | inl e ↦ inl e
  | inr r ↦ inr (member_once same ys x (filter_member (λ z. not (same y z)) (each_once same ys) x r).0)
]

-- where there is a model, the tags of merges without a fault are consistent, and the empty one is
pub used_consistent : (i : Initial) (ms : List FileMerge) → HasModel i → AreAllAcceptable i ms → AreConsistent i (used_tags ms)
used_consistent i ms model fine = record { each = each }
  where
    each : (t : List Lit) → Member (used_tags ms) t → IsConsistent i t
    each t m = elim (member_once same_set ([] ∷ flat_map (λ m. m.tags) ms) t m) [
      | inl e ↦ subst (IsConsistent i) e model
      | inr r ↦ let h = flat_member (λ (x : FileMerge). x.tags) ms t r in (fine.each h.0 h.1).consistent.each t h.2
    ]

-- ---- what stops

-- what stops the judging of merges stops the table
pub stops_table : (atoms : ℕ) (i : Initial) (ms : List FileMerge) (limit : ℕ) (stop : Stop) → AnswersMerges atoms i ms (Err stop) → AnswersTable atoms i ms limit (Err stop)
stops_table atoms i ms limit (stops.Refused r) fault = RefusesTable.at_fault r fault
stops_table atoms i ms limit stops.Memory fault = tt
