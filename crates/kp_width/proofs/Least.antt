-- Each target has a width: all relevant clauses together cover it, so some least number of them does.
use Rattle.std.proofs.Common.{◌≤◌, ◌⊎◌, ℕ, List, length, inl, inr, arith}
use Rattle.std.proofs.lemmas.Bool.{cases_lt}
use Rattle.kp_base.specs.declared.lit.Lit.{Lit}
use Rattle.kp_base.specs.declared.ground.Ground.{Ground}
use Rattle.kp_base.specs.declared.ground.Initial.{Initial}
use Rattle.kp_base.specs.Lists.{Member}
use Rattle.kp_base.specs.Covering.{AreTagsOfClauses, AllMeet}
use Rattle.kp_base.specs.Relevance.{AreClausesFor}
use Rattle.kp_base.proofs.Least.{IsLeastSo, least_number}
use Rattle.kp_cover_subsets.specs.Subsets.{subsets}
use Rattle.kp_cover_subsets.proofs.Public.{sublist_itself}
use Rattle.kp_cover.specs.Covering.{IsCover}
use Rattle.kp_cover.proofs.Public.{tags_of_clauses_meet_them}
use Rattle.kp_width.specs.Width.{HasWidth}
use Rattle.kp_width.specs.Laws.{HasSomeWidth, EveryTargetHasAWidth, TargetsOverAreWider}
use Rattle.kp_width.proofs.Places.{subset_length, of_some}
use Rattle.kp_width.proofs.Right.{it_is_there, there, covers_them, covers_target, more_than}
use Rattle.kp_width.proofs.Answered.{first_cover}

module _ (g : Ground) (i : Initial) (tags : (ds : List (List Lit)) → (ts : List (List Lit)) × AreTagsOfClauses i ds ts) (meeting : (ts ds : List (List Lit)) → AllMeet i ts ds ⊎ (AllMeet i ts ds → ⊥)) (target : Lit) (cs : List (List Lit)) (are : AreClausesFor g.actions (length g.atoms) i target cs) where
  -- some set of so many of the relevant clauses has tags that meet them all
  record HasCover (size : ℕ) : Type 0 where
    set : List (List Lit)
    its_tags : List (List Lit)
    among : Member (subsets size cs) set
    covers : IsCover i cs set its_tags

  -- of each size, some set does or none
  cover_or_none : (size : ℕ) → HasCover size ⊎ (HasCover size → ⊥)
  cover_or_none size = elim (first_cover i cs tags meeting (subsets size cs)) [
    | inl (set, ts, f) ↦ inl (record { set = set; its_tags = ts; among = it_is_there i cs (subsets size cs) set ts f; covers = f.covers })
    | inr none ↦ inr (λ c. none c.set c.its_tags c.among c.covers)
  ]

  -- all of them do
  all_cover : HasCover (length cs)
  all_cover = let ts = tags cs in record { set = cs; its_tags = ts.0; among = of_some cs cs (sublist_itself cs); covers = record { are = ts.1; cover = tags_of_clauses_meet_them i cs ts.0 ts.1 } }

  -- the least size at which some set does is the width
  is_width : (size : ℕ) → IsLeastSo HasCover size → HasWidth g i target size
  is_width size l = record {
    clauses = l.so.set;
    tags = l.so.its_tags;
    covers = covers_target g i target cs are size l.so.set l.so.its_tags l.so.among l.so.covers;
    as_many = subset_length size cs l.so.set l.so.among;
    least = λ others more h. elim (cases_lt (length others) size) [
      | inr le ↦ le
      | inl lt ↦ absurd (l.none_below (length others) lt (record { set = others; its_tags = more; among = there g i target cs are others more h; covers = covers_them g i target cs are others more h }))
    ];
  }

  -- so the target has one, and it is no greater than their number
  some_width : HasSomeWidth g i target
  some_width = by (least_number HasCover cover_or_none (length cs) all_cover)
    where
      by : (size : ℕ) × (size ≤ length cs) × IsLeastSo HasCover size → HasSomeWidth g i target
      by (size, le, l) = record { relevant = cs; are_relevant = are; width = size; has_width = is_width size l; at_most = le }

pub every_target : EveryTargetHasAWidth
every_target g i k target is = let q = k.clauses target ((k.are_targets.exact target).1 is) in some_width g i k.tags k.meeting target q.0 q.1

-- the width of a target without a cover within the bound is above the bound
pub over_wider : TargetsOverAreWider
over_wider limit bound g i target k o =
    let w = some_width g i k.tags k.meeting target o.relevant o.are_relevant in
    let more = more_than limit bound g i target w.has_width.clauses w.has_width.tags o w.has_width.covers in
    record { width = w.width; has_width = w.has_width; above = omega (arith, more, w.has_width.as_many) }
