-- Whether targets are covered is decided by the closures of tags and by which merges are valid.
use Rattle.std.proofs.Common.{◌≡◌, ◌↔◌, ◌<◌, ◌++◌, ◌+◌, if◌then◌else◌, ℕ, Bool, IsTrue, true, false, List, [], ◌∷◌, Option, Some, length, take, drop, slice_get, get_or, nat_eq, nat_lt, eqb-true, refl, sym, ap, subst, ◌∙◌, inl, inr, arith}
use Rattle.std.proofs.lemmas.Bool.{false≢true, and_parts, ltb-true, lt-ltb}
use Rattle.std.proofs.lemmas.Option.{slice_get-get_or}
use Rattle.std.proofs.lemmas.List.{take-append-drop}
use Rattle.std.specs.List.{list_any, list_all}
use Rattle.kp_base.specs.declared.lit.Lit.{Lit}
use Rattle.kp_base.specs.declared.ground.Ground.{Ground}
use Rattle.kp_base.specs.declared.ground.Initial.{Initial}
use Rattle.kp_base.specs.declared.ground.TagRow.{TagRow}
use Rattle.kp_base.specs.declared.ground.TagTable.{TagTable}
use Rattle.kp_base.specs.declared.ground.Merge.{Merge}
use Rattle.kp_base.specs.Planning.{Member, code_of, same_lit, IsAscending, IsClosure, IsValid, are_below, effect_below, action_below, IsOfItsAtoms, either_value, IsCandidate, IsClauseFor, AreClausesFor, Meets, Covers, IsTarget, lits_of, tags_of, IsCovered}
use Rattle.kp_base.specs.Lit.{has}
use Rattle.kp_base.proofs.Lists.{all_member, all_from, any_member, any_from, member_at, member_map, map_member, append_member, member_left, member_right}
use Rattle.kp_base.proofs.Lits.{same_lit-true, same_lit-refl}
use Rattle.kp_primes.specs.Held.{Held, formula, AreWhole}
use Rattle.kp_relevance.specs.Candidates.{AnswersClausesFor}
use Rattle.kp_cover.specs.Covered.{row_meets, all_rows_meet, CoversBy, HasCover, HasNone, IsAsked, TellsCovered, AreLeft, LeavesUncovered, AddsUncovered}
use Rattle.kp_cover.specs.Targets.{AreTargets}
use Rattle.kp_cover.proofs.Testing.{take_next}
use Rattle.kp_cover.specs.declared.answer.Coverage.{Coverage}
use Rattle.kp_cover.specs.Coverage.{AnswersCoverage}

-- ---- the literals of candidate clauses

pub own_atom : (p : ℕ) (l : Lit) → Member (either_value p) l → l.atom.0 ≡ p
own_atom p l m = elim m [
  | inl e ↦ sym (ap (λ (x : Lit). x.atom.0) e)
  | inr r ↦ elim r [ inl e ↦ sym (ap (λ (x : Lit). x.atom.0) e) | inr none ↦ absurd none ]
]

pub candidate_below : (h : Held) → AreWhole h → (c : List Lit) → IsCandidate h.atoms (formula h) c → (l : Lit) → Member c l → l.atom.0 < h.atoms
candidate_below h whole _ (IsCandidate.implicate c prime more) l m = ltb-true l.atom.0 h.atoms (all_member (λ (x : Lit). nat_lt x.atom.0 h.atoms) c l m (all_member (are_below h.atoms) h.clauses c ((whole.primes.primes.exact c).1 prime) whole.of_atoms.clauses))
candidate_below h whole _ (IsCandidate.unsettled p lt differ) l m = let e = own_atom p l m in omega (arith, lt, e)

-- ---- one target

module _ (g : Ground) (pairs : List (Lit × Lit)) (h : Held) (table : TagTable) (whole : AreWhole h) (asked : IsAsked g pairs h table) (target : Lit) (cs : List (List Lit)) (are : AreClausesFor g.actions h.atoms (formula h) target cs) where
  clause : (c : List Lit) → IsClauseFor g.actions (length g.atoms) (formula h) target c → Member cs c
  clause c f = (are.exact c).1 (subst (λ n. IsClauseFor g.actions n (formula h) target c) asked.atoms f)

  clause_of : (c : List Lit) → Member cs c → IsClauseFor g.actions (length g.atoms) (formula h) target c
  clause_of c m = subst (λ n. IsClauseFor g.actions n (formula h) target c) (sym asked.atoms) ((are.exact c).0 m)

  -- a closure has a literal of each clause where its tag meets each
  module _ (row : TagRow) (there : Member table.tags row) where
    closed : IsClosure (length g.atoms) (formula h) row.lits row.closure
    closed = asked.right.closures row there

    row_met : row_meets cs (Some row) ≡ true → (c : List Lit) → Member cs c → Meets (formula h) row.lits c
    row_met e c m =
        let l = any_member (has row.closure) c (all_member (list_any (has row.closure)) cs c m e) in
        record { lit = l.0; of_clause = l.1; entailed = closed.entailed l.0 l.2 }

    met_row : ((c : List Lit) → Member cs c → Meets (formula h) row.lits c) → row_meets cs (Some row) ≡ true
    met_row f = all_from (list_any (has row.closure)) cs (λ c m.
        let q = f c m in
        let below = candidate_below h whole c ((are.exact c).0 m).candidate q.lit q.of_clause in
        let same = asked.atoms in
        any_from (has row.closure) c q.lit q.of_clause (closed.whole q.lit (omega (arith, below, same)) q.entailed))

  -- the same by number
  number_met : (t : ℕ) (row : TagRow) → slice_get table.tags t ≡ Some row → row_meets cs (slice_get table.tags t) ≡ true → (c : List Lit) → Member cs c → Meets (formula h) (lits_of (slice_get table.tags t)) c
  number_met t row is e c m = subst (λ (o : Option TagRow). Meets (formula h) (lits_of o) c) (sym is) (row_met row (member_at table.tags t row is) (sym (ap (row_meets cs) is) ∙ e) c m)

  met_number : (t : ℕ) (row : TagRow) → slice_get table.tags t ≡ Some row → ((c : List Lit) → Member cs c → Meets (formula h) (lits_of (slice_get table.tags t)) c) → row_meets cs (slice_get table.tags t) ≡ true
  met_number t row is f = ap (row_meets cs) is ∙ met_row row (member_at table.tags t row is) (λ c m. subst (λ (o : Option TagRow). Meets (formula h) (lits_of o) c) is (f c m))

  -- ---- a merge

  module _ (m : Merge) (m_in : Member table.merges m) where
    row_of : (t : ℕ) → Member m.tags t → (row : TagRow) × (slice_get table.tags t ≡ Some row)
    row_of t at = let r = asked.right.first.0 in (get_or table.tags t r, slice_get-get_or table.tags t r (asked.right.tags m t m_in at))

    merge_covers : all_rows_meet table cs m.tags ≡ true → Covers g (formula h) (tags_of table m) target
    merge_covers e tag c at f =
        let t = map_member (λ t. lits_of (slice_get table.tags t)) m.tags tag at in
        let row = row_of t.0 t.1 in
        subst (λ (ls : List Lit). Meets (formula h) ls c) t.2 (number_met t.0 row.0 row.1 (all_member (λ t. row_meets cs (slice_get table.tags t)) m.tags t.0 t.1 e) c (clause c f))

    covers_merge : Covers g (formula h) (tags_of table m) target → all_rows_meet table cs m.tags ≡ true
    covers_merge f = all_from (λ t. row_meets cs (slice_get table.tags t)) m.tags (λ t at.
        let row = row_of t at in
        met_number t row.0 row.1 (λ c k. f (lits_of (slice_get table.tags t)) c (member_map (λ t. lits_of (slice_get table.tags t)) m.tags t at) (clause_of c k)))

  -- ---- the empty tag

  first_empty : lits_of (slice_get table.tags 0) ≡ []
  first_empty = ap lits_of asked.right.first.1 ∙ asked.right.first.2

  pub empty_covers : row_meets cs (slice_get table.tags 0) ≡ true → Covers g (formula h) ([] ∷ []) target
  empty_covers e tag c at f = elim at [
    | inl is ↦ subst (λ (ls : List Lit). Meets (formula h) ls c) (first_empty ∙ is) (number_met 0 asked.right.first.0 asked.right.first.1 e c (clause c f))
    | inr none ↦ absurd none
  ]

  pub covers_empty : Covers g (formula h) ([] ∷ []) target → row_meets cs (slice_get table.tags 0) ≡ true
  covers_empty f = met_number 0 asked.right.first.0 asked.right.first.1 (λ c k. subst (λ (ls : List Lit). Meets (formula h) ls c) (sym first_empty) (f [] c (inl refl) (clause_of c k)))

  -- ---- covered

  cover_merge : HasCover (formula h) table cs target table.merges → IsCovered g (formula h) table target
  cover_merge q = IsCovered.by_merge q.merge q.merge_in q.covers.same q.covers.valid (merge_covers q.merge q.merge_in q.covers.meets)

  covered_merge : row_meets cs (slice_get table.tags 0) ≡ false → IsCovered g (formula h) table target → HasCover (formula h) table cs target table.merges
  covered_merge off (IsCovered.by_empty_tag f) = absurd (false≢true (sym off ∙ covers_empty f))
  covered_merge off (IsCovered.by_merge m m_in same valid f) = record { merge = m; merge_in = m_in; covers = record { same = same; meets = covers_merge m m_in f; valid = valid } }

  pub tells_empty : row_meets cs (slice_get table.tags 0) ≡ true → IsTrue true ↔ IsCovered g (formula h) table target
  tells_empty e = (λ t. IsCovered.by_empty_tag (empty_covers e), λ q. refl)

  pub tells_merge : row_meets cs (slice_get table.tags 0) ≡ false → (b : Bool) → IsTrue b ↔ HasCover (formula h) table cs target table.merges → IsTrue b ↔ IsCovered g (formula h) table target
  tells_merge off b told = (λ t. cover_merge (told.0 t), λ q. told.1 (covered_merge off q))

module _ (pairs : List (Lit × Lit)) (h : Held) (table : TagTable) (whole : AreWhole h) (target : Lit) (cs : List (List Lit)) (answers : AnswersClausesFor pairs h target cs) where
  clauses_for : (g : Ground) → IsAsked g pairs h table → AreClausesFor g.actions h.atoms (formula h) target cs
  clauses_for g asked = answers g asked.of_ground asked.atoms

  pub covered_by_empty : (b : Bool) → b ≡ row_meets cs (slice_get table.tags 0) → b ≡ true → TellsCovered pairs h table target true
  covered_by_empty b is e = λ g asked. tells_empty g pairs h table whole asked target cs (clauses_for g asked) (sym is ∙ e)

  pub covered_by_merge : (b : Bool) → b ≡ row_meets cs (slice_get table.tags 0) → b ≡ false → (d : Bool) → IsTrue d ↔ HasCover (formula h) table cs target table.merges → TellsCovered pairs h table target d
  covered_by_merge b is e d told = λ g asked. tells_merge g pairs h table whole asked target cs (clauses_for g asked) (sym is ∙ e) d told

-- ---- merges one by one

module _ (i : Initial) (table : TagTable) (cs : List (List Lit)) (target : Lit) where
  pub none_yet : HasNone i table cs target []
  none_yet = record { none = λ m at. absurd at }

  pub none_next : (ms next : List Merge) (m : Merge) → next ≡ ms ++ m ∷ [] → HasNone i table cs target ms → IsTrue false ↔ CoversBy i table cs target m → HasNone i table cs target next
  none_next ms next m is so_far told = record {
    none = λ n at c. elim (append_member ms (m ∷ []) n (subst (λ (xs : List Merge). Member xs n) is at)) [
      | inl before ↦ so_far.none n before c
      | inr here ↦ elim here [ inl e ↦ false≢true (told.1 (subst (CoversBy i table cs target) (sym e) c)) | inr none ↦ absurd none ]
    ];
  }

  pub one_covers : (ms : List Merge) (m : Merge) → Member ms m → IsTrue true ↔ CoversBy i table cs target m → IsTrue true ↔ HasCover i table cs target ms
  one_covers ms m at told = (λ t. record { merge = m; merge_in = at; covers = told.0 refl }, λ q. refl)

  pub none_covers : (ms : List Merge) → HasNone i table cs target ms → IsTrue false ↔ HasCover i table cs target ms
  none_covers ms none = (λ t. absurd (false≢true t), λ q. absurd (none.none q.merge q.merge_in q.covers))

  pub of_another : (m : Merge) → same_lit m.target target ≡ false → IsTrue false ↔ CoversBy i table cs target m
  of_another m off = (λ t. absurd (false≢true t), λ c. absurd (false≢true (sym off ∙ (ap (λ (l : Lit). same_lit l target) c.same ∙ same_lit-refl target))))

  pub meets_not : (m : Merge) → all_rows_meet table cs m.tags ≡ false → IsTrue false ↔ CoversBy i table cs target m
  meets_not m off = (λ t. absurd (false≢true t), λ c. absurd (false≢true (sym off ∙ c.meets)))

  pub by_validity : (m : Merge) → same_lit m.target target ≡ true → all_rows_meet table cs m.tags ≡ true → (b : Bool) → IsTrue b ↔ IsValid i table m → IsTrue b ↔ CoversBy i table cs target m
  by_validity m same meets b told = (
    λ t. record { same = same_lit-true m.target target same; meets = meets; valid = told.0 t },
    λ c. told.1 c.valid,
  )

-- ---- ascending lists

pub left_ascends : (xs ys : List Lit) → IsAscending (xs ++ ys) → IsAscending xs
left_ascends [] ys s = tt
left_ascends (x ∷ []) ys s = tt
left_ascends (x ∷ z ∷ xs) ys s = (s.0, left_ascends (z ∷ xs) ys s.1)

before_last : (xs : List Lit) (l : Lit) → IsAscending (xs ++ l ∷ []) → (x : Lit) → Member xs x → code_of x < code_of l
before_last [] l s x m = absurd m
before_last (y ∷ []) l s x m = elim m [ inl e ↦ subst (λ (z : Lit). code_of z < code_of l) e s.0 | inr none ↦ absurd none ]
before_last (y ∷ z ∷ xs) l s x m = elim m [
  | inl e ↦ let next = before_last (z ∷ xs) l s.1 z (inl refl) in let lt = s.0 in let same = ap code_of e in omega (arith, next, lt, same)
  | inr r ↦ before_last (z ∷ xs) l s.1 x r
]

ascends_on : (xs : List Lit) (l : Lit) → IsAscending xs → ((x : Lit) → Member xs x → code_of x < code_of l) → IsAscending (xs ++ l ∷ [])
ascends_on [] l s f = tt
ascends_on (x ∷ []) l s f = (f x (inl refl), tt)
ascends_on (x ∷ y ∷ xs) l s f = (s.0, ascends_on (y ∷ xs) l s.1 (λ z m. f z (inr m)))

-- ---- targets one by one

pub none_left : (covered : Lit → Type 0) → AreLeft covered [] []
none_left covered = record { kept = λ l m. absurd m; each = λ l m. absurd m; ascending = tt }

module _ (covered : Lit → Type 0) (seen left : List Lit) (l : Lit) (so_far : AreLeft covered seen left) where
  left_same : covered l → AreLeft covered (seen ++ l ∷ []) left
  left_same yes_covered = record {
    kept = λ x m. let k = so_far.kept x m in (member_left seen (l ∷ []) x k.0, k.1);
    each = λ x m. elim (append_member seen (l ∷ []) x m) [
      | inl before ↦ so_far.each x before
      | inr here ↦ elim here [ inl e ↦ inr (subst covered e yes_covered) | inr none ↦ absurd none ]
    ];
    ascending = so_far.ascending;
  }

  left_more : IsAscending (seen ++ l ∷ []) → (covered l → ⊥) → AreLeft covered (seen ++ l ∷ []) (left ++ l ∷ [])
  left_more s off = record {
    kept = λ x m. elim (append_member left (l ∷ []) x m) [
      | inl before ↦ let k = so_far.kept x before in (member_left seen (l ∷ []) x k.0, k.1)
      | inr here ↦ (member_right seen (l ∷ []) x here, elim here [ inl e ↦ subst (λ (z : Lit). covered z → ⊥) e off | inr none ↦ absurd none ])
    ];
    each = λ x m. elim (append_member seen (l ∷ []) x m) [
      | inl before ↦ elim (so_far.each x before) [ inl k ↦ inl (member_left left (l ∷ []) x k) | inr c ↦ inr c ]
      | inr here ↦ inl (member_right left (l ∷ []) x here)
    ];
    ascending = ascends_on left l so_far.ascending (λ x m. before_last seen l s x (so_far.kept x m).0);
  }

module _ (pairs : List (Lit × Lit)) (h : Held) (table : TagTable) where
  pub leaves_none : LeavesUncovered pairs h table [] []
  leaves_none = λ g asked. none_left (IsCovered g (formula h) table)

  leaves_by : (seen left more : List Lit) (l : Lit) → IsAscending (seen ++ l ∷ []) → (b : Bool) → TellsCovered pairs h table l b → more ≡ (if b then left else left ++ l ∷ []) → LeavesUncovered pairs h table seen left → LeavesUncovered pairs h table (seen ++ l ∷ []) more
  leaves_by seen left more l s true told are so_far = λ g asked. subst (AreLeft (IsCovered g (formula h) table) (seen ++ l ∷ [])) (sym are) (left_same (IsCovered g (formula h) table) seen left l (so_far g asked) ((told g asked).0 refl))
  leaves_by seen left more l s false told are so_far = λ g asked. subst (AreLeft (IsCovered g (formula h) table) (seen ++ l ∷ [])) (sym are) (left_more (IsCovered g (formula h) table) seen left l (so_far g asked) s (λ c. false≢true ((told g asked).1 c)))

  -- one target more
  pub leaves_next : (all left more : List Lit) (k : ℕ) (d : Lit) → IsAscending all → k < length all → AddsUncovered pairs h table (get_or all k d) left more → LeavesUncovered pairs h table (take k all) left → LeavesUncovered pairs h table (take (k + 1) all) more
  leaves_next all left more k d s lt adds so_far =
      let l = get_or all k d in
      let taken : take (k + 1) all ≡ take k all ++ l ∷ [] = take_next all k d lt in
      let rises : IsAscending (take k all ++ l ∷ []) = subst IsAscending taken (left_ascends (take (k + 1) all) (drop (k + 1) all) (subst IsAscending (sym (take-append-drop (k + 1) all)) s)) in
      subst (λ (xs : List Lit). LeavesUncovered pairs h table xs more) (sym taken) (leaves_by (take k all) left more l rises adds.covered adds.tells adds.are so_far)

-- ---- all targets

pub target_below : (g : Ground) → IsOfItsAtoms g → (l : Lit) → IsTarget g l → l.atom.0 < length g.atoms
target_below g of l (IsTarget.of_precondition a m p) = ltb-true l.atom.0 (length g.atoms) (all_member (λ (x : Lit). nat_lt x.atom.0 (length g.atoms)) a.pre l p (and_parts (are_below (length g.atoms) a.pre) (list_all (effect_below (length g.atoms)) a.effects) (all_member (action_below (length g.atoms)) g.actions a m of.actions)).0)
target_below g of l (IsTarget.of_goal m) = ltb-true l.atom.0 (length g.atoms) (all_member (λ (x : Lit). nat_lt x.atom.0 (length g.atoms)) g.goal l m of.goal)

pub targets_below : (g : Ground) (n : ℕ) (ls : List Lit) → IsOfItsAtoms g → length g.atoms ≡ n → AreTargets g ls → are_below n ls ≡ true
targets_below g n ls of many are = all_from (λ (x : Lit). nat_lt x.atom.0 n) ls (λ l m. let below = target_below g of l ((are.exact l).0 m) in lt-ltb l.atom.0 n (omega (arith, below, many)))

pub no_member : (ls : List Lit) → ((l : Lit) → Member ls l → ⊥) → ls ≡ []
no_member [] f = refl
no_member (l ∷ ls) f = absurd (f l (inl refl))

none_length : (ls : List Lit) → nat_eq (length ls) 0 ≡ true ↔ (ls ≡ [])
none_length [] = (λ e. refl, λ e. refl)
none_length (l ∷ ls) = (λ e. let z : length (l ∷ ls) ≡ 0 = eqb-true (length (l ∷ ls)) 0 e in absurd (omega (arith, z)), λ e. absurd (cc e))

pub covered_all : (g : Ground) (pairs : List (Lit × Lit)) (h : Held) (table : TagTable) (ts left : List Lit) (c : Coverage) → IsAsked g pairs h table → AreTargets g ts → LeavesUncovered pairs h table ts left
    → c.uncovered ≡ left → c.complete ≡ nat_eq (length left) 0 → AnswersCoverage g (formula h) table c
covered_all g pairs h table ts left c asked are leaves its told = record {
  uncovered = record {
    exact = λ l. (
      λ m. let k = is_left.kept l (subst (λ (xs : List Lit). Member xs l) its m) in ((are.exact l).0 k.0, k.1),
      λ q. subst (λ (xs : List Lit). Member xs l) (sym its) (elim (is_left.each l ((are.exact l).1 q.0)) [ inl k ↦ k | inr covered ↦ absurd (q.1 covered) ]),
    );
    ascending = subst IsAscending (sym its) is_left.ascending;
  };
  complete = (
    λ e. record { each = λ l t. elim (is_left.each l ((are.exact l).1 t)) [ inl k ↦ absurd (none_in ((none_length left).0 (sym told ∙ e)) l k) | inr covered ↦ covered ] },
    λ q. told ∙ (none_length left).1 (no_member left (λ l m. let k = is_left.kept l m in k.1 (q.each l ((are.exact l).0 k.0)))),
  );
  none = (
    λ e. its ∙ (none_length left).0 (sym told ∙ e),
    λ e. told ∙ (none_length left).1 (sym its ∙ e),
  );
}
  where
    is_left : AreLeft (IsCovered g (formula h) table) ts left
    is_left = leaves g asked

    none_in : left ≡ [] → (l : Lit) → Member left l → ⊥
    none_in e l m = subst (λ (xs : List Lit). Member xs l) e m
