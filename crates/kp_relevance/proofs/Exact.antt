-- What is marked in the end is what is relevant.
use Rattle.std.proofs.Common.{◌≡◌, ◌<◌, ◌↔◌, ◌||◌, ◌&&◌, ◌*◌, ◌+◌, ℕ, Bool, true, false, if◌then◌else◌, List, nat_eq, nat_lt, length, map, flat_map, ltb-true, lt-ltb, refl, sym, ap, ap₂, ◌∙◌, subst, inl, inr, arith, eqb-true, eq-eqb}
use Rattle.std.proofs.lemmas.Bool.{and_parts, and_from, or_cases, or_left, or_right}
use Rattle.std.proofs.lemmas.Bool.Decides.{nat_tests}
use Rattle.std.specs.List.{list_any, list_all, range_with_len}
use Rattle.kp_base.specs.declared.lit.Lit.{Lit}
use Rattle.kp_base.specs.declared.ground.Effect.{Effect}
use Rattle.kp_base.specs.declared.ground.Action.{Action}
use Rattle.kp_base.specs.Planning.{Member, code_of, negated, same_lit, are_below, effect_below, action_below, IsOfItsAtoms, IsRelevant, leads, joins, IsChained}
use Rattle.kp_base.specs.Lit.{has}
use Rattle.kp_base.proofs.Lists.{bool_same, any_weaker, any_member, any_from, all_member, member_map, member_flat_map, member_filter, filter_member, range_there}
use Rattle.kp_base.proofs.Lits.{same_lit-true, same_lit-refl, negated-negated, member-has, has-member}
use Rattle.kp_base.proofs.Ascending.{code_of-injective}
use Rattle.kp_base.specs.declared.ground.Ground.{Ground}
use Rattle.kp_relevance.specs.Relevant.{is_pair, ArePairsOf}
use Rattle.kp_relevance.specs.Tabled.{marked, AddsMarks, Linked, Closes, lit_of, at_both, at_pair, marks_of, marks_of_all, is_marked, literals_of, pairs_of}
use Rattle.kp_relevance.proofs.Chains.{joins_by, joins_relevant, to_chain}

-- ---- literals by their codes

code-lit : (k : ℕ) → code_of (lit_of k) ≡ k
code-lit k = grind (arith, nat_tests)

pub lit-code : (l : Lit) → lit_of (code_of l) ≡ l
lit-code l = code_of-injective (lit_of (code_of l)) l (code-lit (code_of l))

lit-at : (k : ℕ) (l : Lit) → nat_eq k (code_of l) ≡ true → lit_of k ≡ l
lit-at k l h = ap lit_of (eqb-true k (code_of l) h) ∙ lit-code l

at-lit : (k l : Lit) → k ≡ l → nat_eq (code_of k) (code_of l) ≡ true
at-lit k l e = eq-eqb (code_of k) (code_of l) (ap code_of e)

pub code_below : (n : ℕ) (l : Lit) → l.atom.0 < n → code_of l < 2 * n
code_below n l h = go l.positive
  where
    go : (b : Bool) → 2 * l.atom.0 + (if b then 0 else 1) < 2 * n
    go true = omega arith
    go false = omega arith

-- ---- pairs

literal_listed : (n : ℕ) (l : Lit) → l.atom.0 < n → Member (literals_of n) l
literal_listed n l h =
    let lt = code_below n l h in
    subst (Member (literals_of n)) (lit-code l) (member_map lit_of (range_with_len 0 (2 * n)) (code_of l) (range_there 0 (2 * n) (code_of l) (omega arith) (omega (arith, lt))))

-- what is marked is of the first n atoms
pub marked_below : (n : ℕ) (rows : List (List Bool)) (l m : Lit) → is_marked n rows l m ≡ true → (l.atom.0 < n) × (m.atom.0 < n) × (marked rows (code_of m) (code_of l) ≡ true)
marked_below n rows l m h =
    let x = and_parts (nat_lt l.atom.0 n) (nat_lt m.atom.0 n && marked rows (code_of m) (code_of l)) h in
    let y = and_parts (nat_lt m.atom.0 n) (marked rows (code_of m) (code_of l)) x.1 in
    (ltb-true l.atom.0 n x.0, ltb-true m.atom.0 n y.0, y.1)

below_marked : (n : ℕ) (rows : List (List Bool)) (l m : Lit) → l.atom.0 < n → m.atom.0 < n → marked rows (code_of m) (code_of l) ≡ true → is_marked n rows l m ≡ true
below_marked n rows l m hl hm h =
    and_from (nat_lt l.atom.0 n) (nat_lt m.atom.0 n && marked rows (code_of m) (code_of l)) (lt-ltb l.atom.0 n hl)
    (and_from (nat_lt m.atom.0 n) (marked rows (code_of m) (code_of l)) (lt-ltb m.atom.0 n hm) h)

-- the pairs are what is marked
pub is_pair_marked : (n : ℕ) (rows : List (List Bool)) (l m : Lit) → is_pair (pairs_of n rows) l m ≡ is_marked n rows l m
is_pair_marked n rows l m = bool_same (is_pair (pairs_of n rows) l m) (is_marked n rows l m) found kept
  where
    test : Lit × Lit → Bool
    test x = is_marked n rows x.0 x.1

    all : List (Lit × Lit)
    all = flat_map (λ l. map (λ m. (l, m)) (literals_of n)) (literals_of n)

    found : is_pair (pairs_of n rows) l m ≡ true → is_marked n rows l m ≡ true
    found h =
        let x = any_member (λ (x : Lit × Lit). same_lit x.0 l && same_lit x.1 m) (pairs_of n rows) h in
        let parts = and_parts (same_lit x.0.0 l) (same_lit x.0.1 m) x.2 in
        ap₂ (is_marked n rows) (sym (same_lit-true x.0.0 l parts.0)) (sym (same_lit-true x.0.1 m parts.1)) ∙ (filter_member test all x.0 x.1).1

    kept : is_marked n rows l m ≡ true → is_pair (pairs_of n rows) l m ≡ true
    kept h =
        let b = marked_below n rows l m h in
        any_from (λ (x : Lit × Lit). same_lit x.0 l && same_lit x.1 m) (pairs_of n rows) (l, m)
        (member_filter test all (l, m) (member_flat_map (λ l. map (λ m. (l, m)) (literals_of n)) (literals_of n) l (l, m) (literal_listed n l b.0) (member_map (λ m. (l, m)) (literals_of n) m (literal_listed n m b.1))) h)
        (and_from (same_lit l l) (same_lit m m) (same_lit-refl l) (same_lit-refl m))

-- ---- marks and joins

effect_marks_joins : (e : Effect) (j i : ℕ) → marks_of e j i ≡ true → (leads (lit_of i) (lit_of j) e || leads (negated (lit_of i)) (negated (lit_of j)) e) ≡ true
effect_marks_joins e j i h =
    let c = any_member (λ l. at_pair l e.result j i) e.cond h in
    let l = lit_of i in
    let m = lit_of j in
    elim (or_cases (at_both c.0 e.result j i) (at_both (negated c.0) (negated e.result) j i) c.2) [
      | inl q ↦
          let p = and_parts (nat_eq j (code_of e.result)) (nat_eq i (code_of c.0)) q in
          or_left (leads l m e) (leads (negated l) (negated m) e)
          (and_from (same_lit e.result m) (has e.cond l)
          (subst (λ x. same_lit e.result x ≡ true) (sym (lit-at j e.result p.0)) (same_lit-refl e.result))
          (has-member e.cond l (subst (Member e.cond) (sym (lit-at i c.0 p.1)) c.1)))
      | inr q ↦
          let p = and_parts (nat_eq j (code_of (negated e.result))) (nat_eq i (code_of (negated c.0))) q in
          or_right (leads l m e) (leads (negated l) (negated m) e)
          (and_from (same_lit e.result (negated m)) (has e.cond (negated l))
          (subst (λ x. same_lit e.result x ≡ true) (sym (ap negated (lit-at j (negated e.result) p.0) ∙ negated-negated e.result)) (same_lit-refl e.result))
          (has-member e.cond (negated l) (subst (Member e.cond) (sym (ap negated (lit-at i (negated c.0) p.1) ∙ negated-negated c.0)) c.1)))
    ]

marks_joins : (acts : List Action) (j i : ℕ) → marks_of_all acts j i ≡ true → joins acts (lit_of i) (lit_of j) ≡ true
marks_joins acts j i h =
    any_weaker (λ a. list_any (λ e. marks_of e j i) a.effects) (λ a. list_any (joins_by (lit_of i) (lit_of j)) a.effects) acts
    (λ a _. any_weaker (λ e. marks_of e j i) (λ e. leads (lit_of i) (lit_of j) e || leads (negated (lit_of i)) (negated (lit_of j)) e) a.effects (λ e _. effect_marks_joins e j i)) h

effect_joins_marks : (e : Effect) (l m : Lit) → (leads l m e || leads (negated l) (negated m) e) ≡ true → marks_of e (code_of m) (code_of l) ≡ true
effect_joins_marks e l m h = elim (or_cases (leads l m e) (leads (negated l) (negated m) e) h) [
  | inl q ↦
      let p = and_parts (same_lit e.result m) (has e.cond l) q in
      any_from (λ x. at_pair x e.result (code_of m) (code_of l)) e.cond l (member-has e.cond l p.1)
      (or_left (at_both l e.result (code_of m) (code_of l)) (at_both (negated l) (negated e.result) (code_of m) (code_of l))
      (and_from (nat_eq (code_of m) (code_of e.result)) (nat_eq (code_of l) (code_of l)) (at-lit m e.result (sym (same_lit-true e.result m p.0))) (at-lit l l refl)))
  | inr q ↦
      let p = and_parts (same_lit e.result (negated m)) (has e.cond (negated l)) q in
      any_from (λ x. at_pair x e.result (code_of m) (code_of l)) e.cond (negated l) (member-has e.cond (negated l) p.1)
      (or_right (at_both (negated l) e.result (code_of m) (code_of l)) (at_both (negated (negated l)) (negated e.result) (code_of m) (code_of l))
      (and_from (nat_eq (code_of m) (code_of (negated e.result))) (nat_eq (code_of l) (code_of (negated (negated l))))
      (at-lit m (negated e.result) (sym (ap negated (same_lit-true e.result (negated m) p.0) ∙ negated-negated m)))
      (at-lit l (negated (negated l)) (sym (negated-negated l)))))
]

joins_marks : (acts : List Action) (l m : Lit) → joins acts l m ≡ true → marks_of_all acts (code_of m) (code_of l) ≡ true
joins_marks acts l m h =
    any_weaker (λ a. list_any (joins_by l m) a.effects) (λ a. list_any (λ e. marks_of e (code_of m) (code_of l)) a.effects) acts
    (λ a _. any_weaker (λ e. leads l m e || leads (negated l) (negated m) e) (λ e. marks_of e (code_of m) (code_of l)) a.effects (λ e _. effect_joins_marks e l m)) h

-- what is joined is of the atoms
joins_below : (n : ℕ) (acts : List Action) (l m : Lit) → list_all (action_below n) acts ≡ true → joins acts l m ≡ true → (l.atom.0 < n) × (m.atom.0 < n)
joins_below n acts l m fine h =
    let a = any_member (λ a. list_any (joins_by l m) a.effects) acts h in
    let e = any_member (λ e. leads l m e || leads (negated l) (negated m) e) a.0.effects a.2 in
    let p = and_parts (are_below n a.0.pre) (list_all (effect_below n) a.0.effects) (all_member (action_below n) acts a.0 a.1 fine) in
    let g = and_parts (nat_lt e.0.result.atom.0 n) (are_below n e.0.cond) (all_member (effect_below n) a.0.effects e.0 e.1 p.1) in
    let in_cond : (x : Lit) → has e.0.cond x ≡ true → x.atom.0 < n = λ x k. ltb-true x.atom.0 n (all_member (λ y. nat_lt y.atom.0 n) e.0.cond x (member-has e.0.cond x k) g.1) in
    elim (or_cases (leads l m e.0) (leads (negated l) (negated m) e.0) e.2) [
      | inl q ↦ let p = and_parts (same_lit e.0.result m) (has e.0.cond l) q in (in_cond l p.1, subst (λ (x : Lit). x.atom.0 < n) (same_lit-true e.0.result m p.0) (ltb-true e.0.result.atom.0 n g.0))
      | inr q ↦ let p = and_parts (same_lit e.0.result (negated m)) (has e.0.cond (negated l)) q in (in_cond (negated l) p.1, subst (λ (x : Lit). x.atom.0 < n) (same_lit-true e.0.result (negated m) p.0) (ltb-true e.0.result.atom.0 n g.0))
    ]

-- ---- both ways

module _ (acts : List Action) (n : ℕ) (fine : list_all (action_below n) acts ≡ true) (filled rows : List (List Bool))
    (marks : (j i : ℕ) → j < 2 * n → i < 2 * n → marked filled j i ≡ (nat_eq j i || marks_of_all acts j i)) (closes : Closes (2 * n) (2 * n) filled rows) where
  sound : (j i : ℕ) → Linked (2 * n) (marked filled) j i → IsRelevant acts (lit_of i) (lit_of j)
  sound _ _ (Linked.link j i hj hi h) = elim (or_cases (nat_eq j i) (marks_of_all acts j i) (sym (marks j i hj hi) ∙ h)) [
    | inl e ↦ subst (λ (x : ℕ). IsRelevant acts (lit_of i) (lit_of x)) (sym (eqb-true j i e)) (IsRelevant.itself (lit_of i))
    | inr e ↦ joins_relevant acts (lit_of i) (lit_of j) (marks_joins acts j i e)
  ]
  sound _ _ (Linked.chain j k i p q) = IsRelevant.onward (lit_of i) (lit_of k) (lit_of j) (sound k i q) (sound j k p)

  whole : (l m : Lit) → IsChained acts l m → m.atom.0 < n → marked rows (code_of m) (code_of l) ≡ true
  whole _ _ (IsChained.alone l) hm =
      let lt = code_below n l hm in
      closes.kept (code_of l) (code_of l) lt lt (marks (code_of l) (code_of l) lt lt ∙ or_left (nat_eq (code_of l) (code_of l)) (marks_of_all acts (code_of l) (code_of l)) (at-lit l l refl))
  whole _ _ (IsChained.joined l k m j r) hm =
      let b = joins_below n acts l k fine j in
      let lt = code_below n l b.0 in
      let kt = code_below n k b.1 in
      let mt = code_below n m hm in
      closes.closed (code_of k) (code_of m) (code_of l) kt kt mt lt (whole k m r hm)
      (closes.kept (code_of k) (code_of l) kt lt (marks (code_of k) (code_of l) kt lt ∙ or_right (nat_eq (code_of k) (code_of l)) (marks_of_all acts (code_of k) (code_of l)) (joins_marks acts l k j)))

  -- what is marked is relevant
  marked_relevant : (l m : Lit) → l.atom.0 < n → m.atom.0 < n → marked rows (code_of m) (code_of l) ≡ true → IsRelevant acts l m
  marked_relevant l m hl hm h =
      subst (λ (x : Lit). IsRelevant acts x m) (lit-code l)
      (subst (λ (x : Lit). IsRelevant acts (lit_of (code_of l)) x) (lit-code m)
      (sound (code_of m) (code_of l) (closes.only (code_of m) (code_of l) (code_below n m hm) (code_below n l hl) h)))

  pub pairs_exact : (l m : Lit) → l.atom.0 < n → m.atom.0 < n → (is_pair (pairs_of n rows) l m ≡ true) ↔ IsRelevant acts l m
  pairs_exact l m hl hm = (
    λ h. marked_relevant l m hl hm (marked_below n rows l m (sym (is_pair_marked n rows l m) ∙ h)).2,
    λ r. is_pair_marked n rows l m ∙ below_marked n rows l m hl hm (whole l m (to_chain acts l m r) hm),
  )

-- the rows that are made are those of the ground problem's pairs
pub rows_tell : (g : Ground) (n a size : ℕ) (none none' own own' filled filled' rows rows' : List (List Bool)) → IsOfItsAtoms g → n ≡ length g.atoms → a ≡ n → size ≡ 2 * n
    → ((j i : ℕ) → marked none j i ≡ false) → none' ≡ none → AddsMarks size nat_eq none' own → own' ≡ own
    → (m : ℕ) → m ≡ size → AddsMarks m (marks_of_all g.actions) own' filled → filled' ≡ filled → Closes size size filled' rows → rows' ≡ rows
    → ArePairsOf g (pairs_of a rows')
rows_tell g n a size none none' own own' filled filled' rows rows' fine en ea es clear e1 adds1 e2 m em adds2 e3 closes e4 =
    subst (λ (xs : List (List Bool)). ArePairsOf g (pairs_of a xs)) (sym e4)
    (subst (λ (k : ℕ). ArePairsOf g (pairs_of k rows)) (sym ea)
    (record {
      of_atoms = λ l m h. let b = marked_below n rows l m (sym (is_pair_marked n rows l m) ∙ h) in (subst (λ (k : ℕ). l.atom.0 < k) en b.0, subst (λ (k : ℕ). m.atom.0 < k) en b.1);
      exact = λ l m hl hm. pairs_exact g.actions n below filled rows marks closed l m (subst (λ (k : ℕ). l.atom.0 < k) (sym en) hl) (subst (λ (k : ℕ). m.atom.0 < k) (sym en) hm);
    }))
  where
    acts : List Action
    acts = g.actions

    below : list_all (action_below n) g.actions ≡ true
    below = subst (λ (k : ℕ). list_all (action_below k) g.actions ≡ true) (sym en) fine.actions

    closed : Closes (2 * n) (2 * n) filled rows
    closed = subst (λ (k : ℕ). Closes k k filled rows) es (subst (λ (xs : List (List Bool)). Closes size size xs rows) e3 closes)

    marks : (j i : ℕ) → j < 2 * n → i < 2 * n → marked filled j i ≡ (nat_eq j i || marks_of_all acts j i)
    marks j i hj hi =
        let hj' : j < size = omega (arith, hj, es) in
        let hi' : i < size = omega (arith, hi, es) in
        adds2.each j i (omega (arith, hj', em)) (omega (arith, hi', em))
        ∙ ap (λ t. t || marks_of_all acts j i) (ap (λ xs. marked xs j i) e2 ∙ (adds1.each j i hj' hi' ∙ ap (λ t. t || nat_eq j i) (ap (λ xs. marked xs j i) e1 ∙ clear j i)))
