-- Whatever the tokens, a form of files of merges stands there or is refused first at a token.
use Rattle.std.proofs.Common.{◌≡◌, ℕ, zero, suc, ◌≤◌, ◌<◌, ◌⊎◌, inl, inr, Bool, true, false, List, [], ◌∷◌, length, drop, Option, Some, None, refl, sym, arith, true≢false}
use Rattle.std.specs.List.{AllZip}
use Rattle.std.proofs.lemmas.Bool.{and_parts}
use Rattle.kp_base.specs.declared.lit.AtomId.{AtomId}
use Rattle.kp_base.specs.declared.lit.Lit.{Lit as Literal}
use Rattle.kp_base.specs.LitSet.{set_of}
use Rattle.kp_tree_grammar.specs.declared.tree.Word.{Word}
use Rattle.kp_tree_grammar.specs.Language.{Atom, Lit, Tok, first_is, is_left, is_right, is_merge, is_not, Sort, El, Form, hits, many, fact, lit, At, Reads, Stops, r_end, r_more, r_bracket, r_after, r_both}
use Rattle.kp_tree_grammar.proofs.Public.{form_reads_or_stops, reading_shrinks}
use Rattle.kp_tags_files.specs.Grammar.{tag, merge, merges, name_of_atom}
use Rattle.kp_tags_files.specs.Numbers.{Numbers, IsLit, IsTag, IsMerge}
use Rattle.kp_tags_files.specs.Parts.{is_denied, IsAtom, Walk, Halts}
use Rattle.kp_tags_files.proofs.Contexts.{halts_next, halts_later}
use Rattle.kp_tags_files.proofs.Lits.{fact_halts, fact_unknown, plain_reads, negated_reads, plain_halts, negated_halts, negated_unclosed, walk_lit}
use Rattle.kp_tags_files.proofs.Tagged.{tag_unopened, tag_halts, tag_unclosed, walk_tag, merge_unopened, merge_unled, target_halts, tags_halt, body_halts, merge_unclosed, walk_merge}

-- the form stands there, with a value
pub record Stands {Y : Type 0} {b : Bool} {c : Sort} (X : Form b c) (Is : El Word c → Y → Type 0) (ts : List (Tok Word)) : Type 0 where
  pub tree : El Word c
  pub value : Y
  pub rest : List (Tok Word)
  pub reads : Reads X ts tree rest
  pub is : Is tree value

-- it is refused first somewhere
pub record Fails (number : Numbers) (depth : ℕ → ℕ) {b : Bool} {c : Sort} (X : Form b c) (ts : List (Tok Word)) : Type 0 where
  pub here : List (Tok Word)
  pub halts : (n : ℕ) → Halts number (depth n) X ts here

abbrev pub Decided : {Y : Type 0} → Numbers → (ℕ → ℕ) → {b : Bool} {c : Sort} (X : Form b c) → (El Word c → Y → Type 0) → List (Tok Word) → Type 0
Decided number depth X Is ts = Stands X Is ts ⊎ Fails number depth X ts

module _ (number : Numbers) where
  -- ---- atoms

  by_number : (ts rest : List (Tok Word)) (a : Atom Word) → Reads fact ts a rest → (o : Option ℕ) → number (name_of_atom a) ≡ o → Decided number suc fact (IsAtom number) ts
  by_number ts rest a h None e = inr (record { here = drop 1 ts; halts = λ d. fact_unknown h e })
  by_number ts rest a h (Some n) e = inl (record { tree = a; value = record { 0 = n }; rest = rest; reads = h; is = e })

  by_reading : (ts : List (Tok Word)) → ((a : Atom Word) × (rest : List (Tok Word)) × Reads fact ts a rest) ⊎ ((at : At Word) × Stops fact ts at) → Decided number suc fact (IsAtom number) ts
  by_reading ts (inl h) = by_number ts h.1 h.0 h.2 (number (name_of_atom h.0)) refl
  by_reading ts (inr h) = inr (record { here = h.0.tokens; halts = λ d. fact_halts h.1 })

  fact_decided : (ts : List (Tok Word)) → Decided number suc fact (IsAtom number) ts
  fact_decided ts = by_reading ts (form_reads_or_stops _ _ fact ts)

  -- ---- literals

  plain_decided : (ts : List (Tok Word)) → is_denied ts ≡ false → Decided number suc fact (IsAtom number) ts → Decided number suc lit (IsLit number) ts
  plain_decided ts d (inl s) = inl (record { tree = record { positive = true; atom = s.tree }; value = record { atom = s.value; positive = true }; rest = s.rest; reads = plain_reads s.reads; is = record { atom = s.is; sign = refl } })
  plain_decided ts d (inr f) = inr (record { here = f.here; halts = λ n. plain_halts d (f.halts n) })

  module _ (t n : Tok Word) (ts : List (Tok Word)) (left : is_left t.symbol ≡ true) (negates : is_not n.symbol ≡ true) where
    closed_by : (a : Atom Word) (x : AtomId) (us : List (Tok Word)) → Reads fact ts a us → IsAtom number a x → (v : Bool) → first_is is_right us ≡ v → Decided number suc lit (IsLit number) (t ∷ n ∷ ts)
    closed_by a x us h is false e = inr (record { here = us; halts = λ d. negated_unclosed left negates h is e })
    closed_by a x [] h is true e = absurd (true≢false (sym e))
    closed_by a x (u ∷ us) h is true e = inl (record { tree = record { positive = false; atom = a }; value = record { atom = x; positive = false }; rest = us; reads = negated_reads left negates h e; is = record { atom = is; sign = refl } })

    negated_decided : Decided number suc fact (IsAtom number) ts → Decided number suc lit (IsLit number) (t ∷ n ∷ ts)
    negated_decided (inl s) = closed_by s.tree s.value s.rest s.reads s.is (first_is is_right s.rest) refl
    negated_decided (inr f) = inr (record { here = f.here; halts = λ d. negated_halts left negates (f.halts (suc d)) })

  by_sign : (ts : List (Tok Word)) (v : Bool) → is_denied ts ≡ v → Decided number suc lit (IsLit number) ts
  by_sign ts false e = plain_decided ts e (fact_decided ts)
  by_sign [] true e = absurd (true≢false (sym e))
  by_sign (t ∷ []) true e = absurd (true≢false (sym e))
  by_sign (t ∷ n ∷ ts) true e = let p = and_parts (is_left t.symbol) (is_not n.symbol) e in negated_decided t n ts p.0 p.1 (fact_decided ts)

  lit_decided : (ts : List (Tok Word)) → Decided number suc lit (IsLit number) ts
  lit_decided ts = by_sign ts (is_denied ts) refl

  -- ---- repetitions

  module _ {Y : Type 0} {c : Sort} (depth : ℕ → ℕ) (X : Form true c) (Is : El Word c → Y → Type 0) (one : (ts : List (Tok Word)) → Decided number depth X Is ts)
      (walk : (n : ℕ) (tree : El Word c) (y : Y) (ts rest : List (Tok Word)) → Is tree y → Reads X ts tree rest → Walk number (depth n) ts (depth n) rest) where
    abbrev ManyDecided : List (Tok Word) → Type 0
    ManyDecided ts = Decided number depth (many is_left X) (AllZip Is) ts

    with_one : (ts : List (Tok Word)) → first_is is_left ts ≡ true → (s : Stands X Is ts) → ManyDecided s.rest → ManyDecided ts
    with_one ts l s (inl more) = inl (record { tree = s.tree ∷ more.tree; value = s.value ∷ more.value; rest = more.rest; reads = r_more l s.reads more.reads; is = (s.is, more.is) })
    with_one ts l s (inr f) = inr (record { here = f.here; halts = λ n. halts_later l s.reads (walk n s.tree s.value ts s.rest s.is s.reads) (f.halts n) })

    abbrev ShorterDecided : List (Tok Word) → Type 0
    ShorterDecided ts = (us : List (Tok Word)) → length us < length ts → ManyDecided us

    by_first : (ts : List (Tok Word)) → ShorterDecided ts → first_is is_left ts ≡ true → Decided number depth X Is ts → ManyDecided ts
    by_first ts shorter l (inl s) = with_one ts l s (shorter s.rest (reading_shrinks s.reads))
    by_first ts shorter l (inr f) = inr (record { here = f.here; halts = λ n. halts_next l (f.halts n) })

    by_test : (ts : List (Tok Word)) → ShorterDecided ts → (v : Bool) → first_is is_left ts ≡ v → ManyDecided ts
    by_test ts shorter false e = inl (record { tree = []; value = []; rest = ts; reads = r_end e; is = tt })
    by_test ts shorter true e = by_first ts shorter e (one ts)

    many_decided : (size : ℕ) (ts : List (Tok Word)) → length ts ≤ size → ManyDecided ts
    many_decided zero [] h = inl (record { tree = []; value = []; rest = []; reads = r_end refl; is = tt })
    many_decided zero (t ∷ ts) h = absurd (omega (arith, h))
    many_decided (suc size) ts h = by_test ts (λ us less. many_decided size us (omega (arith, h, less))) (first_is is_left ts) refl

    pub all_decided : (ts : List (Tok Word)) → ManyDecided ts
    all_decided ts = many_decided (length ts) ts (omega arith)

  -- ---- tags

  module _ (t : Tok Word) (ts : List (Tok Word)) (left : is_left t.symbol ≡ true) where
    tag_closed : (ls : List (Lit Word)) (xs : List Literal) (us : List (Tok Word)) → Reads (many is_left lit) ts ls us → AllZip (IsLit number) ls xs → (v : Bool) → first_is is_right us ≡ v → Decided number suc tag (IsTag number) (t ∷ ts)
    tag_closed ls xs us h are false e = inr (record { here = us; halts = λ d. tag_unclosed xs left are h e })
    tag_closed ls xs [] h are true e = absurd (true≢false (sym e))
    tag_closed ls xs (u ∷ us) h are true e = inl (record { tree = ls; value = set_of xs; rest = us; reads = r_bracket left h e; is = record { lits = xs; are = are; set = refl } })

    tag_inside : Decided number suc (many is_left lit) (AllZip (IsLit number)) ts → Decided number suc tag (IsTag number) (t ∷ ts)
    tag_inside (inl s) = tag_closed s.tree s.value s.rest s.reads s.is (first_is is_right s.rest) refl
    tag_inside (inr f) = inr (record { here = f.here; halts = λ d. tag_halts left (f.halts (suc d)) })

  tag_by : (ts : List (Tok Word)) (v : Bool) → first_is is_left ts ≡ v → Decided number suc tag (IsTag number) ts
  tag_by ts false e = inr (record { here = ts; halts = λ d. tag_unopened e })
  tag_by [] true e = absurd (true≢false (sym e))
  tag_by (t ∷ ts) true e = tag_inside t ts e (all_decided suc lit (IsLit number) lit_decided (λ n tree y us rest is h. walk_lit y is h) ts)

  tags_decided : (ts : List (Tok Word)) → Decided number suc (many is_left tag) (AllZip (IsTag number)) ts
  tags_decided = all_decided suc tag (IsTag number) (λ ts. tag_by ts (first_is is_left ts) refl) (λ n tree y us rest is h. walk_tag y is h)

  -- ---- merges

  abbrev outside : ℕ → ℕ
  outside n = 0

  module _ (t m : Tok Word) (ts : List (Tok Word)) (left : is_left t.symbol ≡ true) (hit : hits is_merge m.symbol ≡ true) where
    module _ (s : Stands lit (IsLit number) ts) where
      merge_closed : (ls : List (List (Lit Word))) (xs : List (List Literal)) (us : List (Tok Word)) → Reads (many is_left tag) s.rest ls us → AllZip (IsTag number) ls xs → (v : Bool) → first_is is_right us ≡ v → Decided number outside merge (IsMerge number) (t ∷ m ∷ ts)
      merge_closed ls xs us h are false e = inr (record { here = us; halts = λ d. merge_unclosed left hit (record { target = s.value; tags = xs }) (record { target = s.is; tags = are }) (r_both s.reads h) e })
      merge_closed ls xs [] h are true e = absurd (true≢false (sym e))
      merge_closed ls xs (u ∷ us) h are true e = inl (record { tree = (s.tree, ls); value = record { target = s.value; tags = xs }; rest = us; reads = r_bracket left (r_after hit (r_both s.reads h)) e; is = record { target = s.is; tags = are } })

      merge_tags : Decided number suc (many is_left tag) (AllZip (IsTag number)) s.rest → Decided number outside merge (IsMerge number) (t ∷ m ∷ ts)
      merge_tags (inl g) = merge_closed g.tree g.value g.rest g.reads g.is (first_is is_right g.rest) refl
      merge_tags (inr f) = inr (record { here = f.here; halts = λ d. body_halts left hit (tags_halt s.value s.is s.reads (f.halts 0)) })

    merge_target : Decided number suc lit (IsLit number) ts → Decided number outside merge (IsMerge number) (t ∷ m ∷ ts)
    merge_target (inl s) = merge_tags s (tags_decided s.rest)
    merge_target (inr f) = inr (record { here = f.here; halts = λ d. body_halts left hit (target_halts (f.halts 0)) })

  merge_led : (t : Tok Word) (ts : List (Tok Word)) → is_left t.symbol ≡ true → (v : Bool) → first_is (hits is_merge) ts ≡ v → Decided number outside merge (IsMerge number) (t ∷ ts)
  merge_led t ts left false e = inr (record { here = ts; halts = λ d. merge_unled left e })
  merge_led t [] left true e = absurd (true≢false (sym e))
  merge_led t (m ∷ ts) left true e = merge_target t m ts left e (lit_decided ts)

  merge_by : (ts : List (Tok Word)) (v : Bool) → first_is is_left ts ≡ v → Decided number outside merge (IsMerge number) ts
  merge_by ts false e = inr (record { here = ts; halts = λ d. merge_unopened e })
  merge_by [] true e = absurd (true≢false (sym e))
  merge_by (t ∷ ts) true e = merge_led t ts e (first_is (hits is_merge) ts) refl

  pub merges_decided : (ts : List (Tok Word)) → Decided number outside merges (AllZip (IsMerge number)) ts
  merges_decided = all_decided outside merge (IsMerge number) (λ ts. merge_by ts (first_is is_left ts) refl) (λ n tree y us rest is h. walk_merge y is h)
