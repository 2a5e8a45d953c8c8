-- Merges of a file and steps of a plan file: their literals are of the ground atoms, and there are no more of them than bytes.
use Rattle.std.proofs.Common.{◌≡◌, ◌<◌, ◌≤◌, ◌+◌, ℕ, Bool, true, false, cond, List, [], ◌∷◌, Some, length, refl, sym, ap, subst, ◌∙◌, arith}
use Rattle.std.specs.List.{list_all, AllZip, AllByRecursion, position_from}
use Rattle.std.proofs.lemmas.Bool.{and_from, lt-ltb}
use Rattle.std.proofs.lemmas.List.{length-map}
use Rattle.std.proofs.lemmas.Slice.Zip.{AllZip-long}
use Rattle.kp_base.specs.declared.ground.GroundName.{GroundName}
use Rattle.kp_base.specs.declared.lit.Lit.{Lit as Literal}
use Rattle.kp_base.specs.Implicates.{are_below}
use Rattle.kp_base.proofs.Sets.{all-set_of}
use Rattle.kp_lex.proofs.Public.{no_more_tokens_than_bytes}
use Rattle.kp_tree_grammar.specs.declared.symbol.Symbol.{Symbol}
use Rattle.kp_tree_grammar.specs.declared.tree.Word.{Word}
use Rattle.kp_tree_grammar.specs.Language.{Lit, Tok, seen_in, all_seen_in, Sort, s_list, El, Form, many, ReadBy, r_end, r_more, ReadsAs}
use Rattle.kp_tree_grammar.proofs.Public.{reading_shrinks}
use Rattle.kp_names_semantics.specs.GroundNames.{same_name}
use Rattle.kp_tags_files.specs.declared.merge.FileMerge.{FileMerge}
use Rattle.kp_tags_files.specs.Grammar.{MergeTree}
use Rattle.kp_tags_files.specs.Numbers.{IsLit, IsTag, IsMerge}
use Rattle.kp_tags_files.specs.MergesFiles.{IsMergesOf}
use Rattle.kp_plans.specs.declared.step.PlanStep.{PlanStep}
use Rattle.kp_plans.specs.Names.{number_of}
use Rattle.kp_plans.specs.PlanFiles.{step_of, IsPlanFile}
use Rattle.kp_tags.specs.MergeTables.{has_tags_of_atoms}
use Rattle.kp_write.specs.Grounds.{IsOfAtom}

-- ---- parts of a repetition are as many as its tokens, at most

parts_few : {W : Type 0} {a : Sort} {p : Symbol → Bool} {X : Form true a} (ts rest : List (Tok W)) (xs : List (El W a)) → ReadBy false (s_list a) (many p X) ts xs rest → length xs + length rest ≤ length ts
parts_few ts _ _ (r_end e) = omega arith
parts_few ts rest _ (r_more {mid = mid} {xs = xs} e h k) = let one : length mid < length ts = reading_shrinks h in let others = parts_few mid rest xs k in omega (arith, one, others)

pub parts_in_text : {a : Sort} (p : Symbol → Bool) (X : Form true a) (text : List ℕ) (xs : List (El Word a)) → ReadsAs (many p X) text xs → length xs ≤ length text
parts_in_text p X text xs h =
    let tokens = no_more_tokens_than_bytes h.tokens h.cut in
    let seen = length-map h.tokens (seen_in text) in
    let parts = parts_few (all_seen_in text h.tokens) [] xs h.reads in
    omega (arith, tokens, seen, parts)

pub few_steps : (text : List ℕ) (steps : List PlanStep) → IsPlanFile text steps → length steps ≤ length text
few_steps text steps h =
    let same = ap length (sym h.are) ∙ length-map h.tree (step_of text) in
    let few = parts_in_text _ _ text h.tree h.reads in
    omega (arith, same, few)

pub few_merges : (atoms : List GroundName) (text : List ℕ) (ms : List FileMerge) → IsMergesOf atoms text ms → length ms ≤ length text
few_merges atoms text ms h =
    let same = AllZip-long (IsMerge (number_of atoms)) h.tree ms h.are in
    let few = parts_in_text _ _ text h.tree h.reads in
    omega (arith, same, few)

-- ---- numbers of names are below how many there are

number_within : (test : GroundName → Bool) (i k : ℕ) (names : List GroundName) → position_from test i names ≡ Some k → k < i + length names
number_within test i k [] e = absurd cc
number_within test i k (n ∷ names) e = by (number_within test (i + 1) k names) (test n) e
  where
    by : (position_from test (i + 1) names ≡ Some k → k < i + 1 + length names) → (b : Bool) → cond b (Some i) (position_from test (i + 1) names) ≡ Some k → k < i + length (n ∷ names)
    by later true f = let same : i ≡ k = cc in omega (arith, same)
    by later false f = let less = later f in omega (arith, less)

pub number_below : (atoms : List GroundName) (n : GroundName) (k : ℕ) → number_of atoms n ≡ Some k → k < length atoms
number_below atoms n k e = let low = number_within (same_name n) 0 k atoms e in omega (arith, low)

module _ (atoms : List GroundName) where
  lits_below : (ls : List (Lit Word)) (xs : List Literal) → AllZip (IsLit (number_of atoms)) ls xs → are_below (length atoms) xs ≡ true
  lits_below [] [] h = refl
  lits_below [] (x ∷ xs) h = absurd h
  lits_below (l ∷ ls) [] h = absurd h
  lits_below (l ∷ ls) (x ∷ xs) h = and_from _ (are_below (length atoms) xs) (lt-ltb x.atom.0 (length atoms) (number_below atoms _ x.atom.0 h.0.atom)) (lits_below ls xs h.1)

  tag_below : (ls : List (Lit Word)) (tag : List Literal) → IsTag (number_of atoms) ls tag → are_below (length atoms) tag ≡ true
  tag_below ls tag h = subst (λ t. are_below (length atoms) t ≡ true) (sym h.set) (all-set_of _ h.lits ∙ lits_below ls h.lits h.are)

  tags_below : (lss : List (List (Lit Word))) (tags : List (List Literal)) → AllZip (IsTag (number_of atoms)) lss tags → list_all (are_below (length atoms)) tags ≡ true
  tags_below [] [] h = refl
  tags_below [] (t ∷ tags) h = absurd h
  tags_below (ls ∷ lss) [] h = absurd h
  tags_below (ls ∷ lss) (t ∷ tags) h = and_from (are_below (length atoms) t) (list_all (are_below (length atoms)) tags) (tag_below ls t h.0) (tags_below lss tags h.1)

  merges_below : (tree : List MergeTree) (ms : List FileMerge) → AllZip (IsMerge (number_of atoms)) tree ms → list_all (has_tags_of_atoms (length atoms)) ms ≡ true
  merges_below [] [] h = refl
  merges_below [] (m ∷ ms) h = absurd h
  merges_below (t ∷ tree) [] h = absurd h
  merges_below (t ∷ tree) (m ∷ ms) h = and_from (has_tags_of_atoms (length atoms) m) (list_all (has_tags_of_atoms (length atoms)) ms) (tags_below t.1 m.tags h.0.tags) (merges_below tree ms h.1)

  targets_below : (tree : List MergeTree) (ms : List FileMerge) → AllZip (IsMerge (number_of atoms)) tree ms → AllByRecursion (λ m. IsOfAtom atoms m.target) ms
  targets_below [] [] h = tt
  targets_below [] (m ∷ ms) h = absurd h
  targets_below (t ∷ tree) [] h = absurd h
  targets_below (t ∷ tree) (m ∷ ms) h = (number_below atoms _ m.target.atom.0 h.0.target.atom, targets_below tree ms h.1)

  -- the tags of a file's merges are of the ground atoms
  pub tags_of_atoms : (text : List ℕ) (ms : List FileMerge) → IsMergesOf atoms text ms → list_all (has_tags_of_atoms (length atoms)) ms ≡ true
  tags_of_atoms text ms h = merges_below h.tree ms h.are

  -- and so are their targets
  pub targets_of_atoms : (text : List ℕ) (ms : List FileMerge) → IsMergesOf atoms text ms → AllByRecursion (λ m. IsOfAtom atoms m.target) ms
  targets_of_atoms text ms h = targets_below h.tree ms h.are
