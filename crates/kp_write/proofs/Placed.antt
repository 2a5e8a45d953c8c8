-- The trees of a task with each word at the first byte. Whatever the places of the texts' trees, they mean the same as these.
use Rattle.std.proofs.Common.{◌≡◌, ℕ, zero, Bool, true, false, List, refl, sym, ap, ◌∙◌}
use Rattle.std.proofs.lemmas.Bool.{false≢true}
use Rattle.kp_tree_grammar.specs.declared.tree.Word.{Word}
use Rattle.kp_tree_grammar.specs.Trees.{Domain, Problem}
use Rattle.kp_tree_grammar.specs.TreeMaps.{domain_map, problem_map}
use Rattle.kp_names_semantics.specs.Names.{Name, same}
use Rattle.kp_base.proofs.Lists.{same-true, same-refl}
use Rattle.kp_write.specs.Operators.{Op}
use Rattle.kp_law_texts.specs.Tokens.{text_of}
use Rattle.kp_write.specs.Trees.{written_domain, written_problem}
use Rattle.kp_write.proofs.Composed.{domain_twice, problem_twice}

-- the word at the first byte
abbrev pub at_start : List ℕ → Word
at_start n = record { text = n; byte = zero }

abbrev pub placed_domain : List (List ℕ) → List Op → Domain Word
placed_domain facts ops = domain_map at_start (written_domain facts ops)

abbrev pub placed_problem : List (List ℕ) → List (List ℕ) → Problem Word
placed_problem start goal = problem_map at_start (written_problem start goal)

-- a word, moved to the first byte
abbrev pub moved : Word → Word
moved w = at_start (text_of w)

pub domain_moved : (d : Domain Word) (bare : Domain (List ℕ)) → domain_map text_of d ≡ bare → domain_map at_start bare ≡ domain_map moved d
domain_moved d bare e = ap (domain_map at_start) (sym e) ∙ domain_twice text_of at_start d

pub problem_moved : (p : Problem Word) (bare : Problem (List ℕ)) → problem_map text_of p ≡ bare → problem_map at_start bare ≡ problem_map moved p
problem_moved p bare e = ap (problem_map at_start) (sym e) ∙ problem_twice text_of at_start p

-- ---- whether two names are one, asked the other way round

pub same_no : (x y : Name) → same x y ≡ false → same y x ≡ false
same_no x y e = go (same y x) refl where
  go : (b : Bool) → same y x ≡ b → same y x ≡ false
  go false h = h
  go true h = absurd (false≢true (sym e ∙ ap (same x) (same-true y x h) ∙ same-refl x))

pub same_swap : (x y : Name) → same x y ≡ same y x
same_swap x y = go (same x y) refl where
  go : (b : Bool) → same x y ≡ b → same x y ≡ same y x
  go false e = e ∙ sym (same_no x y e)
  go true e = rw (same-true x y e) refl
