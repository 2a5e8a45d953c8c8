-- A command has an outcome on the contents of its files, and so have words, where the files of their command are held.
use Rattle.std.proofs.Common.{◌≡◌, ℕ, List, [], ◌∷◌, Option, Some, map, inl, inr, length, codes, arith}
use Rattle.std.proofs.lemmas.Bool.{false≢true}
use Rattle.std.specs.FinMap.{get}
use Rattle.kp_words.specs.Forms.{form}
use Rattle.kp_words.specs.Command.{file_among, if_named}
use Rattle.kp_words.proofs.Public.{words_decided}
use Rattle.kp_run.specs.Outcomes.{shows_usage, usage, of_command}
use Rattle.kp_law_runs.specs.Laws.{CommandsHaveAnOutcome, HasSomeOutcome}
use Rattle.kp_law_runs.proofs.ByVerb.{some_by}

pub some_outcome : CommandsHaveAnOutcome
some_outcome c t many = some_by c.verb c t many

-- contents of names are as many as these
pub as_many : (X Y Z : Type 0) (f : X → Z) (g : Y → Z) (xs : List X) (ys : List Y) → map f xs ≡ map g ys → length ys ≡ length xs
as_many X Y Z f g [] [] e = omega arith
as_many X Y Z f g [] (y ∷ ys) e = absurd cc
as_many X Y Z f g (x ∷ xs) [] e = absurd cc
as_many X Y Z f g (x ∷ xs) (y ∷ ys) e = let rest : map f xs ≡ map g ys = cc in let same = as_many X Y Z f g xs ys rest in omega (arith, same)

pub some_due : HasSomeOutcome
some_due words m held = elim (words_decided words) [
  | inr never ↦ (shows_usage, usage never)
  | inl c ↦
      let its = held c.0 c.1 in
      let some = some_outcome c.0 its.0 (as_many (List ℕ) (List ℕ) (Option (List ℕ)) (get m) Some (if_named (file_among (form c.0.verb).reads c.0 (codes "merges"))) its.0.merges its.1.merges) in
      (some.0, of_command c.0 its.0 some.0 c.1 its.1 some.1)
]
