-- The last printed line is `complete` just where no target is uncovered.
use Rattle.std.proofs.Common.{◌≡◌, ◌++◌, ◌∙◌, ℕ, List, [], ◌∷◌, codes, decimal, length, refl, sym, ap, append_assoc, arith}
use Rattle.kp_base.specs.declared.ground.GroundName.{GroundName}
use Rattle.kp_base.specs.declared.ground.Ground.{Ground}
use Rattle.kp_base.specs.declared.ground.TagTable.{TagTable}
use Rattle.kp_base.specs.declared.lit.Lit.{Lit}
use Rattle.kp_law_ktask.specs.Task.{task_of}
use Rattle.kp_plans_spelling.specs.Spelling.{literal_text, number_line, IsBracketed}
use Rattle.kp_plans_spelling.proofs.Public.{literals_are_bracketed}
use Rattle.kp_run_messages.specs.Coverage.{uncovered_lines, coverage_text}
use Rattle.kp_ktask_texts.specs.Report.{counts_of}
use Rattle.kp_run.specs.Completeness.{PrintsComplete}

-- ---- how a text ends

-- the text ends with a line feed behind something that isn't the letter e
record EndsOtherwise (text : List ℕ) : Type 0 where
  front : List ℕ
  before : ℕ
  is : text ≡ front ++ before ∷ 10 ∷ []
  no_e : before ≡ 101 → ⊥

behind : (front text : List ℕ) → EndsOtherwise text → EndsOtherwise (front ++ text)
behind front text h = record { front = front ++ h.front; before = h.before; is = ap (front ++◌) h.is ∙ sym (append_assoc front h.front (h.before ∷ 10 ∷ [])); no_e = h.no_e }

-- the last but one of a list is one
last_but_one : (xs ys : List ℕ) (a b c d : ℕ) → xs ++ a ∷ b ∷ [] ≡ ys ++ c ∷ d ∷ [] → a ≡ c
last_but_one [] [] a b c d e = cc
last_but_one [] (y ∷ []) a b c d e = absurd cc
last_but_one [] (y ∷ z ∷ []) a b c d e = absurd cc
last_but_one [] (y ∷ z ∷ w ∷ ys) a b c d e = absurd cc
last_but_one (x ∷ []) [] a b c d e = absurd cc
last_but_one (x ∷ z ∷ []) [] a b c d e = absurd cc
last_but_one (x ∷ z ∷ w ∷ xs) [] a b c d e = absurd cc
last_but_one (x ∷ xs) (y ∷ ys) a b c d e = let rest : xs ++ a ∷ b ∷ [] ≡ ys ++ c ∷ d ∷ [] = cc in last_but_one xs ys a b c d rest

not_complete : (text : List ℕ) → EndsOtherwise text → PrintsComplete text → ⊥
not_complete text h p = h.no_e (last_but_one h.front (p.front ++ codes "\ncomplet") h.before 10 101 10 (sym h.is ∙ (p.are ∙ sym (append_assoc p.front (codes "\ncomplet") (codes "e\n")))))

-- ---- lines of targets

-- behind a blank, a bracketed text and a line feed end otherwise
line_ends : (front text : List ℕ) → IsBracketed text → EndsOtherwise ((front ++ 32 ∷ []) ++ (text ++ (10 ∷ [] ++ [])))
line_ends front text h = behind (front ++ 32 ∷ []) (text ++ (10 ∷ [] ++ [])) (record { front = 40 ∷ h.inner; before = 41; is = ap (λ t. t ++ 10 ∷ []) h.is ∙ ap (40 ∷◌) (append_assoc h.inner (codes ")") (10 ∷ [])); no_e = λ f. omega (arith, f) })

-- the line of a target
target_ends : (atoms : List GroundName) (l : Lit) → EndsOtherwise (codes "uncovered " ++ (literal_text atoms l ++ (codes "\n" ++ [])))
target_ends atoms l = line_ends (codes "uncovered") (literal_text atoms l) (literals_are_bracketed atoms l)

lines_end : (atoms : List GroundName) (l : Lit) (ls : List Lit) → EndsOtherwise (uncovered_lines atoms (l ∷ ls))
lines_end atoms l [] = target_ends atoms l
lines_end atoms l (m ∷ ls) = behind (codes "uncovered ") _ (behind (literal_text atoms l) _ (behind (codes "\n") (uncovered_lines atoms (m ∷ ls)) (lines_end atoms m ls)))

-- behind whichever counts, `complete` is told where nothing is uncovered alone
pub none_uncovered : (counts : List ℕ) (atoms : List GroundName) (ls : List Lit) → PrintsComplete (counts ++ coverage_text atoms ls) → ls ≡ []
none_uncovered counts atoms [] p = refl
none_uncovered counts atoms (l ∷ ls) p = absurd (not_complete _ (behind counts _ (behind (codes "incomplete\n") (uncovered_lines atoms (l ∷ ls)) (lines_end atoms l ls))) p)

-- ---- counts

-- counts end with a line feed
record EndsLine (text : List ℕ) : Type 0 where
  front : List ℕ
  is : text ≡ front ++ codes "\n"

line_behind : (front text : List ℕ) → EndsLine text → EndsLine (front ++ text)
line_behind front text h = record { front = front ++ h.front; is = ap (front ++◌) h.is ∙ sym (append_assoc front h.front (codes "\n")) }

line_end : (title : List ℕ) (n : ℕ) → EndsLine (number_line title n)
line_end title n = line_behind title (decimal n ++ codes "\n") (record { front = decimal n; is = refl })

counts_end : (g : Ground) (table : TagTable) → EndsLine (counts_of g table)
counts_end g table =
    line_behind (number_line (codes "atoms ") (length g.atoms)) _
    (line_behind (number_line (codes "actions ") (length g.actions)) _
    (line_behind (number_line (codes "tags ") (length table.tags)) _
    (line_behind (number_line (codes "merges ") (length table.merges)) _
    (line_end (codes "facts ") (length (task_of g table).facts)))))

-- so it is told there
pub complete_told : (g : Ground) (table : TagTable) → PrintsComplete (counts_of g table ++ coverage_text g.atoms [])
complete_told g table = let h = counts_end g table in record { front = h.front; are = ap (λ x. x ++ codes "complete\n") h.is ∙ append_assoc h.front (codes "\n") (codes "complete\n") }
