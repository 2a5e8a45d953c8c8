-- Pieces of a task by number that are written one after the other.
use Rattle.std.proofs.Common.{◌≡◌, ℕ, ◌<◌, true, false, ◌&&◌, ◌==◌, List, [], ◌∷◌, ◌++◌, map, length, refl, sym, ap, ◌∙◌, append-nil, codes, arith}
use Rattle.kp_law_texts.specs.Pieces.{Piece, right, spelling, Put, each, ◌⨾◌, Puts, opens, space, line_feed, name, key, spaced}
use Rattle.kp_write.specs.Operators.{Signed, Op}
use Rattle.kp_write.specs.Written.{fact, fact_line, signed_case, signed, guarded, when_put, precondition, effect_line, op_front, op_end, op, domain_front, domain_end, domain_pieces, domain_text, problem_pieces, problem_text}
use Rattle.kp_law_texts.proofs.Public.{wrote_in_front, each-append}
use Rattle.kp_write.specs.Named.{fact_name, signed_fact}

pub when_puts : (a b c d e f g : List ℕ) (xs ys : List Signed) (r : Signed) → b ≡ a ++ codes "(when (and" → Puts b c (each (spaced signed) xs) → Puts c d (each (spaced signed) ys) → e ≡ d ++ codes ") " → Puts e f (signed r) → g ≡ f ++ codes ")" → Puts a g (when_put (xs ++ ys) r)
when_puts a b c d e f g xs ys r h p q i s k = record {
  puts = λ rest.
      let end : List Piece = signed r (right ∷ rest) in
      wrote_in_front f g (codes ")") (spelling rest) k ∙ s.puts (right ∷ rest) ∙ wrote_in_front d e (codes ") ") (spelling end) i ∙ q.puts (right ∷ space end) ∙ p.puts (each (spaced signed) ys (right ∷ space end))
      ∙ wrote_in_front a b (codes "(when (and") _ h
      ∙ ap (λ (ps : List Piece). a ++ (codes "(when (and" ++ spelling ps)) (sym (each-append (spaced signed) xs ys (right ∷ space end)));
}

-- with some condition an effect stands under a `when`
pub under_when : (a b : List ℕ) (facts : List (List ℕ)) (ys ns : List ℕ) (r : Signed) → false ≡ ((length ys == 0) && (length ns == 0)) → Puts a b (when_put (map (signed_fact facts true) ys ++ map (signed_fact facts false) ns) r)
    → Puts a b (guarded (map (signed_fact facts true) ys ++ map (signed_fact facts false) ns) r)
under_when a b facts [] [] r e p = absurd cc
under_when a b facts [] (n ∷ ns) r e p = p
under_when a b facts (y ∷ ys) ns r e p = p

all_hold : (facts : List (List ℕ)) (ns : List ℕ) (rest : List Piece) → each (spaced signed) (map (signed_fact facts true) ns) rest ≡ each (spaced fact) (map (fact_name facts) ns) rest
all_hold facts [] rest = refl
all_hold facts (n ∷ ns) rest = ap (spaced fact (fact_name facts n)) (all_hold facts ns rest)

pub precondition_puts : (a b c d : List ℕ) (facts : List (List ℕ)) (ns : List ℕ) → 0 < length ns → b ≡ a ++ codes ":precondition (and" → Puts b c (each (spaced signed) (map (signed_fact facts true) ns)) → d ≡ c ++ codes ")\n" → Puts a d (precondition (map (fact_name facts) ns))
precondition_puts a b c d facts [] some e p h = absurd (omega (arith, some))
precondition_puts a b c d facts (n ∷ ns) some e p h = record {
  puts = λ rest.
      wrote_in_front c d (codes ")\n") (spelling rest) h ∙ p.puts (right ∷ line_feed rest) ∙ wrote_in_front a b (codes ":precondition (and") _ e
      ∙ ap (λ (ps : List Piece). a ++ (codes ":precondition (and" ++ spelling ps)) (all_hold facts (n ∷ ns) (right ∷ line_feed rest));
}

pub front_puts : (a b c d e f : List ℕ) (word : List ℕ) (pre : List (List ℕ)) → b ≡ a ++ codes "(:action " → c ≡ b ++ word → d ≡ c ++ codes "\n:parameters ()\n" → Puts d e (precondition pre) → f ≡ e ++ codes ":effect (and\n" → Puts a f (op_front word pre)
front_puts a b c d e f word pre h1 h2 h3 h4 h5 = record {
  puts = λ rest.
      wrote_in_front e f (codes ":effect (and\n") (spelling rest) h5
      ∙ h4.puts ((key (codes ":effect") ⨾ space ⨾ opens ⨾ name (codes "and") ⨾ line_feed) rest) ∙ wrote_in_front c d (codes "\n:parameters ()\n") _ h3 ∙ wrote_in_front b c word _ h2 ∙ wrote_in_front a b (codes "(:action ") _ h1;
}

pub end_puts : (a b : List ℕ) → b ≡ a ++ codes ")\n)\n" → Puts a b op_end
end_puts a b e = record { puts = λ rest. wrote_in_front a b (codes ")\n)\n") (spelling rest) e }

pub op_puts : (a b c d : List ℕ) (o : Op) → Puts a b (op_front o.name o.pre) → Puts b c (each effect_line o.effects) → Puts c d op_end → Puts a d (op o)
unfolding op
op_puts a b c d o h1 h2 h3 = record { puts = λ rest. h3.puts rest ∙ h2.puts (op_end rest) ∙ h1.puts (each effect_line o.effects (op_end rest)) }

pub fact_puts : (a b c d word : List ℕ) → b ≡ a ++ codes "(" → c ≡ b ++ word → d ≡ c ++ codes ")" → Puts a d (fact word)
fact_puts a b c d word h i k = record { puts = λ rest. wrote_in_front c d (codes ")") (spelling rest) k ∙ wrote_in_front b c word _ i ∙ wrote_in_front a b (codes "(") _ h }

pub line_puts : (a b c : List ℕ) (f : Put) → Puts a b f → c ≡ b ++ codes "\n" → Puts a c (f ⨾ line_feed)
line_puts a b c f p e = record { puts = λ rest. wrote_in_front b c (codes "\n") (spelling rest) e ∙ p.puts (line_feed rest) }

pub denied_puts : (a b c d n : List ℕ) → b ≡ a ++ codes "(not " → Puts b c (fact n) → d ≡ c ++ codes ")" → Puts a d (signed_case false n)
denied_puts a b c d n e p h = record { puts = λ rest. wrote_in_front c d (codes ")") (spelling rest) h ∙ p.puts (right ∷ rest) ∙ wrote_in_front a b (codes "(not ") (spelling (fact n (right ∷ rest))) e }

pub domain_front_puts : (a b c d : List ℕ) (facts : List (List ℕ)) → b ≡ a ++ codes "(define (domain kplan)\n(:requirements :strips :negative-preconditions :conditional-effects)\n(:predicates\n" → Puts b c (each fact_line facts) → d ≡ c ++ codes ")\n" → Puts a d (domain_front facts)
domain_front_puts a b c d facts h1 h2 h3 = record {
  puts = λ rest.
      let after : List Piece = right ∷ line_feed rest in
      wrote_in_front c d (codes ")\n") (spelling rest) h3 ∙ h2.puts after
      ∙ wrote_in_front a b (codes "(define (domain kplan)\n(:requirements :strips :negative-preconditions :conditional-effects)\n(:predicates\n") (spelling (each fact_line facts after)) h1;
}

pub domain_end_puts : (a b : List ℕ) → b ≡ a ++ codes ")\n" → Puts a b domain_end
domain_end_puts a b e = record { puts = λ rest. wrote_in_front a b (codes ")\n") (spelling rest) e }

-- what was put from nothing on is the text
pub domain_is : (a b c d : List ℕ) (facts : List (List ℕ)) (ops : List Op) → a ≡ [] → Puts a b (domain_front facts) → Puts b c (each op ops) → Puts c d domain_end → d ≡ domain_text facts ops
unfolding domain_pieces
domain_is a b c d facts ops none h1 h2 h3 =
    let end : List Piece = domain_end [] in
    sym (append-nil d) ∙ h3.puts [] ∙ h2.puts end ∙ h1.puts (each op ops end) ∙ ap (λ (l : List ℕ). l ++ spelling (domain_front facts (each op ops end))) none

pub problem_is : (a b c d e : List ℕ) (init goal : List (List ℕ)) → a ≡ codes "(define (problem kplan)\n(:domain kplan)\n(:init\n" → Puts a b (each fact_line init) → c ≡ b ++ codes ")\n(:goal (and\n" → Puts c d (each fact_line goal) → e ≡ d ++ codes "))\n)\n" → e ≡ problem_text init goal
unfolding problem_pieces
problem_is a b c d e init goal h1 h2 h3 h4 h5 =
    let end : List Piece = right ∷ right ∷ line_feed (right ∷ line_feed []) in
    let goals : List Piece = each fact_line goal end in
    let after : List Piece = right ∷ line_feed ((opens ⨾ key (codes ":goal") ⨾ space ⨾ opens ⨾ name (codes "and") ⨾ line_feed) goals) in
    sym (append-nil e) ∙ wrote_in_front d e (codes "))\n)\n") [] h5 ∙ h4.puts end ∙ wrote_in_front b c (codes ")\n(:goal (and\n") (spelling goals) h3 ∙ h2.puts after
    ∙ ap (λ (l : List ℕ). l ++ spelling (each fact_line init after)) h1
