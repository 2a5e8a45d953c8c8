-- The two files of a task.
use Rattle.std.specs.Prelude.{ℕ, List, [], ◌∷◌, Bool, true, false, codes}
use Rattle.kp_law_texts.specs.Pieces.{Piece, spelling, Put, ◌⨾◌, each, opens, closes, space, line_feed, name, key, spaced}
use Rattle.kp_write.specs.Operators.{Signed, Effect, Op}

-- (NAME)
abbrev pub fact : List ℕ → Put
fact n = opens ⨾ name n ⨾ closes

-- (NAME) on a line of its own
abbrev pub fact_line : List ℕ → Put
fact_line n = fact n ⨾ line_feed

-- (NAME), or (not (NAME))
abbrev pub signed_case : Bool → List ℕ → Put
signed_case true n = fact n
signed_case false n = opens ⨾ name (codes "not") ⨾ space ⨾ fact n ⨾ closes

-- a fact, or its negation
abbrev pub signed : Signed → Put
signed s = signed_case s.holds s.fact

-- (and X Y)
abbrev pub conjunction : {T : Type 0} → (T → Put) → List T → Put
conjunction f xs = opens ⨾ name (codes "and") ⨾ each (spaced f) xs ⨾ closes

-- (when (and C C) R)
abbrev pub when_put : List Signed → Signed → Put
when_put cs result = opens ⨾ name (codes "when") ⨾ space ⨾ conjunction signed cs ⨾ space ⨾ signed result ⨾ closes

-- R, under a `when` where there are conditions
abbrev pub guarded : List Signed → Signed → Put
guarded [] result = signed result
guarded (c ∷ cs) result = when_put (c ∷ cs) result

-- an effect on a line of its own
abbrev pub effect_line : Effect → Put
effect_line e = guarded e.conds e.result ⨾ line_feed

-- nothing where it is empty
abbrev pub precondition : List (List ℕ) → Put
precondition [] rest = rest
precondition (n ∷ ns) rest = (key (codes ":precondition") ⨾ space ⨾ conjunction fact (n ∷ ns) ⨾ line_feed) rest

-- an operator as far as its effects, as an action without parameters
abbrev pub op_front : List ℕ → List (List ℕ) → Put
op_front word pre =
    opens ⨾ key (codes ":action") ⨾ space ⨾ name word ⨾ line_feed
    ⨾ key (codes ":parameters") ⨾ space ⨾ opens ⨾ closes ⨾ line_feed
    ⨾ precondition pre
    ⨾ key (codes ":effect") ⨾ space ⨾ opens ⨾ name (codes "and") ⨾ line_feed

-- what stands behind its effects
abbrev pub op_end : Put
op_end = closes ⨾ line_feed ⨾ closes ⨾ line_feed

-- an operator
unfoldable pub op : Op → Put
op o = op_front o.name o.pre ⨾ each effect_line o.effects ⨾ op_end

-- (define (WHAT kplan)
abbrev pub heading : List ℕ → Put
heading what = opens ⨾ name (codes "define") ⨾ space ⨾ opens ⨾ name what ⨾ space ⨾ name (codes "kplan") ⨾ closes ⨾ line_feed

-- the domain file as far as its operators, from the names of the facts
abbrev pub domain_front : List (List ℕ) → Put
domain_front facts =
    heading (codes "domain")
    ⨾ opens ⨾ key (codes ":requirements") ⨾ space ⨾ key (codes ":strips") ⨾ space ⨾ key (codes ":negative-preconditions") ⨾ space ⨾ key (codes ":conditional-effects") ⨾ closes ⨾ line_feed
    ⨾ opens ⨾ key (codes ":predicates") ⨾ line_feed
    ⨾ each fact_line facts
    ⨾ closes ⨾ line_feed

-- what stands behind the operators
abbrev pub domain_end : Put
domain_end = closes ⨾ line_feed

-- the domain file, from the names of the facts and the operators
unfoldable pub domain_pieces : List (List ℕ) → List Op → List Piece
domain_pieces facts ops = (domain_front facts ⨾ each op ops ⨾ domain_end) []

-- the problem file, from the facts at the start and those of the goal
unfoldable pub problem_pieces : List (List ℕ) → List (List ℕ) → List Piece
problem_pieces init goal =
    (heading (codes "problem")
    ⨾ opens ⨾ key (codes ":domain") ⨾ space ⨾ name (codes "kplan") ⨾ closes ⨾ line_feed
    ⨾ opens ⨾ key (codes ":init") ⨾ line_feed
    ⨾ each fact_line init
    ⨾ closes ⨾ line_feed
    ⨾ opens ⨾ key (codes ":goal") ⨾ space ⨾ opens ⨾ name (codes "and") ⨾ line_feed
    ⨾ each fact_line goal
    ⨾ closes ⨾ closes ⨾ line_feed
    ⨾ closes ⨾ line_feed) []

-- the bytes of the domain file
abbrev pub domain_text : List (List ℕ) → List Op → List ℕ
domain_text facts ops = spelling (domain_pieces facts ops)

-- the bytes of the problem file
abbrev pub problem_text : List (List ℕ) → List (List ℕ) → List ℕ
problem_text init goal = spelling (problem_pieces init goal)
